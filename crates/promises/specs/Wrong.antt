-- Registers that must not pass, each as a function from an area and a request to a step: document 01, 'How far each statement must reach'. Each looks at
-- what it is asked and does what the contracts say, but for its one fault.
use Rattle.std.specs.Prelude.{ℕ, ◌+◌, ◌-◌, ◌*◌, ◌≤◌, ◌≡◌, Bool, true, false, List, [], ◌∷◌, ◌++◌, map, length, get_or, replicate, take, drop, eqb, ltb, Ok, Err}
use Rattle.fields.specs.Choice.{pick, both}
use Rattle.fields.specs.Bytes.{splice}
use Rattle.measures.specs.Judgement.{count_of}
use Rattle.measures.specs.declared.Measures.{Measures}
use Rattle.room.specs.Room.{need}
use Rattle.interval.specs.Records.{key_of, lengths_fine}
use Rattle.interval.specs.Layout.{form}
use Rattle.interval.specs.Reading.{records_in}
use Rattle.interval.specs.Search.{lower}
use Rattle.index.specs.Search.{leads_to}
use Rattle.sections.specs.Form.{index_size}
use Rattle.area.specs.Content.{Filled, Content, entries_of, meaning_of, width_in}
use Rattle.area.specs.Reading.{Reading, damaged, whole, read_area}
use Rattle.area.specs.Leads.{interval_for}
use Rattle.area.specs.Example.{depot, first, second, bytes}
use Rattle.change.specs.Parts.{entry_at}
use Rattle.change.specs.Places.{nexts}
use Rattle.change.specs.Written.{carrying}
use Rattle.requests.specs.Model.{Change, insert, update, erase, make_change}
use Rattle.requests.specs.Answers.{Answer, number_of, values_of}
use Rattle.requests.specs.Opening.{Opening, shut, holding, opening_of}
use Rattle.requests.specs.Records.{with_key}
use Rattle.requests.specs.Reading.{Given, refused, hand_out, check_of, get_of, get_at_of}
use Rattle.requests.specs.Changing.{Outcome, kept, bytes_of, key_in, change_of}
use Rattle.requests.specs.declared.Done.TheVariants.{Changed, Found, Intact}
use Rattle.requests.specs.declared.Refusal.TheVariants.{Outside, Damaged, WrongLength, Present, Absent, NoInterval, NoRoom, Short, NoRecord}
use Rattle.requests.specs.Allowed.{Request, check, get, get_at, changes}
use Rattle.promises.specs.Trace.{Step, Trace}
use Rattle.promises.specs.Changes.{told_written}
use Rattle.promises.specs.Instances.{alone, laid, all_key, certificate, certificates}

-- ---- registers

-- A register, as a depot meets it: what comes back for an area and a request.
abbrev pub Register : Type 0
Register = List ℕ → Request → Step

-- what it does when it is asked one request after another
abbrev pub run : Register → List ℕ → List Request → List Step
run reg area [] = []
run reg area (q ∷ qs) = reg area q ∷ run reg (reg area q).area qs

-- asked these one after another of an area, it does not keep its contracts at every step
abbrev pub Breaks : Measures → List ℕ → Register → List Request → Type 0
Breaks m area reg qs = Trace m area (run reg area qs) → ⊥

-- a change that came to something; it is lent no output
abbrev pub changed_to : Change → Outcome → Step
changed_to ch o = record { request = changes ch; answer = o.answer; area = o.area; output = [] }

-- the register that does what the contracts say
abbrev pub rightly : Measures → Register
rightly m area check = record { request = check; answer = check_of m area; area = area; output = [] }
rightly m area (get wanted out) =
    let given : Given = get_of m area wanted out in
    record { request = get wanted out; answer = given.answer; area = area; output = given.output }
rightly m area (get_at address out) =
    let given : Given = get_at_of m area address out in
    record { request = get_at address out; answer = given.answer; area = area; output = given.output }
rightly m area (changes ch) = changed_to ch (change_of m area ch)

-- a fault in changing: what becomes of the right outcome
abbrev pub Fault : Type 0
Fault = List ℕ → Change → Outcome → Outcome

-- the register that has it, and reads rightly
abbrev pub changing_by : Fault → Measures → Register
changing_by f m area check = rightly m area check
changing_by f m area (get wanted out) = rightly m area (get wanted out)
changing_by f m area (get_at address out) = rightly m area (get_at address out)
changing_by f m area (changes ch) = changed_to ch (f area ch (change_of m area ch))

-- a fault in a get by key: what becomes of what is rightly given, for an area, a key and an output
abbrev pub GetFault : Type 0
GetFault = List ℕ → List ℕ → List ℕ → Given → Given

-- the register that has it, and does all else rightly
abbrev pub getting_by : GetFault → Register
getting_by f area check = rightly depot area check
getting_by f area (get wanted out) =
    let given : Given = f area wanted out (get_of depot area wanted out) in
    record { request = get wanted out; answer = given.answer; area = area; output = given.output }
getting_by f area (get_at address out) = rightly depot area (get_at address out)
getting_by f area (changes ch) = rightly depot area (changes ch)

-- how many intervals an answer says were written: none where it is a refusal, one where the change stays in its interval, more where it divides
abbrev pub written_by : Answer → ℕ
written_by (Ok (Changed w)) = w.count
written_by (Ok (Found l)) = 0
written_by (Ok (Intact records free)) = 0
written_by (Err Outside) = 0
written_by (Err (Damaged place)) = 0
written_by (Err WrongLength) = 0
written_by (Err Present) = 0
written_by (Err Absent) = 0
written_by (Err NoInterval) = 0
written_by (Err NoRoom) = 0
written_by (Err (Short needed)) = 0
written_by (Err NoRecord) = 0

-- the fault shows where a change is made, where it stays in its interval, where it divides; elsewhere the outcome is right
abbrev if_made : Outcome → Outcome → Outcome
if_made o wrong = pick (ltb 0 (written_by o.answer)) wrong o

abbrev if_stays : Outcome → Outcome → Outcome
if_stays o wrong = pick (eqb (written_by o.answer) 1) wrong o

abbrev if_divides : Outcome → Outcome → Outcome
if_divides o wrong = pick (ltb 1 (written_by o.answer)) wrong o

-- ---- refusals

-- the output that a request lends
abbrev pub lent_by : Request → List ℕ
lent_by check = []
lent_by (get wanted out) = out
lent_by (get_at address out) = out
lent_by (changes ch) = []

-- the bytes that a change hands over
abbrev pub handed_by : Request → List ℕ
handed_by check = []
handed_by (get wanted out) = []
handed_by (get_at address out) = []
handed_by (changes ch) = bytes_of ch

-- one answer to everything, and no byte touched
abbrev pub saying : Answer → Register
saying a area q = record { request = q; answer = a; area = area; output = lent_by q }

-- refuses everything: no certificate is ever there
abbrev pub refuses_all : Register
refuses_all = saying (Err Absent)

-- calls everything damaged
abbrev pub calls_damaged : Register
calls_damaged = saying (Err (Damaged 0))

-- says that the register is full, whatever is free
abbrev pub always_full : Register
always_full = changing_by (λ (area : List ℕ) (ch : Change) (o : Outcome). kept (Err NoInterval) area) depot

-- version three: an interval must be divided, enough are free, and it says that none is
abbrev pub full_too_soon : Register
full_too_soon = changing_by (λ (area : List ℕ) (ch : Change) (o : Outcome). if_divides o (kept (Err NoInterval) area)) depot

-- looks for room in the index record where nothing of it is renewed
abbrev pub cramped_at_home : Register
cramped_at_home = changing_by (λ (area : List ℕ) (ch : Change) (o : Outcome). if_stays o (kept (Err NoRoom) area)) depot

-- whether an area's index record fills its interval to the last byte before the control fields
abbrev filled : Reading → Bool
filled (damaged place) = false
filled (whole c) = eqb (index_size (width_in c) (meaning_of c)) (512 - 7)

abbrev pub fills_index : List ℕ → Bool
fills_index area = filled (read_area all_key (count_of 512 (length area)) area)

-- finds no room where the renewed index record just fits
abbrev pub cramped_at_brim : Register
cramped_at_brim =
    changing_by (λ (area : List ℕ) (ch : Change) (o : Outcome). pick (fills_index o.area) (if_divides o (kept (Err NoRoom) area)) o) all_key

-- ---- counts and gets

-- invents how many records and free intervals there are
abbrev pub invents_counts : Register
invents_counts area check = record { request = check; answer = Ok (Intact 7 7); area = area; output = [] }
invents_counts area (get wanted out) = rightly depot area (get wanted out)
invents_counts area (get_at address out) = rightly depot area (get_at address out)
invents_counts area (changes ch) = rightly depot area (changes ch)

-- invents how many intervals a change wrote
abbrev pub invents_written : Register
invents_written =
    changing_by
    (λ (area : List ℕ) (ch : Change) (o : Outcome). if_made o (record { answer = Ok (Changed (record { count = 7; first = 0; second = 1; third = 2; fourth = 3 })); area = o.area })) depot

-- tells as many intervals as a change wrote, but each by the number of the one behind it
abbrev pub misnames_written : Register
misnames_written =
    changing_by (λ (area : List ℕ) (ch : Change) (o : Outcome). if_made o (record { answer = Ok (Changed (carrying (nexts (told_written o.answer)))); area = o.area })) depot

-- leaves out the index record where a change wrote it
abbrev pub forgets_index : Register
forgets_index =
    changing_by (λ (area : List ℕ) (ch : Change) (o : Outcome). if_divides o (record { answer = Ok (Changed (carrying (drop 1 (told_written o.answer)))); area = o.area })) depot

-- hands out the same certificate to whoever asks for one that is there
abbrev pub same_record : Register
same_record =
    getting_by
    (λ (area wanted out : List ℕ) (right : Given).
    pick (eqb (number_of right.answer) 0)
    (record { answer = Ok (Found (length first)); output = first ++ drop (length first) out }) right)

-- ---- gets that judge more than they read, or less: document 02, L4

-- A0000003OU
abbrev pub third : List ℕ
third = 0x41 ∷ 0x30 ∷ 0x30 ∷ 0x30 ∷ 0x30 ∷ 0x30 ∷ 0x30 ∷ 0x33 ∷ 0x4F ∷ 0x55 ∷ []

-- the small area with every byte of its free interval made 0: damage to which no key leads
abbrev pub scratched : List ℕ
scratched = splice bytes 1024 (replicate 512 0)

-- what a get comes to that reads the whole area first, as gets did before: damage wherever it lies refuses it
abbrev vouched : Opening → List ℕ → Given → Given
vouched (shut r) out right = refused (Err r) out
vouched (holding m c) out right = right

-- vouches for the whole area in every get
abbrev pub vouches_for_all : Register
vouches_for_all = getting_by (λ (area wanted out : List ℕ) (right : Given). vouched (opening_of depot area) out right)

-- Two intervals in use: the first entry's separator is the first certificate's key, but in its interval lies also the second certificate, whose key is above
-- that bound. The third lies in the other interval.
abbrev pub strayed : Content
strayed =
    record {
      kept = replicate 12 0;
      spare = 0;
      free = [];
      filled = record { sep = key_of depot first; num = 0; records = first ∷ second ∷ [] } ∷ record { sep = []; num = 1; records = third ∷ [] } ∷ [];
    }

abbrev pub beyond_bound : List ℕ
beyond_bound = laid strayed ((first ∷ second ∷ []) ∷ (third ∷ []) ∷ [])

-- the records of the interval that a key leads to
abbrev records_for : List ℕ → List ℕ → List (List ℕ)
records_for area wanted = records_in (interval_for depot (count_of 512 (length area)) area wanted)

-- Where the interval that the key leads to is damaged, it hands out what it finds there all the same.
abbrev pub looks_away : Register
looks_away =
    getting_by
    (λ (area wanted out : List ℕ) (right : Given).
    pick (both (eqb (number_of right.answer) 2) (ltb 0 (get_or (values_of right.answer) 0 0)))
    (hand_out (Err Absent) (with_key depot wanted (records_for area wanted)) out) right)

-- ---- gets that judge rightly and give wrongly, where damage lies elsewhere

-- Two intervals in use, all certificates of one length; every byte of the second is made 0, so that half are lost.
abbrev pub paired : Content
paired =
    record {
      kept = replicate 12 0;
      spare = 0;
      free = [];
      filled =
          record { sep = key_of depot (certificate 0x32 60); num = 0; records = certificates 2 0x31 60 }
          ∷ record { sep = []; num = 1; records = certificates 2 0x33 60 }
          ∷ [];
    }

abbrev pub half_lost : List ℕ
half_lost = splice (laid paired (certificates 2 0x31 60 ∷ certificates 2 0x33 60 ∷ [])) 1024 (replicate 512 0)

-- one that is not lost, the second of its interval, and the get of it into as many bytes of 0
abbrev pub sought : List ℕ
sought = certificate 0x32 60

abbrev pub seeking : Request
seeking = get (key_of depot sought) (replicate 60 0)

-- tells number and length rightly, and leaves the output as it was
abbrev pub leaves_output : Register
leaves_output = getting_by (λ (area wanted out : List ℕ) (right : Given). record { answer = right.answer; output = out })

-- hands out the record before the one with the key, where there is one
abbrev pub record_before : Register
record_before =
    getting_by
    (λ (area wanted out : List ℕ) (right : Given).
    let rs : List (List ℕ) = records_for area wanted in
    pick (eqb (number_of right.answer) 0) (hand_out (Err Absent) (drop (lower depot wanted rs - 1) rs) out) right)

-- ---- changes

-- the small area with the third certificate in its interval
abbrev pub together : List ℕ
together = laid (alone (1 ∷ []) (first ∷ second ∷ third ∷ [])) ((first ∷ second ∷ third ∷ []) ∷ [] ∷ [])

-- says that it is done, and has done nothing
abbrev pub untouched_done : Register
untouched_done = changing_by (λ (area : List ℕ) (ch : Change) (o : Outcome). kept o.answer area) depot

-- takes certificates in as it should, but a revoked one it keeps, and says that it is done
abbrev pub keeps_revoked : Register
keeps_revoked = changing_by keeping depot
  where
    keeping : Fault
    keeping area (insert r) o = o
    keeping area (update r) o = o
    keeping area (erase wanted) o = kept o.answer area

-- says that it is done, and leaves the same bytes whatever was asked, be they damaged or sound
abbrev pub constant_bytes : List ℕ → Register
constant_bytes b = changing_by (λ (area : List ℕ) (ch : Change) (o : Outcome). if_made o (record { answer = o.answer; area = b })) depot

-- the key's interval with its changed records written over it, but the last
abbrev pub last_lost : Opening → Change → List ℕ → List ℕ
last_lost (shut a) ch area = area
last_lost (holding m c) ch area =
    let old : Filled = entry_at c.filled (leads_to (key_in m ch) (entries_of c.filled)) in
    let rs : List (List ℕ) = make_change m ch old.records in
    splice area ((old.num + 1) * m.size) (form m.size (take (length rs - 1) rs))

-- version two: where a changed record leaves its interval's records too long for it, the last of them is lost
abbrev pub loses_last : Register
loses_last =
    changing_by
    (λ (area : List ℕ) (ch : Change) (o : Outcome). if_divides o (record { answer = Ok (Changed (carrying (1 ∷ []))); area = last_lost (opening_of depot area) ch area }))
    depot

-- ---- writers

-- a writer of intervals whose bytes are read as the records that it was given, wherever these fit
abbrev pub ReadsBack : (List (List ℕ) → List ℕ) → Type 0
ReadsBack writer =
    (rs : List (List ℕ)) → lengths_fine depot rs ≡ true → need (map length rs) ≤ 512 → records_in (writer rs) ≡ rs
