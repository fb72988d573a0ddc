-- The requests that read, what each answers and what the output holds afterwards: document 01, 'What each number tells the depot'. The area is not lent
-- for change.
use Rattle.std.specs.Prelude.{ℕ, ◌+◌, ◌≡◌, List, [], ◌∷◌, length, eqb, leb, Option, Some, None, Ok, Err}
use Rattle.fields.specs.Choice.{pick}
use Rattle.fields.specs.Bytes.{splice}
use Rattle.measures.specs.Judgement.{judged_of}
use Rattle.measures.specs.declared.Measures.{Measures}
use Rattle.measures.specs.declared.Judged.{Judged}
use Rattle.interval.specs.Reading.{records_in}
use Rattle.index.specs.Meaning.{Entry}
use Rattle.index.specs.Search.{entry_for}
use Rattle.area.specs.Content.{Content, records_of, base_of}
use Rattle.area.specs.Leads.{index_sound, entries_for, interval_for, sound_for}
use Rattle.requests.specs.Records.{with_key, lying_at}
use Rattle.requests.specs.Opening.{Opening, shut, holding, opening_of}
use Rattle.requests.specs.Answers.{Answer}
use Rattle.requests.specs.declared.Done.TheVariants.{Found, Intact}
use Rattle.requests.specs.declared.Refusal.TheVariants.{Outside, Damaged, WrongLength, Absent, Short, NoRecord}

-- ---- check: 1, 2

-- how many records, and how many free intervals
abbrev pub check_opened : Opening → Answer
check_opened (shut r) = Err r
check_opened (holding m c) = (Ok (Intact (length (records_of c.filled)) (length c.free)))

unfoldable pub check_of : Measures → List ℕ → Answer
check_of m area = check_opened (opening_of m area)

-- ---- the gets: an answer, and the output with the record at its front

pub record Given : Type 0 where
  pub answer : Answer
  pub output : List ℕ

-- a refusal leaves the output
abbrev pub refused : Answer → List ℕ → Given
refused a out = record { answer = a; output = out }

-- the record found, or what it needs where the output is too short
abbrev pub hand_out : Answer → List (List ℕ) → List ℕ → Given
hand_out none [] out = refused none out
hand_out none (r ∷ rs) out =
    pick (leb (length r) (length out)) (record { answer = (Ok (Found (length r))); output = splice out 0 r }) (refused (Err (Short (length r))) out)

-- ---- get by key: 1, 2 at the index record, 3, 2 at the interval that the key leads to, 5, 8. Document 02, L4: nothing else is judged.

-- 2 at the key's interval, then 5 and 8 by its records
unfoldable pub get_there : Measures → List Entry → List ℕ → List ℕ → List ℕ → Given
get_there m es wanted ci out =
    pick (sound_for m es wanted ci) (hand_out (Err Absent) (with_key m wanted (records_in ci)) out) (refused (Err (Damaged ((entry_for wanted es).num + 1))) out)

-- 2 at the index record, then 3, then the key's interval
unfoldable pub get_in : Measures → ℕ → List ℕ → List ℕ → List ℕ → Given
get_in m n area wanted out =
    pick (index_sound m n area)
    (pick (eqb (length wanted) m.key) (get_there m (entries_for m n area) wanted (interval_for m n area wanted) out) (refused (Err WrongLength) out))
    (refused (Err (Damaged 0)) out)

abbrev pub get_judged : Option Judged → List ℕ → List ℕ → List ℕ → Given
get_judged None area wanted out = refused (Err Outside) out
get_judged (Some j) area wanted out = get_in j.measures j.count area wanted out

-- 1 before all of them
unfoldable pub get_of : Measures → List ℕ → List ℕ → List ℕ → Given
get_of m area wanted out = get_judged (judged_of m (length area)) area wanted out

-- what that comes to on a sound area (proofs/Quick.antt, get-same): 3, 5 and 8 by all its records
abbrev pub get_whole : Measures → Content → List ℕ → List ℕ → Given
get_whole m c wanted out = pick (eqb (length wanted) m.key) (hand_out (Err Absent) (with_key m wanted (records_of c.filled)) out) (refused (Err WrongLength) out)

-- ---- get by address: 1, 2, 9, 8

abbrev pub get_at_in : Measures → Content → ℕ → List ℕ → Given
get_at_in m c address out = hand_out (Err NoRecord) (lying_at m (base_of c) address c.filled) out

abbrev pub get_at_opened : Opening → ℕ → List ℕ → Given
get_at_opened (shut r) address out = refused (Err r) out
get_at_opened (holding m c) address out = get_at_in m c address out

unfoldable pub get_at_of : Measures → List ℕ → ℕ → List ℕ → Given
get_at_of m area address out = get_at_opened (opening_of m area) address out

-- the contract of a get: the answer, and the output at exit
pub record Gives (given : Given) (answer : Answer) (output : List ℕ) : Type 0 where
  pub answers : answer ≡ given.answer
  pub outputs : output ≡ given.output
