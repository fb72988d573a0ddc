-- The requests that change, what each answers and the area afterwards: document 01, 'What each number tells the depot'. A refusal leaves every byte of it.
use Rattle.std.specs.Prelude.{ℕ, ◌≡◌, Bool, List, [], ◌∷◌, length, eqb, Ok, Err}
use Rattle.fields.specs.Choice.{pick}
use Rattle.measures.specs.declared.Measures.{Measures}
use Rattle.interval.specs.Records.{key_of, within}
use Rattle.interval.specs.Search.{lower}
use Rattle.index.specs.Search.{leads_to}
use Rattle.area.specs.Content.{Content, records_of, entries_of}
use Rattle.change.specs.Stores.{stored}
use Rattle.change.specs.Written.{written_of}
use Rattle.change.specs.Parts.{Edit, entry_at}
use Rattle.change.specs.Plan.{Plan, no_interval, no_room, stores, plan_of}
use Rattle.requests.specs.Records.{with_key}
use Rattle.requests.specs.Model.{Change, insert, update, erase}
use Rattle.requests.specs.Opening.{Opening, shut, holding, opening_of}
use Rattle.requests.specs.Answers.{Answer}
use Rattle.requests.specs.declared.Done.TheVariants.{Changed}
use Rattle.requests.specs.declared.Refusal.TheVariants.{WrongLength, Present, Absent, NoInterval, NoRoom}

-- an answer, and the area
pub record Outcome : Type 0 where
  pub answer : Answer
  pub area : List ℕ

abbrev pub kept : Answer → List ℕ → Outcome
kept a area = record { answer = a; area = area }

-- ---- what a change asks for

-- the bytes that it hands over
abbrev pub bytes_of : Change → List ℕ
bytes_of (insert r) = r
bytes_of (update r) = r
bytes_of (erase wanted) = wanted

-- the key of the record that it is about: an update finds the record by the key in the new one
abbrev pub key_in : Measures → Change → List ℕ
key_in m (insert r) = key_of m r
key_in m (update r) = key_of m r
key_in m (erase wanted) = wanted

-- whether a record has a length that the measures allow, or a key that of a key
abbrev pub length_fine : Measures → Change → Bool
length_fine m (insert r) = within m.least m.most (length r)
length_fine m (update r) = within m.least m.most (length r)
length_fine m (erase wanted) = eqb (length wanted) m.key

-- the change of the entry that a key leads to, at the key's place among its records
abbrev pub edit_for : Measures → Content → List ℕ → ℕ → List (List ℕ) → Edit
edit_for m c key gone fresh =
    record {
      entry = leads_to key (entries_of c.filled);
      ordinal = lower m key (entry_at c.filled (leads_to key (entries_of c.filled))).records;
      gone = gone;
      fresh = fresh;
    }

-- the edit that it makes: a record comes, one takes another's place, one goes
abbrev pub edit_of : Measures → Content → Change → Edit
edit_of m c (insert r) = edit_for m c (key_of m r) 0 (r ∷ [])
edit_of m c (update r) = edit_for m c (key_of m r) 1 (r ∷ [])
edit_of m c (erase wanted) = edit_for m c wanted 1 []

-- ---- what it comes to: 1, 2, 3, then 4 for an insert and 5 for the others, then 6, 7

-- 6, 7, or the stores made; Changed tells which intervals were written
abbrev pub carry_out : Measures → List ℕ → Plan → Outcome
carry_out m area no_interval = kept (Err NoInterval) area
carry_out m area no_room = kept (Err NoRoom) area
carry_out m area (stores ss) = record { answer = (Ok (Changed (written_of ss))); area = stored m.size area ss }

-- 4 where a record has the key of one that is to come, 5 where none has the key of one that is to make way or to go; else what the plan comes to
abbrev pub if_keyed : Change → List (List ℕ) → List ℕ → Outcome → Outcome
if_keyed (insert r) [] area made = made
if_keyed (insert r) (x ∷ xs) area made = kept (Err Present) area
if_keyed (update r) [] area made = kept (Err Absent) area
if_keyed (update r) (x ∷ xs) area made = made
if_keyed (erase wanted) [] area made = kept (Err Absent) area
if_keyed (erase wanted) (x ∷ xs) area made = made

abbrev pub change_in : Measures → Content → List ℕ → Change → Outcome
change_in m c area ch =
    pick (length_fine m ch)
    (if_keyed ch (with_key m (key_in m ch) (records_of c.filled)) area (carry_out m area (plan_of m c (edit_of m c ch))))
    (kept (Err WrongLength) area)

abbrev pub change_opened : Opening → List ℕ → Change → Outcome
change_opened (shut r) area ch = kept (Err r) area
change_opened (holding m c) area ch = change_in m c area ch

unfoldable pub change_of : Measures → List ℕ → Change → Outcome
change_of m area ch = change_opened (opening_of m area) area ch

-- ---- the three requests

abbrev pub insert_of : Measures → List ℕ → List ℕ → Outcome
insert_of m area r = change_of m area (insert r)

abbrev pub update_of : Measures → List ℕ → List ℕ → Outcome
update_of m area r = change_of m area (update r)

abbrev pub erase_of : Measures → List ℕ → List ℕ → Outcome
erase_of m area wanted = change_of m area (erase wanted)

-- the contract of a change: the answer, and the whole area at exit
pub record Makes (outcome : Outcome) (answer : Answer) (area : List ℕ) : Type 0 where
  pub answers : answer ≡ outcome.answer
  pub leaves : area ≡ outcome.area
