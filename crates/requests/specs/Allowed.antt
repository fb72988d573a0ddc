-- The six requests, and which results their contracts allow: what every promise speaks of. That callers of the register learn just this is proved there.
use Rattle.std.specs.Prelude.{ℕ, ◌≡◌, List}
use Rattle.fields.specs.Bytes.{Octets}
use Rattle.measures.specs.declared.Measures.{Measures}
use Rattle.requests.specs.Model.{Change, insert, update, erase}
use Rattle.requests.specs.Reading.{check_of, get_of, get_at_of, Gives}
use Rattle.requests.specs.Changing.{insert_of, update_of, erase_of, Makes}
use Rattle.requests.specs.Answers.{Answer}

-- the six requests: check, get a key's or an address's record into an output, and the three changes (insert, update, erase)
pub data Request : Type 0 where
  check : Request
  get : List ℕ → List ℕ → Request
  get_at : ℕ → List ℕ → Request
  changes : Change → Request

-- a result of a change that its contract allows; what is handed over are bytes
abbrev pub ChangeAllowed : Measures → List ℕ → Change → Answer → List ℕ → Type 0
ChangeAllowed m before (insert r) a after = Octets r × Makes (insert_of m before r) a after
ChangeAllowed m before (update r) a after = Octets r × Makes (update_of m before r) a after
ChangeAllowed m before (erase wanted) a after = Octets wanted × Makes (erase_of m before wanted) a after

-- a result of any request that its contract allows; a check and a get are lent no area to change
abbrev pub Allowed : Measures → List ℕ → Request → Answer → List ℕ → List ℕ → Type 0
Allowed m before check a after out = (after ≡ before) × (a ≡ check_of m before)
Allowed m before (get wanted lent) a after out = (after ≡ before) × Gives (get_of m before wanted lent) a out
Allowed m before (get_at address lent) a after out = (after ≡ before) × Gives (get_at_of m before address lent) a out
Allowed m before (changes ch) a after out = ChangeAllowed m before ch a after
