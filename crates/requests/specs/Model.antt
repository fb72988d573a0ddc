-- The register as a plain list of records in key order, and the three changes of it by key alone: demand 3; document 01, 'How far each statement must
-- reach'. No interval, index or byte of an area is named here.
use Rattle.std.specs.Prelude.{ℕ, ◌+◌, ◌≡◌, List, [], ◌∷◌, map, length}
use Rattle.fields.specs.Choice.{pick}
use Rattle.fields.specs.Order.{less}
use Rattle.fields.specs.Table.{same_list}
use Rattle.fields.specs.Lists.{sum}
use Rattle.measures.specs.declared.Measures.{Measures}
use Rattle.interval.specs.Records.{key_of}
use Rattle.requests.specs.Records.{with_key}

-- the records with r put before the first one whose key is not below r's
unfoldable pub add : Measures → List ℕ → List (List ℕ) → List (List ℕ)
add m r [] = r ∷ []
add m r (x ∷ xs) = pick (less (key_of m x) (key_of m r)) (x ∷ add m r xs) (r ∷ x ∷ xs)

-- the records with r in place of the one that has r's key
unfoldable pub replace : Measures → List ℕ → List (List ℕ) → List (List ℕ)
replace m r [] = []
replace m r (x ∷ xs) = pick (same_list (key_of m x) (key_of m r)) r x ∷ replace m r xs

-- the records without the one that has that key
unfoldable pub remove : Measures → List ℕ → List (List ℕ) → List (List ℕ)
remove m key [] = []
remove m key (x ∷ xs) = pick (same_list (key_of m x) key) (remove m key xs) (x ∷ remove m key xs)

-- the bytes of all records together
unfoldable pub total : List (List ℕ) → ℕ
total rs = sum (map length rs)

-- a change: a record comes, a record takes the place of the one with its key, the record with a key goes
pub data Change : Type 0 where
  insert : List ℕ → Change
  update : List ℕ → Change
  erase : List ℕ → Change

-- the records with one change made
unfoldable pub make_change : Measures → Change → List (List ℕ) → List (List ℕ)
make_change m (insert r) rs = add m r rs
make_change m (update r) rs = replace m r rs
make_change m (erase key) rs = remove m key rs

-- one change after another
unfoldable pub make_all : Measures → List Change → List (List ℕ) → List (List ℕ)
make_all m [] rs = rs
make_all m (ch ∷ chs) rs = make_all m chs (make_change m ch rs)

-- a record may come only where none has its key, and be changed or go only where one has it
abbrev pub Legal : Measures → Change → List (List ℕ) → Type 0
Legal m (insert r) rs = with_key m (key_of m r) rs ≡ []
Legal m (update r) rs = with_key m (key_of m r) rs ≡ [] → ⊥
Legal m (erase key) rs = with_key m key rs ≡ [] → ⊥

-- each of several changes may be made when its turn comes
abbrev pub AllLegal : Measures → List Change → List (List ℕ) → Type 0
AllLegal m [] rs = Unit {0}
AllLegal m (ch ∷ chs) rs = Legal m ch rs × AllLegal m chs (make_change m ch rs)

-- the bytes that come with a change
unfoldable pub gained : Change → ℕ
gained (insert r) = length r
gained (update r) = length r
gained (erase key) = 0

-- and with several
unfoldable pub gained_all : List Change → ℕ
gained_all [] = 0
gained_all (ch ∷ chs) = gained ch + gained_all chs

-- the bytes that go with a change: those of the record that had the key
unfoldable pub lost : Measures → Change → List (List ℕ) → ℕ
lost m (insert r) rs = 0
lost m (update r) rs = total (with_key m (key_of m r) rs)
lost m (erase key) rs = total (with_key m key rs)

-- and with several, each in its turn
unfoldable pub lost_all : Measures → List Change → List (List ℕ) → ℕ
lost_all m [] rs = 0
lost_all m (ch ∷ chs) rs = lost m ch rs + lost_all m chs (make_change m ch rs)
