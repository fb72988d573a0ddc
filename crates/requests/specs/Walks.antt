-- What a walk over the register gives: document 02, L1. Said over demand 2's reading alone; nothing here searches or steps.
use Rattle.std.specs.Prelude.{ℕ, ◌+◌, ◌*◌, Bool, true, false, List, [], ◌∷◌, ◌++◌, length, take, ltb, leb}
use Rattle.fields.specs.Choice.{pick, both, no}
use Rattle.fields.specs.Order.{less}
use Rattle.measures.specs.declared.Measures.{Measures}
use Rattle.interval.specs.Records.{key_of}
use Rattle.area.specs.Content.{Filled, Content}
use Rattle.requests.specs.Opening.{Opening, shut, holding, opening_of}
use Rattle.requests.specs.declared.Refusal.{Refusal}
use Rattle.requests.specs.declared.Refusal.TheVariants.{WrongLength, Absent}

-- a record with its place: where its first byte lies in the area
pub record Item : Type 0 where
  pub start : ℕ
  pub bytes : List ℕ

-- records that lie one after another from a place on
unfoldable pub items_from : ℕ → List (List ℕ) → List Item
items_from start [] = []
items_from start (r ∷ rs) = record { start = start; bytes = r } ∷ items_from (start + length r) rs

-- all records in key order: those of each entry's interval, which lies behind the index record and as many intervals as its number says
unfoldable pub items_of : Measures → List Filled → List Item
items_of m [] = []
items_of m (f ∷ fs) = items_from ((f.num + 1) * m.size) f.records ++ items_of m fs

-- those of which a test is true, in their order
unfoldable pub kept : (Item → Bool) → List Item → List Item
kept t [] = []
kept t (i ∷ is) = pick (t i) (i ∷ kept t is) (kept t is)

-- last to first
unfoldable pub backwards : List Item → List Item
backwards [] = []
backwards (i ∷ is) = backwards is ++ (i ∷ [])

-- the first bytes of its key, as many as were given
abbrev pub head_of : Measures → List ℕ → Item → List ℕ
head_of m given i = take (length given) (key_of m i.bytes)

-- at or beyond the bytes given in a direction; with no bytes given every record is
abbrev pub beyond : Measures → Bool → List ℕ → Item → Bool
beyond m true given i = no (less (head_of m given i) given)
beyond m false given i = no (less given (head_of m given i))

-- The walk: upwards from the lowest record at or above the bytes given, or downwards from the highest at or below them; keys ascend, so that these are all records
-- at or beyond them. From an end no bytes are given.
abbrev pub walk_of : Measures → Bool → List ℕ → Content → List Item
walk_of m true given c = kept (beyond m true given) (items_of m c.filled)
walk_of m false given c = backwards (kept (beyond m false given) (items_of m c.filled))

-- ---- how a walk begins: 1, 2 of the whole area, then 3 and 5; from an end neither

-- a refusal, or what the walk gives
pub data Walk : Type 0 where
  refused_with : Refusal → Walk
  giving : List Item → Walk

-- none or more than K bytes
abbrev pub head_fine : Measures → List ℕ → Bool
head_fine m given = both (ltb 0 (length given)) (leb (length given) m.key)

-- 5 if nothing lies at or beyond the bytes
abbrev pub if_some : List Item → Walk
if_some [] = refused_with Absent
if_some (i ∷ is) = giving (i ∷ is)

abbrev pub from_opened : Bool → List ℕ → Opening → Walk
from_opened forward given (shut a) = refused_with a
from_opened forward given (holding m c) = pick (head_fine m given) (if_some (walk_of m forward given c)) (refused_with WrongLength)

unfoldable pub walk_from_of : Measures → List ℕ → Bool → List ℕ → Walk
walk_from_of m area forward given = from_opened forward given (opening_of m area)

abbrev pub end_opened : Bool → Opening → Walk
end_opened forward (shut a) = refused_with a
end_opened forward (holding m c) = giving (walk_of m forward [] c)

unfoldable pub walk_end_of : Measures → List ℕ → Bool → Walk
walk_end_of m area forward = end_opened forward (opening_of m area)
