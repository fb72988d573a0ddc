-- The fewest intervals that hold some records: demand 3; document 01, 'Dividing an interval'. Said over records and the grammar of an interval, and
-- apart from the rules of division.
-- Each interval holds a stretch of the records in order, so records lie over k intervals as k parts one after another.
use Rattle.std.specs.Prelude.{ℕ, ◌≤◌, ◌≡◌, List, [], ◌∷◌, length}
use Rattle.fields.specs.Lists.{concat}
use Rattle.interval.specs.Layout.{LaidOut}

-- Some S bytes of the grammar hold these records: in any legal grouping, with any bytes in the unused space.
pub record Held (S : ℕ) (part : List (List ℕ)) : Type 0 where
  pub ci : List ℕ
  pub laid : LaidOut S part ci

-- each of the parts is held
abbrev pub AllHeld : ℕ → List (List (List ℕ)) → Type 0
AllHeld S [] = Unit {0}
AllHeld S (p ∷ ps) = Held S p × AllHeld S ps

-- The records lie, in order, over k intervals of size S, at least one. An interval may be empty; that no fewer hold them then says more.
pub record Spread (S : ℕ) (rs : List (List ℕ)) (k : ℕ) : Type 0 where
  pub over : List (List (List ℕ))
  pub whole : concat over ≡ rs
  pub count : length over ≡ k
  pub some : 1 ≤ k
  pub held : AllHeld S over

-- They can lie over k intervals, and over no fewer.
pub record Fewest (S : ℕ) (rs : List (List ℕ)) (k : ℕ) : Type 0 where
  pub spread : Spread S rs k
  pub least : (j : ℕ) → Spread S rs j → k ≤ j
