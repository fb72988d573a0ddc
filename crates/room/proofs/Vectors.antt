-- Needs at the edges of an interval of 512 bytes, counted by hand: document 01, 'Registers on both sides of each edge'.
use Prim.Native.Nat.{ℕ}
use mathlib.Core.Path.{◌≡◌, refl}
use mathlib.Core.Bool.{Bool, true}
use mathlib.Core.List.{List, [], ◌∷◌}
use lib.Dec.{eqb}
use Rattle.fields.specs.Table.{all}
use Rattle.fields.specs.Choice.{both, no}
use Rattle.fields.specs.Lists.{sum}
use Rattle.room.specs.Room.{rdf_count, push, groups, need, fits}

-- records of these lengths take so many RDFs, and so many bytes in all
abbrev takes : List ℕ → ℕ → ℕ → Bool
takes ls k n = both (eqb (rdf_count (groups ls)) k) (eqb (need ls) n)

-- and fit 512 bytes, or don't
abbrev fit : List ℕ → ℕ → ℕ → Bool
fit ls k n = both (takes ls k n) (fits 512 ls)

abbrev burst : List ℕ → ℕ → ℕ → Bool
burst ls k n = both (takes ls k n) (no (fits 512 ls))

pub table : Bool
table =
    all
    (fit [] 0 4
    ∷ fit (100 ∷ []) 1 107
    ∷ fit (100 ∷ 100 ∷ []) 2 210
    ∷ fit (100 ∷ 100 ∷ 100 ∷ []) 2 310
    ∷ fit (100 ∷ 100 ∷ 80 ∷ []) 3 293
    ∷ fit (100 ∷ 80 ∷ 100 ∷ []) 3 293
    ∷ fit (505 ∷ []) 1 512
    ∷ burst (506 ∷ []) 1 513
    ∷ fit (100 ∷ 100 ∷ 100 ∷ 100 ∷ 99 ∷ []) 3 512
    ∷ fit (100 ∷ 100 ∷ 100 ∷ 100 ∷ 100 ∷ []) 2 510
    ∷ burst (100 ∷ 100 ∷ 100 ∷ 100 ∷ 101 ∷ []) 3 514
    ∷ fit (100 ∷ 100 ∷ 93 ∷ 100 ∷ 100 ∷ []) 5 512
    ∷ burst (100 ∷ 100 ∷ 94 ∷ 100 ∷ 100 ∷ []) 5 513
    ∷ fit (99 ∷ 99 ∷ 99 ∷ 99 ∷ 99 ∷ []) 2 505
    ∷ fit (99 ∷ 99 ∷ 97 ∷ 99 ∷ 99 ∷ []) 5 512
    ∷ burst (99 ∷ 99 ∷ 98 ∷ 99 ∷ 99 ∷ []) 5 513
    ∷ fit (250 ∷ 240 ∷ []) 2 500
    ∷ burst (250 ∷ 400 ∷ 240 ∷ []) 3 903
    ∷ [])

pub vectors : table ≡ true
unfolding table sum rdf_count push groups need fits
vectors = refl
