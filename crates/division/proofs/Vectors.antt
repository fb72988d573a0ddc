-- Document 01's cases of dividing, S = 512, as one table under one statement; and the case of a nearest cut that does not fit.
use Prim.Native.Nat.{ℕ, zero, suc}
use mathlib.Core.Path.{◌≡◌, refl}
use mathlib.Core.Bool.{Bool, true}
use mathlib.Core.List.{List, [], ◌∷◌, ◌++◌}
use lib.ListN.{replicate}
use lib.Dec.{eqb}
use Rattle.fields.specs.Table.{same_list, same_lists, all}
use Rattle.fields.specs.Choice.{both}
use Rattle.fields.specs.Lists.{sum, swap}
use Rattle.room.specs.Room.{rdf_count, push, groups, need, fits}
use Rattle.division.specs.Division.{difference, fitting, better, best_to, best_cut, by_cut, division_of, counts, parts, pieces}

-- Records of these lengths fit; with one of l put in at place k, or in place of the one there, they need n bytes, and stay or are
-- divided into parts of so many.
abbrev changed : ℕ → List ℕ → ℕ → ℕ → ℕ → List ℕ → Bool
changed c old k l n cs =
    let ls = swap k c (l ∷ []) old in
    both (fits 512 old) (both (eqb (need ls) n) (same_list (parts 512 ls k) cs))

abbrev inserted : List ℕ → ℕ → ℕ → ℕ → List ℕ → Bool
inserted = changed 0

abbrev updated : List ℕ → ℕ → ℕ → ℕ → List ℕ → Bool
updated = changed 1

-- one insert as lists of lengths
abbrev becomes : List ℕ → ℕ → ℕ → List (List ℕ) → Bool
becomes old k l ps = let ls = swap k 0 (l ∷ []) old in same_lists (pieces (parts 512 ls k) ls) ps

-- with the one at place k taken out they stay
abbrev erased : List ℕ → ℕ → ℕ → Bool
erased old k n = let ls = swap k 1 [] old in both (eqb (need ls) n) (same_lists (pieces (parts 512 ls k) ls) (ls ∷ []))

-- 4 and 5 in turn, so often
abbrev turns : ℕ → List ℕ
turns zero = []
turns (suc n) = 4 ∷ 5 ∷ turns n

pub table : Bool
table =
    all
    (inserted (replicate 4 100) 4 99 512 (5 ∷ [])
    ∷ inserted (replicate 4 100) 4 101 514 (3 ∷ 2 ∷ [])
    ∷ inserted (replicate 4 100) 2 93 512 (5 ∷ [])
    ∷ inserted (replicate 4 100) 2 94 513 (2 ∷ 3 ∷ [])
    ∷ inserted (replicate 4 100) 2 100 510 (5 ∷ [])
    ∷ updated (replicate 5 99) 2 97 512 (5 ∷ [])
    ∷ updated (replicate 5 99) 2 98 513 (2 ∷ 3 ∷ [])
    ∷ inserted (250 ∷ 240 ∷ []) 1 400 903 (1 ∷ 1 ∷ 1 ∷ [])
    ∷ inserted (250 ∷ 240 ∷ []) 0 400 903 (1 ∷ 2 ∷ [])
    ∷ inserted (250 ∷ 240 ∷ []) 2 400 903 (2 ∷ 1 ∷ [])
    ∷ becomes (250 ∷ 240 ∷ []) 1 400 ((250 ∷ []) ∷ (400 ∷ []) ∷ (240 ∷ []) ∷ [])
    ∷ becomes (replicate 4 100) 4 101 (replicate 3 100 ∷ (100 ∷ 101 ∷ []) ∷ [])
    -- the one record of an interval taken out, or put in; records that an erase makes a run of
    ∷ erased (100 ∷ []) 0 4
    ∷ inserted [] 0 505 512 (1 ∷ [])
    ∷ erased (100 ∷ 100 ∷ 93 ∷ 100 ∷ 100 ∷ []) 2 410
    -- the nearest cut, 200 | 386, needs 513 bytes on its right: 406 | 180 is used
    ∷ inserted (replicate 5 40 ++ turns 20) 5 206 719 (6 ∷ 40 ∷ [])
    ∷ [])

pub vectors : table ≡ true
unfolding table sum rdf_count push groups need fits difference fitting better best_to best_cut by_cut division_of counts parts pieces swap
vectors = refl
