-- The rules that the meaning of a sound index record keeps: document 01, 'Index record'.
-- K is the key's length, n the number of data intervals. low is the bound before the first entry, [] for none; end is the separator that the
-- last entry must have. Both are [] in the base.
use Rattle.std.specs.Prelude.{ℕ, ◌+◌, ◌*◌, Bool, true, false, List, [], ◌∷◌, leb}
use Rattle.fields.specs.Choice.{both}
use Rattle.fields.specs.Table.{same_list}
use Rattle.fields.specs.Bytes.{number}
use Rattle.fields.specs.Order.{less}
use Rattle.index.specs.Bounds.{bound, separator}
use Rattle.index.specs.Meaning.{Entry, Meaning, named, named_once}

-- every separator is as it must be, and each bound is above the one before it, from low on; [] is below every bound
unfoldable pub rises : ℕ → List ℕ → List Entry → Bool
rises K low [] = true
rises K low (e ∷ es) = both (separator K e.sep) (both (less low (bound K e.sep)) (rises K (bound K e.sep) es))

-- Some entry closes the list, with the separator that the last one must have: here, the separator end.
-- That no other entry has an empty one follows from the bounds (proofs/Closing.antt, only-last-empty).
unfoldable pub closed : List ℕ → List Entry → Bool
closed end [] = false
closed end (e ∷ []) = same_list e.sep end
closed end (e ∷ f ∷ es) = closed end (f ∷ es)

-- addresses have four bytes: n intervals of size S from the base on end at 2^32 or before; the base RBA is the first four of the kept bytes
abbrev pub base_fine : ℕ → ℕ → List ℕ → Bool
base_fine S n kept = leb (number 4 kept 0 + n * S) 4294967296

-- all of them
unfoldable pub keeps_rules : ℕ → ℕ → ℕ → List ℕ → List ℕ → Meaning → Bool
keeps_rules S K n low end m =
    both (base_fine S n m.kept) (both (rises K low m.entries) (both (closed end m.entries) (named_once n (named m))))

-- the bound before the entry that comes after these: that of the last of them, or low where there is none
unfoldable pub bound_before : ℕ → List ℕ → List Entry → List ℕ
bound_before K low [] = low
bound_before K low (e ∷ es) = bound_before K (bound K e.sep) es
