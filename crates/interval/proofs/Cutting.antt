-- Laws of records laid one after another, and of cutting them apart.
use Prim.Native.Nat.{ℕ, ◌≤◌, zero, suc, ◌<◌}
use mathlib.Core.Path.{◌≡◌, refl, ap, ◌∙◌}
use mathlib.Core.List.{List, [], ◌∷◌, ◌++◌, map, append_assoc, append-nil}
use lib.ListN.{length, take, drop, length-drop, get_or}
use lib.Seq.{take-append_seam, drop-append_seam, length-take-le, take-add, drop-drop}
use native.Mathlib.Omega.{arith}
use Rattle.fields.specs.Lists.{sum, concat}
use Rattle.interval.specs.Reading.{cut}

-- records laid one after another, whatever follows them, are cut apart again by their lengths
pub cut-front : (rs : List (List ℕ)) (x : List ℕ) → cut (concat rs ++ x) (map length rs) ≡ rs
unfolding cut concat
cut-front [] x = refl
cut-front (r ∷ rs) x =
    simp (append_assoc, take-append_seam, drop-append_seam) (ap (λ (l : List (List ℕ)). r ∷ l) (cut-front rs x))

-- cutting undoes laying one after another
pub cut-concat : (rs : List (List ℕ)) → cut (concat rs) (map length rs) ≡ rs
cut-concat rs = rw append-nil at (cut-front rs [])

-- the pieces one after another are the bytes that they were cut from
pub concat-cut : (b ls : List ℕ) → sum ls ≤ length b → concat (cut b ls) ≡ take (sum ls) b
unfolding cut concat sum
concat-cut b [] h = refl
concat-cut b (l ∷ ls) h = rw (take-add l (sum ls) b, concat-cut (drop l b) ls (simp length-drop (omega arith)))

-- the pieces have the lengths that were asked for
pub map-length-cut : (b ls : List ℕ) → sum ls ≤ length b → map length (cut b ls) ≡ ls
unfolding cut sum
map-length-cut b [] h = refl
map-length-cut b (l ∷ ls) h =
    rw (length-take-le l b (omega arith), map-length-cut (drop l b) ls (simp length-drop (omega arith)))

-- there are as many pieces as lengths
pub length_cut : (b ls : List ℕ) → length (cut b ls) ≡ length ls
unfolding cut
length_cut b [] = refl
length_cut b (l ∷ ls) = rw (length_cut (drop l b) ls)

-- piece j
pub record-at : (bytes lens : List ℕ) (j : ℕ) → j < length lens → get_or (cut bytes lens) j [] ≡ take (get_or lens j 0) (drop (sum (take j lens)) bytes)
unfolding cut sum
record-at bytes [] j h = absurd (omega arith)
record-at bytes (l ∷ ls) zero h = refl
record-at bytes (l ∷ ls) (suc j) h = record-at (drop l bytes) ls j (omega arith) ∙ rw (drop-drop (sum (take j ls)) l bytes)
