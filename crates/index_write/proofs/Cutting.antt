-- How long a cut's separator is.
use Prim.Native.Nat.{ℕ, suc, ◌+◌, ◌≤◌, ◌<◌}
use mathlib.Core.Path.{◌≡◌, refl, sym}
use mathlib.Core.List.{List}
use lib.ListN.{length, take}
use lib.Seq.{length-take-le, take_all}
use native.Mathlib.Omega.{arith}
use Rattle.fields.specs.Order.{common}
use Rattle.index.specs.Bounds.{cut_separator}

module _ (left right : List ℕ) (f : ℕ) (front : f ≡ common left right) where
  pub cut_inside : f < length left
      → (f + 1 ≡ length (cut_separator left right)) × (take (f + 1) left ≡ cut_separator left right) × (f + 1 ≤ length left)
  unfolding cut_separator
  cut_inside h =
      let e : suc (common left right) ≡ f + 1 = omega arith in
      rw e (sym (length-take-le (f + 1) left (omega arith)), refl, omega arith)

  pub cut-whole : length left ≤ f → f ≤ length left
      → (f ≡ length (cut_separator left right)) × (take f left ≡ cut_separator left right) × (f ≤ length left)
  unfolding cut_separator
  cut-whole h k =
      let t : take (suc (common left right)) left ≡ left = take_all (suc (common left right)) left (omega arith) in
      rw t (omega arith, take_all f left h, k)
