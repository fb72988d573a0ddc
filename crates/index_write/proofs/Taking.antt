-- Laws of the free numbers that are taken, from the right end. w is the width of each.
use Prim.Native.Nat.{ℕ, zero, suc, ◌+◌, ◌-◌, ◌*◌, ◌≤◌, ◌<◌}
use mathlib.Core.Path.{◌≡◌, refl, ◌∙◌, sym, ap}
use mathlib.Core.List.{List}
use lib.ListN.{length, get_or, take}
use native.Mathlib.Nat.{mul-add, mul-le-mul_left, mul-le-mul_right}
use native.Mathlib.Omega.{arith}
use Rattle.fields.specs.Bytes.{number}
use Rattle.index.specs.Reading.{unused_at, free_count, numbers_at}
use Rattle.sections.specs.Reading.{read_index}
use Rattle.index.proofs.Apart.{length-numbers_at, number_at}
use Rattle.sections.proofs.Apart.{free-are}
use Rattle.index_write.specs.AidStream.{FreeLie}

-- The first c' of them.
pub take-numbers_at : (w : ℕ) (ib : List ℕ) (a c k : ℕ) → k ≤ c → take k (numbers_at w ib a c) ≡ numbers_at w ib a k
unfolding numbers_at
take-numbers_at w ib a c zero h = refl
take-numbers_at w ib a zero (suc k) h = absurd (omega arith)
take-numbers_at w ib a (suc c) (suc k) h = rw (take-numbers_at w ib (a + w) c k (omega arith))

-- The k-th from the right end lies k + 1 numbers left of the unused space.
module _ (ib : List ℕ) (w k : ℕ) (some : 1 ≤ w) (h : k < free_count w ib) (lie : FreeLie w ib) where
  all_are : w * free_count w ib ≡ w * (k + 1) + w * (free_count w ib - (k + 1))
  all_are =
      let e : free_count w ib ≡ k + 1 + (free_count w ib - (k + 1)) = omega arith in
      ap (λ (z : ℕ). w * z) e ∙ mul-add w (k + 1) (free_count w ib - (k + 1))

  -- k + 1 numbers take at least k + 1 bytes, and at least the bytes of one; they lie left of the unused space
  pub taken-place : (k + 1 ≤ w * (k + 1)) × (w ≤ w * (k + 1)) × (24 + w * (k + 1) ≤ unused_at ib)
  taken-place =
      let a : 1 * (k + 1) ≤ w * (k + 1) = mul-le-mul_right (k + 1) some in
      let b : w * 1 ≤ w * (k + 1) = mul-le-mul_left w (omega arith) in
      (omega arith, omega arith, omega (arith, all_are, lie.0))

  pub taken_is : (u r : ℕ) → u ≡ unused_at ib → r ≡ number w ib (u - w * (k + 1))
      → r ≡ get_or (numbers_at w ib 24 (free_count w ib)) (free_count w ib - (k + 1)) 0
  taken_is u r u-is r-is =
      let e : u - w * (k + 1) ≡ 24 + w * (free_count w ib - (k + 1)) = omega (arith, all_are, u-is, lie.0) in
      r-is ∙ rw e (sym (number_at w ib 24 (free_count w ib) (free_count w ib - (k + 1)) (omega arith)))

pub taken_free : (w n : ℕ) (ib : List ℕ) (k r : ℕ) → r ≡ get_or (numbers_at w ib 24 (free_count w ib)) (free_count w ib - (k + 1)) 0
    → r ≡ get_or (read_index w n ib).free (length (read_index w n ib).free - (k + 1)) 0
taken_free w n ib k r e = rw (free-are w n ib, length-numbers_at w ib 24 (free_count w ib)) e
