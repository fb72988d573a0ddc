-- A fact of every number below a bound, by one test that antt computes; and laws of masks.
use Prim.Native.Nat.{ℕ, zero, suc, ◌*◌, ◌/◌, ◌%◌, ◌<◌}
use mathlib.Core.Path.{◌≡◌, refl}
use mathlib.Core.Bool.{Bool, true, false}
use lib.Dec.{T, eqb, eqb→eq}
use lib.Bits.{bit_and, and_high, and_mask}
use native.Mathlib.Omega.{arith}
use native.Mathlib.Nat.{not-suc-le-zero}
use native.Mathlib.Decide.{dec_lt}
use Rattle.fields.specs.Choice.{both}
use Rattle.fields.proofs.Tables.{both_left, both_right}

-- the top bit of two bytes, and the 15 below it
pub and-32768 : (n : ℕ) → bit_and n 32768 ≡ n / 32768 % 2 * 32768
and-32768 n = and_high n 1 15

pub and-32767 : (n : ℕ) → bit_and n 32767 ≡ n % 32768
and-32767 n = and_mask n 15

pub and-255 : (n : ℕ) → bit_and n 255 ≡ n % 256
and-255 n = and_mask n 8

abbrev pub all_below : ℕ → (ℕ → Bool) → Bool
all_below zero f = true
all_below (suc n) f = both (f n) (all_below n f)

pub below : (n : ℕ) (f : ℕ → Bool) → T (all_below n f) → (k : ℕ) → k < n → T (f k)
below zero f t k h = absurd (not-suc-le-zero h)
below (suc n) f t k h = go (dec_lt k n) (λ l. below n f (both_right (f n) (all_below n f) t) k l)
  where
    go : Dec (k < n) → (k < n → T (f k)) → T (f k)
    go (yes l) r = r l
    go (no l) r =
        let e : k ≡ n = omega arith in
        rw e (both_left (f n) (all_below n f) t)

-- the same for an equation of two tests
abbrev pub same : Bool → Bool → Bool
same true b = b
same false true = false
same false false = true

same-eq : (a b : Bool) → T (same a b) → a ≡ b
same-eq true true t = refl
same-eq true false t = absurd t
same-eq false true t = absurd t
same-eq false false t = refl

pub below-same : (n : ℕ) (f g : ℕ → Bool) → T (all_below n (λ k. same (f k) (g k))) → (k : ℕ) → k < n → f k ≡ g k
below-same n f g t k h = same-eq (f k) (g k) (below n (λ k. same (f k) (g k)) t k h)

-- and of two numbers
pub below_eq : (n : ℕ) (f g : ℕ → ℕ) → T (all_below n (λ k. eqb (f k) (g k))) → (k : ℕ) → k < n → f k ≡ g k
below_eq n f g t k h = eqb→eq (f k) (g k) (below n (λ k. eqb (f k) (g k)) t k h)
