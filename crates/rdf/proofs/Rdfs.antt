-- The RDFs of an interval one after another, and what a run adds up to.
use Prim.Native.Nat.{ℕ, zero, suc, ◌+◌, ◌-◌, ◌*◌, ◌≤◌, ◌<◌}
use mathlib.Core.Path.{◌≡◌, ◌∙◌}
use mathlib.Core.List.{List, ◌∷◌, ◌++◌}
use lib.ListN.{length, get_or, drop, replicate, length-append, length-replicate}
use native.Mathlib.Omega.{arith}
use native.Mathlib.Nat.{not-suc-le-zero, le_of_suc-le-suc, sub-zero, mul-le-mul}
use Rattle.fields.specs.Bytes.{number}
use Rattle.fields.specs.Lists.{sum}
use Rattle.interval.specs.Reading.{rdfs}

pub rdfs-cons : (b : List ℕ) (p n : ℕ) → 0 < n
    → rdfs b p n ≡ record { control = get_or b (p + 3 * (n - 1)) 0; num = number 2 b (p + 3 * (n - 1) + 1) } ∷ rdfs b p (n - 1)
unfolding rdfs
rdfs-cons b p zero h = absurd (not-suc-le-zero h)
rdfs-cons b p (suc n) h =
    let e : suc n - 1 ≡ n = omega arith in
    rw e

pub rdfs-drop : (b : List ℕ) (p n k : ℕ) → k ≤ n → drop k (rdfs b p n) ≡ rdfs b p (n - k)
unfolding rdfs
rdfs-drop b p n zero h = simp sub-zero
rdfs-drop b p zero (suc k) h = absurd (not-suc-le-zero h)
rdfs-drop b p (suc n) (suc k) h =
    let e : suc n - suc k ≡ n - k = omega arith in
    rw e (rdfs-drop b p n k (le_of_suc-le-suc h))

pub sum-run : (c l : ℕ) (xs : List ℕ) → sum (replicate c l ++ xs) ≡ l * c + sum xs
unfolding sum
sum-run zero l xs = omega arith
sum-run (suc c) l xs = rw (sum-run c l xs) (omega arith)

pub length_run : (c l : ℕ) (xs : List ℕ) → length (replicate c l ++ xs) ≡ c + length xs
length_run c l xs = simp (length-append, length-replicate)

pub prod16 : (a b : ℕ) → a < 65536 → b < 65536 → a * b < 4294967296
prod16 a b h k =
    let h' : a ≤ 65535 = omega arith in
    let k' : b ≤ 65535 = omega arith in
    let m : a * b ≤ 65535 * 65535 = mul-le-mul h' k' in
    omega arith

-- the same for those that end at place q
pub rdfs-before : (b : List ℕ) (q n : ℕ) → 0 < n → 3 * n ≤ q
    → rdfs b (q - 3 * n) n ≡ record { control = get_or b (q - 3) 0; num = number 2 b (q - 3 + 1) } ∷ rdfs b (q - 3 - 3 * (n - 1)) (n - 1)
rdfs-before b q n h k =
    let e : q - 3 * n + 3 * (n - 1) ≡ q - 3 = omega arith in
    let f : q - 3 * n ≡ q - 3 - 3 * (n - 1) = omega arith in
    rdfs-cons b (q - 3 * n) n h ∙ rw (e, f)
