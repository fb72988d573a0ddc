-- What those who go by the width of a pointer need to know of it, whatever n is.
use Prim.Native.Nat.{ℕ, ◌≤◌, ◌<◌, ◌^◌}
use mathlib.Core.Path.{◌≡◌, refl}
use mathlib.Core.Bool.{Bool, true, false}
use lib.Dec.{leb}
use native.Mathlib.Omega.{arith}
use borrow.Author.Tests.{le-leb, lt-leb, leb-true}
use Rattle.fields.specs.Choice.{pick}
use Rattle.measures.specs.Judgement.{limit, width_for}

-- one byte up to 256 intervals, two above
pub width_one : (n : ℕ) → n ≤ 256 → width_for n ≡ 1
unfolding width_for
width_one n h = rw (le-leb n 256 h)

pub width_two : (n : ℕ) → 256 < n → width_for n ≡ 2
unfolding width_for
width_two n h = rw (lt-leb n 256 h)

-- what holds of both widths holds of the one that it is
either-width : (P : ℕ → Type 0) (n : ℕ) → (n ≤ 256 → P 1) → P 2 → P (width_for n)
unfolding width_for
either-width P n one two = go (leb n 256) refl
  where
    go : (t : Bool) → leb n 256 ≡ t → P (pick t 1 2)
    go true e = one (leb-true n 256 e)
    go false e = two

pub width_some : (n : ℕ) → 1 ≤ width_for n
width_some n = either-width (λ (w : ℕ). 1 ≤ w) n (λ (h : n ≤ 256). omega arith) (omega arith)

pub width-most : (n : ℕ) → width_for n ≤ 4
width-most n = either-width (λ (w : ℕ). w ≤ 4) n (λ (h : n ≤ 256). omega arith) (omega arith)

-- every interval's number can be told
pub width-holds : (n : ℕ) → n ≤ limit → n ≤ 256 ^ width_for n
width-holds n h = either-width (λ (w : ℕ). n ≤ 256 ^ w) n (λ (k : n ≤ 256). omega arith) (omega arith)

-- and no number that it can tell is large
pub width_small : (n : ℕ) → 256 ^ width_for n ≤ 4294967296
width_small n = either-width (λ (w : ℕ). 256 ^ w ≤ 4294967296) n (λ (h : n ≤ 256). omega arith) (omega arith)
