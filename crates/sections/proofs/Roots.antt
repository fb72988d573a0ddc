-- How many entries a section has: c is the least number whose square is no less than the number of entries.
use Prim.Native.Nat.{ℕ, zero, suc, ◌+◌, ◌-◌, ◌*◌, ◌≤◌, ◌<◌}
use mathlib.Core.Path.{◌≡◌, refl}
use mathlib.Core.Bool.{Bool, true, false}
use mathlib.Core.Logic.{⊎_elim}
use lib.Dec.{leb}
use native.Mathlib.Omega.{arith}
use native.Mathlib.Nat.{eq-or-lt_of_le, mul-le-mul_left}
use borrow.Author.Tests.{leb-true, leb-false}
use Rattle.fields.specs.Choice.{pick}
use Rattle.sections.specs.Form.{root_from, section_for}

-- ---- the search from c on

-- it finds nothing below c
from-least : (k c e : ℕ) → c ≤ root_from k c e
unfolding root_from
from-least zero c e = omega arith
from-least (suc k) c e = go (leb e (c * c)) (from-least k (suc c) e)
  where
    go : (t : Bool) → suc c ≤ root_from k (suc c) e → c ≤ pick t c (root_from k (suc c) e)
    go true i = omega arith
    go false i = omega arith

-- where the last try is enough, so is what is found
from-enough : (k c e : ℕ) → e ≤ (c + k) * (c + k) → e ≤ root_from k c e * root_from k c e
unfolding root_from
from-enough zero c e h = let q : c + 0 ≡ c = omega arith in rw q at h
from-enough (suc k) c e h = go (leb e (c * c)) refl (from-enough k (suc c) e more)
  where
    more : e ≤ (suc c + k) * (suc c + k)
    more = let q : c + suc k ≡ suc c + k = omega arith in rw q at h

    go : (t : Bool) → leb e (c * c) ≡ t → e ≤ root_from k (suc c) e * root_from k (suc c) e
        → e ≤ pick t c (root_from k (suc c) e) * pick t c (root_from k (suc c) e)
    go true q i = leb-true e (c * c) q
    go false q i = i

-- and what was passed over was not
from-passed : (k c e x : ℕ) → c ≤ x → x < root_from k c e → x * x < e
unfolding root_from
from-passed zero c e x h l = absurd (omega arith)
from-passed (suc k) c e x h l = go (leb e (c * c)) refl (from-passed k (suc c) e x) l
  where
    go : (t : Bool) → leb e (c * c) ≡ t → (suc c ≤ x → x < root_from k (suc c) e → x * x < e) → x < pick t c (root_from k (suc c) e) → x * x < e
    go true q i l = absurd (omega arith)
    go false q i l = ⊎_elim (λ (z : c ≡ x). rw z at (leb-false e (c * c) q)) (λ (z : c < x). i z l) (eq-or-lt_of_le h)

-- ---- the entries of a section

pub root-some : (e : ℕ) → 1 ≤ section_for e
root-some e = from-least e 1 e

pub root-enough : (e : ℕ) → e ≤ section_for e * section_for e
root-enough e = from-enough e 1 e (omega (arith, mul-le-mul_left (1 + e) some))
  where
    some : 1 ≤ 1 + e
    some = omega arith

pub root-least : (e : ℕ) → 1 ≤ e → (c : ℕ) → c < section_for e → c * c < e
root-least e h zero l = omega arith
root-least e h (suc c) l = from-passed e 1 e (suc c) (omega arith) l

-- Of three entries or more a section has not all.
pub root_below : (e : ℕ) → 3 ≤ e → section_for e < e
root_below e h = go (leb e (section_for e)) refl
  where
    past : (k : ℕ) → e ≡ k + 3 → (k + 2) * (k + 2) < k + 3 → ⊥
    past k q l = let some : 2 ≤ k + 2 = omega arith in omega (arith, mul-le-mul_left (k + 2) some)

    go : (t : Bool) → leb e (section_for e) ≡ t → section_for e < e
    go false q = leb-false e (section_for e) q
    go true q = absurd (all (e - 3) (omega arith) (leb-true e (section_for e) q))
      where
        all : (k : ℕ) → e ≡ k + 3 → e ≤ section_for e → ⊥
        all k z l = let m : (k + 2) * (k + 2) < e = root-least e (omega arith) (k + 2) (omega arith) in past k z (omega arith)
