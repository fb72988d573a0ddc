-- Laws of the search for the number of entries that a section has: c goes up from 1 while its square is less than the number of all entries.
use Prim.Native.Nat.{ℕ, zero, suc, ◌+◌, ◌*◌, ◌≤◌, ◌<◌}
use mathlib.Core.Path.{◌≡◌}
use mathlib.Core.Logic.{⊎_elim}
use native.Mathlib.Omega.{arith}
use native.Mathlib.Nat.{eq-or-lt_of_le, mul-le-mul}
use Rattle.sections.specs.Form.{root_from, section_for}
use Rattle.sections.proofs.Roots.{root-some, root-enough, root-least}

-- where the search stands: not past the number that is sought
pub record Sought (count c : ℕ) : Type 0 where
  pub some : 1 ≤ c
  pub most : c ≤ 256
  pub short : c ≤ section_for count

pub sought-first : (count : ℕ) → Sought count 1
sought-first count = record { some = omega arith; most = omega arith; short = root-some count }

-- the square of what is tried is small
pub square-small : (c : ℕ) → c ≤ 256 → c * c ≤ 65536
square-small c h = mul-le-mul h h

pub sought-next : (count c : ℕ) → c < 256 → Sought count c → c * c < count → Sought count (c + 1)
sought-next count c h s l =
    record {
      some = omega arith;
      most = omega arith;
      short = ⊎_elim (λ (z : c ≡ section_for count). absurd (same z)) (λ (z : c < section_for count). omega arith) (eq-or-lt_of_le s.short);
    }
  where
    same : c ≡ section_for count → ⊥
    same z = let e : count ≤ c * c = rw z (root-enough count) in omega arith

-- where the square is no less, it is found
pub sought-found : (count c : ℕ) → Sought count c → count ≤ c * c → c ≡ section_for count
unfolding root_from
sought-found zero c s h = omega (arith, s.some, s.short)
sought-found (suc n) c s h =
    ⊎_elim (λ (z : c ≡ section_for (suc n)). z) (λ (z : c < section_for (suc n)). absurd (omega (arith, root-least (suc n) (omega arith) c z))) (eq-or-lt_of_le s.short)

-- and 256 is, where no number below is
pub sought-last : (count c : ℕ) → count ≤ 65536 → Sought count c → 256 ≤ c → 256 ≡ section_for count
sought-last count c few s h = sought-found count 256 (record { some = omega arith; most = omega arith; short = omega (arith, s.short) }) few
