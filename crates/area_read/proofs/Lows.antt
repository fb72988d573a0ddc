-- The lowest unsound number, met one after another.
use Prim.Native.Nat.{ℕ, zero, suc, ◌+◌, ◌-◌, ◌*◌, ◌≤◌, ◌<◌, min}
use mathlib.Core.Path.{◌≡◌, refl, ◌∙◌, sym, ap}
use mathlib.Core.Bool.{Bool, true, false}
use mathlib.Core.List.{List, [], ◌∷◌, ◌++◌}
use lib.ListN.{length}
use lib.Dec.{ltb}
use native.Mathlib.Omega.{arith}
use borrow.Author.Tests.{ltb-true}
use Rattle.fields.specs.Choice.{pick}
use Rattle.fields.specs.Bytes.{number}
use Rattle.fields.specs.Lists.{every}
use Rattle.fields.proofs.Choices.{both-split}
use Rattle.fields.proofs.Numbers.{one_less}
use Rattle.measures.specs.declared.Measures.{Measures}
use Rattle.interval.specs.Role.{sound_free}
use Rattle.index.specs.Meaning.{below}
use Rattle.index.specs.Reading.{numbers_at}
use Rattle.area.specs.Content.{data_in}
use Rattle.area.specs.Soundness.{unsound_free, lowest}

-- one number met: it may be the lowest
pub lowest-met : (n k : ℕ) (ks : List ℕ) → lowest n (k ∷ ks) ≡ lowest (min k n) ks
unfolding lowest
lowest-met n k [] = refl
lowest-met n k (x ∷ xs) = rw (← lowest-met n k xs) (swap x k (lowest n xs))
  where
    swap : (a b c : ℕ) → min b (min a c) ≡ min a (min b c)
    swap a b c = omega arith

-- first some, then others
pub lowest-append : (n : ℕ) (xs ys : List ℕ) → lowest n (xs ++ ys) ≡ lowest (lowest n xs) ys
lowest-append n [] ys = unfold lowest in refl
lowest-append n (x ∷ xs) ys = lowest-met n x (xs ++ ys) ∙ lowest-append (min x n) xs ys ∙ ap (λ (k : ℕ). lowest k ys) (sym (lowest-met n x xs))

-- none below n: then, of numbers that are below n, there is none at all
pub none-low : (n w : ℕ) (ks : List ℕ) → below n ks ≡ true → n ≤ lowest w ks → ks ≡ []
unfolding lowest every
none-low n w [] b h = refl
none-low n w (k ∷ ks) b h =
    let s = both-split (ltb k n) (below n ks) b in
    let l = ltb-true k n s.0 in
    absurd (omega arith)

-- one free number more
free-cons : (m : Measures) (area : List ℕ) (worst k : ℕ) (ks : List ℕ)
    → lowest worst (unsound_free m area (k ∷ ks)) ≡ lowest (pick (sound_free m (data_in m area k)) worst (min k worst)) (unsound_free m area ks)
unfolding unsound_free
free-cons m area worst k ks = go (sound_free m (data_in m area k))
  where
    go : (b : Bool) → lowest worst (pick b (unsound_free m area ks) (k ∷ unsound_free m area ks)) ≡ lowest (pick b worst (min k worst)) (unsound_free m area ks)
    go true = refl
    go false = lowest-met worst k (unsound_free m area ks)

-- ---- the free numbers, of w bytes each

numbers_more : (w : ℕ) (ib : List ℕ) (at left : ℕ) → 0 < left → numbers_at w ib at left ≡ number w ib at ∷ numbers_at w ib (at + w) (left - 1)
unfolding numbers_at
numbers_more w ib at zero h = absurd (omega arith)
numbers_more w ib at (suc left) h = let e : suc left - 1 ≡ left = omega arith in rw e

-- How far the look at the free intervals has come: the numbers left lie from place `at` on, within the record, and each is below n. The lowest of n and
-- the unsound ones of all the free numbers is the lowest of `worst` and the unsound ones of those left.
pub record Looking (m : Measures) (n : ℕ) (area ib : List ℕ) (w free worst at left : ℕ) : Type 0 where
  pub lie : at + w * left ≤ length ib
  pub small : below n (numbers_at w ib at left) ≡ true
  pub same : lowest n (unsound_free m area (numbers_at w ib 24 free)) ≡ lowest worst (unsound_free m area (numbers_at w ib at left))

module _ (m : Measures) (n : ℕ) (area ib : List ℕ) (w free : ℕ) where
  pub look-start : 24 + w * free ≤ length ib → below n (numbers_at w ib 24 free) ≡ true → Looking m n area ib w free n 24 free
  look-start l b = record { lie = l; small = b; same = refl }

  -- all were looked at
  pub looked : (worst at left : ℕ) → Looking m n area ib w free worst at left → left ≡ 0 → worst ≡ lowest n (unsound_free m area (numbers_at w ib 24 free))
  unfolding numbers_at lowest unsound_free
  looked worst at left s e = sym (s.same ∙ rw e)

  -- one number more
  module _ (worst at left : ℕ) (s : Looking m n area ib w free worst at left) (more : 0 < left) where
    pub look-room : at + w ≤ length ib
    look-room = omega (arith, s.lie, one_less w left more)

    apart : (ltb (number w ib at) n ≡ true) × (below n (numbers_at w ib (at + w) (left - 1)) ≡ true)
    unfolding every
    apart = both-split (ltb (number w ib at) n) (below n (numbers_at w ib (at + w) (left - 1))) (rw (numbers_more w ib at left more) at s.small)

    -- it is one of the area's
    pub look-here : number w ib at < n
    look-here = ltb-true (number w ib at) n apart.0

    -- the number k was read, its interval judged; the next number stands v places on
    pub look-on : (v k low : ℕ) (ok : Bool) → v ≡ w → k ≡ number w ib at → ok ≡ sound_free m (data_in m area k) → low ≡ pick ok worst (min k worst)
        → Looking m n area ib w free low (at + v) (left - 1)
    look-on v k low ok e r j l =
        rw (e, l, j, r)
        (record {
          lie = omega (arith, s.lie, one_less w left more);
          small = apart.1;
          same = s.same ∙ rw (numbers_more w ib at left more) (free-cons m area worst (number w ib at) (numbers_at w ib (at + w) (left - 1)));
        })
