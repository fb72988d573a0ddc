-- Laws of the common front.
use Prim.Native.Nat.{ℕ, suc, ◌+◌, ◌≤◌, ◌<◌}
use mathlib.Core.Path.{◌≡◌, refl, ◌∙◌, sym}
use mathlib.Core.Bool.{Bool, true, false}
use mathlib.Core.List.{List, [], ◌∷◌, ◌++◌}
use mathlib.Core.Logic.{◌⊎◌, inl, inr, ⊎_elim}
use lib.ListN.{length, get_or, take, drop, drop_of_length-le}
use lib.Seq.{drop-cons}
use lib.Dec.{eqb}
use native.Mathlib.Nat.{eq-or-lt_of_le}
use native.Mathlib.Omega.{arith}
use native.Mathlib.Numerals.{add-one}
use borrow.Author.Tests.{eqb-true, eqb-false, eq-eqb, ne_eqb, le-ltb, lt-ltb}
use Rattle.fields.specs.Choice.{pick}
use Rattle.fields.specs.Order.{order_of, common}
use Rattle.std.specs.declared.cmp.Ordering.TheVariants.{Less, Equal, Greater}
use Rattle.fields.proofs.Orders.{order-self}

pub common-left : (a b : List ℕ) → common a b ≤ length a
unfolding common
common-left [] b = omega arith
common-left (x ∷ a) [] = omega arith
common-left (x ∷ a) (y ∷ b) = go (eqb x y) (common-left a b)
  where
    go : (t : Bool) → common a b ≤ length a → pick t (suc (common a b)) 0 ≤ suc (length a)
    go true i = omega arith
    go false i = omega arith

pub common-right : (a b : List ℕ) → common a b ≤ length b
unfolding common
common-right [] b = omega arith
common-right (x ∷ a) [] = omega arith
common-right (x ∷ a) (y ∷ b) = go (eqb x y) (common-right a b)
  where
    go : (t : Bool) → common a b ≤ length b → pick t (suc (common a b)) 0 ≤ suc (length b)
    go true i = omega arith
    go false i = omega arith

-- the fronts are the same bytes
pub common-take : (a b : List ℕ) → take (common a b) a ≡ take (common a b) b
unfolding common
common-take [] b = refl
common-take (x ∷ a) [] = refl
common-take (x ∷ a) (y ∷ b) = go (eqb x y) refl (common-take a b)
  where
    go : (t : Bool) → eqb x y ≡ t → take (common a b) a ≡ take (common a b) b
        → take (pick t (suc (common a b)) 0) (x ∷ a) ≡ take (pick t (suc (common a b)) 0) (y ∷ b)
    go true e i = let q : x ≡ y = eqb-true x y e in rw (q, i)
    go false e i = refl

-- the order of two lists is that of what follows their common front
pub order-common : (a b : List ℕ) → order_of a b ≡ order_of (drop (common a b) a) (drop (common a b) b)
unfolding common
order-common [] b = refl
order-common (x ∷ a) [] = refl
order-common (x ∷ a) (y ∷ b) = go (eqb x y) refl (order-common a b)
  where
    go : (t : Bool) → eqb x y ≡ t → order_of a b ≡ order_of (drop (common a b) a) (drop (common a b) b)
        → order_of (x ∷ a) (y ∷ b) ≡ order_of (drop (pick t (suc (common a b)) 0) (x ∷ a)) (drop (pick t (suc (common a b)) 0) (y ∷ b))
    go true e i = let q : x ≡ y = eqb-true x y e in rw q (order-self y a b ∙ i)
    go false e i = refl

-- what stands right after it differs
pub common-differs : (a b : List ℕ) → common a b < length a → common a b < length b → get_or a (common a b) 0 ≡ get_or b (common a b) 0 → ⊥
unfolding common
common-differs [] b h k e = omega arith
common-differs (x ∷ a) [] h k e = omega arith
common-differs (x ∷ a) (y ∷ b) h k e = go (eqb x y) refl (common-differs a b) h k e
  where
    go : (t : Bool) → eqb x y ≡ t → (common a b < length a → common a b < length b → get_or a (common a b) 0 ≡ get_or b (common a b) 0 → ⊥)
        → pick t (suc (common a b)) 0 < suc (length a) → pick t (suc (common a b)) 0 < suc (length b)
        → get_or (x ∷ a) (pick t (suc (common a b)) 0) 0 ≡ get_or (y ∷ b) (pick t (suc (common a b)) 0) 0 → ⊥
    go true q i h k e = i (omega arith) (omega arith) e
    go false q i h k e = eqb-false x y q e

-- nothing is in common with nothing
pub common-none : (a : List ℕ) → common a [] ≡ 0
unfolding common
common-none [] = refl
common-none (x ∷ a) = refl

-- the front from place i on: one byte more, or its end
module _ (a b : List ℕ) (i : ℕ) where
  pub front-more : i < length a → i < length b → get_or a i 0 ≡ get_or b i 0 → common (drop i a) (drop i b) ≡ suc (common (drop (i + 1) a) (drop (i + 1) b))
  unfolding common
  front-more h k e = rw (add-one, drop-cons a i 0, drop-cons b i 0, eq-eqb (get_or a i 0) (get_or b i 0) e)

  pub front-differs : i < length a → i < length b → (get_or a i 0 ≡ get_or b i 0 → ⊥) → common (drop i a) (drop i b) ≡ 0
  unfolding common
  front-differs h k e = rw (drop-cons a i 0, drop-cons b i 0, ne_eqb (get_or a i 0) (get_or b i 0) e)

  pub front_ends : (i ≡ length a) ⊎ (i ≡ length b) → common (drop i a) (drop i b) ≡ 0
  unfolding common
  front_ends (inl e) = let h : length a ≤ i = omega arith in rw (drop_of_length-le a)
  front_ends (inr e) = let h : length b ≤ i = omega arith in rw (drop_of_length-le b) (common-none (drop i a))

-- what the byte after the common front decides
module _ (a b : List ℕ) (i : ℕ) (front : i ≡ common a b) where
  ordered : order_of a b ≡ order_of (drop i a) (drop i b)
  ordered = rw front (order-common a b)

  pub order-ends : length a ≤ i → length b ≤ i → order_of a b ≡ Equal
  unfolding order_of
  order-ends h k = ordered ∙ rw (drop_of_length-le a, drop_of_length-le b)

  pub order-shorter : length a ≤ i → i < length b → order_of a b ≡ Less
  unfolding order_of
  order-shorter h k = ordered ∙ rw (drop-cons b i 0, drop_of_length-le a)

  pub order-longer : i < length a → length b ≤ i → order_of a b ≡ Greater
  unfolding order_of
  order-longer h k = ordered ∙ rw (drop-cons a i 0, drop_of_length-le b)

  pub order-lower : i < length a → i < length b → get_or a i 0 < get_or b i 0 → order_of a b ≡ Less
  unfolding order_of
  order-lower h k l = ordered ∙ rw (drop-cons a i 0, drop-cons b i 0, lt-ltb (get_or a i 0) (get_or b i 0) l)

  pub order-higher : i < length a → i < length b → get_or b i 0 ≤ get_or a i 0 → order_of a b ≡ Greater
  unfolding order_of
  order-higher h k l =
      let n : get_or a i 0 ≡ get_or b i 0 → ⊥ = rw (← front) at (common-differs a b) (omega arith) (omega arith) in
      let g : get_or b i 0 < get_or a i 0 = ⊎_elim (λ (e : get_or b i 0 ≡ get_or a i 0). absurd (n (sym e))) (λ (e : get_or b i 0 < get_or a i 0). e) (eq-or-lt_of_le l) in
      ordered ∙ rw (drop-cons a i 0, drop-cons b i 0, le-ltb (get_or a i 0) (get_or b i 0) l, lt-ltb (get_or b i 0) (get_or a i 0) g)

-- what two lists begin with alike, and what they have in common behind it
pub common-prefix : (xs a b : List ℕ) → common (xs ++ a) (xs ++ b) ≡ length xs + common a b
unfolding common
common-prefix [] a b = omega arith
common-prefix (x ∷ xs) a b = rw (eq-eqb x x refl) (omega (arith, common-prefix xs a b))
