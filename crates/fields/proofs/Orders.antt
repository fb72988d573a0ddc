-- Laws of the order of byte lists.
use Prim.Native.Nat.{ℕ, ◌<◌}
use mathlib.Core.Path.{◌≡◌, refl, ◌∙◌, sym, ap}
use mathlib.Core.Bool.{Bool, true, false, cond}
use mathlib.Core.List.{List, [], ◌∷◌, ◌++◌}
use mathlib.Core.Logic.{◌⊎◌, inl, inr, ⊎_elim}
use lib.ListN.{length}
use lib.Dec.{ltb, eqb}
use native.Mathlib.Omega.{arith}
use borrow.Author.Tests.{ltb-true, ltb-false, lt-ltb, le-ltb, eqb-true, eqb-false}
use Rattle.std.specs.declared.cmp.Ordering.{Ordering}
use Rattle.std.specs.declared.cmp.Ordering.TheVariants.{Less, Equal, Greater}
use Rattle.std.specs.Ordering.{ordering_then, nat_cmp}
use Rattle.std.specs.Cmp.Lexicographic.{slice_cmp}
use Rattle.fields.specs.Choice.{pick}
use Rattle.fields.specs.Order.{order_of, is_less, less, flip}
use Rattle.fields.proofs.Choices.{false-true, off}

-- the first difference decides: the order of two lists, then that of what follows them
abbrev pub and_then : Ordering → Ordering → Ordering
and_then o p = ordering_then o p

-- the order of byte lists is that of the library's slices
pub order-slices : (a b : List ℕ) → order_of a b ≡ slice_cmp nat_cmp a b
unfolding order_of
order-slices [] [] = refl
order-slices [] (y ∷ b) = refl
order-slices (x ∷ a) [] = refl
order-slices (x ∷ a) (y ∷ b) = go (ltb x y) (ltb y x) (eqb x y) refl refl refl (order-slices a b)
  where
    go : (s t u : Bool) → ltb x y ≡ s → ltb y x ≡ t → eqb x y ≡ u → order_of a b ≡ slice_cmp nat_cmp a b
        → pick s Less (pick t Greater (order_of a b)) ≡ ordering_then (cond s Less (cond u Equal Greater)) (slice_cmp nat_cmp a b)
    go true t u d e f i = refl
    go false true true d e f i = absurd (omega (arith, ltb-true y x e, eqb-true x y f))
    go false true false d e f i = refl
    go false false true d e f i = i
    go false false false d e f i = absurd (eqb-false x y f (omega (arith, ltb-false x y d, ltb-false y x e)))

pub order-self : (x : ℕ) (a b : List ℕ) → order_of (x ∷ a) (x ∷ b) ≡ order_of a b
unfolding order_of
order-self x a b = rw (le-ltb x x (omega arith))

pub order-prefix : (xs a b : List ℕ) → order_of (xs ++ a) (xs ++ b) ≡ order_of a b
order-prefix [] a b = refl
order-prefix (x ∷ xs) a b = order-self x (xs ++ a) (xs ++ b) ∙ order-prefix xs a b

pub order-refl : (a : List ℕ) → order_of a a ≡ Equal
unfolding order_of
order-refl [] = refl
order-refl (x ∷ a) = order-self x a a ∙ order-refl a

pub order-front : (a b a' b' : List ℕ) → length a ≡ length b → order_of (a ++ a') (b ++ b') ≡ and_then (order_of a b) (order_of a' b')
unfolding order_of
order-front [] [] a' b' h = refl
order-front [] (y ∷ b) a' b' h = absurd (omega arith)
order-front (x ∷ a) [] a' b' h = absurd (omega arith)
order-front (x ∷ a) (y ∷ b) a' b' h = go (ltb x y) (ltb y x) (order-front a b a' b' (omega arith))
  where
    go : (s t : Bool) → order_of (a ++ a') (b ++ b') ≡ and_then (order_of a b) (order_of a' b')
        → pick s Less (pick t Greater (order_of (a ++ a') (b ++ b'))) ≡ and_then (pick s Less (pick t Greater (order_of a b))) (order_of a' b')
    go true t i = refl
    go false true i = refl
    go false false i = i

pub order_flip : (a b : List ℕ) → order_of b a ≡ flip (order_of a b)
unfolding order_of
order_flip [] [] = refl
order_flip [] (y ∷ b) = refl
order_flip (x ∷ a) [] = refl
order_flip (x ∷ a) (y ∷ b) = go (ltb x y) (ltb y x) refl refl (order_flip a b)
  where
    go : (s t : Bool) → ltb x y ≡ s → ltb y x ≡ t → order_of b a ≡ flip (order_of a b)
        → pick t Less (pick s Greater (order_of b a)) ≡ flip (pick s Less (pick t Greater (order_of a b)))
    go true true e f i = absurd (omega (arith, ltb-true x y e, ltb-true y x f))
    go true false e f i = refl
    go false true e f i = refl
    go false false e f i = i

-- total: neither is below the other only where they are the same list
pub order_same : (a b : List ℕ) → order_of a b ≡ Equal → a ≡ b
unfolding order_of
order_same [] [] h = refl
order_same [] (y ∷ b) h = absurd (let z : ◌≡◌ {A = ℕ} 0 1 = cc in omega arith)
order_same (x ∷ a) [] h = absurd (let z : ◌≡◌ {A = ℕ} 0 1 = cc in omega arith)
order_same (x ∷ a) (y ∷ b) h = go (ltb x y) (ltb y x) refl refl (λ k. order_same a b k) h
  where
    go : (s t : Bool) → ltb x y ≡ s → ltb y x ≡ t → (order_of a b ≡ Equal → a ≡ b) → pick s Less (pick t Greater (order_of a b)) ≡ Equal → x ∷ a ≡ y ∷ b
    go true t e f i k = absurd (let z : ◌≡◌ {A = ℕ} 0 1 = cc in omega arith)
    go false true e f i k = absurd (let z : ◌≡◌ {A = ℕ} 0 1 = cc in omega arith)
    go false false e f i k =
        let q : x ≡ y = omega (arith, ltb-false x y e, ltb-false y x f) in
        let r : a ≡ b = i k in
        cc

less-flip : (o : Ordering) → is_less o ≡ true → is_less (flip o) ≡ false
less-flip Less h = refl
less-flip Equal h = refl
less-flip Greater h = absurd (false-true h)

pub less-asym : (a b : List ℕ) → less a b ≡ true → less b a ≡ false
less-asym a b h = ap is_less (order_flip a b) ∙ less-flip (order_of a b) h

not-either : (o : Ordering) → is_less o ≡ false → is_less (flip o) ≡ false → o ≡ Equal
not-either Less h k = absurd (false-true (sym h))
not-either Equal h k = refl
not-either Greater h k = absurd (false-true (sym k))

pub less-total : (a b : List ℕ) → less a b ≡ false → less b a ≡ false → a ≡ b
less-total a b h k = order_same a b (not-either (order_of a b) h (sym (ap is_less (order_flip a b)) ∙ k))

pub less-irrefl : (a : List ℕ) → less a a ≡ false
less-irrefl a = ap is_less (order-refl a)

pub less-order : (o : Ordering) → is_less o ≡ true → o ≡ Less
less-order Less h = refl
less-order Equal h = absurd (false-true h)
less-order Greater h = absurd (false-true h)

-- one byte more: less, and not less
pub less-inv : (x y : ℕ) (a b : List ℕ) → less (x ∷ a) (y ∷ b) ≡ true → (x < y) ⊎ ((x ≡ y) × (less a b ≡ true))
unfolding order_of
less-inv x y a b = go (ltb x y) (ltb y x) refl refl
  where
    go : (s t : Bool) → ltb x y ≡ s → ltb y x ≡ t → is_less (pick s Less (pick t Greater (order_of a b))) ≡ true → (x < y) ⊎ ((x ≡ y) × (less a b ≡ true))
    go true t e f h = inl (ltb-true x y e)
    go false true e f h = absurd (false-true h)
    go false false e f h =
        let q : x ≡ y = omega (arith, ltb-false x y e, ltb-false y x f) in
        inr (q, h)

pub not-less-inv : (x y : ℕ) (a b : List ℕ) → less (x ∷ a) (y ∷ b) ≡ false → (y < x) ⊎ ((x ≡ y) × (less a b ≡ false))
unfolding order_of
not-less-inv x y a b = go (ltb x y) (ltb y x) refl refl
  where
    go : (s t : Bool) → ltb x y ≡ s → ltb y x ≡ t → is_less (pick s Less (pick t Greater (order_of a b))) ≡ false → (y < x) ⊎ ((x ≡ y) × (less a b ≡ false))
    go true t e f h = absurd (false-true (sym h))
    go false true e f h = inl (ltb-true y x f)
    go false false e f h =
        let q : x ≡ y = omega (arith, ltb-false x y e, ltb-false y x f) in
        inr (q, h)

pub less-lt : (x y : ℕ) (a b : List ℕ) → x < y → less (x ∷ a) (y ∷ b) ≡ true
unfolding order_of
less-lt x y a b h = rw (lt-ltb x y h)

pub less-eq : (x y : ℕ) (a b : List ℕ) → x ≡ y → less (x ∷ a) (y ∷ b) ≡ less a b
less-eq x y a b h = rw h (ap is_less (order-self y a b))

-- a at most b, b below c
pub le-less : (a b c : List ℕ) → less b a ≡ false → less b c ≡ true → less a c ≡ true
unfolding order_of
le-less a [] [] h k = absurd (false-true k)
le-less a (y ∷ b) [] h k = absurd (false-true k)
le-less [] b (z ∷ c) h k = refl
le-less (x ∷ a) [] (z ∷ c) h k = absurd (false-true (sym h))
le-less (x ∷ a) (y ∷ b) (z ∷ c) h k =
    ⊎_elim
    (λ (l : x < y). ⊎_elim (λ (m : y < z). less-lt x z a c (omega arith)) (λ (m : (y ≡ z) × (less b c ≡ true)). less-lt x z a c (omega (arith, m.0))) (less-inv y z b c k))
    (λ (l : (y ≡ x) × (less b a ≡ false)). ⊎_elim (λ (m : y < z). less-lt x z a c (omega (arith, l.0)))
    (λ (m : (y ≡ z) × (less b c ≡ true)). less-eq x z a c (omega (arith, l.0, m.0)) ∙ le-less a b c l.1 m.1) (less-inv y z b c k))
    (not-less-inv y x b a h)

-- a below b, b at most c
pub less-le : (a b c : List ℕ) → less a b ≡ true → less c b ≡ false → less a c ≡ true
unfolding order_of
less-le [] [] c h k = absurd (false-true h)
less-le (x ∷ a) [] c h k = absurd (false-true h)
less-le a (y ∷ b) [] h k = absurd (false-true (sym k))
less-le [] (y ∷ b) (z ∷ c) h k = refl
less-le (x ∷ a) (y ∷ b) (z ∷ c) h k =
    ⊎_elim
    (λ (l : x < y). ⊎_elim (λ (m : y < z). less-lt x z a c (omega arith)) (λ (m : (z ≡ y) × (less c b ≡ false)). less-lt x z a c (omega (arith, m.0))) (not-less-inv z y c b k))
    (λ (l : (x ≡ y) × (less a b ≡ true)). ⊎_elim (λ (m : y < z). less-lt x z a c (omega (arith, l.0)))
    (λ (m : (z ≡ y) × (less c b ≡ false)). less-eq x z a c (omega (arith, l.0, m.0)) ∙ less-le a b c l.1 m.1) (not-less-inv z y c b k))
    (less-inv x y a b h)

-- transitive
pub less-trans : (a b c : List ℕ) → less a b ≡ true → less b c ≡ true → less a c ≡ true
less-trans a b c h k = le-less a b c (less-asym a b h) k

-- what is below something at most b is at most b
pub at_most : (b x y : List ℕ) → less x y ≡ true → less b y ≡ false → less b x ≡ false
at_most b x y l h = off (less b x) (λ (e : less b x ≡ true). false-true (sym h ∙ less-trans b x y e l))
