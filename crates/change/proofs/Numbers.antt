-- The buffer numbers of stores: ascending, exactly those stored, as many as the stores where none is stored twice; and an answer carries up to four of them.
use Prim.Native.Nat.{ℕ, zero, suc, ◌+◌, ◌*◌, ◌≤◌, ◌<◌}
use mathlib.Core.Path.{◌≡◌, refl, ◌∙◌, ap}
use mathlib.Core.Bool.{Bool, true, false}
use mathlib.Core.List.Memᴰ
use mathlib.Core.List.{List, [], ◌∷◌, Memᴰ}
use mathlib.Core.Logic.{◌⊎◌, inl, inr, ⊎_elim, ◌↔◌}
use lib.ListN.{length, get_or, get_or-eq_default}
use lib.Dec.{eqb, ltb}
use native.Mathlib.Omega.{arith}
use borrow.Author.Tests.{eqb-true, eqb-false, ltb-true, ltb-false, lt-ltb, le-ltb, ne_eqb}
use Rattle.fields.specs.Choice.{pick}
use Rattle.fields.specs.Bytes.{part}
use Rattle.change.specs.Stores.{Store, stored}
use Rattle.change.specs.Places.{places_of, Distinct}
use Rattle.change.specs.Written.{among, in_order, stored_numbers, Ascend, carrying, numbers_of}
use Rattle.change.proofs.Storing.{AllSized, stored_other}

-- ---- a number in its place

-- It is there, and so are the others, and no more.
among-either : (j k : ℕ) (xs : List ℕ) → Memᴰ j (among k xs) → (j ≡ k) ⊎ Memᴰ j xs
unfolding among
among-either j k [] i = Memᴰ.cases_cons i
among-either j k (x ∷ xs) i = go (ltb k x) (eqb k x) refl (among-either j k xs) i
  where
    go : (t u : Bool) → eqb k x ≡ u → (Memᴰ j (among k xs) → (j ≡ k) ⊎ Memᴰ j xs)
        → Memᴰ j (pick t (k ∷ x ∷ xs) (pick u (x ∷ xs) (x ∷ among k xs))) → (j ≡ k) ⊎ Memᴰ j (x ∷ xs)
    go true u e f i = Memᴰ.cases_cons i
    go false true e f i = inr i
    go false false e f i =
        ⊎_elim (λ (q : j ≡ x). inr (Memᴰ.head q))
        (λ (l : Memᴰ j (among k xs)). ⊎_elim (λ (q : j ≡ k). inl q) (λ (r : Memᴰ j xs). inr (Memᴰ.tail r)) (f l)) (Memᴰ.cases_cons i)

among-new : (k : ℕ) (xs : List ℕ) → Memᴰ k (among k xs)
unfolding among
among-new k [] = Memᴰ.head refl
among-new k (x ∷ xs) = go (ltb k x) (eqb k x) refl (among-new k xs)
  where
    go : (t u : Bool) → eqb k x ≡ u → Memᴰ k (among k xs) → Memᴰ k (pick t (k ∷ x ∷ xs) (pick u (x ∷ xs) (x ∷ among k xs)))
    go true u e f = Memᴰ.head refl
    go false true e f = Memᴰ.head (eqb-true k x e)
    go false false e f = Memᴰ.tail f

among-old : (j k : ℕ) (xs : List ℕ) → Memᴰ j xs → Memᴰ j (among k xs)
unfolding among
among-old j k [] i = Memᴰ.tail i
among-old j k (x ∷ xs) i = go (ltb k x) (eqb k x) (among-old j k xs)
  where
    go : (t u : Bool) → (Memᴰ j xs → Memᴰ j (among k xs)) → Memᴰ j (pick t (k ∷ x ∷ xs) (pick u (x ∷ xs) (x ∷ among k xs)))
    go true u f = Memᴰ.tail i
    go false true f = i
    go false false f = ⊎_elim (λ (q : j ≡ x). Memᴰ.head q) (λ (l : Memᴰ j xs). Memᴰ.tail (f l)) (Memᴰ.cases_cons i)

-- Ascending numbers ascend with it.
among-after : (x k : ℕ) (xs : List ℕ) → x < k → Ascend (x ∷ xs) → Ascend (x ∷ among k xs)
unfolding among
among-after x k [] h a = (h, tt)
among-after x k (y ∷ ys) h a = go (ltb k y) (eqb k y) refl refl (λ (l : y < k). among-after y k ys l a.1)
  where
    go : (t u : Bool) → ltb k y ≡ t → eqb k y ≡ u → (y < k → Ascend (y ∷ among k ys)) → Ascend (x ∷ pick t (k ∷ y ∷ ys) (pick u (y ∷ ys) (y ∷ among k ys)))
    go true u e f r = (h, (ltb-true k y e, a.1))
    go false true e f r = a
    go false false e f r = (a.0, r (omega (arith, ltb-false k y e, eqb-false k y f)))

among-ascends : (k : ℕ) (xs : List ℕ) → Ascend xs → Ascend (among k xs)
unfolding among
among-ascends k [] a = tt
among-ascends k (x ∷ xs) a = go (ltb k x) (eqb k x) refl refl
  where
    go : (t u : Bool) → ltb k x ≡ t → eqb k x ≡ u → Ascend (pick t (k ∷ x ∷ xs) (pick u (x ∷ xs) (x ∷ among k xs)))
    go true u e f = (ltb-true k x e, a)
    go false true e f = a
    go false false e f = among-after x k xs (omega (arith, ltb-false k x e, eqb-false k x f)) a

-- One that was not there makes them one more.
among-long : (k : ℕ) (xs : List ℕ) → (Memᴰ k xs → ⊥) → length (among k xs) ≡ suc (length xs)
unfolding among
among-long k [] d = refl
among-long k (x ∷ xs) d = go (ltb k x) (eqb k x) refl (among-long k xs (λ (i : Memᴰ k xs). d (Memᴰ.tail i)))
  where
    go : (t u : Bool) → eqb k x ≡ u → length (among k xs) ≡ suc (length xs) → length (pick t (k ∷ x ∷ xs) (pick u (x ∷ xs) (x ∷ among k xs))) ≡ suc (suc (length xs))
    go true u e f = refl
    go false true e f = absurd (d (Memᴰ.head (eqb-true k x e)))
    go false false e f = ap suc f

-- Before a greater one it stands in front of it, past a lower one among those behind.
pub among-front : (k x : ℕ) (xs : List ℕ) → k < x → among k (x ∷ xs) ≡ k ∷ x ∷ xs
unfolding among
among-front k x xs h = rw (lt-ltb k x h)

pub among-past : (k x : ℕ) (xs : List ℕ) → x < k → among k (x ∷ xs) ≡ x ∷ among k xs
unfolding among
among-past k x xs h = rw (le-ltb k x (omega arith), ne_eqb k x (omega arith))

pub among_none : (k : ℕ) → among k [] ≡ k ∷ []
unfolding among
among_none k = refl

-- ---- all in order

-- They are exactly those given,
pub order-among : (j : ℕ) (ks : List ℕ) → Memᴰ j (in_order ks) ↔ Memᴰ j ks
unfolding in_order
order-among j [] = (λ (i : Memᴰ j []). i, λ (i : Memᴰ j []). i)
order-among j (k ∷ ks) =
    let r = order-among j ks in (
      λ (i : Memᴰ j (among k (in_order ks))). ⊎_elim (λ (q : j ≡ k). Memᴰ.head q) (λ (l : Memᴰ j (in_order ks)). Memᴰ.tail (r.0 l)) (among-either j k (in_order ks) i),
      λ (i : Memᴰ j (k ∷ ks)). ⊎_elim (λ (q : j ≡ k). rw q (among-new k (in_order ks))) (λ (l : Memᴰ j ks). among-old j k (in_order ks) (r.1 l)) (Memᴰ.cases_cons i),
    )

-- ascend,
pub order-ascends : (ks : List ℕ) → Ascend (in_order ks)
unfolding in_order
order-ascends [] = tt
order-ascends (k ∷ ks) = among-ascends k (in_order ks) (order-ascends ks)

-- and are as many, where no two of those are the same.
pub order-long : (ks : List ℕ) → Distinct ks → length (in_order ks) ≡ length ks
unfolding in_order
order-long [] a = refl
order-long (k ∷ ks) a =
    among-long k (in_order ks) (λ (i : Memᴰ k (in_order ks)). a.0 ((order-among k ks).0 i)) ∙ ap suc (order-long ks a.1)

-- ---- what an answer carries

-- It carries up to four numbers as they are,
pub carried-back : (ks : List ℕ) → length ks ≤ 4 → numbers_of (carrying ks) ≡ ks
carried-back [] h = refl
carried-back (a ∷ []) h = refl
carried-back (a ∷ b ∷ []) h = refl
carried-back (a ∷ b ∷ c ∷ []) h = refl
carried-back (a ∷ b ∷ c ∷ d ∷ []) h = refl
carried-back (a ∷ b ∷ c ∷ d ∷ e ∷ ks) h = absurd (omega arith)

-- and 0 past them.
pub carried-padded : (ks : List ℕ) (i : ℕ) → length ks ≤ i → get_or (get_or ks 0 0 ∷ get_or ks 1 0 ∷ get_or ks 2 0 ∷ get_or ks 3 0 ∷ []) i 0 ≡ 0
carried-padded ks zero h = get_or-eq_default ks 0 h
carried-padded ks (suc zero) h = get_or-eq_default ks 0 h
carried-padded ks (suc (suc zero)) h = get_or-eq_default ks 0 h
carried-padded ks (suc (suc (suc zero))) h = get_or-eq_default ks 0 h
carried-padded ks (suc (suc (suc (suc i)))) h = refl

-- ---- the frame

-- Whatever whole intervals are stored, every interval whose number is not among those stored is byte for byte as it was.
pub stored-frame : (S n : ℕ) (area : List ℕ) (ss : List Store) → length area ≡ (n + 1) * S → AllSized S n ss
    → (k : ℕ) → (Memᴰ k (stored_numbers ss) → ⊥) → part (stored S area ss) (k * S) S ≡ part area (k * S) S
stored-frame S n area ss l z k d = stored_other S n area ss l z k (λ (i : Memᴰ k (places_of ss)). d ((order-among k (places_of ss)).1 i))
