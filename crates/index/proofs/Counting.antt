-- How often a number stands in a list, and whether all numbers of a list are below a bound.
use Prim.Native.Nat.{ℕ, zero, suc, ◌+◌, ◌≤◌, ◌<◌}
use mathlib.Core.Path.{◌≡◌, refl, ◌∙◌, sym}
use mathlib.Core.Bool.{Bool, true, false}
use mathlib.Core.List.Memᴰ
use mathlib.Core.List.{List, [], ◌∷◌, ◌++◌, Memᴰ}
use mathlib.Core.Logic.{⊎_elim}
use lib.ListN.{length, get_or, take}
use lib.Dec.{eqb, ltb}
use native.Mathlib.Omega.{arith}
use native.Mathlib.Nat.{le_of_suc-le-suc, eq-or-lt_of_le}
use borrow.Author.Tests.{eqb-true, ltb-true, eq-eqb, ne_eqb}
use Rattle.fields.specs.Choice.{pick, both}
use Rattle.fields.specs.Lists.{every}
use Rattle.fields.proofs.Choices.{both-split}
use Rattle.fields.proofs.Lists.{every_append}
use Rattle.index.specs.Meaning.{count, below, once}

-- ---- how often

pub count_same : (k x : ℕ) (xs : List ℕ) → x ≡ k → count k (x ∷ xs) ≡ count k xs + 1
unfolding count
count_same k x xs e = rw (eq-eqb x k e)

pub count-other : (k x : ℕ) (xs : List ℕ) → (x ≡ k → ⊥) → count k (x ∷ xs) ≡ count k xs
unfolding count
count-other k x xs e = rw (ne_eqb x k e)

pub count_none : (k : ℕ) → count k [] ≡ 0
unfolding count
count_none k = refl

abbrev pub unit : ℕ → ℕ → ℕ
unit k x = pick (eqb x k) 1 0

pub count-cons : (k x : ℕ) (xs : List ℕ) → count k (x ∷ xs) ≡ unit k x + count k xs
unfolding count
count-cons k x xs = go (eqb x k)
  where
    go : (t : Bool) → pick t (count k xs + 1) (count k xs) ≡ pick t 1 0 + count k xs
    go true = omega arith
    go false = omega arith

pub count-append : (k : ℕ) (xs ys : List ℕ) → count k (xs ++ ys) ≡ count k xs + count k ys
count-append k [] ys = omega (arith, count_none k)
count-append k (x ∷ xs) ys = omega (arith, count-cons k x xs, count-cons k x (xs ++ ys), count-append k xs ys)

pub count-more : (k x : ℕ) (xs : List ℕ) → count k xs ≤ count k (x ∷ xs)
count-more k x xs = omega (arith, count-cons k x xs)

-- what stands in a list is counted
pub count-some : (k : ℕ) (xs : List ℕ) → Memᴰ k xs → 1 ≤ count k xs
count-some k [] i = absurd (Memᴰ.not-nil i)
count-some k (x ∷ xs) i =
    ⊎_elim (λ (e : k ≡ x). omega (arith, count_same k x xs (sym e)))
    (λ (j : Memᴰ k xs). omega (arith, count-some k xs j, count-more k x xs)) (Memᴰ.cases_cons i)

-- and what is counted stands there
pub count-among : (k : ℕ) (xs : List ℕ) → 1 ≤ count k xs → Memᴰ k xs
unfolding count
count-among k [] h = absurd (omega arith)
count-among k (x ∷ xs) h = go (eqb x k) refl (λ (l : 1 ≤ count k xs). count-among k xs l) h
  where
    go : (t : Bool) → eqb x k ≡ t → (1 ≤ count k xs → Memᴰ k xs) → 1 ≤ pick t (count k xs + 1) (count k xs) → Memᴰ k (x ∷ xs)
    go true e i l = Memᴰ.head (sym (eqb-true x k e))
    go false e i l = Memᴰ.tail (i l)

-- Where each number below n stands once, it is counted once.
pub once-each : (xs : List ℕ) (n k : ℕ) → once xs n ≡ true → k < n → count k xs ≡ 1
unfolding once
once-each xs zero k o h = absurd (omega arith)
once-each xs (suc n) k o h =
    let s = both-split (eqb (count n xs) 1) (once xs n) o in
    ⊎_elim (λ (e : k ≡ n). rw e (eqb-true (count n xs) 1 s.0)) (λ (l : k < n). once-each xs n k s.1 l) (eq-or-lt_of_le (le_of_suc-le-suc h))

-- ---- all below a bound

pub below-append : (n : ℕ) (xs ys : List ℕ) → below n (xs ++ ys) ≡ both (below n xs) (below n ys)
below-append n xs ys = every_append (λ (x : ℕ). ltb x n) xs ys

pub below_apart : (n x : ℕ) (xs : List ℕ) → below n (x ∷ xs) ≡ true → (x < n) × (below n xs ≡ true)
unfolding every
below_apart n x xs h =
    let s = both-split (ltb x n) (below n xs) h in
    (ltb-true x n s.0, s.1)

pub below_at : (n : ℕ) (xs : List ℕ) (i : ℕ) → below n xs ≡ true → i < length xs → get_or xs i 0 < n
unfolding every
below_at n [] i h l = absurd (omega arith)
below_at n (x ∷ xs) zero h l = ltb-true x n (both-split (ltb x n) (below n xs) h).0
below_at n (x ∷ xs) (suc i) h l = below_at n xs i (both-split (ltb x n) (below n xs) h).1 (omega arith)

pub below-take : (n k : ℕ) (xs : List ℕ) → below n xs ≡ true → below n (take k xs) ≡ true
unfolding every
below-take n zero xs h = refl
below-take n (suc k) [] h = refl
below-take n (suc k) (x ∷ xs) h =
    let s = both-split (ltb x n) (below n xs) h in
    rw s.0 (below-take n k xs s.1)

-- What is in a list of numbers below n is below n.
pub below-among : (n k : ℕ) (ks : List ℕ) → below n ks ≡ true → Memᴰ k ks → k < n
unfolding every
below-among n k [] b i = absurd (Memᴰ.not-nil i)
below-among n k (x ∷ ks) b i =
    let s = both-split (ltb x n) (below n ks) b in
    ⊎_elim (λ (e : k ≡ x). omega (arith, ltb-true x n s.0)) (λ (j : Memᴰ k ks). below-among n k ks s.1 j) (Memᴰ.cases_cons i)

-- A number that is not below the bound does not stand there.
pub count-out : (q n : ℕ) (xs : List ℕ) → below n xs ≡ true → n ≤ q → count q xs ≡ 0
count-out q n [] b h = unfold count in refl
count-out q n (x ∷ xs) b h =
    let s = below_apart n x xs b in
    count-other q x xs (omega (arith, s.0)) ∙ count-out q n xs s.1 h
