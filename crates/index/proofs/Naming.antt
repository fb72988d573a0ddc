-- Naming by counts: where each number below n is named once, and no other, there are n of them; and a free number may go to an entry.
use Prim.Native.Nat.{ℕ, zero, suc, ◌+◌, ◌≤◌, ◌<◌}
use mathlib.Core.Path.{◌≡◌, refl, ◌∙◌, sym}
use mathlib.Core.Bool.{Bool, true, false}
use mathlib.Core.List.{List, [], ◌∷◌, ◌++◌}
use mathlib.Core.Logic.{⊎_elim}
use lib.ListN.{length, length-append}
use lib.Dec.{eqb, ltb}
use native.Mathlib.Omega.{arith}
use native.Mathlib.Nat.{not-suc-le-zero, le_of_suc-le-suc, eq-or-lt_of_le}
use borrow.Author.Tests.{eqb-true, eq-eqb, ltb-true}
use Rattle.fields.specs.Choice.{both}
use Rattle.fields.specs.Lists.{every}
use Rattle.fields.proofs.Choices.{both-split}
use Rattle.index.specs.Meaning.{Entry, Meaning, numbers, named, count, below, once, named_once}
use Rattle.index.proofs.Counting.{count_same, count-other, count_none, count-cons, count-append, below-append, once-each}

-- the counts of all numbers below n, added up
unfoldable count_to : List ℕ → ℕ → ℕ
count_to xs zero = 0
count_to xs (suc k) = count k xs + count_to xs k

count_to-nil : (n : ℕ) → count_to [] n ≡ 0
unfolding count_to count
count_to-nil zero = refl
count_to-nil (suc n) = omega (arith, count_to-nil n)

count_to-out : (x : ℕ) (xs : List ℕ) (n : ℕ) → n ≤ x → count_to (x ∷ xs) n ≡ count_to xs n
unfolding count_to
count_to-out x xs zero h = refl
count_to-out x xs (suc n) h = rw (count_to-out x xs n (omega arith), count-other n x xs (omega arith))

count_to-cons : (x : ℕ) (xs : List ℕ) (n : ℕ) → x < n → count_to (x ∷ xs) n ≡ suc (count_to xs n)
unfolding count_to
count_to-cons x xs zero h = absurd (not-suc-le-zero h)
count_to-cons x xs (suc n) h = ⊎_elim (λ (p : x ≡ n). same p) (λ (l : x < n). other l (count_to-cons x xs n l)) (eq-or-lt_of_le (le_of_suc-le-suc h))
  where
    same : x ≡ n → count n (x ∷ xs) + count_to (x ∷ xs) n ≡ suc (count n xs + count_to xs n)
    same p = rw (count_same n x xs p, count_to-out x xs n (omega arith)) (omega arith)

    other : x < n → count_to (x ∷ xs) n ≡ suc (count_to xs n) → count n (x ∷ xs) + count_to (x ∷ xs) n ≡ suc (count n xs + count_to xs n)
    other l i = rw (count-other n x xs (omega arith), i) (omega arith)

below-count_to : (n : ℕ) (xs : List ℕ) → below n xs ≡ true → count_to xs n ≡ length xs
unfolding every
below-count_to n [] e = count_to-nil n
below-count_to n (x ∷ xs) e =
    let s = both-split (ltb x n) (below n xs) e in
    count_to-cons x xs n (ltb-true x n s.0) ∙ rw (below-count_to n xs s.1)

once-count_to : (xs : List ℕ) (n : ℕ) → once xs n ≡ true → count_to xs n ≡ n
unfolding once count_to
once-count_to xs zero e = refl
once-count_to xs (suc n) e =
    let s = both-split (eqb (count n xs) 1) (once xs n) e in
    rw (once-count_to xs n s.1, eqb-true (count n xs) 1 s.0) (omega arith)

count_to-most : (xs : List ℕ) (n : ℕ) → ((k : ℕ) → count k xs ≤ 1) → count_to xs n ≤ n
unfolding count_to
count_to-most xs zero h = omega arith
count_to-most xs (suc n) h = omega (arith, h n, count_to-most xs n h)

once_by : (xs : List ℕ) (n : ℕ) → ((k : ℕ) → count k xs ≤ 1) → count_to xs n ≡ n → once xs n ≡ true
unfolding once count_to
once_by xs zero h e = refl
once_by xs (suc n) h e =
    let most : count_to xs n ≤ n = count_to-most xs n h in
    let one : count n xs ≡ 1 = omega (arith, h n) in
    rw (eq-eqb (count n xs) 1 one, once_by xs n h (omega arith))

-- THE PIGEONHOLE: of n numbers below n, none of which stands there twice, each stands there once.
pub all_named : (n : ℕ) (xs : List ℕ) → below n xs ≡ true → length xs ≡ n → ((k : ℕ) → count k xs ≤ 1) → once xs n ≡ true
all_named n xs b e h = once_by xs n h (below-count_to n xs b ∙ e)

-- Where each number below n is named once, and no other, as many numbers occur as there are intervals.
pub named-length : (n : ℕ) (xs : List ℕ) → named_once n xs ≡ true → length xs ≡ n
unfolding named_once
named-length n xs e =
    let s = both-split (below n xs) (once xs n) e in
    sym (below-count_to n xs s.0) ∙ once-count_to xs n s.1

pub length-numbers : (es : List Entry) → length (numbers es) ≡ length es
length-numbers [] = refl
length-numbers (e ∷ es) = rw (length-numbers es)

-- Free numbers and entries are together as many as there are intervals.
pub free-and-used : (n : ℕ) (m : Meaning) → named_once n (named m) ≡ true → length m.free + length m.entries ≡ n
free-and-used n m e = omega (arith, named-length n (named m) e, length-append m.free (numbers m.entries), length-numbers m.entries)

-- and each of them is below n
pub named-below : (n : ℕ) (xs : List ℕ) → named_once n xs ≡ true → below n xs ≡ true
unfolding named_once
named-below n xs e = (both-split (below n xs) (once xs n) e).0

-- Free numbers and those of the entries are below n.
pub both_below : (n : ℕ) (m : Meaning) → named_once n (named m) ≡ true → (below n m.free ≡ true) × (below n (numbers m.entries) ≡ true)
both_below n m e =
    both-split (below n m.free) (below n (numbers m.entries)) (sym (below-append n m.free (numbers m.entries)) ∙ named-below n (named m) e)

-- Each number below n is counted once.
pub named-each : (n : ℕ) (xs : List ℕ) (k : ℕ) → named_once n xs ≡ true → k < n → count k xs ≡ 1
unfolding named_once
named-each n xs k e h = once-each xs n k (both-split (below n xs) (once xs n) e).1 h

-- ---- a number goes from the free ones to the entries

once-same : (xs ys : List ℕ) (n : ℕ) → ((k : ℕ) → count k xs ≡ count k ys) → once xs n ≡ once ys n
unfolding once
once-same xs ys zero h = refl
once-same xs ys (suc n) h = rw (h n, once-same xs ys n h)

module _ (free pre post : List ℕ) (a x : ℕ) where
  same-counts : (k : ℕ) → count k ((free ++ (a ∷ [])) ++ (pre ++ (x ∷ post))) ≡ count k (free ++ (pre ++ (x ∷ a ∷ post)))
  same-counts k =
      omega (
        arith,
        count-append k (free ++ (a ∷ [])) (pre ++ (x ∷ post)),
        count-append k free (a ∷ []),
        count-append k pre (x ∷ post),
        count-append k free (pre ++ (x ∷ a ∷ post)),
        count-append k pre (x ∷ a ∷ post),
        count-cons k a [],
        count_none k,
        count-cons k x post,
        count-cons k x (a ∷ post),
        count-cons k a post,
      )

  same-below : (n : ℕ) → below n ((free ++ (a ∷ [])) ++ (pre ++ (x ∷ post))) ≡ below n (free ++ (pre ++ (x ∷ a ∷ post)))
  unfolding every
  same-below n =
      rw (
        below-append n (free ++ (a ∷ [])) (pre ++ (x ∷ post)),
        below-append n free (a ∷ []),
        below-append n pre (x ∷ post),
        below-append n free (pre ++ (x ∷ a ∷ post)),
        below-append n pre (x ∷ a ∷ post),
      ) (inner n)
    where
      go : (f l p y q : Bool) → both (both f (both l true)) (both p (both y q)) ≡ both f (both p (both y (both l q)))
      go false l p y q = refl
      go true true p y q = refl
      go true false true true q = refl
      go true false true false q = refl
      go true false false y q = refl

      inner : (n : ℕ) → both (both (below n free) (below n (a ∷ []))) (both (below n pre) (below n (x ∷ post))) ≡ both (below n free) (both (below n pre) (below n (x ∷ a ∷ post)))
      inner n = go (below n free) (ltb a n) (below n pre) (ltb x n) (below n post)

  -- The rightmost free number a goes to the entry after the one that keeps x: each number is still named as often.
  pub named-insert : (n : ℕ) → named_once n ((free ++ (a ∷ [])) ++ (pre ++ (x ∷ post))) ≡ named_once n (free ++ (pre ++ (x ∷ a ∷ post)))
  unfolding named_once
  named-insert n = rw (same-below n, once-same ((free ++ (a ∷ [])) ++ (pre ++ (x ∷ post))) (free ++ (pre ++ (x ∷ a ∷ post))) n same-counts)

pub numbers-append : (xs ys : List Entry) → numbers (xs ++ ys) ≡ numbers xs ++ numbers ys
numbers-append [] ys = refl
numbers-append (x ∷ xs) ys = rw (numbers-append xs ys)
