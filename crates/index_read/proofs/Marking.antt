-- Marks find exactly whether each number below n is named once, and no other: a mark is a count, 0 or 1, so that no argument by pigeonholes is needed.
use Prim.Native.Nat.{ℕ, zero, suc, ◌+◌, ◌-◌, ◌<◌, ◌≤◌}
use mathlib.Core.Path.{◌≡◌, refl, sym, ap, ◌∙◌, subst}
use mathlib.Core.Bool.{Bool, true, false}
use mathlib.Core.List.{List, [], ◌∷◌, ◌++◌}
use mathlib.Core.Logic.{◌⊎◌, inl, inr, ⊎_elim}
use lib.ListN.{length, get_or, set, length-set, length-replicate, replicate, get_or-replicate, get_or-eq_default}
use lib.Seq.{get_or-set_same, get_or-set_other}
use lib.Dec.{eqb, ltb}
use native.Mathlib.Nat.{not-suc-le-zero, le_of_suc-le-suc, eq-or-lt_of_le}
use native.Mathlib.Decide.{ℕ_discrete, dec_lt}
use native.Mathlib.Omega.{arith}
use borrow.Author.Tests.{lt-ltb, le-ltb, eq-eqb, ne_eqb, ltb-true, ltb-false, eqb-true, eqb-false}
use Rattle.fields.specs.Choice.{both}
use Rattle.fields.specs.Bytes.{number}
use Rattle.fields.specs.Lists.{every}
use Rattle.fields.proofs.Choices.{false-true, both_false}
use Rattle.measures.specs.Judgement.{limit}
use Rattle.index.specs.Meaning.{count, below, once, named_once}
use Rattle.index.specs.Reading.{numbers_at}
use Rattle.index.proofs.Counting.{count_same, count-other}
use Rattle.index.proofs.Naming.{all_named}
use Rattle.index_read.specs.AidWalk.{marking, seen_after, fine_from, walked_fine}
use Rattle.index_read.specs.declared.Limits.{Limits}
use Rattle.index_read.specs.declared.Marks.{Marks}

record Sane (m : List ℕ) : Type 0 where
  whole : length m ≡ limit
  small : (k : ℕ) → get_or m k 0 ≤ 1

record Kept (n : ℕ) (m xs r : List ℕ) : Type 0 where
  all : below n xs ≡ true
  counts : (k : ℕ) → get_or r k 0 ≡ get_or m k 0 + count k xs
  sane : Sane r

abbrev Twice : ℕ → List ℕ → List ℕ → Type 0
Twice n m xs = (k : ℕ) × (k < n) × (2 ≤ get_or m k 0 + count k xs)

record Says (n : ℕ) (m xs : List ℕ) (ok : Bool) (r : List ℕ) : Type 0 where
  good : ok ≡ true → Kept n m xs r
  bad : ok ≡ false → (below n xs ≡ false) ⊎ Twice n m xs

mark-at : (m : List ℕ) (x : ℕ) (xs : List ℕ) → Sane m → x < limit → get_or m x 0 ≡ 0 → (k : ℕ)
    → get_or (set m x 1) k 0 + count k xs ≡ get_or m k 0 + count k (x ∷ xs)
mark-at m x xs s h z k = elim (ℕ_discrete x k) [ yes e ↦ same e | no d ↦ other d ]
  where
    same : x ≡ k → get_or (set m x 1) k 0 + count k xs ≡ get_or m k 0 + count k (x ∷ xs)
    same e = rw (← e, get_or-set_same m x 1 0 (subst (λ (w : ℕ). x < w) (sym s.whole) h), z, count_same x x xs refl) (omega arith)

    other : (x ≡ k → ⊥) → get_or (set m x 1) k 0 + count k xs ≡ get_or m k 0 + count k (x ∷ xs)
    other d = rw (get_or-set_other m x k 1 0 (λ p. d (sym p)), count-other k x xs d)

mark-sane : (m : List ℕ) (x : ℕ) → Sane m → x < limit → Sane (set m x 1)
mark-sane m x s h = record { whole = length-set m x 1 ∙ s.whole; small = λ k. elim (ℕ_discrete x k) [ yes e ↦ same k e | no d ↦ other k d ] }
  where
    same : (k : ℕ) → x ≡ k → get_or (set m x 1) k 0 ≤ 1
    same k e = rw (← e, get_or-set_same m x 1 0 (subst (λ (w : ℕ). x < w) (sym s.whole) h)) (omega arith)

    other : (k : ℕ) → (x ≡ k → ⊥) → get_or (set m x 1) k 0 ≤ 1
    other k d = rw (get_or-set_other m x k 1 0 (λ p. d (sym p))) (s.small k)

below-cons : (n x : ℕ) (xs : List ℕ) → x < n → below n (x ∷ xs) ≡ below n xs
unfolding every
below-cons n x xs h = rw (lt-ltb x n h)

below-big : (n x : ℕ) (xs : List ℕ) → n ≤ x → below n (x ∷ xs) ≡ false
unfolding every
below-big n x xs h = rw (le-ltb x n h)

step : (n : ℕ) (m : List ℕ) (x : ℕ) (xs : List ℕ) (ok : Bool) (r : List ℕ) → n ≤ limit → Sane m → (b₁ b₂ : Bool) → ltb x n ≡ b₁ → eqb (get_or m x 0) 0 ≡ b₂
    → (x < n → get_or m x 0 ≡ 0 → Says n (set m x 1) xs ok r) → Says n m (x ∷ xs) (both b₁ (both b₂ ok)) r
step n m x xs ok r hn s true true e₁ e₂ ih =
    let l : x < n = ltb-true x n e₁ in
    let z : get_or m x 0 ≡ 0 = eqb-true (get_or m x 0) 0 e₂ in
    let l' : x < limit = omega arith in
    record {
      good = λ o.
          let g = (ih l z).good o in
          record { all = below-cons n x xs l ∙ g.all; counts = λ k. g.counts k ∙ mark-at m x xs s l' z k; sane = g.sane };
      bad = λ o. ⊎_elim (λ b. inl (below-cons n x xs l ∙ b)) (λ t. inr (t.0, t.1, subst (λ (w : ℕ). 2 ≤ w) (mark-at m x xs s l' z t.0) t.2)) ((ih l z).bad o);
    }
step n m x xs ok r hn s true false e₁ e₂ ih =
    let l : x < n = ltb-true x n e₁ in
    let z : get_or m x 0 ≡ 0 → ⊥ = eqb-false (get_or m x 0) 0 e₂ in
    record { good = λ o. absurd (false-true o); bad = λ o. inr (x, l, rw (count_same x x xs refl) (omega (arith, z))) }
step n m x xs ok r hn s false b₂ e₁ e₂ ih = record { good = λ o. absurd (false-true o); bad = λ o. inl (below-big n x xs (ltb-false x n e₁)) }

says : (n : ℕ) (m xs : List ℕ) → n ≤ limit → Sane m → Says n m xs (marking n m xs) (seen_after m xs)
unfolding marking seen_after every count
says n m [] hn s = record { good = λ o. record { all = refl; counts = λ k. omega arith; sane = s }; bad = λ o. absurd (false-true (sym o)) }
says n m (x ∷ xs) hn s =
    step n m x xs (marking n (set m x 1) xs) (seen_after (set m x 1) xs) hn s (ltb x n) (eqb (get_or m x 0) 0) refl refl (λ l z. says n (set m x 1) xs hn (mark-sane m x s (omega arith)))

pub le-or-lt : (m k : ℕ) → (m ≤ k) ⊎ (k < m)
le-or-lt m k = elim (dec_lt k m) [ yes h ↦ inr h | no h ↦ inl (omega arith) ]

abbrev zeros : List ℕ
zeros = replicate limit 0

zero-at : (k : ℕ) → get_or zeros k 0 ≡ 0
zero-at k = ⊎_elim (λ (h : limit ≤ k). get_or-eq_default zeros 0 h) (λ (h : k < limit). get_or-replicate limit k 0 0 h) (le-or-lt limit k)

empty-sane : Sane zeros
empty-sane = record { whole = length-replicate {A = ℕ} limit 0; small = λ k. rw (zero-at k) (omega arith) }

once-not : (xs : List ℕ) (n k : ℕ) → k < n → 2 ≤ count k xs → once xs n ≡ false
unfolding once
once-not xs zero k h t = absurd (not-suc-le-zero h)
once-not xs (suc n) k h t =
    ⊎_elim (λ (p : k ≡ n). rw (← p, ne_eqb (count k xs) 1 (omega arith))) (λ (l : k < n). rw (once-not xs n k l t) (both_false (eqb (count n xs) 1))) (eq-or-lt_of_le (le_of_suc-le-suc h))

from_empty : (k : ℕ) (v : ℕ) → get_or zeros k 0 + v ≡ v
from_empty k v = rw (zero-at k) (omega arith)

-- Where there are n numbers, marking them shows all: none is missing if none stands there twice.
pub named-by-marks : (n : ℕ) (xs : List ℕ) → n ≤ limit → length xs ≡ n → marking n (replicate limit 0) xs ≡ named_once n xs
unfolding named_once
named-by-marks n xs hn many = go (marking n zeros xs) (says n zeros xs hn empty-sane)
  where
    go : (t : Bool) → Says n zeros xs t (seen_after zeros xs) → t ≡ both (below n xs) (once xs n)
    go true s =
        let g = s.good refl in
        let c : (k : ℕ) → count k xs ≤ 1 = λ k. omega (arith, g.counts k ∙ from_empty k (count k xs), g.sane.small k) in
        sym (rw (g.all, all_named n xs g.all many c))
    go false s =
        ⊎_elim (λ (b : below n xs ≡ false). rw b)
        (λ (t : Twice n zeros xs). rw (once-not xs n t.0 t.1 (subst (λ (w : ℕ). 2 ≤ w) (from_empty t.0 (count t.0 xs)) t.2), both_false (below n xs)))
        (s.bad refl)

-- one list of numbers after another
pub marking-append : (n : ℕ) (m xs ys : List ℕ) → marking n m (xs ++ ys) ≡ both (marking n m xs) (marking n (seen_after m xs) ys)
unfolding marking seen_after
marking-append n m [] ys = refl
marking-append n m (x ∷ xs) ys = rw (marking-append n (set m x 1) xs ys) (go (ltb x n) (eqb (get_or m x 0) 0))
  where
    go : (a b : Bool) → both a (both b (both (marking n (set m x 1) xs) (marking n (seen_after (set m x 1) xs) ys)))
        ≡ both (both a (both b (marking n (set m x 1) xs))) (marking n (seen_after (set m x 1) xs) ys)
    go true true = refl
    go true false = refl
    go false b = refl

-- ---- the walk over the free numbers

module _ (w n : ℕ) (seen ib : List ℕ) (at left x : ℕ) (more : 0 < left) (is : x ≡ number w ib at) where
  there : numbers_at w ib at left ≡ x ∷ numbers_at w ib (at + w) (left - 1)
  unfolding numbers_at
  there =
      let e : left ≡ suc (left - 1) = omega arith in
      ap (λ (z : ℕ). numbers_at w ib at z) e ∙ rw is

  pub mark-big : n ≤ x → false ≡ marking n seen (numbers_at w ib at left)
  unfolding marking
  mark-big g = sym (rw (there, le-ltb x n g))

  pub mark-again : x < n → (get_or seen x 0 ≡ 0 → ⊥) → false ≡ marking n seen (numbers_at w ib at left)
  unfolding marking
  mark-again g z = sym (rw (there, lt-ltb x n g, ne_eqb (get_or seen x 0) 0 z))

  pub mark_on : x < n → get_or seen x 0 ≡ 0 → marking n seen (numbers_at w ib at left) ≡ marking n (set seen x 1) (numbers_at w ib (at + w) (left - 1))
  unfolding marking
  mark_on g z = rw (there, lt-ltb x n g, eq-eqb (get_or seen x 0) 0 z)

  pub seen-on : seen_after seen (numbers_at w ib at left) ≡ seen_after (set seen x 1) (numbers_at w ib (at + w) (left - 1))
  unfolding seen_after
  seen-on = rw there

pub mark-end : (w n : ℕ) (seen ib : List ℕ) (at left : ℕ) → left ≡ 0 → true ≡ marking n seen (numbers_at w ib at left)
unfolding marking numbers_at
mark-end w n seen ib at left h = sym (rw h)

pub seen_end : (w : ℕ) (seen ib : List ℕ) (at left : ℕ) → left ≡ 0 → seen ≡ seen_after seen (numbers_at w ib at left)
unfolding seen_after numbers_at
seen_end w seen ib at left h = sym (rw h)

-- ---- the free numbers, and the entries past them

-- the two counts make up all numbers
module _ (by : Limits) (ib : List ℕ) (m : Marks) (few : by.count ≤ by.n) (free-is : m.free ≡ by.n - by.count) (used-is : m.used ≡ by.count) where
  all : m.free + m.used ≡ by.n
  all = omega (arith, few, free-is, used-is)

  abbrev free : List ℕ
  free = numbers_at by.width ib 24 m.free

  pub walked-wrong : false ≡ marking (m.free + m.used) m.seen free → false ≡ walked_fine by ib m.seen
  unfolding walked_fine
  walked-wrong h = rw (← free-is, ← all, ← h)

  pub walked_on : true ≡ marking (m.free + m.used) m.seen free → (seen' : List ℕ) → seen' ≡ seen_after m.seen free → (ok : Bool) → ok ≡ fine_from by ib seen' by.count
      → ok ≡ walked_fine by ib m.seen
  unfolding walked_fine
  walked_on h seen' is ok fine =
      let new : true ≡ marking by.n m.seen free = rw (← all) h in
      rw (← free-is, ← new, ← is) fine
