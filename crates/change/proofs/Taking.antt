-- The stores that a change makes: which intervals they name, that no interval is named twice, and what they leave there.
use Prim.Native.Nat.{ℕ, ◌+◌, ◌<◌, zero, suc, ◌-◌, ◌≤◌}
use mathlib.Core.Path.{◌≡◌, refl, sym}
use mathlib.Core.Bool.{true}
use mathlib.Core.List.Memᴰ
use mathlib.Core.List.{List, [], ◌∷◌, ◌++◌, Memᴰ}
use mathlib.Core.Logic.{⊎_elim}
use lib.ListN.{length, length-append, get_or, take}
use lib.Seq.{length-take-le}
use native.Mathlib.Omega.{arith}
use borrow.Author.Tests.{lt-ltb}
use Rattle.fields.specs.Bytes.{Octets}
use Rattle.fields.specs.Lists.{concat, every}
use Rattle.measures.specs.declared.Measures.{Measures}
use Rattle.interval.specs.Layout.{form}
use Rattle.interval.proofs.Form.{length-form, form-octets}
use Rattle.index.specs.Meaning.{below}
use Rattle.index.proofs.Counting.{below_at, below-take}
use Rattle.division.specs.Fewest.{Held, AllHeld}
use Rattle.division.proofs.Intervals.{held-need}
use Rattle.change.specs.Stores.{Store}
use Rattle.change.specs.Plan.{taken_stores}
use Rattle.change.specs.Places.{places_of, Distinct, AllThere, AllWritten, nexts}
use Rattle.change.specs.Parts.{taken}
use Rattle.change.proofs.Between.{concat-octets}
use Rattle.change.proofs.Storing.{Sized, AllSized}

-- ---- where they stand

pub places-append : (xs ys : List Store) → places_of (xs ++ ys) ≡ places_of xs ++ places_of ys
places-append [] ys = refl
places-append (x ∷ xs) ys = rw (places-append xs ys)

pub taken_places : (S : ℕ) (ks : List ℕ) (ps : List (List (List ℕ))) → length ks ≡ length ps → places_of (taken_stores S ks ps) ≡ nexts ks
unfolding taken_stores
taken_places S [] ps e = refl
taken_places S (k ∷ ks) [] e = absurd (omega arith)
taken_places S (k ∷ ks) (p ∷ ps) e = rw (taken_places S ks ps (omega arith))

length-taken_stores : (S : ℕ) (ks : List ℕ) (ps : List (List (List ℕ))) → length ks ≡ length ps → length (taken_stores S ks ps) ≡ length ps
unfolding taken_stores
length-taken_stores S [] ps e = e
length-taken_stores S (k ∷ ks) [] e = absurd (omega arith)
length-taken_stores S (k ∷ ks) (p ∷ ps) e = rw (length-taken_stores S ks ps (omega arith))

-- With two stores more there are two more than parts.
pub length_more : (S : ℕ) (ks : List ℕ) (ps : List (List (List ℕ))) (a b : Store) → length ks ≡ length ps → length (taken_stores S ks ps ++ (a ∷ b ∷ [])) ≡ 2 + length ps
length_more S ks ps a b e = omega (arith, length-append (taken_stores S ks ps) (a ∷ b ∷ []), length-taken_stores S ks ps e)

-- The numbers taken are below n.
pub taken-below : (n k : ℕ) (free : List ℕ) → below n free ≡ true → k ≤ length free → below n (taken k free) ≡ true
unfolding every taken
taken-below n zero free h l = refl
taken-below n (suc k) free h l =
    let a : get_or free (length free - 1) 0 < n = below_at n free (length free - 1) h (omega arith) in
    let t : length (take (length free - 1) free) ≡ length free - 1 = length-take-le (length free - 1) free (omega arith) in
    rw (lt-ltb _ _ a) (taken-below n k (take (length free - 1) free) (below-take n (length free - 1) free h) (omega arith))

-- A place after the index record's.
pub not_first : (num : ℕ) → Memᴰ 0 ((num + 1) ∷ []) → ⊥
not_first num i = let e : 0 ≡ num + 1 = Memᴰ.eq_of_singleton i in omega arith

pub among_one : (k num : ℕ) → Memᴰ (k + 1) ((num + 1) ∷ []) → Memᴰ k (num ∷ [])
among_one k num i =
    let e : k + 1 ≡ num + 1 = Memᴰ.eq_of_singleton i in
    let q : k ≡ num = omega arith in
    Memᴰ.head q

-- Which numbers stand one higher among those taken, the index record's place and one number more.
pub among-places : (k num : ℕ) (ks : List ℕ) → Memᴰ (k + 1) (nexts ks ++ (0 ∷ (num + 1) ∷ [])) → Memᴰ k (num ∷ ks)
among-places k num [] i =
    ⊎_elim (λ (e : k + 1 ≡ 0). absurd (omega arith)) (λ (j : Memᴰ (k + 1) ((num + 1) ∷ [])). among_one k num j) (Memᴰ.cases_cons i)
among-places k num (x ∷ ks) i =
    ⊎_elim (λ (e : k + 1 ≡ x + 1). Memᴰ.tail (Memᴰ.head (omega arith)))
    (λ (j : Memᴰ (k + 1) (nexts ks ++ (0 ∷ (num + 1) ∷ []))). over (among-places k num ks j)) (Memᴰ.cases_cons i)
  where
    over : Memᴰ k (num ∷ ks) → Memᴰ k (num ∷ x ∷ ks)
    over j = ⊎_elim (λ (e : k ≡ num). Memᴰ.head e) (λ (l : Memᴰ k ks). Memᴰ.tail (Memᴰ.tail l)) (Memᴰ.cases_cons j)

-- No two of these are the same.
pub places-apart : (num : ℕ) (ks : List ℕ) → Distinct (num ∷ ks) → Distinct (nexts ks ++ (0 ∷ (num + 1) ∷ []))
places-apart num [] a = (λ (i : Memᴰ 0 ((num + 1) ∷ [])). not_first num i, (λ (i : Memᴰ (num + 1) []). Memᴰ.not-nil i, tt))
places-apart num (k ∷ ks) a = (away, places-apart num ks (λ (i : Memᴰ num ks). a.0 (Memᴰ.tail i), a.1.1))
  where
    away : Memᴰ (k + 1) (nexts ks ++ (0 ∷ (num + 1) ∷ [])) → ⊥
    away i = ⊎_elim (λ (e : k ≡ num). a.0 (Memᴰ.head (sym e))) a.1.0 (Memᴰ.cases_cons (among-places k num ks i))

-- ---- what they hold

-- each part is of bytes
abbrev pub AllBytes : List (List (List ℕ)) → Type 0
AllBytes [] = Unit {0}
AllBytes (p ∷ ps) = Octets (concat p) × AllBytes ps

pub parts-bytes : (ps : List (List (List ℕ))) → Octets (concat (concat ps)) → AllBytes ps
unfolding concat
parts-bytes [] o = tt
parts-bytes (p ∷ ps) o =
    let s = concat-octets p (concat ps) o in
    (s.0, parts-bytes ps s.1)

-- A part that is held is stored as one interval of bytes.
pub form-sized : (S n k : ℕ) (p : List (List ℕ)) → k < n → Held S p → Octets (concat p) → Sized S n (record { at = k + 1; bytes = form S p })
form-sized S n k p l h o = record { inside = omega arith; size = length-form S p (held-need S p h); octets = form-octets S p o }

pub taken-sized : (S n : ℕ) (ks : List ℕ) (ps : List (List (List ℕ))) → ((k : ℕ) → Memᴰ k ks → k < n) → AllHeld S ps → AllBytes ps
    → AllSized S n (taken_stores S ks ps)
unfolding taken_stores
taken-sized S n [] ps l h o = tt
taken-sized S n (k ∷ ks) [] l h o = tt
taken-sized S n (k ∷ ks) (p ∷ ps) l h o =
    (form-sized S n k p (l k (Memᴰ.head refl)) h.0 o.0, taken-sized S n ks ps (λ (j : ℕ) (i : Memᴰ j ks). l j (Memᴰ.tail i)) h.1 o.1)

-- Where they are there, each part is written.
pub taken-written : (m : Measures) (area ks : List ℕ) (ps : List (List (List ℕ))) → length ks ≡ length ps
    → AllThere m.size area (taken_stores m.size ks ps) → AllWritten m area ks ps
unfolding taken_stores
taken-written m area [] [] e t = tt
taken-written m area [] (p ∷ ps) e t = omega arith
taken-written m area (k ∷ ks) [] e t = omega arith
taken-written m area (k ∷ ks) (p ∷ ps) e t = (t.0, taken-written m area ks ps (omega arith) t.1)
