-- Which places a change names, told by the free numbers before and after: the index record exactly if there are fewer, a data interval exactly if it is the
-- changed entry's or was free and no longer is.
use Prim.Native.Nat.{ℕ, zero, suc, ◌+◌, ◌-◌, ◌≤◌, ◌<◌}
use mathlib.Core.Path.{◌≡◌, refl, ap}
use mathlib.Core.Bool.{Bool, true, false}
use mathlib.Core.List.{List, [], ◌∷◌, ◌++◌, Memᴰ}
use mathlib.Core.Logic.{⊎_elim, ◌↔◌}
use lib.ListN.{length, get_or, take}
use lib.Seq.{take-length, length-take-le}
use lib.Dec.{ltb}
use native.Mathlib.Omega.{arith}
use native.Mathlib.Nat.{sub-zero}
use native.Mathlib.Decide.{dec_le}
use borrow.Author.Tests.{ltb-true, ltb-false}
use Rattle.fields.specs.Choice.{pick}
use Rattle.index.specs.Meaning.{Meaning, numbers, named, count, named_once}
use Rattle.index.specs.Divided.{free_after}
use Rattle.index.proofs.Naming.{named-below, named-each}
use Rattle.index.proofs.Counting.{count-append, count-cons, count_none, count-some, count-among, below-among}
use Rattle.index.proofs.DividedRules.{rightmost}
use Rattle.area.specs.Content.{Content}
use Rattle.change.specs.Parts.{entry_at, taken}
use Rattle.change.specs.Places.{nexts, named_for}
use Rattle.change.proofs.Indexing.{free-fewer}
use Rattle.change.proofs.Taking.{not_first, among_one, among-places}

-- ---- the numbers taken

-- Each free number is counted among those that stay or among those taken.
taken-counts : (j k : ℕ) (free : List ℕ) → k ≤ length free → count j free ≡ count j (free_after k free) + count j (taken k free)
unfolding taken
taken-counts j zero free h = rw (sub-zero (length free), take-length free) (omega (arith, count_none j))
taken-counts j (suc k) free h =
    let b : List ℕ = take (length free - 1) free in
    let a : ℕ = get_or free (length free - 1) 0 in
    let l : length b ≡ length free - 1 = length-take-le (length free - 1) free (omega arith) in
    let r : count j free ≡ count j (b ++ (a ∷ [])) = ap (count j) (rightmost free (omega arith)) in
    let i : count j b ≡ count j (free_after k b) + count j (taken k b) = taken-counts j k b (omega arith) in
    omega (arith, r, count-append j b (a ∷ []), i, ap (count j) (free-fewer free k h), count-cons j a [], count-cons j a (taken k b), count_none j)

-- So, where no number is free twice, those taken are those that were free and no longer are.
pub taken-exactly : (j k : ℕ) (free : List ℕ) → k ≤ length free → (Memᴰ j free → count j free ≤ 1)
    → Memᴰ j (taken k free) ↔ (Memᴰ j free × (Memᴰ j (free_after k free) → ⊥))
taken-exactly j k free h once = (
  λ (i : Memᴰ j (taken k free)).
      let f : Memᴰ j free = count-among j free (omega (arith, e, count-some j (taken k free) i)) in
      (f, λ (r : Memᴰ j (free_after k free)). omega (arith, e, once f, count-some j (taken k free) i, count-some j (free_after k free) r)),
  λ (g : Memᴰ j free × (Memᴰ j (free_after k free) → ⊥)). back g.0 g.1 (dec_le 1 (count j (free_after k free))),
)
  where
    e : count j free ≡ count j (free_after k free) + count j (taken k free)
    e = taken-counts j k free h

    back : Memᴰ j free → (Memᴰ j (free_after k free) → ⊥) → Dec (1 ≤ count j (free_after k free)) → Memᴰ j (taken k free)
    back f d (yes y) = absurd (d (count-among j (free_after k free) y))
    back f d (no z) = count-among j (taken k free) (omega (arith, e, count-some j free f))

-- No number is free twice.
pub free-once : (n : ℕ) (ix : Meaning) → named_once n (named ix) ≡ true → (j : ℕ) → Memᴰ j ix.free → count j ix.free ≤ 1
free-once n ix o j i =
    omega (
      arith,
      count-append j ix.free (numbers ix.entries),
      named-each n (named ix) j o (below-among n j (named ix) (named-below n (named ix) o) (mathlib.Core.List.Memᴰ.append_left (numbers ix.entries) i)),
    )

-- ---- the places named

-- A data interval is named exactly if it is the entry's or one of those taken,
places-among : (k num : ℕ) (ks : List ℕ) → Memᴰ k (num ∷ ks) → Memᴰ (k + 1) (nexts ks ++ (0 ∷ (num + 1) ∷ []))
places-among k num [] i = mathlib.Core.List.Memᴰ.tail (mathlib.Core.List.Memᴰ.head (ap (λ (x : ℕ). x + 1) (mathlib.Core.List.Memᴰ.eq_of_singleton i)))
places-among k num (x ∷ ks) i =
    ⊎_elim (λ (e : k ≡ num). mathlib.Core.List.Memᴰ.tail (places-among k num ks (mathlib.Core.List.Memᴰ.head e)))
    (λ (j : Memᴰ k (x ∷ ks)). ⊎_elim (λ (e : k ≡ x). mathlib.Core.List.Memᴰ.head (ap (λ (y : ℕ). y + 1) e)) (λ (l : Memᴰ k ks). mathlib.Core.List.Memᴰ.tail (places-among k num ks (mathlib.Core.List.Memᴰ.tail l))) (mathlib.Core.List.Memᴰ.cases_cons j))
    (mathlib.Core.List.Memᴰ.cases_cons i)

pub named-among : (c : Content) (i parts k : ℕ) → Memᴰ (k + 1) (named_for c i parts) → Memᴰ k ((entry_at c.filled i).num ∷ taken (parts - 1) c.free)
named-among c i parts k = go (ltb 1 parts)
  where
    ns : List ℕ
    ns = taken (parts - 1) c.free

    old : ℕ
    old = (entry_at c.filled i).num

    go : (t : Bool) → Memᴰ (k + 1) (pick t (nexts ns ++ (0 ∷ (old + 1) ∷ [])) ((old + 1) ∷ [])) → Memᴰ k (old ∷ ns)
    go true j = among-places k old ns j
    go false j = mathlib.Core.List.Memᴰ.head (mathlib.Core.List.Memᴰ.eq_of_singleton (among_one k old j))

pub among-named : (c : Content) (i parts k : ℕ) → Memᴰ k ((entry_at c.filled i).num ∷ taken (parts - 1) c.free) → Memᴰ (k + 1) (named_for c i parts)
unfolding taken
among-named c i parts k j = go (ltb 1 parts) refl
  where
    old : ℕ
    old = (entry_at c.filled i).num

    go : (t : Bool) → ltb 1 parts ≡ t
        → Memᴰ (k + 1) (pick t (nexts (taken (parts - 1) c.free) ++ (0 ∷ (old + 1) ∷ [])) ((old + 1) ∷ []))
    go true e = places-among k old (taken (parts - 1) c.free) j
    go false e =
        let z : parts - 1 ≡ 0 = omega (arith, ltb-false 1 parts e) in
        let s : Memᴰ k (old ∷ []) = rw z at j in
        mathlib.Core.List.Memᴰ.head (ap (λ (x : ℕ). x + 1) (mathlib.Core.List.Memᴰ.eq_of_singleton s))

-- and the index record exactly if there are several parts.
pub named-index : (c : Content) (i parts : ℕ) → Memᴰ 0 (named_for c i parts) ↔ (1 < parts)
named-index c i parts = go (ltb 1 parts) refl
  where
    ns : List ℕ
    ns = taken (parts - 1) c.free

    old : ℕ
    old = (entry_at c.filled i).num

    go : (t : Bool) → ltb 1 parts ≡ t → Memᴰ 0 (pick t (nexts ns ++ (0 ∷ (old + 1) ∷ [])) ((old + 1) ∷ [])) ↔ (1 < parts)
    go true e =
        (λ (j : Memᴰ 0 (nexts ns ++ (0 ∷ (old + 1) ∷ []))). ltb-true 1 parts e, λ (h : 1 < parts). mathlib.Core.List.Memᴰ.append_right (nexts ns) (mathlib.Core.List.Memᴰ.head refl))
    go false e = (λ (j : Memᴰ 0 ((old + 1) ∷ [])). absurd (not_first old j), λ (h : 1 < parts). absurd (omega (arith, ltb-false 1 parts e)))
