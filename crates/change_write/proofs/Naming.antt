-- A free interval is no entry's, and none is free twice: the numbers taken are other than the old interval's and than each other, and below n.
use Prim.Native.Nat.{ℕ, zero, suc, ◌≤◌, ◌<◌}
use mathlib.Core.Path.{◌≡◌, refl, ◌∙◌, sym}
use mathlib.Core.List.{List, [], ◌∷◌, Memᴰ}
use lib.ListN.{length, get_or}
use native.Mathlib.Omega.{arith}
use Rattle.measures.specs.declared.Measures.{Measures}
use Rattle.index.specs.Meaning.{count, numbers, named}
use Rattle.index.proofs.Naming.{named-each, both_below}
use Rattle.index.proofs.Counting.{count_same, count-more, count-append, count-some, below-among}
use Rattle.area.specs.Content.{Filled, Content, entries_of, meaning_of}
use Rattle.area.specs.Reading.{read_area, whole}
use Rattle.area.proofs.Sounding.{sound-apart, sound-rules}
use Rattle.change.specs.Parts.{entry_at}
use Rattle.change.proofs.Named.{free-once}

-- what stands in a list is among it
get_d-among : (xs : List ℕ) (j d : ℕ) → j < length xs → Memᴰ (get_or xs j d) xs
get_d-among [] j d h = absurd (omega arith)
get_d-among (x ∷ xs) zero d h = mathlib.Core.List.Memᴰ.head refl
get_d-among (x ∷ xs) (suc j) d h = mathlib.Core.List.Memᴰ.tail (get_d-among xs j d (omega arith))

entry-among : (fs : List Filled) (i : ℕ) → i < length fs → Memᴰ (entry_at fs i).num (numbers (entries_of fs))
entry-among [] i h = absurd (omega arith)
entry-among (f ∷ fs) zero h = mathlib.Core.List.Memᴰ.head refl
entry-among (f ∷ fs) (suc i) h = mathlib.Core.List.Memᴰ.tail (entry-among fs i (omega arith))

-- what stands at two places is counted twice
twice : (xs : List ℕ) (i j k : ℕ) → i < j → j < length xs → get_or xs i 0 ≡ k → get_or xs j 0 ≡ k → 2 ≤ count k xs
twice [] i j k h l e f = absurd (omega arith)
twice (x ∷ xs) i zero k h l e f = absurd (omega arith)
twice (x ∷ xs) zero (suc j) k h l e f =
    let y : Memᴰ k xs = rw f at (get_d-among xs j 0 (omega arith)) in
    omega (arith, count_same k x xs e, count-some k xs y)
twice (x ∷ xs) (suc i) (suc j) k h l e f = omega (arith, twice xs i j k (omega arith) (omega arith) e f, count-more k x xs)

module _ (m : Measures) (n : ℕ) (area : List ℕ) (c : Content) (w : read_area m n area ≡ whole c) where
  pub free_other : (i j k : ℕ) → i < length c.filled → j < length c.free → k ≡ get_or c.free j 0 → k < n → k ≡ (entry_at c.filled i).num → ⊥
  free_other i j k hi hj e b f =
      let t : count k (named (meaning_of c)) ≡ 1 = named-each n (named (meaning_of c)) k (sound-rules m n area c (sound-apart m n area c w)).naming b in
      let x : Memᴰ k c.free = rw e (get_d-among c.free j 0 hj) in
      let y : Memᴰ k (numbers (entries_of c.filled)) = rw f (entry-among c.filled i hi) in
      omega (arith, t, count-append k c.free (numbers (entries_of c.filled)), count-some k c.free x, count-some k (numbers (entries_of c.filled)) y)

  pub free-below : (j k : ℕ) → j < length c.free → k ≡ get_or c.free j 0 → k < n
  free-below j k h e =
      let b = (both_below n (meaning_of c) (sound-rules m n area c (sound-apart m n area c w)).naming).0 in
      rw e (below-among n (get_or c.free j 0) c.free b (get_d-among c.free j 0 h))

  pub free-apart : (i j k l : ℕ) → i < j → j < length c.free → k ≡ get_or c.free j 0 → l ≡ get_or c.free i 0 → k ≡ l → ⊥
  free-apart i j k l h g e f q =
      let o = free-once n (meaning_of c) (sound-rules m n area c (sound-apart m n area c w)).naming k (rw e (get_d-among c.free j 0 g)) in
      omega (arith, o, twice c.free i j k h g (sym f ∙ sym q) (sym e))
