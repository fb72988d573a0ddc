-- Laws of moves within one buffer: blocks that are carried one after another, each through a copy of it, make one splice.
use Prim.Native.Nat.{ℕ, ◌+◌, ◌-◌, ◌≤◌}
use mathlib.Core.Path.{◌≡◌, ◌∙◌, sym}
use mathlib.Core.List.{List, [], ◌++◌}
use lib.ListN.{length, take, drop, take-append-drop}
use lib.Seq.{take-add, drop-drop}
use native.Mathlib.Omega.{arith}
use Rattle.fields.specs.Bytes.{part, splice}
use Rattle.fields.proofs.Splices.{splice-nil, splice-splice, splice-after, length-mid, part-is, part_left, part_right, take-front}

-- two parts, one after the other
part-on : (b : List ℕ) (from i k : ℕ) → part b from i ++ part b (from + i) k ≡ part b from (i + k)
part-on b from i k = sym (take-add i k (drop from b) ∙ rw drop-drop)

-- the copy of one block
block-is : (c block block₁ : List ℕ) (s k : ℕ) → s + k ≤ length c → block₁ ≡ splice block 0 (take (s + k - s) (drop s c)) → take k block₁ ≡ part c s k
block-is c block block₁ s k h e = rw (e, part-is c s k) (take-front block (part c s k) k (sym (length-mid c s k h)))

-- nothing is moved yet
pub left-none : (b : List ℕ) (to : ℕ) → b ≡ splice b to []
left-none b to = sym (splice-nil b to)

pub right-none : (b : List ℕ) (to from len : ℕ) → b ≡ splice b (to + len) (part b (from + len) (len - len))
right-none b to from len =
    let e : len - len ≡ 0 = omega arith in
    rw e (sym (splice-nil b (to + len)))

module _ (b : List ℕ) (to from len : ℕ) (c c₁ block block₁ : List ℕ) where
  -- the next block to the left: it lies right of all that is stored so far
  pub left_step : (i k : ℕ) → to ≤ from → from + len ≤ length b → i + k ≤ len → length c ≡ length b → c ≡ splice b to (part b from i)
      → block₁ ≡ splice block 0 (take (from + i + k - (from + i)) (drop (from + i) c)) → c₁ ≡ splice c (to + i) (take k block₁)
      → c₁ ≡ splice b to (part b from (i + k))
  left_step i k h l m n e f g =
      let li : length (part b from i) ≡ i = length-mid b from i (omega arith) in
      let lk : length (part b (from + i) k) ≡ k = length-mid b (from + i) k (omega arith) in
      let old : part (splice b to (part b from i)) (from + i) k ≡ part b (from + i) k = part_right b to (part b from i) (from + i) k (omega arith) (omega arith) in
      g ∙ rw (block-is c block block₁ (from + i) k (omega arith) f, e, old)
      (splice-after b to (to + i) (part b from i) (part b (from + i) k) (omega arith) (omega arith) ∙ rw (part-on b from i k))

  -- the next block to the right: it lies left of all that is stored so far
  pub right-step : (i j k : ℕ) → from ≤ to → to + len ≤ length b → j + k ≡ i → i ≤ len → length c ≡ length b
      → c ≡ splice b (to + i) (part b (from + i) (len - i))
      → block₁ ≡ splice block 0 (take (from + j + k - (from + j)) (drop (from + j) c)) → c₁ ≡ splice c (to + j) (take k block₁)
      → c₁ ≡ splice b (to + j) (part b (from + j) (len - j))
  right-step i j k h l m o n e f g =
      let li : length (part b (from + i) (len - i)) ≡ len - i = length-mid b (from + i) (len - i) (omega arith) in
      let lk : length (part b (from + j) k) ≡ k = length-mid b (from + j) k (omega arith) in
      let old : part (splice b (to + i) (part b (from + i) (len - i))) (from + j) k ≡ part b (from + j) k =
      part_left b (to + i) (part b (from + i) (len - i)) (from + j) k (omega arith) (omega arith) in
      let z : from + i ≡ from + j + k = omega arith in
      let y : k + (len - i) ≡ len - j = omega arith in
      g ∙ rw (block-is c block block₁ (from + j) k (omega arith) f, e, old)
      (splice-splice b (to + j) (to + i) (part b (from + j) k) (part b (from + i) (len - i)) (omega arith) (omega arith)
      ∙ rw (z, part-on b (from + j) k (len - i), y))

-- what lies at a place, stored there again
pub stays : (b : List ℕ) (at len : ℕ) → at + len ≤ length b → b ≡ splice b at (part b at len)
unfolding splice
stays b at len h =
    let l : length (part b at len) ≡ len = length-mid b at len h in
    rw (l, ← drop-drop len at b, take-append-drop) (sym (take-append-drop at b))
