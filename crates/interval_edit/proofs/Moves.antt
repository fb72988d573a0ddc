-- Lengths moved to another place of their buffer, and an edit of the lengths that lie at its front.
use Prim.Native.Nat.{ℕ, zero, suc, ◌+◌, ◌-◌, ◌≤◌, ◌<◌}
use mathlib.Core.Path.{◌≡◌, refl, ◌∙◌, sym, ap}
use mathlib.Core.List.{List, [], ◌∷◌, ◌++◌, append_assoc}
use lib.ListN.{length, take, drop, length-append, set}
use lib.Seq.{length-take-le, take-take}
use native.Mathlib.Omega.{arith}
use Rattle.std.specs.List.{copy_within}
use Rattle.fields.specs.Bytes.{part, splice}
use Rattle.fields.specs.Lists.{swap}
use Rattle.fields.proofs.Splices.{length-mid, take-front, drop-take, set-splice, length-splice}
use Rattle.fields.proofs.Moves.{stays}
use Rattle.interval.proofs.Changed.{swap-length}
use Rattle.interval_edit.specs.AidChanged.{lengths_in}

-- a part that is copied to a place
pub moved : (l : List ℕ) (i j at : ℕ) → i ≤ j → j ≤ length l → copy_within l i j at ≡ splice l at (part l i (j - i))
unfolding splice
moved l i j at h k =
    let n : length (part l i (j - i)) ≡ j - i = length-mid l i (j - i) (omega arith) in
    append_assoc (take at l) (part l i (j - i)) (drop (at + (j - i)) l) ∙ rw n

-- ---- the edit of the lengths

-- A splice, with what stands left of it, is one at the front.
from_front : (b : List ℕ) (a : ℕ) (xs : List ℕ) → a ≤ length b → splice b a xs ≡ splice b 0 (take a b ++ xs)
unfolding splice
from_front b a xs h =
    let l : length (take a b ++ xs) ≡ a + length xs = length-append (take a b) xs ∙ rw (length-take-le a b h) in
    let z : 0 + length (take a b ++ xs) ≡ a + length xs = omega (arith, l) in
    rw z (sym (append_assoc (take a b) xs (drop (a + length xs) b)))

-- The lengths ls at the front of a buffer.
module _ (b₀ ls : List ℕ) (room : length ls < length b₀) where
  abbrev b : List ℕ
  b = splice b₀ 0 ls

  pub told-length : length b ≡ length b₀
  told-length = length-splice b₀ 0 ls (omega arith)

  front : take (length ls) b ≡ ls
  front = take-front b₀ ls (length ls) refl

  left : (at : ℕ) → at ≤ length ls → take at b ≡ take at ls
  left at h = sym (take-take at (length ls) b h) ∙ ap (take at) front

  rest : (at : ℕ) → part b at (length ls - at) ≡ drop at ls
  rest at = sym (drop-take at (length ls) b) ∙ ap (drop at) front

  edited : (at gone : ℕ) (fresh : List ℕ) → at ≤ length ls → splice b at (fresh ++ drop (at + gone) ls) ≡ splice b 0 (swap at gone fresh ls)
  unfolding swap
  edited at gone fresh h =
      from_front b at (fresh ++ drop (at + gone) ls) (omega (arith, told-length)) ∙ ap (λ (xs : List ℕ). splice b 0 (xs ++ (fresh ++ drop (at + gone) ls))) (left at h)

  module _ (at : ℕ) where
    nothing-edited : at ≤ length ls → b ≡ splice b 0 (swap at 0 [] ls)
    nothing-edited h =
        let z : at + 0 ≡ at = omega arith in
        stays b at (length ls - at) (omega (arith, told-length)) ∙ ap (splice b at) (rest at) ∙ ap (λ (k : ℕ). splice b at (drop k ls)) (sym z) ∙ edited at 0 [] h

    one-gone : at < length ls → splice b at (part b (at + 1) (length ls - (at + 1))) ≡ splice b 0 (swap at 1 [] ls)
    one-gone h = ap (splice b at) (rest (at + 1)) ∙ edited at 1 [] (omega arith)

    one-changed : (v : ℕ) → at < length ls → set b at v ≡ splice b 0 (swap at 1 (v ∷ []) ls)
    one-changed v h =
        ap (λ (xs : List ℕ). set xs at v) (stays b (at + 1) (length ls - (at + 1)) (omega (arith, told-length)))
        ∙ set-splice b at (at + 1) v (part b (at + 1) (length ls - (at + 1))) refl (omega (arith, told-length, length-mid b (at + 1) (length ls - (at + 1)) (omega (arith, told-length))))
        ∙ ap (λ (xs : List ℕ). splice b at (v ∷ xs)) (rest (at + 1))
        ∙ edited at 1 (v ∷ []) (omega arith)

    one-come : (v : ℕ) → at ≤ length ls → set (splice b (at + 1) (part b at (length ls - at))) at v ≡ splice b 0 (swap at 0 (v ∷ []) ls)
    one-come v h =
        let z : at + 0 ≡ at = omega arith in
        set-splice b at (at + 1) v (part b at (length ls - at)) refl (omega (arith, told-length, length-mid b at (length ls - at) (omega (arith, told-length))))
        ∙ ap (λ (xs : List ℕ). splice b at (v ∷ xs)) (rest at)
        ∙ ap (λ (k : ℕ). splice b at (v ∷ drop k ls)) (sym z) ∙ edited at 0 (v ∷ []) h

  -- The lengths with an edit made: so many, and so they lie in the buffer l.
  module _ (at gone comes : ℕ) (inside : at + gone ≤ length ls) (few : gone ≤ 1) where
    abbrev new : List ℕ
    new = swap at gone (lengths_in comes) ls

    abbrev Edited : ℕ → List ℕ → Type 0
    Edited r l = (r ≡ length new) × (l ≡ splice b 0 new)

    some : (comes ≡ 0 → ⊥) → lengths_in comes ≡ comes ∷ []
    some h = go comes h
      where
        go : (k : ℕ) → (k ≡ 0 → ⊥) → lengths_in k ≡ k ∷ []
        go zero f = absurd (f refl)
        go (suc k) f = refl

    counted : length new + gone ≡ length ls + length (lengths_in comes)
    counted = omega (arith, swap-length at gone (lengths_in comes) ls (omega arith))

    -- nothing goes or comes
    pub none-edited : comes ≡ 0 → gone ≡ 0 → (r : ℕ) → r ≡ length ls → (l : List ℕ) → l ≡ b → Edited r l
    none-edited c g r r-is l l-is =
        let n : length new ≡ length ls = omega (arith, counted, ap (λ (k : ℕ). length (lengths_in k)) c, g) in
        (omega (arith, n), l-is ∙ rw (c, g) (nothing-edited at (omega arith)))

    -- one goes
    pub gone-edited : comes ≡ 0 → (gone ≡ 0 → ⊥) → (r : ℕ) → r ≡ length ls → (l k : List ℕ) → l ≡ b → k ≡ splice l at (part l (at + 1) (r - (at + 1))) → Edited (r - 1) k
    gone-edited c g r r-is l k l-is k-is =
        let g1 : gone ≡ 1 = omega (arith, few, g) in
        let n : length new + 1 ≡ length ls = omega (arith, counted, ap (λ (k : ℕ). length (lengths_in k)) c, g1) in
        (omega (arith, n), k-is ∙ rw (l-is, r-is, c, g1) (one-gone at (omega arith)))

    -- one makes way for another
    pub changed-edited : (comes ≡ 0 → ⊥) → gone ≡ 1 → (r : ℕ) → r ≡ length ls → (l : List ℕ) → l ≡ b → Edited r (set l at comes)
    changed-edited c g r r-is l l-is =
        let n : length new ≡ length ls = omega (arith, counted, ap length (some c), g) in
        (omega (arith, n), rw (l-is, some c, g) (one-changed at comes (omega arith)))

    -- one comes
    pub come-edited : (comes ≡ 0 → ⊥) → (gone ≡ 1 → ⊥) → (r : ℕ) → r ≡ length ls → (l k : List ℕ) → l ≡ b → k ≡ splice l (at + 1) (part l at (r - at)) → Edited (r + 1) (set k at comes)
    come-edited c g r r-is l k l-is k-is =
        let g0 : gone ≡ 0 = omega (arith, few, g) in
        let n : length new ≡ length ls + 1 = omega (arith, counted, ap length (some c), g0) in
        (omega (arith, n), rw (k-is, l-is, r-is, some c, g0) (one-come at comes (omega arith)))
