-- Bytes of the edited records, found in what they are made of: those before the edit, those that come in, those behind.
use Prim.Native.Nat.{ℕ, ◌+◌, ◌-◌, ◌≤◌}
use mathlib.Core.Path.{◌≡◌, ◌∙◌, sym, ap}
use mathlib.Core.List.{List, [], ◌++◌, append-nil}
use lib.ListN.{length, take, drop, length-drop}
use lib.Seq.{take-take, take_at, drop-drop, drop-length, take-append-le, drop-append-le}
use native.Mathlib.Omega.{arith}
use Rattle.fields.specs.Bytes.{part, splice}
use Rattle.fields.specs.Lists.{swap}
use Rattle.fields.proofs.Splices.{drop-take, part-is, splice-end, length-mid}
use Rattle.interval.proofs.Changed.{swap-front, swap-new, swap-back}

-- A part of the first bytes is a part of all.
pub part-take : (xs : List ℕ) (d x k : ℕ) → x + k ≤ d → part (take d xs) x k ≡ part xs x k
part-take xs d x k h = ap (take k) (drop-take x d xs) ∙ take-take k (d - x) (drop x xs) (omega arith)

-- A part of what follows is a part further on.
pub part-drop : (xs : List ℕ) (d x k : ℕ) → part (drop d xs) x k ≡ part xs (d + x) k
part-drop xs d x k = ap (take k) (drop-drop x d xs)

module _ (start span : ℕ) (new xs : List ℕ) (inside : start ≤ length xs) where
  abbrev made : List ℕ
  made = swap start span new xs

  pub piece-before : (x k : ℕ) → x + k ≤ start → part made x k ≡ part xs x k
  piece-before x k h =
      sym (part-take made start x k h) ∙ ap (λ (l : List ℕ). part l x k) (swap-front start span new xs inside) ∙ part-take xs start x k h

  pub piece-behind : (x k : ℕ) → start + length new ≤ x → part made x k ≡ part xs (start + span + (x - (start + length new))) k
  piece-behind x k h =
      let e : start + length new + (x - (start + length new)) ≡ x = omega arith in
      ap (λ (p : ℕ). part made p k) (sym e)
      ∙ sym (part-drop made (start + length new) (x - (start + length new)) k)
      ∙ ap (λ (l : List ℕ). part l (x - (start + length new)) k) (swap-back start span new xs inside)
      ∙ part-drop xs (start + span) (x - (start + length new)) k

  pub piece-new : (x k : ℕ) → start ≤ x → x + k ≤ start + length new → part made x k ≡ part new (x - start) k
  piece-new x k h g =
      let e : start + (x - start) ≡ x = omega arith in
      ap (λ (p : ℕ). part made p k) (sym e)
      ∙ sym (part-drop made start (x - start) k)
      ∙ ap (λ (l : List ℕ). part l (x - start) k) (swap-new start span new xs inside)
      ∙ ap (take k) (drop-append-le (x - start) new (drop (start + span) xs) (omega arith))
      ∙ take-append-le k (drop (x - start) new) (drop (start + span) xs) (omega (arith, length-drop (x - start) new))

-- A buffer that bytes of a list are copied into, as many as it has, holds that part of the list.
pub copied : (out zs c : List ℕ) (s : ℕ) → s + length out ≤ length zs → c ≡ splice out 0 (take (s + length out - s) (drop s zs)) → c ≡ part zs s (length out)
copied out zs c s h e =
    let p : take (s + length out - s) (drop s zs) ≡ part zs s (length out) = part-is zs s (length out) in
    e ∙ ap (splice out 0) p ∙ splice-end out 0 (part zs s (length out)) (omega (arith, length-mid zs s (length out) h))

-- A buffer of two equal halves, the first and then the second stored anew.
pub both_halves : (b x y v w : List ℕ) (k : ℕ) → length x ≡ k → x ≡ v → y ≡ w
    → take k (x ++ drop k b) ++ (y ++ drop (length (x ++ drop k b) - k) (drop k (x ++ drop k b))) ≡ v ++ w
both_halves b x y v w k h f g =
    let zs : List ℕ = x ++ drop k b in
    let e : drop (length zs - k) (drop k zs) ≡ [] = rw (← length-drop k zs) (drop-length (drop k zs)) in
    rw (e, take_at x (drop k b) k h, append-nil y, f, g)
