-- Ascending keys are above a bound if the first is, and at most one if the last is.
use Prim.Native.Nat.{ℕ, ◌+◌}
use mathlib.Core.Path.{◌≡◌, refl, ◌∙◌}
use mathlib.Core.Bool.{Bool, true, false}
use mathlib.Core.List.{List, [], ◌∷◌}
use native.Mathlib.Omega.{arith}
use Rattle.fields.specs.Choice.{both, no}
use Rattle.fields.specs.Bytes.{part}
use Rattle.fields.specs.Order.{less}
use Rattle.fields.specs.Lists.{every}
use Rattle.fields.proofs.Choices.{both-split}
use Rattle.fields.proofs.Orders.{less-trans, less-asym}
use Rattle.interval.specs.Records.{ascend_from, above, up_to}
use Rattle.interval.proofs.Ascending.{ascend-above}
use Rattle.interval_read.specs.Verdict.{last_start}
use Rattle.interval_read.specs.AidWalk.{keys_from}
use Rattle.interval_read.proofs.Judging.{from_more}

pub above-first : (low k : List ℕ) (ks : List (List ℕ)) → ascend_from k ks ≡ true → above low (k ∷ ks) ≡ less low k
unfolding every
above-first low k ks a = go (less low k) refl
  where
    go : (b : Bool) → less low k ≡ b → both b (above low ks) ≡ b
    go true e = ascend-above k low ks a (less-asym low k e)
    go false e = refl

-- the last of some keys
unfoldable pub last_key : List ℕ → List (List ℕ) → List ℕ
last_key k [] = k
last_key k (x ∷ xs) = last_key x xs

over_last : (high k : List ℕ) (ks : List (List ℕ)) → ascend_from k ks ≡ true → less high k ≡ true → less high (last_key k ks) ≡ true
unfolding last_key ascend_from
over_last high k [] a h = h
over_last high k (x ∷ xs) a h =
    let s = both-split (less k x) (ascend_from x xs) a in
    over_last high x xs s.1 (less-trans high k x h s.0)

pub up-to-last : (high k : List ℕ) (ks : List (List ℕ)) → ascend_from k ks ≡ true → up_to high (k ∷ ks) ≡ no (less high (last_key k ks))
unfolding every last_key ascend_from
up-to-last high k [] a = go (less high k)
  where
    go : (b : Bool) → both (no b) true ≡ no b
    go true = refl
    go false = refl
up-to-last high k (x ∷ xs) a =
    let s = both-split (less k x) (ascend_from x xs) a in
    go (less high k) refl (up-to-last high x xs s.1) (λ h. over_last high x xs s.1 (less-trans high k x h s.0))
  where
    go : (b : Bool) → less high k ≡ b → up_to high (x ∷ xs) ≡ no (less high (last_key x xs)) → (less high k ≡ true → less high (last_key x xs) ≡ true)
        → both (no b) (up_to high (x ∷ xs)) ≡ no (less high (last_key x xs))
    go true e i f = rw (f e)
    go false e i f = i

-- where the last record begins, if there are two or more
pub start-more : (l k : ℕ) (ls : List ℕ) → last_start (l ∷ k ∷ ls) ≡ l + last_start (k ∷ ls)
unfolding last_start
start-more l k ls = refl

-- by place: the last key of records of these lengths
pub last-from : (offset key : ℕ) (ci : List ℕ) (at l : ℕ) (ls : List ℕ)
    → last_key (part ci (at + offset) key) (keys_from offset key ci (at + l) ls) ≡ part ci (at + last_start (l ∷ ls) + offset) key
last-from offset key ci at l [] = unfold last_key keys_from last_start in (let e : at + 0 + offset ≡ at + offset = omega arith in rw e)
last-from offset key ci at l (k ∷ ls) =
    let e : at + l + last_start (k ∷ ls) + offset ≡ at + last_start (l ∷ k ∷ ls) + offset = omega (arith, start-more l k ls) in
    rw (from_more offset key ci (at + l) k ls)
    (more (part ci (at + offset) key) (part ci (at + l + offset) key) (keys_from offset key ci (at + l + k) ls) ∙ last-from offset key ci (at + l) k ls ∙ rw e)
  where
    more : (p q : List ℕ) (r : List (List ℕ)) → last_key p (q ∷ r) ≡ last_key q r
    more p q r = unfold last_key in refl
