-- Laws of keys: those of two lists within bounds, and keys that ascend.
use Prim.Native.Nat.{ℕ}
use mathlib.Core.Path.{◌≡◌, refl}
use mathlib.Core.Bool.{true, false}
use mathlib.Core.List.{List, [], ◌∷◌, ◌++◌}
use Rattle.fields.specs.Choice.{both, no}
use Rattle.fields.specs.Order.{less}
use Rattle.fields.specs.Lists.{every}
use Rattle.fields.proofs.Choices.{both-split, both-join}
use Rattle.fields.proofs.Orders.{less-asym, le-less}
use Rattle.fields.proofs.Lists.{every_append}
use Rattle.interval.specs.Records.{ascend_from, ascending, above, up_to}

-- ---- keys of two lists

-- All keys of two lists are above a bound exactly if those of each are.
pub above-append : (low : List ℕ) (ks ls : List (List ℕ)) → above low (ks ++ ls) ≡ both (above low ks) (above low ls)
above-append low ks ls = every_append (less low) ks ls

-- The same of keys up to a bound.
pub up-append : (high : List ℕ) (ks ls : List (List ℕ)) → up_to high (ks ++ ls) ≡ both (up_to high ks) (up_to high ls)
up-append high ks ls = every_append (λ (k : List ℕ). no (less high k)) ks ls

-- ---- keys that ascend

-- Keys that ascend from a bound ascend.
pub from-ascends : (a : List ℕ) (ks : List (List ℕ)) → ascend_from a ks ≡ true → ascending ks ≡ true
unfolding ascending ascend_from
from-ascends a [] h = refl
from-ascends a (k ∷ ks) h = (both-split (less a k) (ascend_from k ks) h).1

-- Without the first they do too.
pub ascend-tail : (k : List ℕ) (ks : List (List ℕ)) → ascending (k ∷ ks) ≡ true → ascending ks ≡ true
unfolding ascending
ascend-tail k ks h = from-ascends k ks h

-- Keys that ascend, all of them above a bound, ascend from it.
pub ascends-from : (a : List ℕ) (ks : List (List ℕ)) → ascending ks ≡ true → above a ks ≡ true → ascend_from a ks ≡ true
unfolding ascending ascend_from every
ascends-from a [] u h = refl
ascends-from a (k ∷ ks) u h = both-join (less a k) (ascend_from k ks) (both-split (less a k) (above a ks) h).0 u

-- Keys that ascend from a bound ascend from what is at most the bound.
pub from-lower : (a high : List ℕ) (ks : List (List ℕ)) → less high a ≡ false → ascend_from high ks ≡ true → ascend_from a ks ≡ true
unfolding ascend_from
from-lower a high [] h k = refl
from-lower a high (x ∷ ks) h k =
    let s = both-split (less high x) (ascend_from x ks) k in
    both-join (less a x) (ascend_from x ks) (le-less a high x h s.0) s.1

-- Keys that ascend from one that is not below a bound are above the bound.
pub ascend-above : (low key : List ℕ) (ks : List (List ℕ)) → ascend_from low ks ≡ true → less low key ≡ false → above key ks ≡ true
unfolding ascend_from every
ascend-above low key [] h e = refl
ascend-above low key (k ∷ ks) h e =
    let s = both-split (less low k) (ascend_from k ks) h in
    let g : less key k ≡ true = le-less key low k e s.0 in
    both-join (less key k) (above key ks) g (ascend-above k key ks s.1 (less-asym key k g))

from-apart : (a : List ℕ) (ks ls : List (List ℕ)) → ascend_from a (ks ++ ls) ≡ true → (ascend_from a ks ≡ true) × (ascending ls ≡ true)
unfolding ascend_from
from-apart a [] ls h = (refl, from-ascends a ls h)
from-apart a (k ∷ ks) ls h =
    let s = both-split (less a k) (ascend_from k (ks ++ ls)) h in
    let i = from-apart k ks ls s.1 in
    (both-join (less a k) (ascend_from k ks) s.0 i.0, i.1)

-- Both parts of ascending keys ascend.
pub ascend-apart : (ks ls : List (List ℕ)) → ascending (ks ++ ls) ≡ true → (ascending ks ≡ true) × (ascending ls ≡ true)
unfolding ascending
ascend-apart [] ls h = (refl, h)
ascend-apart (k ∷ ks) ls h = from-apart k ks ls h
