-- Laws of bounds: X'FF' all the way is at the top, and the search rule is the bound rule.
use Prim.Native.Nat.{ℕ, suc, ◌-◌, ◌≤◌}
use mathlib.Core.Path.{◌≡◌, refl, ◌∙◌, sym, ap}
use mathlib.Core.Bool.{Bool, true, false}
use mathlib.Core.List.{List, [], ◌∷◌, ◌++◌}
use lib.ListN.{length, take, drop, replicate, length-append, length-replicate, length-drop, take-append-drop}
use lib.Seq.{length-take-le}
use lib.Dec.{ltb}
use native.Mathlib.Omega.{arith}
use borrow.Author.Tests.{le-ltb}
use Rattle.fields.specs.Choice.{pick}
use Rattle.fields.specs.Bytes.{Octets}
use Rattle.fields.specs.Order.{order_of, is_less, less}
use Rattle.std.specs.declared.cmp.Ordering.{Ordering}
use Rattle.std.specs.declared.cmp.Ordering.TheVariants.{Less, Equal, Greater}
use Rattle.fields.proofs.Orders.{and_then, order-front}
use Rattle.fields.proofs.Octets.{octets-append, octets-replicate, octets-drop}
use Rattle.interval.specs.Bounds.{bound}

-- ---- bytes

-- A bound of bytes is bytes.
pub octets-bound : (K : ℕ) (s : List ℕ) → Octets s → Octets (bound K s)
unfolding bound
octets-bound K s o = octets-append s (replicate (K - length s) 255) o (octets-replicate (K - length s) 255 (omega arith))

-- ---- bounds

-- A bound has K bytes.
pub length-bound : (K : ℕ) (s : List ℕ) → length s ≤ K → length (bound K s) ≡ K
unfolding bound
length-bound K s h = simp (length-append, length-replicate) (omega arith)

pub bound-cons : (K x : ℕ) (s : List ℕ) → bound (suc K) (x ∷ s) ≡ x ∷ bound K s
unfolding bound
bound-cons K x s = let e : suc K - suc (length s) ≡ K - length s = omega arith in rw e

-- Nothing of that length is above X'FF' all the way.
pub top-not-less : (t : List ℕ) → Octets t → less (replicate (length t) 255) t ≡ false
unfolding order_of
top-not-less [] o = refl
top-not-less (x ∷ xs) o = rw (le-ltb 255 x (omega (arith, o 0))) (go (ltb x 255) (top-not-less xs (λ i. o (suc i))))
  where
    go : (s : Bool) → less (replicate (length xs) 255) xs ≡ false → is_less (pick s Greater (order_of (replicate (length xs) 255) xs)) ≡ false
    go true i = refl
    go false i = i

-- Every key is at most the bound of the empty separator.
pub empty-highest : (K : ℕ) (key : List ℕ) → length key ≡ K → Octets key → less (bound K []) key ≡ false
unfolding bound
empty-highest K key h o = let e : K - 0 ≡ length key = omega arith in rw e (top-not-less key o)

-- what follows decides nothing where it isn't below
pub less_then : (o p : Ordering) → is_less p ≡ false → is_less (and_then o p) ≡ is_less o
less_then Less p h = refl
less_then Equal p h = h
less_then Greater p h = refl

-- THE SEARCH RULE IS THE BOUND RULE: a separator is below the key's first bytes, as many as it has, exactly where its bound is below the key.
pub lead-is-bound : (K : ℕ) (s key : List ℕ) → length s ≤ K → length key ≡ K → Octets key → less s (take (length s) key) ≡ less (bound K s) key
unfolding bound
lead-is-bound K s key h l o =
    let n : ℕ = length s in
    let ld : length (drop n key) ≡ K - n = length-drop n key ∙ rw l in
    let lt : length s ≡ length (take n key) = sym (length-take-le n key (omega arith)) in
    let e1 : less (replicate (K - n) 255) (drop n key) ≡ false = rw (← ld) (top-not-less (drop n key) (octets-drop n key o)) in
    let e2 : order_of (s ++ replicate (K - n) 255) (take n key ++ drop n key) ≡ and_then (order_of s (take n key)) (order_of (replicate (K - n) 255) (drop n key)) =
    order-front s (take n key) _ _ lt in
    let e3 : take n key ++ drop n key ≡ key = take-append-drop n key in
    sym (ap (λ (x : List ℕ). less (s ++ replicate (K - n) 255) x) (sym e3) ∙ ap is_less e2 ∙ less_then (order_of s (take n key)) _ e1)
