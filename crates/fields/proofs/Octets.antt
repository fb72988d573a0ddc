-- Lists of bytes: what is taken from bytes or put together of bytes is bytes.
use Prim.Native.Nat.{ℕ, zero, suc, ◌+◌, ◌/◌, ◌%◌, ◌<◌}
use mathlib.Core.Path.{◌≡◌}
use mathlib.Core.Bool.{Bool, true}
use mathlib.Core.List.{List, [], ◌∷◌, ◌++◌}
use lib.ListN.{length, take, drop, replicate}
use lib.Dec.{ltb}
use native.Mathlib.Omega.{arith}
use borrow.Author.Tests.{ltb-true}
use Rattle.fields.specs.Choice.{both}
use Rattle.fields.specs.Bytes.{Octets, part, splice, digits}
use Rattle.fields.proofs.Choices.{both-split}

-- no bytes
pub octets-nil : Octets []
octets-nil i = omega arith

-- a byte, then bytes
pub octets-cons : (x : ℕ) (xs : List ℕ) → x < 256 → Octets xs → Octets (x ∷ xs)
octets-cons x xs h o zero = h
octets-cons x xs h o (suc i) = o i

-- bytes, then bytes
pub octets-append : (xs ys : List ℕ) → Octets xs → Octets ys → Octets (xs ++ ys)
octets-append [] ys o p = p
octets-append (x ∷ xs) ys o p = octets-cons x (xs ++ ys) (o 0) (octets-append xs ys (λ i. o (suc i)) p)

-- the front of bytes
pub octets-take : (n : ℕ) (xs : List ℕ) → Octets xs → Octets (take n xs)
octets-take zero xs o = octets-nil
octets-take (suc n) [] o = o
octets-take (suc n) (x ∷ xs) o = octets-cons x (take n xs) (o 0) (octets-take n xs (λ i. o (suc i)))

-- what follows a front
pub octets-drop : (n : ℕ) (xs : List ℕ) → Octets xs → Octets (drop n xs)
octets-drop zero xs o = o
octets-drop (suc n) [] o = o
octets-drop (suc n) (x ∷ xs) o = octets-drop n xs (λ i. o (suc i))

-- a part
pub octets-part : (b : List ℕ) (a l : ℕ) → Octets b → Octets (part b a l)
octets-part b a l o = octets-take l (drop a b) (octets-drop a b o)

-- bytes stored among bytes
pub octets-store : (b : List ℕ) (a : ℕ) (new : List ℕ) → Octets b → Octets new → Octets (splice b a new)
unfolding splice
octets-store b a new o p =
    octets-append (take a b) (new ++ drop (a + length new) b) (octets-take a b o) (octets-append new (drop (a + length new) b) p (octets-drop (a + length new) b o))

-- one byte many times
pub octets-replicate : (n x : ℕ) → x < 256 → Octets (replicate n x)
octets-replicate zero x h = octets-nil
octets-replicate (suc n) x h = octets-cons x (replicate n x) h (octets-replicate n x h)

-- the digits of a number
pub octets-digits : (w x : ℕ) → Octets (digits w x)
unfolding digits
octets-digits zero x = octets-nil
octets-digits (suc w) x = octets-append (digits w (x / 256)) (x % 256 ∷ []) (octets-digits w (x / 256)) (octets-cons (x % 256) [] (omega arith) octets-nil)

-- whether all are bytes, as a test that computes
abbrev pub all_octets : List ℕ → Bool
all_octets [] = true
all_octets (x ∷ xs) = both (ltb x 256) (all_octets xs)

pub all-octets : (xs : List ℕ) → all_octets xs ≡ true → Octets xs
all-octets [] h i = omega arith
all-octets (x ∷ xs) h zero = ltb-true x 256 (both-split (ltb x 256) (all_octets xs) h).0
all-octets (x ∷ xs) h (suc i) = all-octets xs (both-split (ltb x 256) (all_octets xs) h).1 i
