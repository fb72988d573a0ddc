-- How far a copy of characters reaches, and what a buffer begins with after it.
use Prim.Native.Nat.{ℕ, zero, suc, ◌+◌, ◌≤◌, ◌<◌}
use mathlib.Core.Path.{◌≡◌, refl, ◌∙◌, sym, ap}
use mathlib.Core.Bool.{Bool, true, false}
use mathlib.Core.List.{List, [], ◌∷◌, ◌++◌}
use lib.ListN.{length, take, drop}
use lib.Seq.{length-take-le, take-take, take-append-le}
use lib.Dec.{ltb}
use native.Mathlib.Omega.{arith}
use borrow.Author.Tests.{ltb-false, lt-ltb, le-ltb}
use Rattle.fields.specs.Choice.{pick}
use Rattle.fields.specs.Bytes.{part, splice}
use Rattle.fields.proofs.Splices.{length-splice, length-mid}
use Rattle.index_step.specs.AidStep.{reach}

-- ---- how far the copy reaches

pub reach-least : (l : ℕ) → l ≤ reach l
reach-least l = go (ltb 8 l) refl
  where
    go : (t : Bool) → ltb 8 l ≡ t → l ≤ pick t l 8
    go true h = omega arith
    go false h = ltb-false 8 l h

pub reach-most : (l : ℕ) → reach l ≤ l + 8
reach-most l = go (ltb 8 l)
  where
    go : (t : Bool) → pick t l 8 ≤ l + 8
    go true = omega arith
    go false = omega arith

pub reach-long : (l : ℕ) → 8 < l → reach l ≡ l
reach-long l h = rw (lt-ltb 8 l h)

pub reach_few : (l : ℕ) → l ≤ 8 → reach l ≡ 8
reach_few l h = rw (le-ltb 8 l h)

take-append-add : (xs ys : List ℕ) (f l : ℕ) → length xs ≡ f → take (f + l) (xs ++ ys) ≡ xs ++ take l ys
take-append-add [] ys f l h = let z : f + l ≡ l = omega arith in rw z
take-append-add (x ∷ xs) ys zero l h = absurd (omega arith)
take-append-add (x ∷ xs) ys (suc f) l h =
    let z : suc f + l ≡ suc (f + l) = omega arith in
    rw (z, take-append-add xs ys f l (omega arith))

-- ---- the buffer

-- A buffer that was extended begins with the next separator, and is as long as before.
module _ (ib buf new : List ℕ) (f l at : ℕ) (fits : f + reach l ≤ length buf) (inside : at + reach l ≤ length ib) (is : new ≡ splice buf f (part ib at (reach l))) where
  chars-long : length (part ib at (reach l)) ≡ reach l
  chars-long = length-mid ib at (reach l) inside

  pub extended-chars : take (f + l) new ≡ take f buf ++ part ib at l
  unfolding splice
  extended-chars =
      let k : length (take f buf) ≡ f = length-take-le f buf (omega arith) in
      let t : take l (part ib at (reach l) ++ drop (f + length (part ib at (reach l))) buf) ≡ part ib at l =
      take-append-le l (part ib at (reach l)) _ (omega (arith, chars-long, reach-least l)) ∙ take-take l (reach l) (drop at ib) (reach-least l) in
      rw is (take-append-add (take f buf) (part ib at (reach l) ++ drop (f + length (part ib at (reach l))) buf) f l k ∙ rw t)

  pub extended-length : length new ≡ length buf
  extended-length = ap length is ∙ length-splice buf f (part ib at (reach l)) (omega (arith, chars-long))

  -- so it is where it began with ref before
  pub extended-front : (ref : List ℕ) (len : ℕ) → take len buf ≡ ref → f ≤ len → take (f + l) new ≡ take f ref ++ part ib at l
  extended-front ref len held front =
      let t : take f buf ≡ take f ref = sym (take-take f len buf front) ∙ rw held in
      extended-chars ∙ rw t
