-- Stores one after another: each interval that is stored once holds its bytes, every other is as it was, and the area keeps its length.
use Prim.Native.Nat.{ℕ, ◌+◌, ◌*◌, ◌≤◌}
use mathlib.Core.Path.{◌≡◌, refl, ◌∙◌, sym}
use mathlib.Core.Bool.{Bool, true, false}
use mathlib.Core.List.Memᴰ
use mathlib.Core.List.{List, [], ◌∷◌, ◌++◌, Memᴰ}
use mathlib.Core.Logic.{⊎_elim}
use lib.ListN.{length}
use lib.Dec.{ltb}
use native.Mathlib.Omega.{arith}
use native.Mathlib.Nat.{mul-le-mul_right}
use borrow.Author.Tests.{ltb-true, ltb-false}
use Rattle.fields.specs.Bytes.{Octets, part, splice}
use Rattle.fields.proofs.Splices.{length-splice, part-here, part_left, part_right}
use Rattle.fields.proofs.Octets.{octets-store}
use Rattle.measures.specs.declared.Measures.{Measures}
use Rattle.area.specs.Layout.{Lent}
use Rattle.area.proofs.Parts.{lent_other}
use Rattle.change.specs.Stores.{Store, stored}
use Rattle.change.specs.Places.{places_of, Distinct, AllThere}

-- a store of one of the intervals 0 to n, with as many bytes as an interval has
pub record Sized (S n : ℕ) (s : Store) : Type 0 where
  pub inside : s.at ≤ n
  pub size : length s.bytes ≡ S
  pub octets : Octets s.bytes

abbrev pub AllSized : ℕ → ℕ → List Store → Type 0
AllSized S n [] = Unit {0}
AllSized S n (s ∷ ss) = Sized S n s × AllSized S n ss

pub sized-append : (S n : ℕ) (xs ys : List Store) → AllSized S n xs → AllSized S n ys → AllSized S n (xs ++ ys)
sized-append S n [] ys a b = b
sized-append S n (x ∷ xs) ys a b = (a.0, sized-append S n xs ys a.1 b)

-- their places are among 0 to n
pub places-inside : (S n : ℕ) (ss : List Store) → AllSized S n ss → (j : ℕ) → Memᴰ j (places_of ss) → j ≤ n
places-inside S n [] z j i = absurd (Memᴰ.not-nil i)
places-inside S n (s ∷ ss) z j i =
    ⊎_elim (λ (e : j ≡ s.at). omega (arith, z.0.inside)) (λ (k : Memᴰ j (places_of ss)). places-inside S n ss z.1 j k) (Memᴰ.cases_cons i)

pub there-append : (S : ℕ) (area : List ℕ) (xs ys : List Store) → AllThere S area (xs ++ ys) → AllThere S area xs × AllThere S area ys
there-append S area [] ys a = (tt, a)
there-append S area (x ∷ xs) ys a =
    let r = there-append S area xs ys a.1 in
    ((a.0, r.0), r.1)

-- ---- one store

module _ (S n : ℕ) (area : List ℕ) (long : length area ≡ (n + 1) * S) (s : Store) (z : Sized S n s) where
  ends : s.at * S + S ≤ length area
  ends =
      let l : s.at + 1 ≤ n + 1 = omega (arith, z.inside) in
      omega (arith, mul-le-mul_right S l)

  pub store_length : length (splice area (s.at * S) s.bytes) ≡ (n + 1) * S
  store_length = length-splice area (s.at * S) s.bytes (omega (arith, ends, z.size)) ∙ long

  pub store-here : part (splice area (s.at * S) s.bytes) (s.at * S) S ≡ s.bytes
  store-here = part-here area (s.at * S) S s.bytes (omega (arith, ends)) z.size

  pub store_other : (j : ℕ) → (j ≡ s.at → ⊥) → part (splice area (s.at * S) s.bytes) (j * S) S ≡ part area (j * S) S
  store_other j d = go (ltb j s.at) refl
    where
      go : (t : Bool) → ltb j s.at ≡ t → part (splice area (s.at * S) s.bytes) (j * S) S ≡ part area (j * S) S
      go true e =
          let l : j + 1 ≤ s.at = omega (arith, ltb-true j s.at e) in
          part_left area (s.at * S) s.bytes (j * S) S (omega (arith, ends)) (omega (arith, mul-le-mul_right S l))
      go false e =
          let l : s.at + 1 ≤ j = omega (arith, ltb-false j s.at e) in
          part_right area (s.at * S) s.bytes (j * S) S (omega (arith, ends)) (omega (arith, mul-le-mul_right S l, z.size))

-- ---- all of them

module _ (S n : ℕ) where
  -- The area keeps its length,
  pub stored-length : (area : List ℕ) (ss : List Store) → length area ≡ (n + 1) * S → AllSized S n ss → length (stored S area ss) ≡ (n + 1) * S
  unfolding stored
  stored-length area [] l z = l
  stored-length area (s ∷ ss) l z = stored-length (splice area (s.at * S) s.bytes) ss (store_length S n area l s z.0) z.1

  -- and is bytes.
  pub stored-octets : (area : List ℕ) (ss : List Store) → Octets area → AllSized S n ss → Octets (stored S area ss)
  unfolding stored
  stored-octets area [] o z = o
  stored-octets area (s ∷ ss) o z =
      stored-octets (splice area (s.at * S) s.bytes) ss (octets-store area (s.at * S) s.bytes o z.0.octets) z.1

  -- An interval that no store names is byte for byte as it was.
  pub stored_other : (area : List ℕ) (ss : List Store) → length area ≡ (n + 1) * S → AllSized S n ss
      → (j : ℕ) → (Memᴰ j (places_of ss) → ⊥) → part (stored S area ss) (j * S) S ≡ part area (j * S) S
  unfolding stored
  stored_other area [] l z j d = refl
  stored_other area (s ∷ ss) l z j d =
      stored_other (splice area (s.at * S) s.bytes) ss (store_length S n area l s z.0) z.1 j (λ (i : Memᴰ j (places_of ss)). d (Memᴰ.tail i))
      ∙ store_other S n area l s z.0 j (λ (e : j ≡ s.at). d (Memᴰ.head e))

  -- Where no interval is stored twice, each store is there at the end.
  pub stored_there : (area : List ℕ) (ss : List Store) → length area ≡ (n + 1) * S → AllSized S n ss → Distinct (places_of ss) → AllThere S (stored S area ss) ss
  unfolding stored
  stored_there area [] l z a = tt
  stored_there area (s ∷ ss) l z a =
      let area' : List ℕ = splice area (s.at * S) s.bytes in
      let l' : length area' ≡ (n + 1) * S = store_length S n area l s z.0 in
      (stored_other area' ss l' z.1 s.at a.0 ∙ store-here S n area l s z.0, stored_there area' ss l' z.1 a.1)

-- An area that was lent as the laws ask still is, whatever whole intervals of bytes were stored.
pub stored-lent : (m : Measures) (n : ℕ) (area : List ℕ) (ss : List Store) → Lent m n area → AllSized m.size n ss → Lent m n (stored m.size area ss)
stored-lent m n area ss lent z =
    lent_other m n area (stored m.size area ss) lent (stored-octets m.size n area ss lent.octets z) (stored-length m.size n area ss lent.fits.bytes z ∙ sym lent.fits.bytes)

-- Some stores, then others.
pub stored-append : (S : ℕ) (area : List ℕ) (xs ys : List Store) → stored S area (xs ++ ys) ≡ stored S (stored S area xs) ys
unfolding stored
stored-append S area [] ys = refl
stored-append S area (x ∷ xs) ys = stored-append S (splice area (x.at * S) x.bytes) xs ys
