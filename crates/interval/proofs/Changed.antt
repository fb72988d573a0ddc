-- Laws of records with a change made, and of records as two flat lists.
use Prim.Native.Nat.{ℕ, ◌+◌, ◌-◌, ◌≤◌}
use mathlib.Core.Path.{◌≡◌, refl, ◌∙◌, sym, ap}
use mathlib.Core.List.{List, [], ◌∷◌, ◌++◌, map, map-append}
use lib.ListN.{length, take, drop, get_or, length-append, length-drop, take-append-drop}
use lib.Seq.{take_all, length-take-le, take_at, drop_at, drop-append-add, take-append_seam, drop-append_seam, get_or_at, take-add, drop-drop}
use native.Mathlib.Omega.{arith}
use native.Mathlib.Nat.{add-zero}
use Rattle.fields.specs.Bytes.{splice}
use Rattle.fields.specs.Lists.{sum, concat, swap}
use Rattle.fields.proofs.Splices.{splice-splice}
use Rattle.fields.proofs.Lists.{sum-append, sum-lengths, map-take, map-drop, concat-append}
use Rattle.interval.specs.Reading.{cut}
use Rattle.interval.specs.Search.{start_of}
use Rattle.interval.specs.Records.{Flat}
use Rattle.interval.proofs.Cutting.{cut-concat, concat-cut, map-length-cut}

-- the bytes of the first records, and of those after them
module _ (k : ℕ) (rs : List (List ℕ)) where
  halves : concat rs ≡ concat (take k rs) ++ concat (drop k rs)
  halves = ap concat (sym (take-append-drop k rs)) ∙ concat-append (take k rs) (drop k rs)

  pub take-concat : take (start_of k rs) (concat rs) ≡ concat (take k rs)
  take-concat = rw halves (take-append_seam (concat (take k rs)) (concat (drop k rs)))

  pub drop-concat : drop (start_of k rs) (concat rs) ≡ concat (drop k rs)
  drop-concat = rw halves (drop-append_seam (concat (take k rs)) (concat (drop k rs)))

  -- record k begins where the lengths before it end
  pub start-sum : start_of k rs ≡ sum (take k (map length rs))
  start-sum = sym (sum-lengths (take k rs)) ∙ ap sum (map-take length k rs)

-- the first lengths add up to no more than more of them, or all
pub sum_more : (k c : ℕ) (ls : List ℕ) → sum (take k ls) ≤ sum (take (k + c) ls)
sum_more k c ls = rw (take-add k c ls) (omega (arith, sum-append (take k ls) (take c (drop k ls))))

pub sum-all : (k : ℕ) (ls : List ℕ) → sum (take k ls) ≤ sum ls
sum-all k ls = omega (arith, ap sum (take-append-drop k ls), sum-append (take k ls) (drop k ls))

-- A change is an insert, an update or an erase.
module _ {A : Type 0} (xs ys : List A) where
  pub swap-insert : (r : A) → swap (length xs) 0 (r ∷ []) (xs ++ ys) ≡ xs ++ r ∷ ys
  unfolding swap
  swap-insert r = rw (add-zero (length xs), take-append_seam xs ys, drop-append_seam xs ys)

  pub swap-update : (o r : A) → swap (length xs) 1 (r ∷ []) (xs ++ o ∷ ys) ≡ xs ++ r ∷ ys
  unfolding swap
  swap-update o r = rw (take-append_seam xs (o ∷ ys), drop-append-add xs (o ∷ ys) 1)

  pub swap-erase : (o : A) → swap (length xs) 1 [] (xs ++ o ∷ ys) ≡ xs ++ ys
  unfolding swap
  swap-erase o = rw (take-append_seam xs (o ∷ ys), drop-append-add xs (o ∷ ys) 1)

-- What stands before the place stays, then come the new ones, then what stood after those that go.
module _ {A : Type 0} (k c : ℕ) (xs ys : List A) (inside : k ≤ length ys) where
  pub swap-front : take k (swap k c xs ys) ≡ take k ys
  unfolding swap
  swap-front = take_at (take k ys) (xs ++ drop (k + c) ys) k (length-take-le k ys inside)

  pub swap-new : drop k (swap k c xs ys) ≡ xs ++ drop (k + c) ys
  unfolding swap
  swap-new = drop_at (take k ys) (xs ++ drop (k + c) ys) k (length-take-le k ys inside)

  pub swap-back : drop (k + length xs) (swap k c xs ys) ≡ drop (k + c) ys
  swap-back = sym (drop-drop (length xs) k (swap k c xs ys)) ∙ ap (drop (length xs)) swap-new ∙ drop-append_seam xs (drop (k + c) ys)

  pub swap-length : k + length xs + (length ys - (k + c)) ≡ length (swap k c xs ys)
  unfolding swap
  swap-length =
      omega (arith, length-take-le k ys inside, length-drop (k + c) ys, length-append (take k ys) (xs ++ drop (k + c) ys), length-append xs (drop (k + c) ys))

  pub swap-small : length (swap k c xs ys) ≤ length ys + length xs
  swap-small = omega (arith, swap-length)

-- the place of a single new one
pub swap_at : {A : Type 0} (k c : ℕ) (r d : A) (ys : List A) → k ≤ length ys → get_or (swap k c (r ∷ []) ys) k d ≡ r
unfolding swap
swap_at k c r d ys h = get_or_at (take k ys) r (drop (k + c) ys) d k (length-take-le k ys h)

-- a change of records is a change of their lengths
pub swap-lengths : (k c : ℕ) (xs rs : List (List ℕ)) → map length (swap k c xs rs) ≡ swap k c (map length xs) (map length rs)
unfolding swap
swap-lengths k c xs rs =
    map-append length (take k rs) (xs ++ drop (k + c) rs)
    ∙ rw (map-append length xs (drop (k + c) rs), map-take length k rs, map-drop length (k + c) rs)

-- and of their bytes: g is how many the c records have that go
pub swap-concat : (k c : ℕ) (xs rs : List (List ℕ)) (g : ℕ) → start_of k rs + g ≡ start_of (k + c) rs
    → concat (swap k c xs rs) ≡ swap (start_of k rs) g (concat xs) (concat rs)
unfolding swap
swap-concat k c xs rs g e =
    concat-append (take k rs) (xs ++ drop (k + c) rs)
    ∙ rw (concat-append xs (drop (k + c) rs), e, take-concat k rs, drop-concat (k + c) rs)

-- a change in both flat lists is a change of the records: xs in place of the c records from k on
pub flat-change : (bytes lens : List ℕ) (rs xs : List (List ℕ)) (k c d g : ℕ) → Flat bytes lens rs → d ≡ sum (take k lens)
    → d + g ≡ sum (take (k + c) lens) → Flat (swap d g (concat xs) bytes) (swap k c (map length xs) lens) (swap k c xs rs)
flat-change bytes lens rs xs k c d g f e h =
    record {
      bytes-are = rw (f.bytes-are, at) (sym (swap-concat k c xs rs g upto));
      lens-are = rw f.lens-are (sym (swap-lengths k c xs rs));
    }
  where
    at : d ≡ start_of k rs
    at = e ∙ ap (λ (l : List ℕ). sum (take k l)) f.lens-are ∙ sym (start-sum k rs)

    upto : start_of k rs + g ≡ start_of (k + c) rs
    upto =
        let p : d + g ≡ start_of (k + c) rs = h ∙ ap (λ (l : List ℕ). sum (take (k + c) l)) f.lens-are ∙ sym (start-sum (k + c) rs) in
        omega (arith, at)

-- Bytes cut by lengths that take them all are those records, and are cut in no other way.
pub flat-cut : (bytes lens : List ℕ) → sum lens ≡ length bytes → Flat bytes lens (cut bytes lens)
flat-cut bytes lens h =
    record {
      bytes-are = sym (concat-cut bytes lens (omega arith) ∙ take_all (sum lens) bytes (omega arith));
      lens-are = sym (map-length-cut bytes lens (omega arith));
    }

pub cut-flat : (bytes lens : List ℕ) (rs : List (List ℕ)) → Flat bytes lens rs → cut bytes lens ≡ rs
cut-flat bytes lens rs f = rw (f.bytes-are, f.lens-are) (cut-concat rs)

-- a part of the lengths, and the bytes that go with it, are those records
pub flat-part : (bytes lens : List ℕ) (rs : List (List ℕ)) (b c : ℕ) → Flat bytes lens rs
    → Flat (take (sum (take c (drop b lens))) (drop (sum (take b lens)) bytes)) (take c (drop b lens)) (take c (drop b rs))
flat-part bytes lens rs b c f =
    record {
      bytes-are =
          rw (f.bytes-are, f.lens-are, ← start-sum b rs, drop-concat b rs, ← map-drop length b rs, ← start-sum c (drop b rs))
          (take-concat c (drop b rs));
      lens-are = rw (f.lens-are, ← map-drop length b rs, ← map-take length c (drop b rs));
    }

-- A change that is laid down in three copies, from the right: what stays behind, the new ones, what stays before.
module _ (out old new : List ℕ) (at gone : ℕ) (inside : at + gone ≤ length old) (room : length old + length new ≤ length out) where
  pub three-copies : splice (splice (splice out (at + length new) (drop (at + gone) old)) at new) 0 (take at old) ≡ splice out 0 (swap at gone new old)
  unfolding swap
  three-copies =
      let h = length-take-le at old (omega arith) in
      let t = length-drop (at + gone) old in
      let l = length-append new (drop (at + gone) old) in
      rw (splice-splice out at (at + length new) new (drop (at + gone) old) refl (omega arith))
      (splice-splice out 0 at (take at old) (new ++ drop (at + gone) old) (omega arith) (omega arith))

  -- the same for a caller who has the three lists in hand
  pub swapped : (a b c : List ℕ) → a ≡ splice out (at + length new) (take (length old - (at + gone)) (drop (at + gone) old))
      → b ≡ splice a at new → c ≡ splice b 0 (take at old) → c ≡ splice out 0 (swap at gone new old)
  swapped a b c e f g =
      g ∙ rw (f, e, take_all (length old - (at + gone)) (drop (at + gone) old) (omega (arith, length-drop (at + gone) old))) three-copies
