-- What a search for the bytes given, filled up to a key, tells of all records: how many lie below them, and how many up to them.
use Prim.Native.Nat.{ℕ, zero, suc, ◌+◌, ◌-◌, ◌≤◌, ◌<◌}
use mathlib.Core.Path.{◌≡◌, refl, ◌∙◌, sym, ap}
use mathlib.Core.Bool.{Bool, true, false, not}
use mathlib.Core.List.{List, [], ◌∷◌, ◌++◌, append-nil}
use lib.ListN.{length, get_or, take, drop, replicate, length-append, length-replicate, drop_of_length-le}
use lib.Seq.{take_at, get_or_at, take-append-add}
use native.Mathlib.Omega.{arith}
use Rattle.fields.specs.Choice.{pick}
use Rattle.fields.specs.Bytes.{Octets, splice}
use Rattle.fields.proofs.Choices.{false-true}
use Rattle.fields.proofs.Splices.{splice_front}
use Rattle.fields.proofs.Octets.{octets-append, octets-replicate}
use Rattle.measures.specs.Judgement.{Fits}
use Rattle.measures.specs.declared.Measures.{Measures}
use Rattle.interval.specs.Reading.{records_in}
use Rattle.interval.specs.Search.{lower, holds, start_of, place_of}
use Rattle.interval.specs.declared.Found.TheVariants.{At, Gap}
use Rattle.area.specs.Content.{Filled, Content, data_in, records_of}
use Rattle.area.specs.Reading.{read_area, whole}
use Rattle.area.proofs.Leading.{KeyIn, key-in-one-entry}
use Rattle.area_find.specs.AidSought.{Sought}
use Rattle.area_find.specs.declared.KeyPlace.{KeyPlace}
use Rattle.requests.proofs.Walks.{pad, reached, leads-lower, leads-reached}
use Rattle.walk.specs.AidStands.{nowhere, before, Stood, Sits, from_found, upto_found, begins_from}
use Rattle.walk.specs.declared.Place.{Place}
use Rattle.walk.proofs.Passing.{number_at, entries-are}

-- ---- the key

-- what the bytes given are filled up with
abbrev pub filler : Bool → ℕ
filler forward = pick forward 0 255

take_same : (n k x : ℕ) → n ≤ k → take n (replicate k x) ≡ replicate n x
take_same zero k x h = refl
take_same (suc n) zero x h = absurd (omega arith)
take_same (suc n) (suc k) x h = rw (take_same n k x (omega arith))

drop-same : (n k x : ℕ) → drop n (replicate k x) ≡ replicate (k - n) x
drop-same zero k x = let z : k - 0 ≡ k = omega arith in rw z
drop-same (suc n) zero x = let z : 0 - suc n ≡ 0 = omega arith in rw z
drop-same (suc n) (suc k) x = let z : suc k - suc n ≡ k - n = omega arith in rw z (drop-same n k x)

-- bytes before which there is nothing are all that there is
pub key-high : (n x : ℕ) (forward : Bool) (key : List ℕ) → not forward ≡ true → key ≡ splice (replicate n x) 0 (replicate (n - 0) 255) → key ≡ replicate n (filler forward)
key-high n x true key f e = absurd (false-true f)
key-high n x false key f e =
    let z : n - 0 ≡ n = omega arith in
    let d : drop (length (replicate {A = ℕ} n 255)) (replicate n x) ≡ [] = drop_of_length-le (replicate n x) {i = length (replicate {A = ℕ} n 255)} (omega (arith, length-replicate {A = ℕ} n x, length-replicate {A = ℕ} n 255)) in
    e ∙ rw z (splice_front (replicate n x) (replicate n 255) ∙ ap (λ (r : List ℕ). replicate n 255 ++ r) d ∙ append-nil (replicate n 255))

pub key-low : (n : ℕ) (forward : Bool) (key : List ℕ) → not forward ≡ false → key ≡ replicate n 0 → key ≡ replicate n (filler forward)
key-low n true key f e = e
key-low n false key f e = absurd (false-true (sym f))

module _ (n K x : ℕ) (given : List ℕ) (short : length given ≤ K) (few : K ≤ n) where
  -- the first K bytes of a buffer of fillers into which the bytes given were copied
  pub key-is : take K (splice (replicate n x) 0 given) ≡ pad K x given
  key-is =
      let z : length given + (K - length given) ≡ K = omega arith in
      ap (take K) (splice_front (replicate n x) given)
      ∙ ap (λ (k : ℕ). take k (given ++ drop (length given) (replicate n x))) (sym z)
      ∙ take-append-add given (drop (length given) (replicate n x)) (K - length given)
      ∙ ap (λ (r : List ℕ). given ++ r) (ap (take (K - length given)) (drop-same (length given) n x) ∙ take_same (K - length given) (n - length given) x (omega arith))

  pub key-long : length (pad K x given) ≡ K
  key-long = length-append given (replicate (K - length given) x) ∙ omega (arith, length-replicate {A = ℕ} (K - length given) x)

  pub key-octets : Octets given → x < 256 → Octets (pad K x given)
  key-octets o h = octets-append given (replicate (K - length given) x) o (octets-replicate (K - length given) x h)

-- ---- what was told

-- its place in its interval
from_place : (m : Measures) (key : List ℕ) (rs : List (List ℕ)) → from_found (place_of m key rs) ≡ lower m key rs
unfolding place_of
from_place m key rs = go (holds m key rs)
  where
    go : (t : Bool) → from_found (pick t (At (lower m key rs) (start_of (lower m key rs) rs) (length (get_or rs (lower m key rs) []))) (Gap (lower m key rs) (start_of (lower m key rs) rs))) ≡ lower m key rs
    go true = refl
    go false = refl

upto-place : (m : Measures) (key : List ℕ) (rs : List (List ℕ)) → upto_found (place_of m key rs) ≡ reached m key rs
unfolding place_of
upto-place m key rs = go (holds m key rs)
  where
    go : (t : Bool) → upto_found (pick t (At (lower m key rs) (start_of (lower m key rs) rs) (length (get_or rs (lower m key rs) []))) (Gap (lower m key rs) (start_of (lower m key rs) rs)))
        ≡ lower m key rs + pick t 1 0
    go true = refl
    go false = omega arith

-- What was sought is a place of an entry.
pub sought-sits : (m : Measures) (n : ℕ) (area key : List ℕ) (r : KeyPlace) → Sought m n area key r → Sits m n area r
sought-sits m n area key r s = record { inside = s.inside; number = rw s.entry s.number; within = s.within; place = s.place }

module _ (m : Measures) (n : ℕ) (area : List ℕ) (fits : Fits m n (length area)) (c : Content) (w : read_area m n area ≡ whole c) (key : List ℕ) (long : length key ≡ m.key) (o : Octets key)
    (r : KeyPlace) (s : Sought m n area key r) where
  abbrev fs : List Filled
  fs = c.filled

  k : KeyIn m area key fs
  k = key-in-one-entry m n area c w key fits.key-some long o

  entry-is : r.entry ≡ length k.pre
  entry-is = s.entry ∙ rw (entries-are m n area c w) (sym k.place)

  before-is : before fs r.entry ≡ length (records_of k.pre)
  before-is =
      ap (λ (i : ℕ). length (records_of (take i fs))) entry-is
      ∙ ap (λ (xs : List Filled). length (records_of xs)) (ap (take (length k.pre)) k.split ∙ take_at k.pre (k.entry ∷ k.post) (length k.pre) refl)

  number_is : r.number ≡ k.entry.num
  number_is =
      s.number
      ∙ rw (entries-are m n area c w, ← k.place) (number_at fs (length k.pre))
      ∙ ap (λ (f : Filled). f.num) (ap (λ (xs : List Filled). get_or xs (length k.pre) nowhere) k.split ∙ get_or_at k.pre k.entry k.post nowhere (length k.pre) refl)

  records-are : records_in (data_in m area r.number) ≡ k.entry.records
  records-are = ap (λ (j : ℕ). records_in (data_in m area j)) number_is ∙ sym k.holds

  -- The records before the place that was told are those below the key,
  pub sought-from : before fs r.entry + from_found r.found ≡ lower m key (records_of fs)
  sought-from =
      let f : from_found r.found ≡ lower m key k.entry.records = ap from_found s.found ∙ from_place m key (records_in (data_in m area r.number)) ∙ ap (lower m key) records-are in
      omega (arith, before-is, f, leads-lower m key area fs k)

  -- and those up to it are those at or below the key.
  pub sought-upto : before fs r.entry + upto_found r.found ≡ reached m key (records_of fs)
  sought-upto =
      let f : upto_found r.found ≡ reached m key k.entry.records = ap upto_found s.found ∙ upto-place m key (records_in (data_in m area r.number)) ∙ ap (reached m key) records-are in
      omega (arith, before-is, f, leads-reached m key area fs k)

-- ---- where a walk begins by it

module _ (m : Measures) (n : ℕ) (area : List ℕ) (fits : Fits m n (length area)) (c : Content) (w : read_area m n area ≡ whole c) (forward : Bool) (given : List ℕ) (short : length given ≤ m.key) (o : Octets given)
    (key : List ℕ) (is : key ≡ pad m.key (filler forward) given) (r : KeyPlace) (s : Sought m n area key r) (p : Place) where
  long : length key ≡ m.key
  long = ap length is ∙ key-long m.key m.key (filler forward) given short (omega arith)

  octets : Octets key
  octets = rw is (key-octets m.key m.key (filler forward) given short (omega arith) o (small forward))
    where
      small : (b : Bool) → filler b < 256
      small true = omega arith
      small false = omega arith

  pub begins-above : forward ≡ true → Stood m n area c true (before c.filled r.entry + from_found r.found) p → Stood m n area c forward (begins_from m forward given (records_of c.filled)) p
  begins-above f t =
      let e : key ≡ pad m.key 0 given = rw f at is in
      let z : before c.filled r.entry + from_found r.found ≡ lower m (pad m.key 0 given) (records_of c.filled) =
      sought-from m n area fits c w key long octets r s ∙ ap (λ (x : List ℕ). lower m x (records_of c.filled)) e in
      rw f (rw z at t)

  pub begins-below : forward ≡ false → Stood m n area c false (before c.filled r.entry + upto_found r.found) p → Stood m n area c forward (begins_from m forward given (records_of c.filled)) p
  begins-below f t =
      let e : key ≡ pad m.key 255 given = rw f at is in
      let z : before c.filled r.entry + upto_found r.found ≡ reached m (pad m.key 255 given) (records_of c.filled) =
      sought-upto m n area fits c w key long octets r s ∙ ap (λ (x : List ℕ). reached m x (records_of c.filled)) e in
      rw f (rw z at t)
