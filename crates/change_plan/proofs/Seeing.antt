-- What follows from an edit that is seen in its interval: the edited records lie one after another in the bytes of the interval with the edit made, which are the
-- first of those of the area from the interval on with the edit made; and where the edit is, by the sums of the lengths.
use Prim.Native.Nat.{ℕ, zero, suc, ◌+◌, ◌-◌, ◌*◌, ◌≤◌, ◌<◌}
use mathlib.Core.Path.{◌≡◌, ◌∙◌, sym, ap}
use mathlib.Core.List.{List, ◌++◌, map}
use lib.ListN.{length, take, drop, length-drop, length-map}
use lib.Seq.{take-take, take-add, take-append_seam, drop-append_seam, length-take-le}
use native.Mathlib.Omega.{arith}
use native.Mathlib.Nat.{mul-le-mul_left}
use Rattle.fields.specs.Bytes.{part}
use Rattle.fields.specs.Lists.{sum, swap}
use Rattle.fields.proofs.Splices.{drop-take, length-mid}
use Rattle.fields.proofs.Lists.{sum-append, sum-lengths}
use Rattle.measures.specs.declared.Measures.{Measures}
use Rattle.interval.specs.Records.{Flat}
use Rattle.interval.specs.Reading.{displacement, records_in}
use Rattle.interval.proofs.Changed.{start-sum as record-starts, sum_more, sum-all, swap-front, swap-new, swap-length, flat-part}
use Rattle.interval_edit.specs.AidChanged.{lengths_in}
use Rattle.interval_edit.specs.declared.Site.{Site}
use Rattle.interval_edit.proofs.Edits.{bytes-lie, swapped-bytes, swapped-lens}
use Rattle.area.specs.Content.{data_in}
use Rattle.change_plan.specs.AidEdited.{edited_records, Seen}
use Rattle.change_plan.specs.AidParts.{stretch}
use Rattle.change_plan.proofs.Pieces.{part-take}

-- ---- a change of the first elements, and sums of a changed list

module _ (k c : ℕ) (new xs : List ℕ) where
  short : (d : ℕ) → k ≤ d → swap k c new (take d xs) ≡ take k xs ++ (new ++ take (d - (k + c)) (drop (k + c) xs))
  unfolding swap
  short d h = rw (take-take k d xs h, drop-take (k + c) d xs)

  -- the first elements with a change made are the first of all with it made
  pub swap-take : (d : ℕ) → k + c ≤ d → d ≤ length xs → swap k c new (take d xs) ≡ take (k + length new + (d - (k + c))) (swap k c new xs)
  swap-take d h g =
      let i : k ≤ length xs = omega arith in
      let n : ℕ = d - (k + c) in
      let e : k + length new + n ≡ k + (length new + n) = omega arith in
      let r : List ℕ = drop (k + c) xs in
      let a : take (length new + n) (new ++ r) ≡ new ++ take n r = take-add (length new) n (new ++ r) ∙ rw (take-append_seam new r, drop-append_seam new r) in
      let b : take (k + (length new + n)) (swap k c new xs) ≡ take k xs ++ (new ++ take n r) =
      take-add k (length new + n) (swap k c new xs) ∙ rw (swap-front k c new xs i, swap-new k c new xs i, a) in
      short d (omega arith) ∙ sym b ∙ rw e

  -- up to the end of what comes in
  pub swap-sum : k ≤ length xs → sum (take (k + length new) (swap k c new xs)) ≡ sum (take k xs) + sum new
  swap-sum h =
      let r : List ℕ = drop (k + c) xs in
      let e : take (k + length new) (swap k c new xs) ≡ take k xs ++ new =
      take-add k (length new) (swap k c new xs) ∙ rw (swap-front k c new xs h, swap-new k c new xs h, take-append_seam new r) in
      ap sum e ∙ sum-append (take k xs) new

pub sum-up : (i j : ℕ) (ls : List ℕ) → i ≤ j → sum (take i ls) ≤ sum (take j ls)
sum-up i j ls h =
    let e : i + (j - i) ≡ j = omega arith in
    rw e at (sum_more i (j - i) ls)

-- one length at most comes in
pub one-comes : (n : ℕ) → (length (lengths_in n) ≤ 1) × (sum (lengths_in n) ≡ n)
unfolding sum
one-comes zero = (omega arith, omega arith)
one-comes (suc n) = (omega arith, omega arith)

-- ---- an edit that is seen

module _ (m : Measures) (area : List ℕ) (site : Site) (new lens : List ℕ) (seen : Seen m area site new lens) where
  abbrev ci : List ℕ
  ci = data_in m area site.number

  abbrev base : ℕ
  base = (site.number + 1) * m.size

  -- the bytes of the records, and all bytes from the interval on, with the edit made
  abbrev edited : List ℕ
  edited = swap site.start site.span new (take (displacement ci) ci)

  abbrev all : List ℕ
  all = swap site.start site.span new (drop base area)

  -- how long the interval is, and where in it the edit lies
  pub size-seen : length ci ≡ m.size
  size-seen = length-mid area base m.size seen.there

  pub bounds-seen : (4 ≤ m.size) × (m.size ≤ 32768) × (displacement ci + 4 ≤ m.size) × (site.start + site.span ≤ displacement ci)
  bounds-seen =
      let b = bytes-lie m ci seen.readable site.ordinal site.start site.gone site.span seen.goes in
      (omega (arith, size-seen, b), omega (arith, size-seen, seen.readable.small), omega (arith, size-seen, b), b.2)

  pub number_small : site.number + 1 ≤ base
  number_small = let i : 1 ≤ m.size = omega (arith, bounds-seen) in omega (arith, mul-le-mul_left (site.number + 1) i)

  pub many-seen : length lens ≡ length (edited_records m area site new)
  many-seen = ap length seen.lens-are ∙ length-map (edited_records m area site new) length

  -- the lengths with the edit made
  pub lens-swapped : lens ≡ swap site.ordinal site.gone (lengths_in (length new)) (map length (records_in ci))
  lens-swapped = seen.lens-are ∙ sym (swapped-lens m ci seen.readable site.ordinal site.start site.gone site.span seen.goes new)

  -- the edited records lie one after another in the edited bytes
  pub flat-seen : Flat edited lens (edited_records m area site new)
  flat-seen =
      record {
        bytes-are = swapped-bytes m ci seen.readable site.ordinal site.start site.gone site.span seen.goes new;
        lens-are = seen.lens-are;
      }

  -- how many bytes that are
  pub long-seen : length edited ≡ sum lens
  long-seen = ap length flat-seen.bytes-are ∙ sym (ap sum seen.lens-are ∙ sum-lengths (edited_records m area site new))

  pub sum-seen : sum lens ≡ site.start + length new + (displacement ci - (site.start + site.span))
  sum-seen =
      let d : length (take (displacement ci) ci) ≡ displacement ci = length-take-le (displacement ci) ci (omega (arith, size-seen, bounds-seen)) in
      let l = swap-length site.start site.span new (take (displacement ci) ci) (omega (arith, d, bounds-seen)) in
      omega (arith, l, d, long-seen)

  -- they are the front of all bytes with the edit made
  pub front-seen : edited ≡ take (sum lens) all
  front-seen =
      let b = bounds-seen in
      let i : displacement ci ≤ length (drop base area) = omega (arith, b, length-drop base area, seen.there) in
      let e : take (displacement ci) ci ≡ take (displacement ci) (drop base area) = take-take (displacement ci) m.size (drop base area) (omega (arith, b)) in
      ap (swap site.start site.span new) e ∙ swap-take site.start site.span new (drop base area) (displacement ci) b.3 i
      ∙ ap (λ (n : ℕ). take n all) (sym sum-seen)

  pub part-seen : (x k : ℕ) → x + k ≤ sum lens → part edited x k ≡ part all x k
  part-seen x k h = ap (λ (l : List ℕ). part l x k) front-seen ∙ part-take all (sum lens) x k h

  -- the lengths before the edit end where its bytes start
  before-inside : site.ordinal ≤ length (map length (records_in ci))
  before-inside = omega (arith, length-map (records_in ci) length, seen.goes.inside)

  pub start-sum : sum (take site.ordinal lens) ≡ site.start
  start-sum =
      ap (λ (l : List ℕ). sum (take site.ordinal l)) lens-swapped
      ∙ ap sum (swap-front site.ordinal site.gone (lengths_in (length new)) (map length (records_in ci)) before-inside)
      ∙ sym (record-starts site.ordinal (records_in ci)) ∙ sym seen.goes.starts

  -- no record up to there starts behind it
  pub before-sum : (i : ℕ) → i ≤ site.ordinal → sum (take i lens) ≤ site.start
  before-sum i h = omega (arith, sum-up i site.ordinal lens h, start-sum)

  -- what comes in ends so many bytes later
  pub comes-sum : sum (take (site.ordinal + length (lengths_in (length new))) lens) ≡ site.start + length new
  comes-sum =
      let xs : List ℕ = lengths_in (length new) in
      let ls : List ℕ = map length (records_in ci) in
      let a : sum (take (site.ordinal + length xs) lens) ≡ sum (take site.ordinal ls) + sum xs =
      ap (λ (l : List ℕ). sum (take (site.ordinal + length xs) l)) lens-swapped ∙ swap-sum site.ordinal site.gone xs ls before-inside in
      let b : sum (take site.ordinal ls) ≡ site.start = sym (seen.goes.starts ∙ record-starts site.ordinal (records_in ci)) in
      omega (arith, a, b, one-comes (length new))

  -- and a later record starts behind it
  pub behind_sum : (i : ℕ) → site.ordinal < i → site.start + length new ≤ sum (take i lens)
  behind_sum i h =
      let o = one-comes (length new) in
      omega (arith, comes-sum, sum-up (site.ordinal + length (lengths_in (length new))) i lens (omega (arith, o)))

  -- ---- some of the records

  module _ (first last : ℕ) where
    pub stretch-inside : sum (take first lens) + sum (stretch first last lens) ≤ sum lens
    stretch-inside =
        let a = sum-append (take first lens) (stretch first last lens) in
        let b = ap sum (take-add first (last - first) lens) in
        omega (arith, a, b, sum-all (first + (last - first)) lens)

    pub stretch-ends : first ≤ last → sum (take first lens) + sum (stretch first last lens) ≡ sum (take last lens)
    stretch-ends h =
        let e : first + (last - first) ≡ last = omega arith in
        let a = sum-append (take first lens) (stretch first last lens) in
        let b : sum (take last lens) ≡ sum (take first lens ++ stretch first last lens) = rw e at (ap sum (take-add first (last - first) lens)) in
        omega (arith, a, b)

    -- they lie one after another in that part of all bytes
    pub stretch-seen : Flat (part all (sum (take first lens)) (sum (stretch first last lens))) (stretch first last lens)
        (stretch first last (edited_records m area site new))
    stretch-seen =
        let f = flat-part edited lens (edited_records m area site new) first (last - first) flat-seen in
        record {
          bytes-are = sym (part-seen (sum (take first lens)) (sum (stretch first last lens)) stretch-inside) ∙ f.bytes-are;
          lens-are = f.lens-are;
        }
