-- What is read at a place of an interval, as the steps' definitions say it: one law for each way out of a function.
use Prim.Native.Nat.{ℕ, ◌+◌, ◌-◌, ◌*◌, ◌/◌, ◌≤◌, ◌<◌}
use mathlib.Core.Path.{◌≡◌, ◌∙◌, ap}
use mathlib.Core.List.{List}
use lib.ListN.{length, get_or}
use native.Mathlib.Omega.{arith}
use borrow.Author.Tests.{lt-ltb, le-ltb, eq-eqb, ne_eqb}
use Rattle.fields.specs.Bytes.{number}
use Rattle.interval.specs.Reading.{displacement, rdfs_at, rdfs}
use Rattle.rdf.specs.Control.{control_of}
use Rattle.rdf.specs.AidFront.{front_of}
use Rattle.std.specs.Prelude.{Option, Some, None}
use Rattle.rdf.specs.declared.Control.{Control}
use Rattle.rdf.specs.declared.Control.TheVariants.{Single, Count}
use Rattle.rdf.specs.declared.Front.{Front}
use Rattle.interval_walk.specs.declared.Spot.{Spot}
use Rattle.interval_walk.specs.AidSpots.{spot, some_of, beginning, left_of, end_of, right_by, right_of, first_of, last_of, after_of, before_of}

-- ---- the group left of a place

module _ (ci : List ℕ) (start q p : ℕ) (at : p ≡ rdfs_at ci) where
  pub left-none : q < p + 3 → None ≡ left_of ci start q
  unfolding left_of
  left-none h = rw (lt-ltb q (rdfs_at ci + 3) (omega (arith, at)))

  pub left_is : p + 3 ≤ q → (f : Option Front) → f ≡ front_of 1 65535 (rdfs ci (q - 3 * ((q - p) / 3)) ((q - p) / 3)) → beginning start q f ≡ left_of ci start q
  unfolding left_of
  left_is h f e = rw (e, at, le-ltb q (rdfs_at ci + 3) (omega (arith, at)))

-- ---- the end of a group

module _ (end len count q : ℕ) where
  pub end_short : end < len → None ≡ end_of end len count q
  end_short h = rw (lt-ltb end len h)

  pub end_empty : len ≤ end → count ≡ 0 → None ≡ end_of end len count q
  end_empty h z = rw (le-ltb end len h, eq-eqb count 0 z)

  pub end_is : len ≤ end → 0 < count → some_of (end - len) len (count - 1) q ≡ end_of end len count q
  end_is h k = rw (le-ltb end len h, ne_eqb count 0 (omega arith))

  pub end-some : 0 < len → len ≤ end → 0 < count → Some (spot (end - len) len (count - 1) q) ≡ end_of end len count q
  end-some l h k = rw (le-ltb end len h, ne_eqb count 0 (omega arith), ne_eqb len 0 (omega arith))

-- ---- the group right of a place

module _ (ci : List ℕ) (end q : ℕ) where
  pub right-past : length ci - 4 < q → None ≡ right_of ci end q
  unfolding right_of
  right-past h = rw (lt-ltb (length ci - 4) q h)

  pub right-none : q ≤ length ci - 4 → length ci - 4 - q < 3 → None ≡ right_of ci end q
  unfolding right_of
  right-none h k = rw (le-ltb (length ci - 4) q h, lt-ltb (length ci - 4 - q) 3 k)

  module _ (h : q ≤ length ci - 4) (k : 3 ≤ length ci - 4 - q) where
    pub right_is : (c : Option Control) → control_of (get_or ci q 0) ≡ c → right_by ci end q c ≡ right_of ci end q
    unfolding right_of
    right_is c e = rw (le-ltb (length ci - 4) q h, le-ltb (length ci - 4 - q) 3 k, e)

    pub right-one : control_of (get_or ci q 0) ≡ Some Single → (l : ℕ) → l ≡ number 2 ci (q + 1) → end_of end l 1 (q + 3) ≡ right_of ci end q
    right-one e l f = ap (λ (x : ℕ). end_of end x 1 (q + 3)) f ∙ right_is (Some Single) e

    pub right-cut : control_of (get_or ci q 0) ≡ Some Count → length ci - 4 - q < 6 → None ≡ right_of ci end q
    right-cut e g =
        let z : None ≡ right_by ci end q (Some Count) = rw (lt-ltb (length ci - 4 - q) 6 g) in
        z ∙ right_is (Some Count) e

    pub right-run : control_of (get_or ci q 0) ≡ Some Count → 6 ≤ length ci - 4 - q → (l c : ℕ) → l ≡ number 2 ci (q + 4) → c ≡ number 2 ci (q + 1)
        → end_of end l c (q + 6) ≡ right_of ci end q
    right-run e g l c f i =
        let z : end_of end (number 2 ci (q + 4)) (number 2 ci (q + 1)) (q + 6) ≡ right_by ci end q (Some Count) = rw (le-ltb (length ci - 4 - q) 6 g) in
        rw (f, i) (z ∙ right_is (Some Count) e)

-- ---- the first record and the last

module _ (ci : List ℕ) where
  pub first_short : length ci < 4 → None ≡ first_of ci
  first_short h = rw (lt-ltb (length ci) 4 h)

  pub first-is : 4 ≤ length ci → left_of ci 0 (length ci - 4) ≡ first_of ci
  first-is h = rw (le-ltb (length ci) 4 h)

  pub last-short : length ci < 4 → None ≡ last_of ci
  last-short h = rw (lt-ltb (length ci) 4 h)

  pub last-is : 4 ≤ length ci → (d p : ℕ) → d ≡ displacement ci → p ≡ rdfs_at ci → right_of ci d p ≡ last_of ci
  last-is h d p e f = rw (le-ltb (length ci) 4 h, e, f)

-- ---- the record after a spot, and the one before it

module _ (ci : List ℕ) (s : Spot) where
  pub after-past : length ci < s.start → None ≡ after_of ci s
  unfolding after_of
  after-past h = rw (lt-ltb (length ci) s.start h)

  pub after-cut : s.start ≤ length ci → length ci - s.start < s.len → None ≡ after_of ci s
  unfolding after_of
  after-cut h k = rw (le-ltb (length ci) s.start h, lt-ltb (length ci - s.start) s.len k)

  module _ (h : s.start ≤ length ci) (k : s.len ≤ length ci - s.start) where
    pub after_same : 0 < s.left → some_of (s.start + s.len) s.len (s.left - 1) s.at ≡ after_of ci s
    unfolding after_of
    after_same l = rw (le-ltb (length ci) s.start h, le-ltb (length ci - s.start) s.len k, lt-ltb 0 s.left l)

    pub after-short : s.left ≤ 0 → length ci < 4 → None ≡ after_of ci s
    unfolding after_of
    after-short l g = rw (le-ltb (length ci) s.start h, le-ltb (length ci - s.start) s.len k, le-ltb 0 s.left l, lt-ltb (length ci) 4 g)

    pub after-far : s.left ≤ 0 → 4 ≤ length ci → length ci - 4 < s.at → None ≡ after_of ci s
    unfolding after_of
    after-far l g f =
        rw (
          le-ltb (length ci) s.start h,
          le-ltb (length ci - s.start) s.len k,
          le-ltb 0 s.left l,
          le-ltb (length ci) 4 g,
          lt-ltb (length ci - 4) s.at f,
        )

    pub after-group : s.left ≤ 0 → 4 ≤ length ci → s.at ≤ length ci - 4 → left_of ci (s.start + s.len) s.at ≡ after_of ci s
    unfolding after_of
    after-group l g f =
        rw (
          le-ltb (length ci) s.start h,
          le-ltb (length ci - s.start) s.len k,
          le-ltb 0 s.left l,
          le-ltb (length ci) 4 g,
          le-ltb (length ci - 4) s.at f,
        )

  pub before_same : 0 < s.left → end_of s.start s.len s.left s.at ≡ before_of ci s
  unfolding before_of
  before_same l = rw (lt-ltb 0 s.left l)

  pub before-short : s.left ≤ 0 → length ci < 4 → None ≡ before_of ci s
  unfolding before_of
  before-short l g = rw (le-ltb 0 s.left l, lt-ltb (length ci) 4 g)

  pub before-group : s.left ≤ 0 → 4 ≤ length ci → right_of ci s.start s.at ≡ before_of ci s
  unfolding before_of
  before-group l g = rw (le-ltb 0 s.left l, le-ltb (length ci) 4 g)
