-- Where a walk begins in a whole area: at the place that a key leads to, or past it where nothing lies there.
use Prim.Native.Nat.{ℕ, suc, ◌+◌, ◌-◌, ◌*◌, ◌≤◌, ◌<◌}
use mathlib.Core.Path.{◌≡◌, refl, ◌∙◌, sym, ap}
use mathlib.Core.Bool.{Bool, true, false}
use mathlib.Core.List.{List}
use lib.ListN.{length}
use lib.Dec.{ltb}
use native.Mathlib.Omega.{arith}
use borrow.Author.Tests.{ltb-true, ltb-false}
use Rattle.std.specs.Prelude.{Option, Some, None}
use Rattle.std.proofs.lemmas.Option.{none-some}
use Rattle.measures.specs.Judgement.{Fits}
use Rattle.measures.specs.declared.Measures.{Measures}
use Rattle.interval.specs.Reading.{records_in, displacement, Readable}
use Rattle.interval.specs.Search.{Within}
use Rattle.interval.specs.declared.Found.TheVariants.{At, Gap}
use Rattle.area.specs.Content.{Filled, Content, data_in, records_of}
use Rattle.area.specs.Reading.{read_area, whole}
use Rattle.area_find.specs.AidSought.{Whole}
use Rattle.area_find.specs.declared.KeyPlace.{KeyPlace}
use Rattle.interval_walk.specs.declared.Spot.{Spot}
use Rattle.interval_walk.specs.AidSpots.{SpotOf, StepTo}
use Rattle.interval_walk.proofs.Standing.{stands-inside}
use Rattle.index_walk.specs.declared.Edge.{Edge}
use Rattle.index_walk.specs.AidPasses.{edge}
use Rattle.walk.specs.declared.Place.{Place}
use Rattle.walk.specs.AidSteps.{placed_of, ahead_of, behind_of}
use Rattle.walk.specs.AidStands.{before, num_at, base_at, data_of, edge_at, StandsAt, Stood, Sits, from_found, upto_found, FirstFrom}
use Rattle.walk.proofs.Passing.{number_at, entries-are, entries-many}
use Rattle.walk.proofs.Holdings.{before-suc, Held, held_at, held-few}
use Rattle.walk.proofs.Standing.{placed-stands, stands-few, ahead-stood, behind-stood}

module _ (m : Measures) (n : ℕ) (area : List ℕ) (c : Content) (w : read_area m n area ≡ whole c) where
  module _ (s : KeyPlace) (t : Sits m n area s) where
    pub sits-inside : s.entry < length c.filled
    sits-inside = omega (arith, t.inside, entries-many m n area c w)

    pub sits-number : s.number ≡ num_at c s.entry
    sits-number = t.number ∙ rw (entries-are m n area c w) (number_at c.filled s.entry)

module _ (m : Measures) (n : ℕ) (area : List ℕ) (fits : Fits m n (length area)) (c : Content) (w : read_area m n area ≡ whole c) where
  abbrev fs : List Filled
  fs = c.filled

  module _ (i k : ℕ) (h : i < length fs) (number : k ≡ num_at c i) where
    -- the records of entry i, in the interval with number k
    abbrev ci : List ℕ
    ci = data_in m area k

    held : Held m n area fits c w i
    held = held_at m n area fits c w i h

    here : (forward : Bool) (s : Option Spot) (o : ℕ) → StepTo m ci forward s o → StepTo m (data_of m area c i) forward s o
    here forward s o t = rw number at t

    many : before fs (suc i) ≡ before fs i + length (records_in ci)
    many = before-suc fs i h ∙ ap (λ (rs : List (List ℕ)). before fs i + length rs) held.records ∙ rw number

    base-is : (k + 1) * m.size ≡ base_at m c i
    base-is = rw number

    -- ---- upwards

    module _ (o : ℕ) (s : Option Spot) (f : FirstFrom m ci o s) (few : o ≤ length (records_in ci)) (e : Edge) (is : e ≡ edge_at m n area (i + 1)) where
      next : e ≡ edge_at m n area (suc i)
      next = let z : i + 1 ≡ suc i = omega arith in rw (← z) is

      -- a record lies there,
      pub above-here : (v : Spot) → s ≡ Some v → Stood m n area c true (before fs i + o) (placed_of v ((k + 1) * m.size) i e)
      above-here v l = rw base-is (go (ltb o (length (records_in ci))) refl)
        where
          go : (b : Bool) → ltb o (length (records_in ci)) ≡ b → Stood m n area c true (before fs i + o) (placed_of v (base_at m c i) i e)
          go true q =
              let t : StepTo m ci true (Some v) o = rw l at (f.0 (ltb-true o (length (records_in ci)) q)) in
              let p : StandsAt m n area c true (placed_of v (base_at m c i) i e) (before fs i + o) =
              placed-stands m n area fits c w i h true v o e (here true (Some v) o t) next in (
                λ (a : before fs i + o < length (records_of fs)). p,
                λ (a : length (records_of fs) ≤ before fs i + o). absurd (omega (arith, a, stands-few m n area fits c w true (placed_of v (base_at m c i) i e) (before fs i + o) p)),
              )
          go false q = absurd (none-some v (sym (f.1 (omega (arith, few, ltb-false o (length (records_in ci)) q))) ∙ l))

      -- or none, and the entries after it are looked at.
      pub above-past : s ≡ None → Stood m n area c true (before fs i + o) (ahead_of (n - (i + 1)) area m.size n (i + 1) e)
      above-past z = go (ltb o (length (records_in ci))) refl
        where
          go : (b : Bool) → ltb o (length (records_in ci)) ≡ b → Stood m n area c true (before fs i + o) (ahead_of (n - (i + 1)) area m.size n (i + 1) e)
          go true q = absurd (rw z at (f.0 (ltb-true o (length (records_in ci)) q)))
          go false q =
              let y : before fs (i + 1) ≡ before fs i + o = let x : i + 1 ≡ suc i = omega arith in rw x (omega (arith, many, few, ltb-false o (length (records_in ci)) q)) in
              rw (is, ← y) (ahead-stood m n area fits c w (n - (i + 1)) (i + 1) (omega arith) (omega arith) (omega (arith, held-few m n area fits c w)))

    -- ---- downwards

    -- the record at the place, or the one before it,
    pub below-here : (o : ℕ) (s : Spot) → SpotOf m ci false s o → (j : ℕ) → j ≡ o + 1 → Stood m n area c false (before fs i + j) (placed_of s ((k + 1) * m.size) i (edge 0 0))
    below-here o s t j e =
        let p : StandsAt m n area c false (placed_of s (base_at m c i) i (edge 0 0)) (before fs i + o) = placed-stands m n area fits c w i h false s o (edge 0 0) (here false (Some s) o t) refl in
        rw base-is (
          λ (x : ℕ) (q : suc x ≡ before fs i + j). let y : before fs i + o ≡ x = omega (arith, q, e) in rw y at p,
          λ (q : before fs i + j ≡ 0). absurd (omega (arith, q, e)),
        )

    -- or the entries before it are looked at.
    pub below-past : (j : ℕ) → j ≡ 0 → Stood m n area c false (before fs i + j) (behind_of area m.size n i)
    below-past j e = let y : before fs i + j ≡ before fs i = omega (arith, e) in rw y (behind-stood m n area fits c w i (omega arith))

-- ---- what a search told, upwards

module _ (m : Measures) (n : ℕ) (area : List ℕ) (q : KeyPlace) (t : Sits m n area q) (s u : Option Spot) (is : u ≡ s) where
  -- the first record at or above the place in its interval, and that the place is one of it
  abbrev pub Above : Type 0
  Above = FirstFrom m (data_in m area q.number) (from_found q.found) u × (from_found q.found ≤ length (records_in (data_in m area q.number)))

  pub above_at : (i start len : ℕ) → q.found ≡ At i start len → StepTo m (data_in m area q.number) true s i → Above
  above_at i start len e h =
      let w : Within (length (records_in (data_in m area q.number))) (displacement (data_in m area q.number)) (At i start len) = rw e at t.place in
      rw (e, is) ((λ (l : i < length (records_in (data_in m area q.number))). h, λ (l : i ≡ length (records_in (data_in m area q.number))). absurd (omega (arith, l, w.0))), omega (arith, w.0))

  pub above-gap : (i start : ℕ) → q.found ≡ Gap i start → FirstFrom m (data_in m area q.number) i s → Above
  above-gap i start e h =
      let w : Within (length (records_in (data_in m area q.number))) (displacement (data_in m area q.number)) (Gap i start) = rw e at t.place in
      rw (e, is) (h, w.0)

  -- it lies in the interval
  pub above-inside : Readable m (data_in m area q.number) → Above → (v : Spot) → u ≡ Some v → v.start ≤ length (data_in m area q.number)
  above-inside r a v l = go (ltb o (length (records_in ci))) refl
    where
      ci : List ℕ
      ci = data_in m area q.number

      o : ℕ
      o = from_found q.found

      go : (b : Bool) → ltb o (length (records_in ci)) ≡ b → v.start ≤ length ci
      go true e =
          let t : StepTo m ci true (Some v) o = rw l at (a.0.0 (ltb-true o (length (records_in ci)) e)) in
          omega (arith, stands-inside m ci r true v o t)
      go false e = absurd (none-some v (sym (a.0.1 (omega (arith, a.1, ltb-false o (length (records_in ci)) e))) ∙ l))

-- the same place
pub stood-as : (m : Measures) (n : ℕ) (area : List ℕ) (c : Content) (forward : Bool) (j : ℕ) (p q : Place) → q ≡ p → Stood m n area c forward j p → Stood m n area c forward j q
stood-as m n area c forward j p q e t = rw e t

-- an entry's ordinal is below the number of intervals
pub sits-few : (m : Measures) (n : ℕ) (area : List ℕ) → Fits m n (length area) → Whole m n area → (s : KeyPlace) → Sits m n area s → s.entry < n
sits-few m n area fits w s t = omega (arith, sits-inside m n area w.content w.reads s t, held-few m n area fits w.content w.reads)

-- ---- what a search told, downwards: how many records lie up to the place

pub upto-at : (q : KeyPlace) (i start len : ℕ) → q.found ≡ At i start len → upto_found q.found ≡ i + 1
upto-at q i start len e = rw e

pub upto-gap : (q : KeyPlace) (i start : ℕ) → q.found ≡ Gap i start → upto_found q.found ≡ i
upto-gap q i start e = rw e
