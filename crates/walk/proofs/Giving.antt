-- The steps from where a walk stands in a whole area give its items one after another, and then the end for ever; and where it stands is fixed.
use Prim.Native.Nat.{ℕ, zero, suc, ◌+◌, ◌-◌, ◌≤◌, ◌<◌}
use mathlib.Core.Path.{◌≡◌, refl, ◌∙◌, sym, ap}
use mathlib.Core.Bool.{Bool, true, false}
use mathlib.Core.List.{List, []}
use lib.ListN.{length, get_or, take, drop, length-drop}
use lib.Seq.{length-take-le, get_or-take, get_or-drop, take-take}
use lib.Dec.{ltb}
use native.Mathlib.Omega.{arith}
use borrow.Author.Tests.{ltb-true, ltb-false, le-ltb}
use Rattle.fields.specs.Choice.{pick}
use Rattle.measures.specs.Judgement.{Fits}
use Rattle.measures.specs.declared.Measures.{Measures}
use Rattle.area.specs.Content.{Filled, Content, records_of}
use Rattle.area.specs.Reading.{read_area, whole}
use Rattle.interval_walk.specs.declared.Spot.{Spot}
use Rattle.interval_walk.specs.AidSpots.{SpotOf}
use Rattle.interval_walk.proofs.Standing.{stands-once}
use Rattle.index_walk.specs.declared.Edge.{Edge}
use Rattle.index_walk.specs.AidPasses.{edge}
use Rattle.requests.specs.Walks.{Item, items_of, backwards}
use Rattle.requests.proofs.Items.{none, items-long, back_long, back_at}
use Rattle.walk.specs.declared.Place.{Place}
use Rattle.walk.specs.AidSteps.{end_place, edge_in, spot_in, next_of, record_of, steps_from}
use Rattle.walk.specs.AidGives.{Gives}
use Rattle.walk.specs.AidStands.{nowhere, before, base_at, data_of, edge_at, StandsAt, Stood}
use Rattle.walk.proofs.Holdings.{before-suc, before-most}
use Rattle.walk.proofs.Standing.{stands-item, stands-record, stands-some, stands-there}
use Rattle.walk.proofs.Stepping.{next_up, next_down}

-- ---- the end

-- Its next is itself,
pub end-next : (area : List ℕ) (size : ℕ) (forward : Bool) → next_of area size forward end_place ≡ end_place
unfolding next_of
end-next area size forward = refl

-- and its record is empty.
pub end-record : (area : List ℕ) → record_of area end_place ≡ []
end-record area = rw (le-ltb (length area) 0 (omega arith), le-ltb (length area - 0) 0 (omega arith))

module _ (m : Measures) (n : ℕ) (area : List ℕ) (fits : Fits m n (length area)) (c : Content) (w : read_area m n area ≡ whole c) where
  abbrev fs : List Filled
  fs = c.filled

  abbrev items : List Item
  items = items_of m c.filled

  -- a place that is that of an item
  told : (forward : Bool) (q : Place) (j : ℕ) (x : Item) → StandsAt m n area c forward q j → x ≡ get_or items j none
      → (q.start ≡ x.start) × (record_of area q ≡ x.bytes) × (0 < q.length)
  told forward q j x s e =
      let f : x ≡ record { start = q.start; bytes = get_or (get_or fs q.entry nowhere).records s.ordinal [] } = e ∙ stands-item m n area fits c w forward q j s in
      (ap (λ (i : Item). i.start) (sym f), stands-record m n area fits c w forward q j s ∙ ap (λ (i : Item). i.bytes) (sym f), stands-some m n area fits c w forward q j s)

  -- ---- upwards

  on-up : (j : ℕ) (p : Place) → Stood m n area c true j p → Stood m n area c true (suc j) (next_of area m.size true p)
  on-up j p t = go (ltb j (length (records_of fs))) refl
    where
      go : (b : Bool) → ltb j (length (records_of fs)) ≡ b → Stood m n area c true (suc j) (next_of area m.size true p)
      go true e = next_up m n area fits c w p j (t.0 (ltb-true j (length (records_of fs)) e))
      go false e =
          let l : length (records_of fs) ≤ j = ltb-false j (length (records_of fs)) e in
          rw (t.1 l, end-next area m.size true)
          (λ (h : suc j < length (records_of fs)). absurd (omega arith), λ (h : length (records_of fs) ≤ suc j). refl)

  pub steps_up : (k j : ℕ) (p : Place) → Stood m n area c true j p → Stood m n area c true (j + k) (steps_from k area m.size true p)
  unfolding steps_from
  steps_up zero j p t = let z : j + 0 ≡ j = omega arith in rw z t
  steps_up (suc k) j p t = let z : j + suc k ≡ suc j + k = omega arith in rw z (steps_up k (suc j) (next_of area m.size true p) (on-up j p t))

  -- From where it stands upwards the steps give the items from j on.
  pub gives_up : (j : ℕ) (p : Place) → Stood m n area c true j p → Gives area m.size true (drop j items) p
  gives_up j p t = record { there = there; ends = ends }
    where
      long : length (drop j items) ≡ length (records_of fs) - j
      long = length-drop j items ∙ ap (λ (x : ℕ). x - j) (items-long m fs)

      there : (k : ℕ) → k < length (drop j items)
          → ((steps_from k area m.size true p).start ≡ (get_or (drop j items) k none).start)
          × (record_of area (steps_from k area m.size true p) ≡ (get_or (drop j items) k none).bytes)
          × (0 < (steps_from k area m.size true p).length)
      there k h = told true (steps_from k area m.size true p) (j + k) (get_or (drop j items) k none) ((steps_up k j p t).0 (omega (arith, long, h))) (get_or-drop j items k none)

      ends : (k : ℕ) → length (drop j items) ≤ k → ((steps_from k area m.size true p).length ≡ 0) × (record_of area (steps_from k area m.size true p) ≡ [])
      ends k h = rw ((steps_up k j p t).1 (omega (arith, long, h))) (refl, end-record area)

  -- ---- downwards

  on-down : (j : ℕ) (p : Place) → Stood m n area c false j p → Stood m n area c false (j - 1) (next_of area m.size false p)
  on-down zero p t =
      let e : p ≡ end_place = t.1 refl in
      rw (e, end-next area m.size false) (λ (i : ℕ) (q : suc i ≡ 0 - 1). absurd (omega arith), λ (q : 0 - 1 ≡ 0). refl)
  on-down (suc j) p t =
      let z : suc j - 1 ≡ j = omega arith in
      rw z (next_down m n area fits c w p j (t.0 j refl))

  pub steps-down : (k j : ℕ) (p : Place) → Stood m n area c false j p → Stood m n area c false (j - k) (steps_from k area m.size false p)
  unfolding steps_from
  steps-down zero j p t = let z : j - 0 ≡ j = omega arith in rw z t
  steps-down (suc k) j p t = let z : j - suc k ≡ j - 1 - k = omega arith in rw z (steps-down k (j - 1) (next_of area m.size false p) (on-down j p t))

  -- From where it stands downwards the steps give the first j items, the last of them first.
  pub gives-down : (j : ℕ) (p : Place) → j ≤ length (records_of fs) → Stood m n area c false j p → Gives area m.size false (backwards (take j items)) p
  gives-down j p few t = record { there = there; ends = ends }
    where
      some : length (take j items) ≡ j
      some = length-take-le j items (omega (arith, few, items-long m fs))

      long : length (backwards (take j items)) ≡ j
      long = back_long (take j items) ∙ some

      item : (k : ℕ) → k < j → get_or (take j items) (length (take j items) - 1 - k) none ≡ get_or items (j - 1 - k) none
      item k h = rw some (get_or-take j items (j - 1 - k) none (omega arith))

      there : (k : ℕ) → k < length (backwards (take j items))
          → ((steps_from k area m.size false p).start ≡ (get_or (backwards (take j items)) k none).start)
          × (record_of area (steps_from k area m.size false p) ≡ (get_or (backwards (take j items)) k none).bytes)
          × (0 < (steps_from k area m.size false p).length)
      there k h =
          told false (steps_from k area m.size false p) (j - 1 - k) (get_or (backwards (take j items)) k none) ((steps-down k j p t).0 (j - 1 - k) (omega (arith, long, h)))
          (back_at (take j items) k (omega (arith, long, some, h)) ∙ item k (omega (arith, long, h)))

      ends : (k : ℕ) → length (backwards (take j items)) ≤ k → ((steps_from k area m.size false p).length ≡ 0) × (record_of area (steps_from k area m.size false p) ≡ [])
      ends k h = rw ((steps-down k j p t).1 (omega (arith, long, h))) (refl, end-record area)

  -- ---- one place for each item

  before-up : (i k : ℕ) → i ≤ k → before fs i ≤ before fs k
  before-up i k h = let e : before (take k fs) i ≡ before fs i = ap (λ (xs : List Filled). length (records_of xs)) (take-take i k fs h) in omega (arith, e, before-most (take k fs) i)

  module _ (forward : Bool) (p q : Place) (j : ℕ) (t : StandsAt m n area c forward p j) (u : StandsAt m n area c forward q j) where
    same-entry : p.entry ≡ q.entry
    same-entry = go (ltb p.entry q.entry) (ltb q.entry p.entry) refl refl
      where
        go : (a b : Bool) → ltb p.entry q.entry ≡ a → ltb q.entry p.entry ≡ b → p.entry ≡ q.entry
        go true b e f =
            absurd (omega (arith, t.item, u.item, stands-there m n area fits c w forward p j t, before-suc fs p.entry t.inside, before-up (suc p.entry) q.entry (ltb-true p.entry q.entry e)))
        go false true e f =
            absurd (omega (arith, t.item, u.item, stands-there m n area fits c w forward q j u, before-suc fs q.entry u.inside, before-up (suc q.entry) p.entry (ltb-true q.entry p.entry f)))
        go false false e f = omega (arith, ltb-false p.entry q.entry e, ltb-false q.entry p.entry f)

    same-ordinal : t.ordinal ≡ u.ordinal
    same-ordinal = let e : before fs p.entry ≡ before fs q.entry = ap (before fs) same-entry in omega (arith, t.item, u.item, e)

    same_spot : spot_in (base_at m c p.entry) p ≡ spot_in (base_at m c q.entry) q
    same_spot =
        let v : SpotOf m (data_of m area c p.entry) forward (spot_in (base_at m c q.entry) q) t.ordinal = rw (same-ordinal, same-entry) u.spot in
        stands-once m (data_of m area c p.entry) t.ordinal forward (spot_in (base_at m c p.entry) p) (spot_in (base_at m c q.entry) q) t.spot v

    -- Where a walk stands is fixed by the item.
    pub stands_same : p ≡ q
    stands_same =
        let b : base_at m c p.entry ≡ base_at m c q.entry = ap (base_at m c) same-entry in
        let d : p.start - base_at m c p.entry ≡ q.start - base_at m c q.entry = ap (λ (s : Spot). s.start) same_spot in
        let n : edge_in p ≡ edge_in q = t.next ∙ ap (λ (i : ℕ). pick forward (edge_at m n area (suc i)) (edge 0 0)) same-entry ∙ sym u.next in
        same same-entry (omega (arith, d, b, t.past, u.past)) (ap (λ (s : Spot). s.len) same_spot) (ap (λ (s : Spot). s.left) same_spot) (ap (λ (s : Spot). s.at) same_spot)
        (ap (λ (e : Edge). e.right) n) (ap (λ (e : Edge). e.end) n)
      where
        place : ℕ → ℕ → ℕ → ℕ → ℕ → ℕ → ℕ → Place
        place a b c d e f g = record { entry = a; start = b; length = c; left = d; at = e; right = f; end = g }

        same : p.entry ≡ q.entry → p.start ≡ q.start → p.length ≡ q.length → p.left ≡ q.left → p.at ≡ q.at → p.right ≡ q.right → p.end ≡ q.end → p ≡ q
        same a b c d e f g =
            let z : place p.entry p.start p.length p.left p.at p.right p.end ≡ place q.entry q.start q.length q.left q.at q.right q.end = cc in
            z

  pub stood-same : (forward : Bool) (j : ℕ) (p q : Place) → Stood m n area c forward j p → Stood m n area c forward j q → p ≡ q
  stood-same true j p q t u = go (ltb j (length (records_of fs))) refl
    where
      go : (b : Bool) → ltb j (length (records_of fs)) ≡ b → p ≡ q
      go true e = let h = ltb-true j (length (records_of fs)) e in stands_same true p q j (t.0 h) (u.0 h)
      go false e = let h = ltb-false j (length (records_of fs)) e in t.1 h ∙ sym (u.1 h)
  stood-same false zero p q t u = t.1 refl ∙ sym (u.1 refl)
  stood-same false (suc j) p q t u = stands_same false p q j (t.0 j refl) (u.0 j refl)
