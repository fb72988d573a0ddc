-- Where a walk stands in a whole area: at one of its records, with all that the steps need; and the first and the last record from an entry on.
use Prim.Native.Nat.{ℕ, zero, suc, ◌+◌, ◌-◌, ◌*◌, ◌≤◌, ◌<◌}
use mathlib.Core.Path.{◌≡◌, refl, ◌∙◌, sym, ap}
use mathlib.Core.Bool.{Bool, true, false}
use mathlib.Core.List.{List, [], ◌∷◌, cons-ne-nil}
use lib.ListN.{length, get_or, take, drop}
use lib.Seq.{split_at, get_or-take, get_or-drop}
use lib.Dec.{eqb, ltb}
use native.Mathlib.Omega.{arith}
use native.Mathlib.Numerals.{add-one}
use borrow.Author.Tests.{eq-eqb, ne_eqb, ltb-true, ltb-false, le-ltb, lt-leb}
use Rattle.std.specs.Prelude.{Option, Some, None}
use Rattle.fields.specs.Choice.{pick}
use Rattle.fields.specs.Bytes.{part, number}
use Rattle.fields.proofs.Splices.{part-part}
use Rattle.measures.specs.Judgement.{Fits, width_for}
use Rattle.measures.specs.declared.Measures.{Measures}
use Rattle.measures.proofs.Fine.{fits-large}
use Rattle.interval.specs.Reading.{records_in}
use Rattle.interval.specs.Search.{start_of}
use Rattle.interval.proofs.FoundBytes.{record-there}
use Rattle.area.specs.Content.{Filled, Content, index_in, records_of}
use Rattle.area.specs.Reading.{read_area, whole}
use Rattle.area.proofs.Places.{data-ends, length-data}
use Rattle.interval_walk.specs.declared.Spot.{Spot}
use Rattle.interval_walk.specs.AidSpots.{spot, first_of, last_of, SpotOf, StepTo}
use Rattle.interval_walk.proofs.Standing.{stands-long, stands-inside}
use Rattle.interval_walk.proofs.Stepping.{first-stands, first-none, last-stands, empty-displacement}
use Rattle.index_walk.specs.declared.Edge.{Edge}
use Rattle.index_walk.specs.AidPasses.{edge, edge_first, pass_of, met}
use Rattle.requests.specs.Walks.{items_of}
use Rattle.requests.proofs.Items.{none, item-at}
use Rattle.walk.specs.declared.Place.{Place}
use Rattle.walk.specs.AidSteps.{end_place, placed_of, placed_or, beyond_of, edge_past_of, spot_in, ahead_of, ahead_by, filled, filled_from, last_filled_of, behind_at, behind_of, record_of}
use Rattle.walk.specs.AidStands.{nowhere, before, num_at, base_at, data_of, edge_at, StandsAt, Stood}
use Rattle.walk.specs.declared.Filled.{Filled as Found}
use Rattle.walk.proofs.Passing.{Passed, passed-at}
use Rattle.walk.proofs.Holdings.{before-zero, before-suc, before-all, before-most, Held, held_at, held-few}

-- a number in a part
number-part : (w : ℕ) (b : List ℕ) (a l s : ℕ) → s + w ≤ l → number w (part b a l) s ≡ number w b (a + s)
unfolding number
number-part zero b a l s h = refl
number-part (suc w) b a l s h =
    let e : a + (s + w) ≡ a + s + w = omega arith in
    rw (number-part w b a l s (omega arith), get_or-take l (drop a b) (s + w) 0 (omega arith), get_or-drop a b (s + w) 0, e)

module _ (m : Measures) (n : ℕ) (area : List ℕ) (fits : Fits m n (length area)) (c : Content) (w : read_area m n area ≡ whole c) where
  abbrev fs : List Filled
  fs = c.filled

  -- ---- at a record

  module _ (i : ℕ) (h : i < length fs) where
    abbrev held : Held m n area fits c w i
    held = held_at m n area fits c w i h

    -- a record of its interval is one of the items
    pub placed-stands : (forward : Bool) (s : Spot) (o : ℕ) (e : Edge) → SpotOf m (data_of m area c i) forward s o → e ≡ pick forward (edge_at m n area (suc i)) (edge 0 0)
        → StandsAt m n area c forward (placed_of s (base_at m c i) i e) (before fs i + o)
    placed-stands forward s o e t q =
        let z : base_at m c i + s.start - base_at m c i ≡ s.start = omega arith in
        let y : spot (base_at m c i + s.start - base_at m c i) s.len s.left s.at ≡ s = ap (λ (x : ℕ). spot x s.len s.left s.at) z in
        record { inside = h; ordinal = o; item = refl; past = omega arith; spot = rw y t; next = q }

    -- so is one that a step there gives
    pub placed-step : (forward : Bool) (other : Place) (x : Option Spot) (o : ℕ) (e : Edge) → StepTo m (data_of m area c i) forward x o → e ≡ pick forward (edge_at m n area (suc i)) (edge 0 0)
        → StandsAt m n area c forward (placed_or other x (base_at m c i) i e) (before fs i + o)
    placed-step forward other (Some s) o e t q = placed-stands forward s o e t q
    placed-step forward other None o e t q = absurd t

  module _ (forward : Bool) (p : Place) (j : ℕ) (t : StandsAt m n area c forward p j) where
    abbrev i : ℕ
    i = p.entry

    abbrev rs : List (List ℕ)
    rs = (get_or fs p.entry nowhere).records

    here : Held m n area fits c w p.entry
    here = held_at m n area fits c w p.entry t.inside

    -- where it begins, how long it is, and that it lies in its interval
    pub stands-start : p.start ≡ base_at m c p.entry + start_of t.ordinal rs
    stands-start = let z : p.start - base_at m c p.entry ≡ start_of t.ordinal rs = rw here.records t.spot.start in omega (arith, t.past)

    pub stands-there : t.ordinal < length rs
    stands-there = rw here.records t.spot.there

    pub stands-some : 0 < p.length
    stands-some = stands-long m (data_of m area c p.entry) here.reads forward (spot_in (base_at m c p.entry) p) t.ordinal t.spot

    pub stands-within : p.start + p.length ≤ base_at m c p.entry + m.size
    stands-within =
        omega (
          arith,
          stands-inside m (data_of m area c p.entry) here.reads forward (spot_in (base_at m c p.entry) p) t.ordinal t.spot,
          length-data m n area fits (num_at c p.entry) here.within,
          t.past,
        )

    pub stands-area : p.start + p.length ≤ length area
    stands-area = omega (arith, stands-within, data-ends m n area fits (num_at c p.entry) here.within)

    -- it is that item, and its record is the item's
    pub stands-item : get_or (items_of m fs) j none ≡ record { start = p.start; bytes = get_or rs t.ordinal [] }
    stands-item =
        ap (λ (k : ℕ). get_or (items_of m fs) k none) t.item
        ∙ ap (λ (xs : List Filled). get_or (items_of m xs) (before fs p.entry + t.ordinal) none) (split_at fs p.entry nowhere t.inside)
        ∙ item-at m (take p.entry fs) (get_or fs p.entry nowhere) (drop (suc p.entry) fs) t.ordinal stands-there
        ∙ ap (λ (s : ℕ). record { start = s; bytes = get_or rs t.ordinal [] }) (sym stands-start)

    pub stands-record : record_of area p ≡ get_or rs t.ordinal []
    stands-record =
        let d : p.start - base_at m c p.entry + p.length ≤ m.size = omega (arith, stands-within, t.past) in
        let z : base_at m c p.entry + (p.start - base_at m c p.entry) ≡ p.start = omega (arith, t.past) in
        let r : part (data_of m area c p.entry) (start_of t.ordinal (records_in (data_of m area c p.entry))) (length (get_or (records_in (data_of m area c p.entry)) t.ordinal [])) ≡ get_or (records_in (data_of m area c p.entry)) t.ordinal [] =
        record-there m (data_of m area c p.entry) here.reads t.ordinal t.spot.there in
        let q : part (data_of m area c p.entry) (p.start - base_at m c p.entry) p.length ≡ get_or rs t.ordinal [] =
        rw here.records (rw (t.spot.start, t.spot.long) r) in
        rw (le-ltb (length area) p.start (omega (arith, stands-area)), le-ltb (length area - p.start) p.length (omega (arith, stands-area)))
        (ap (λ (a : ℕ). part area a p.length) (sym z) ∙ sym (part-part area (base_at m c p.entry) m.size (p.start - base_at m c p.entry) p.length d) ∙ q)

    pub stands-few : j < length (records_of fs)
    stands-few = omega (arith, t.item, stands-there, before-suc fs p.entry t.inside, before-most fs (suc p.entry))

  -- ---- over entries

  -- The last of the first i entries whose interval has records, with its interval's number; or none of them has.
  pub data FoundTo (i : ℕ) (f : Option Found) : Type 0 where
    nothing : f ≡ None → before fs i ≡ 0 → FoundTo i f
    there : (k : ℕ) → k < i → f ≡ Some (filled k (num_at c k)) → 0 < length (records_in (data_of m area c k)) → before fs i ≡ before fs (suc k) → FoundTo i f

  -- one entry more, without records
  found-more : (i : ℕ) (f : Option Found) → before fs (i + 1) ≡ before fs i → FoundTo i f → FoundTo (i + 1) f
  found-more i f u (nothing e z) = nothing e (u ∙ z)
  found-more i f u (there k h e l z) = there k (omega arith) e l (u ∙ z)

  passed : (i : ℕ) → i < length fs → Passed m n area c w i
  passed i h = passed-at m n area c w fits i h

  -- past entry i, and past the last no entry ends anywhere
  edge-suc : (i : ℕ) (h : i < length fs) → beyond_of (eqb (suc i) (length fs)) (passed i h).next ≡ edge_at m n area (suc i)
  unfolding edge_past_of
  edge-suc i h = rw (passed i h).met

  edge-last : (i : ℕ) → i < length fs → suc i ≡ length fs → (edge_at m n area (suc i)).right ≡ 0
  edge-last i h e = ap (λ (x : Edge). x.right) (sym (edge-suc i h)) ∙ rw (eq-eqb (suc i) (length fs) e)

  edge_none : (i : ℕ) → 0 < length fs → i ≡ length fs → (edge_at m n area i).right ≡ 0
  edge_none zero some e = absurd (omega arith)
  edge_none (suc i) some e = edge-last i (omega arith) e

  -- The first record from entry i on, k being at least as many as the entries from there on.
  pub ahead-stood : (k i : ℕ) → 0 < length fs → i ≤ length fs → n ≤ i + k → Stood m n area c true (before fs i) (ahead_of k area m.size n i (edge_at m n area i))
  unfolding ahead_of
  ahead-stood zero i some few room =
      let z : i ≡ length fs = omega (arith, held-few m n area fits c w) in
      (λ (h : before fs i < length (records_of fs)). absurd (omega (arith, before-all fs i (omega arith))), λ (h : length (records_of fs) ≤ before fs i). refl)
  ahead-stood (suc k) i some few room = go (ltb i (length fs)) refl
      (λ (h : i < length fs). ahead-stood k (suc i) some h (omega arith))
    where
      end : Place → Type 0
      end p = Stood m n area c true (before fs i) p

      later : Edge → Place
      later f = ahead_of k area m.size n (i + 1) f

      -- this entry has no record
      pass_on : (h : i < length fs) → length (get_or fs i nowhere).records ≡ 0 → Stood m n area c true (before fs (suc i)) (ahead_of k area m.size n (suc i) (edge_at m n area (suc i))) → end (later (edge_at m n area (suc i)))
      pass_on h z again =
          let y : before fs (suc i) ≡ before fs i = omega (arith, before-suc fs i h, z) in
          let x : suc i ≡ i + 1 = omega arith in
          rw (← y, ← x) again

      one : (h : i < length fs) → Stood m n area c true (before fs (suc i)) (ahead_of k area m.size n (suc i) (edge_at m n area (suc i))) → (ws : List (List ℕ)) → records_in (data_of m area c i) ≡ ws
          → end (ahead_by later area m.size n i (Some (met (num_at c i) (passed i h).next (eqb (suc i) (length fs)))))
      one h again [] e =
          let d = held_at m n area fits c w i h in
          let z : first_of (data_of m area c i) ≡ None = first-none m (data_of m area c i) d.reads e in
          rw (lt-leb n (num_at c i) d.within, z, edge-suc i h) (pass_on h (ap length (d.records ∙ e)) again)
      one h again (x ∷ ws) e =
          let d = held_at m n area fits c w i h in
          let t : StepTo m (data_of m area c i) true (first_of (data_of m area c i)) 0 = first-stands m (data_of m area c i) d.reads (omega (arith, ap length e)) in
          let b : Edge = beyond_of (eqb (suc i) (length fs)) (passed i h).next in
          let f : Place = placed_or (later b) (first_of (data_of m area c i)) (base_at m c i) i b in
          let p : StandsAt m n area c true f (before fs i + 0) = placed-step i h true (later b) (first_of (data_of m area c i)) 0 b t (edge-suc i h) in
          let y : before fs i + 0 ≡ before fs i = omega arith in
          rw (lt-leb n (num_at c i) d.within) (
            λ (q : before fs i < length (records_of fs)). rw y at p,
            λ (q : length (records_of fs) ≤ before fs i). absurd (omega (arith, stands-few true f (before fs i + 0) p)),
          )

      go : (t : Bool) → ltb i (length fs) ≡ t → (i < length fs → Stood m n area c true (before fs (suc i)) (ahead_of k area m.size n (suc i) (edge_at m n area (suc i))))
          → end (pick (eqb (edge_at m n area i).right 0) end_place (ahead_by later area m.size n i (pass_of (width_for n) (index_in m area) (edge_at m n area i))))
      go true e again =
          let h : i < length fs = ltb-true i (length fs) e in
          rw (ne_eqb (edge_at m n area i).right 0 (omega (arith, (passed i h).some)), (passed i h).met) (one h (again h) (records_in (data_of m area c i)) refl)
      go false e again =
          let z : i ≡ length fs = omega (arith, ltb-false i (length fs) e) in
          rw (eq-eqb (edge_at m n area i).right 0 (edge_none i some z))
          (λ (h : before fs i < length (records_of fs)). absurd (omega (arith, before-all fs i (omega arith))), λ (h : length (records_of fs) ≤ before fs i). refl)

  -- ---- the last record of the first entries

  -- What the two bytes of the displacement of an interval say, where they lie in the area.
  displaced : (i : ℕ) → i < length fs → number 2 area ((num_at c i + 2) * m.size - 4) ≡ number 2 (data_of m area c i) (length (data_of m area c i) - 4)
  displaced i h =
      let d = held_at m n area fits c w i h in
      let l = length-data m n area fits (num_at c i) d.within in
      let a : (num_at c i + 2) * m.size - 4 ≡ base_at m c i + (m.size - 4) = omega (arith, fits-large fits) in
      rw (a, l) (sym (number-part 2 area (base_at m c i) m.size (m.size - 4) (omega (arith, fits-large fits))))

  pub found-on : (k i : ℕ) (e : Edge) (f : Option Found) → i + k ≤ length fs → (0 < k → e ≡ edge_at m n area i) → FoundTo i f → FoundTo (i + k) (filled_from k area m.size n i e f)
  unfolding filled_from
  found-on zero i e f few q t = let z : i + 0 ≡ i = omega arith in rw z t
  found-on (suc k) i e f few q t =
      rw (q (omega arith), (passed i h).met, lt-leb n (num_at c i) (held_at m n area fits c w i h).within)
      (rw z (found-on k (i + 1) (passed i h).next _ (omega arith) next (go (records_in (data_of m area c i)) refl)))
    where
      h : i < length fs
      h = omega arith

      z : i + suc k ≡ i + 1 + k
      z = omega arith

      next : 0 < k → (passed i h).next ≡ edge_at m n area (i + 1)
      next l =
          let y : i + 1 ≡ suc i = omega arith in
          let b : beyond_of false (passed i h).next ≡ edge_at m n area (suc i) = rw (ne_eqb (suc i) (length fs) (omega (arith, few, l))) at (edge-suc i h) in
          rw y b

      go : (ws : List (List ℕ)) → records_in (data_of m area c i) ≡ ws → FoundTo (i + 1) (pick (eqb (number 2 area ((num_at c i + 2) * m.size - 4)) 0) f (Some (filled i (num_at c i))))
      go [] e =
          let d = held_at m n area fits c w i h in
          let y : number 2 area ((num_at c i + 2) * m.size - 4) ≡ 0 = displaced i h ∙ (empty-displacement m (data_of m area c i) d.reads).0 e in
          let u : before fs (i + 1) ≡ before fs i = rw add-one (omega (arith, before-suc fs i h, ap length (d.records ∙ e))) in
          rw (eq-eqb _ 0 y) (found-more i f u t)
      go (x ∷ ws) e =
          let d = held_at m n area fits c w i h in
          let y : number 2 area ((num_at c i + 2) * m.size - 4) ≡ 0 → ⊥ = λ (s : number 2 area ((num_at c i + 2) * m.size - 4) ≡ 0). cons-ne-nil x ws (sym e ∙ (empty-displacement m (data_of m area c i) d.reads).1 (sym (displaced i h) ∙ s)) in
          rw (ne_eqb _ 0 y) (there i (omega arith) refl (omega (arith, ap length e)) (rw add-one))

  edge-start : edge_first (index_in m area) ≡ edge_at m n area 0
  unfolding edge_past_of
  edge-start = refl

  -- The last record of the first so many entries.
  pub behind-stood : (k : ℕ) → k ≤ length fs → Stood m n area c false (before fs k) (behind_of area m.size n k)
  behind-stood k few =
      let y : 0 + k ≡ k = omega arith in
      let t : FoundTo (0 + k) (last_filled_of area m.size n k) = found-on k 0 (edge_first (index_in m area)) None (omega arith) (λ (l : 0 < k). edge-start) (nothing refl (before-zero fs)) in
      go (last_filled_of area m.size n k) (rw y at t)
    where
      go : (f : Option Found) → FoundTo k f → Stood m n area c false (before fs k) (behind_at area m.size f)
      go f (nothing e z) = rw e (λ (i : ℕ) (q : suc i ≡ before fs k). absurd (omega (arith, z)), λ (q : before fs k ≡ 0). refl)
      go f (there i h e l z) =
          let b : i < length fs = omega arith in
          let d = held_at m n area fits c w i b in
          let v : before fs (suc i) ≡ before fs i + length (records_in (data_of m area c i)) = before-suc fs i b ∙ ap (λ (rs : List (List ℕ)). before fs i + length rs) d.records in
          let s : StepTo m (data_of m area c i) false (last_of (data_of m area c i)) (length (records_in (data_of m area c i)) - 1) = last-stands m (data_of m area c i) d.reads l in
          let p : StandsAt m n area c false (placed_or end_place (last_of (data_of m area c i)) (base_at m c i) i (edge 0 0)) (before fs i + (length (records_in (data_of m area c i)) - 1)) = placed-step i b false end_place (last_of (data_of m area c i)) (length (records_in (data_of m area c i)) - 1) (edge 0 0) s refl in
          rw e (
            λ (j : ℕ) (q : suc j ≡ before fs k). let u : before fs i + (length (records_in (data_of m area c i)) - 1) ≡ j = omega (arith, z, v, q, l) in rw u at p,
            λ (q : before fs k ≡ 0). absurd (omega (arith, z, v, l)),
          )
