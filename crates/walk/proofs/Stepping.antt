-- A step from a record of a whole area: to the next one in the direction, or to the end past the last. Where a walk stands is fixed by the record.
use Prim.Native.Nat.{ℕ, zero, suc, ◌+◌, ◌-◌, ◌*◌, ◌/◌, ◌≤◌, ◌<◌}
use mathlib.Core.Path.{◌≡◌, refl, ◌∙◌, sym, ap}
use mathlib.Core.Bool.{Bool, true, false}
use mathlib.Core.List.{List}
use lib.ListN.{length, replicate, length-append, length-replicate}
use lib.Dec.{ltb}
use native.Mathlib.Omega.{arith}
use native.Mathlib.Nat.{mul-div_cancel, add-mul-div_right, div-eq_of_lt}
use borrow.Author.Tests.{ne_eqb, ltb-true, ltb-false, lt-ltb, le-ltb, lt-leb}
use Rattle.std.specs.Prelude.{Option, None}
use Rattle.fields.specs.Choice.{pick}
use Rattle.measures.specs.Judgement.{Fits}
use Rattle.measures.specs.declared.Measures.{Measures}
use Rattle.measures.proofs.Fine.{fits-large}
use Rattle.interval.specs.Reading.{records_in, Readable, rdfs, lengths}
use Rattle.area.specs.Content.{Filled, Content, records_of}
use Rattle.area.specs.Reading.{read_area, whole}
use Rattle.interval_walk.specs.declared.Spot.{Spot}
use Rattle.interval_walk.specs.AidSpots.{after_of, before_of, Backward, SpotOf, StepTo}
use Rattle.interval_walk.proofs.Standing.{stands-inside}
use Rattle.interval_walk.proofs.Stepping.{after_run, before-run, after-stands, after_none, before_stands, before-none}
use Rattle.walk.specs.declared.Place.{Place}
use Rattle.walk.specs.AidSteps.{count_in, placed_or, edge_in, spot_in, along_of, along_to, ahead_of, behind_of, leave_in, leave_of, next_of}
use Rattle.walk.specs.AidStands.{before, num_at, base_at, data_of, StandsAt, Stood}
use Rattle.walk.proofs.Holdings.{before-suc, Held, held_at, held-few}
use Rattle.walk.proofs.Standing.{placed-step, stands-some, stands-within, stands-area, stands-few, ahead-stood, behind-stood}

-- a record of the same run lies before one, downwards, where the spot says so
left-inside : (m : Measures) (ci : List ℕ) → Readable m ci → (s : Spot) (o : ℕ) → SpotOf m ci false s o → 0 < s.left → s.len ≤ s.start
unfolding before_of
left-inside m ci r s zero t l =
    let b : Backward m ci s 0 = t.way in
    absurd (omega (arith, ap length b.rest, length-append (lengths (rdfs ci s.at b.k)) (replicate s.left s.len), length-replicate {A = ℕ} s.left s.len))
left-inside m ci r s (suc o) t l = go (ltb s.start s.len) refl
  where
    x : suc o ≡ o + 1
    x = omega arith

    prior : StepTo m ci false (before_of ci s) o
    prior = before_stands m ci r s o (rw x at t)

    go : (b : Bool) → ltb s.start s.len ≡ b → s.len ≤ s.start
    go true e =
        let z : before_of ci s ≡ None = rw (lt-ltb 0 s.left l, e) in
        absurd (rw z at prior)
    go false e = ltb-false s.start s.len e

module _ (m : Measures) (n : ℕ) (area : List ℕ) (fits : Fits m n (length area)) (c : Content) (w : read_area m n area ≡ whole c) where
  abbrev fs : List Filled
  fs = c.filled

  abbrev S : ℕ
  S = m.size

  -- the area has n data intervals
  pub count-is : count_in (length area) S ≡ n
  count-is =
      let large : 512 ≤ S = fits-large fits in
      let a : length area ≡ (n + 1) * S = fits.bytes in
      let d : (n + 1) * S / S ≡ n + 1 = mul-div_cancel (n + 1) (omega arith) in
      rw (le-ltb S 512 large, a, le-ltb ((n + 1) * S) S (omega arith), d) (omega arith)

  module _ (forward : Bool) (p : Place) (j : ℕ) (t : StandsAt m n area c forward p j) where
    i : ℕ
    i = p.entry

    base : ℕ
    base = base_at m c p.entry

    abbrev ci : List ℕ
    ci = data_of m area c p.entry

    abbrev s : Spot
    s = spot_in (base_at m c p.entry) p

    held : Held m n area fits c w p.entry
    held = held_at m n area fits c w p.entry t.inside

    -- its interval is found again by where it begins
    interval-is : p.start / S ≡ num_at c p.entry + 1
    interval-is =
        let k : ℕ = num_at c p.entry + 1 in
        let large : 512 ≤ S = fits-large fits in
        let d : ℕ = p.start - k * S in
        let z : d < S = omega (arith, t.past, stands-within m n area fits c w forward p j t, stands-some m n area fits c w forward p j t) in
        let e : p.start ≡ d + k * S = omega (arith, t.past) in
        let q : (d + k * S) / S ≡ d / S + k = add-mul-div_right d k (omega arith) in
        let r : d / S ≡ 0 = div-eq_of_lt z in
        ap (λ (x : ℕ). x / S) e ∙ omega (arith, q, r)

    pub leave-is : leave_of area S forward p ≡ leave_in area S n forward p (base_at m c p.entry)
    unfolding leave_of
    leave-is =
        rw (count-is, lt-leb n p.entry (omega (arith, t.inside, held-few m n area fits c w)), interval-is, ne_eqb (num_at c p.entry + 1) 0 (omega arith), le-ltb n (num_at c p.entry + 1) (omega (arith, held.within)))

    next-some : next_of area S forward p ≡ pick (ltb 0 p.left) (along_of (length area) forward p) (leave_of area S forward p)
    unfolding next_of
    next-some = rw (ne_eqb p.length 0 (omega (arith, stands-some m n area fits c w forward p j t)))

  -- ---- upwards

  module _ (p : Place) (j : ℕ) (t : StandsAt m n area c true p j) where
    abbrev base_up : ℕ
    base_up = base_at m c p.entry

    abbrev data_up : List ℕ
    data_up = data_of m area c p.entry

    abbrev after : Option Spot
    after = after_of data_up (spot_in base_up p)

    held_up : Held m n area fits c w p.entry
    held_up = held_at m n area fits c w p.entry t.inside

    spot-inside : p.start - base_up + p.length ≤ length data_up
    spot-inside = stands-inside m data_up held_up.reads true (spot_in base_up p) t.ordinal t.spot

    -- in its run the step is that of the interval
    along-after : (other : Place) → 0 < p.left → along_of (length area) true p ≡ placed_or other after base_up p.entry (edge_in p)
    along-after other l =
        let z : base_up + (p.start - base_up + p.length) ≡ p.start + p.length = omega (arith, t.past) in
        let a = stands-area m n area fits c w true p j t in
        rw
        (le-ltb (length area) p.start (omega arith), le-ltb (length area - p.start) p.length (omega arith), after_run data_up (spot_in base_up p) (stands-some m n area fits c w true p j t) spot-inside l)
        (ap (λ (x : ℕ). along_to x p) (sym z))

    -- where the interval has no record after
    abbrev higher : Place
    higher = ahead_of (n - (p.entry + 1)) area S n (p.entry + 1) (edge_in p)

    -- so it is of any step
    next_in : next_of area S true p ≡ placed_or higher after base_up p.entry (edge_in p)
    next_in = next-some true p j t ∙ go (ltb 0 p.left) refl
      where
        go : (b : Bool) → ltb 0 p.left ≡ b → pick b (along_of (length area) true p) (leave_of area S true p) ≡ placed_or higher after base_up p.entry (edge_in p)
        go true e = along-after higher (ltb-true 0 p.left e)
        go false e = leave-is true p j t

    -- The step upwards from item j stands at item j + 1, or at the end where there is none.
    pub next_up : Stood m n area c true (suc j) (next_of area S true p)
    next_up = go (ltb (t.ordinal + 1) (length (records_in data_up))) refl
      where
        ends : before fs (suc p.entry) ≡ before fs p.entry + length (records_in data_up)
        ends = before-suc fs p.entry t.inside ∙ ap (λ (rs : List (List ℕ)). before fs p.entry + length rs) held_up.records

        go : (b : Bool) → ltb (t.ordinal + 1) (length (records_in data_up)) ≡ b → Stood m n area c true (suc j) (next_of area S true p)
        go true e =
            let u : StepTo m data_up true after (t.ordinal + 1) = after-stands m data_up held_up.reads (spot_in base_up p) t.ordinal t.spot (ltb-true (t.ordinal + 1) (length (records_in data_up)) e) in
            let a : StandsAt m n area c true (placed_or higher after base_up p.entry (edge_in p)) (before fs p.entry + (t.ordinal + 1)) =
            placed-step m n area fits c w p.entry t.inside true higher after (t.ordinal + 1) (edge_in p) u t.next in
            let y : before fs p.entry + (t.ordinal + 1) ≡ suc j = omega (arith, t.item) in
            rw next_in (
              λ (h : suc j < length (records_of fs)). rw y at a,
              λ (h : length (records_of fs) ≤ suc j). absurd (omega (arith, h, y, stands-few m n area fits c w true (placed_or higher after base_up p.entry (edge_in p)) (before fs p.entry + (t.ordinal + 1)) a)),
            )
        go false e =
            let o : t.ordinal + 1 ≡ length (records_in data_up) = omega (arith, ltb-false (t.ordinal + 1) (length (records_in data_up)) e, t.spot.there) in
            let y : before fs (suc p.entry) ≡ suc j = omega (arith, ends, t.item, o) in
            let x : p.entry + 1 ≡ suc p.entry = omega arith in
            let few : suc p.entry ≤ n = omega (arith, t.inside, held-few m n area fits c w) in
            let a = ahead-stood m n area fits c w (n - suc p.entry) (suc p.entry) (omega (arith, t.inside)) t.inside (omega (arith, few)) in
            rw (next_in, after_none m data_up held_up.reads (spot_in base_up p) t.ordinal t.spot o, ← y, x, t.next) a

  -- ---- downwards

  module _ (p : Place) (j : ℕ) (t : StandsAt m n area c false p j) where
    abbrev base_down : ℕ
    base_down = base_at m c p.entry

    abbrev data_down : List ℕ
    data_down = data_of m area c p.entry

    -- where the interval has no record before
    abbrev lower : Place
    lower = behind_of area S n p.entry

    abbrev prior : Option Spot
    prior = before_of data_down (spot_in base_down p)

    held_down : Held m n area fits c w p.entry
    held_down = held_at m n area fits c w p.entry t.inside

    -- a record of the same run lies before
    run-before : 0 < p.left → p.length ≤ p.start - base_down
    run-before l = left-inside m data_down held_down.reads (spot_in base_down p) t.ordinal t.spot l

    along-before : (other : Place) → 0 < p.left → along_of (length area) false p ≡ placed_or other prior base_down p.entry (edge_in p)
    along-before other l =
        let h = run-before l in
        let z : base_down + (p.start - base_down - p.length) ≡ p.start - p.length = omega (arith, t.past, h) in
        rw
        (le-ltb p.start p.length (omega (arith, h)), before-run data_down (spot_in base_down p) (stands-some m n area fits c w false p j t) h l)
        (ap (λ (x : ℕ). along_to x p) (sym z))

    prior_in : next_of area S false p ≡ placed_or lower prior base_down p.entry (edge_in p)
    prior_in = next-some false p j t ∙ go (ltb 0 p.left) refl
      where
        go : (b : Bool) → ltb 0 p.left ≡ b → pick b (along_of (length area) false p) (leave_of area S false p) ≡ placed_or lower prior base_down p.entry (edge_in p)
        go true e = along-before lower (ltb-true 0 p.left e)
        go false e = leave-is false p j t

    -- The step downwards from item j stands at item j - 1, or at the end where there is none.
    pub next_down : Stood m n area c false j (next_of area S false p)
    next_down = go t.ordinal refl
      where
        go : (o : ℕ) → t.ordinal ≡ o → Stood m n area c false j (next_of area S false p)
        go zero e =
            let y : before fs p.entry ≡ j = omega (arith, t.item, e) in
            let a = behind-stood m n area fits c w p.entry (omega (arith, t.inside)) in
            rw (prior_in, before-none m data_down held_down.reads (spot_in base_down p) (rw e at t.spot), ← y) a
        go (suc o) e =
            let x : suc o ≡ o + 1 = omega arith in
            let u : StepTo m data_down false prior o = before_stands m data_down held_down.reads (spot_in base_down p) o (rw (e, x) at t.spot) in
            let a : StandsAt m n area c false (placed_or lower prior base_down p.entry (edge_in p)) (before fs p.entry + o) =
            placed-step m n area fits c w p.entry t.inside false lower prior o (edge_in p) u t.next in
            rw prior_in (
              λ (i : ℕ) (q : suc i ≡ j). let y : before fs p.entry + o ≡ i = omega (arith, t.item, e, q) in rw y at a,
              λ (q : j ≡ 0). absurd (omega (arith, t.item, e, q)),
            )
