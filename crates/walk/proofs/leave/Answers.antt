-- No loop. leave-entry, leave-index and leave-far for a place that is none of the area's; else the next record of the interval (leave-after, leave-before) or of
-- another one (leave-ahead, leave-behind). The interval that the place lies in ends within the area (place-ends).
use Prim.Native.Nat.{ℕ, ◌+◌, ◌-◌, ◌*◌, ◌/◌, ◌≤◌, ◌<◌}
use mathlib.Core.Path.{◌≡◌, ◌∙◌, ap}
use mathlib.Core.List.{List}
use lib.ListN.{length, take, drop}
use native.Mathlib.Omega.{arith}
use native.Mathlib.Nat.{div-mul-le_self}
use Rattle.std.specs.Prelude.{Option}
use Rattle.fields.specs.Bytes.{part}
use Rattle.fields.proofs.Splices.{part-is, length-mid}
use Rattle.interval_walk.specs.declared.Spot.{Spot}
use Rattle.interval_walk.specs.AidSpots.{after_of, before_of}
use Rattle.interval_walk.proofs.Landing.{after-start, before-start}
use Rattle.walk.specs.declared.Place.{Place}
use Rattle.walk.specs.AidSteps.{count_in, spot_in}
use Rattle.walk.proofs.Ways.{count-large, starts-at, leave-entry, leave-index, leave-far, leave-after, leave-ahead, leave-before, leave-behind, place-ends}
use Rattle.walk.proofs.leave.Goals as goal
use Rattle.walk.proofs.leave.Goals.{then-number-eq0-via-then-number-eq0, then-number-eq0-via-else-number-eq0+then-n-number}

-- where there is an entry, the area holds its intervals
module _ (area : List ℕ) (size n : ℕ) (p : Place) (count : n ≡ count_in (length area) size) (h : p.entry < n) where
  large : (512 ≤ size) × ((n + 1) * size ≤ length area)
  large = count-large (length area) size n count (omega (arith, h))

  -- so the one that the place lies in ends there
  ends : p.start / size ≤ n → p.start / size * size + size ≤ length area
  ends few = place-ends size n (length area) (p.start / size) large.1 few

-- a step reads the bytes of that interval
module _ (area : List ℕ) (size : ℕ) (p : Place) (x : Option Spot) where
  abbrev base : ℕ
  base = p.start / size * size

  abbrev lent : List ℕ
  lent = take (base + size - base) (drop base area)

  after-told : x ≡ after_of lent (spot_in base p) → x ≡ after_of (part area base size) (spot_in base p)
  after-told e = e ∙ ap (λ ci. after_of ci (spot_in base p)) (part-is area base size)

  before-told : x ≡ before_of lent (spot_in base p) → x ≡ before_of (part area base size) (spot_in base p)
  before-told e = e ∙ ap (λ ci. before_of ci (spot_in base p)) (part-is area base size)

pub returns-then-n-p : goal.returns-then-n-p
returns-then-n-p c =
    let a = c.args in
    c.ended.ensures ∙ leave-entry a.area.now a.size c.count_of-n.result a.forward a.p c.count_of-n.ensures c.if-n-p.true

pub returns-then-number-eq0 : goal.returns-then-number-eq0
returns-then-number-eq0 c =
    let a = c.args in
    let n = c.count_of-n.result in
    c.ended-then-number-eq0.ensures
    ∙ elim c.then-number-eq0.branch [
      | then-number-eq0-via-then-number-eq0 w ↦ leave-index a.area.now a.size n a.forward a.p c.count_of-n.ensures c.if-n-p.false w.if-number-eq0.true
      | then-number-eq0-via-else-number-eq0+then-n-number w ↦ leave-far a.area.now a.size n a.forward a.p c.count_of-n.ensures c.if-n-p.false w.if-n-number.true
    ]

pub placed-requires : goal.placed-requires
placed-requires c =
    let a = c.args in
    let b = a.p.start / a.size * a.size in
    let e = ends a.area.now a.size c.count_of-n.result a.p c.count_of-n.ensures c.if-n-p.false c.if-n-number.false in
    let l = starts-at (length (part a.area.now b a.size)) c.after.result c.in-Some.s (rw (after-told a.area.now a.size a.p c.after.result c.after.ensures) (after-start (part a.area.now b a.size) (spot_in b a.p))) c.in-Some.is in
    omega (arith, e, l, length-mid a.area.now b a.size e, c.well_formed)

pub returns-in-Some : goal.returns-in-Some
returns-in-Some c =
    let a = c.args in
    c.placed.ensures
    ∙ leave-after a.area.now a.size c.count_of-n.result a.forward a.p c.count_of-n.ensures c.if-n-p.false c.if-number-eq0.false c.if-n-number.false c.after.result c.if-forward.true (after-told a.area.now a.size a.p c.after.result c.after.ensures) c.in-Some.s c.in-Some.is

pub ahead-requires : goal.ahead-requires
ahead-requires c =
    let a = c.args in
    large a.area.now a.size c.count_of-n.result a.p c.count_of-n.ensures c.if-n-p.false

pub returns-then-forward : goal.returns-then-forward
returns-then-forward c =
    let a = c.args in
    c.ahead.ensures
    ∙ leave-ahead a.area.now a.size c.count_of-n.result a.forward a.p c.count_of-n.ensures c.if-n-p.false c.if-number-eq0.false c.if-n-number.false c.after.result c.if-forward.true (after-told a.area.now a.size a.p c.after.result c.after.ensures) c.in_default.is

pub placed-requires-in-Some-before : goal.placed-requires-in-Some-before
placed-requires-in-Some-before c =
    let a = c.args in
    let b = a.p.start / a.size * a.size in
    let l = starts-at (a.p.start - b) c.before-2.result c.in-Some-before.s (rw (before-told a.area.now a.size a.p c.before-2.result c.before-2.ensures) (before-start (part a.area.now b a.size) (spot_in b a.p))) c.in-Some-before.is in
    omega (arith, l, div-mul-le_self a.p.start a.size, c)

pub returns-in-Some-before : goal.returns-in-Some-before
returns-in-Some-before c =
    let a = c.args in
    c.placed-in-Some-before.ensures
    ∙ leave-before a.area.now a.size c.count_of-n.result a.forward a.p c.count_of-n.ensures c.if-n-p.false c.if-number-eq0.false c.if-n-number.false c.before-2.result c.if-forward.false (before-told a.area.now a.size a.p c.before-2.result c.before-2.ensures) c.in-Some-before.s c.in-Some-before.is

pub behind-requires : goal.behind-requires
behind-requires c =
    let a = c.args in
    large a.area.now a.size c.count_of-n.result a.p c.count_of-n.ensures c.if-n-p.false

pub returns : goal.returns
returns c =
    let a = c.args in
    c.behind.ensures
    ∙ leave-behind a.area.now a.size c.count_of-n.result a.forward a.p c.count_of-n.ensures c.if-n-p.false c.if-number-eq0.false c.if-n-number.false c.before-2.result c.if-forward.false (before-told a.area.now a.size a.p c.before-2.result c.before-2.ensures) c.in_default-before.is
