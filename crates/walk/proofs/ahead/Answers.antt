use Prim.Native.Nat.{◌+◌, ◌*◌}
use mathlib.Core.Path.{◌≡◌, ◌∙◌, sym, ap}
use lib.ListN.{length}
use native.Mathlib.Omega.{arith}
use Rattle.fields.proofs.Splices.{part-is}
use Rattle.measures.specs.Judgement.{width_for}
use Rattle.interval_walk.specs.AidSpots.{first_of}
use Rattle.interval_walk.proofs.Landing.{first-start}
use Rattle.index_walk.specs.AidPasses.{edge, pass_of}
use Rattle.walk.specs.AidSteps.{index_at, data_at, beyond_of}
use Rattle.walk.proofs.Ways.{beyond-last, beyond-more, ahead_none, ahead-ended, ahead-nothing, ahead-far, ahead-here, ahead-on, interval-ends, starts-at}
use Rattle.walk.proofs.ahead.Goals as goal
use Rattle.walk.proofs.ahead.Goals.{After-pass, Joined-met, After-first, then-met, else-met}

-- what a pass meets there
met_of : (q : After-pass)
    → pass_of (width_for q.args.n) (index_at q.args.size q.args.area.now) q.loop-i.e ≡ q.pass.result
met_of q =
    let a = q.args in
    sym (q.pass.ensures ∙ ap (λ w. pass_of w (index_at a.size a.area.now) q.loop-i.e) q.loop-i.invariant.0)

-- past the entry
past-told : (j : Joined-met)
    → edge j.if-met.right j.in-Some.met.next.end
    ≡ beyond_of j.in-Some.met.last j.in-Some.met.next
past-told j =
    let m = j.in-Some.met in
    elim j.if-met.branch [ then-met x ↦ beyond-last m.last m.next j.if-met.right x.if-met.true x.right-is | else-met x ↦ beyond-more m.last m.next j.if-met.right x.if-met.false x.right-is ]

-- the first record of its interval
first-told : (d : After-first)
    → d.first.result
    ≡ first_of (data_at d.args.size d.args.area.now d.in-Some.met.number)
first-told d =
    let a = d.args in
    d.first.ensures ∙ ap first_of (part-is a.area.now ((d.in-Some.met.number + 1) * a.size) a.size)

pub returns-then-e-eq0 : goal.returns-then-e-eq0
returns-then-e-eq0 c =
    let a = c.args in
    c.ended.ensures
    ∙ ahead-ended a.area.now a.size a.n c.loop-i.i c.loop-i.e c.loop-i-test.true c.if-e-eq0.true
    ∙ sym c.loop-i.invariant.1

pub returns-in_default : goal.returns-in_default
returns-in_default c =
    let a = c.args in
    c.ended-in_default.ensures
    ∙ ahead-nothing a.area.now a.size a.n c.loop-i.i c.loop-i.e c.loop-i-test.true c.if-e-eq0.false (met_of (goal.at.returns-in_default c).After-pass ∙ c.in_default.is)
    ∙ sym c.loop-i.invariant.1

pub returns-then-n-number : goal.returns-then-n-number
returns-then-n-number c =
    let a = c.args in
    c.ended-then-n-number.ensures
    ∙ ahead-far a.area.now a.size a.n c.loop-i.i c.loop-i.e c.loop-i-test.true c.if-e-eq0.false c.in-Some.met.number c.in-Some.met.next c.in-Some.met.last (met_of (goal.at.returns-then-n-number c).After-pass ∙ c.in-Some.is) c.if-n-number.true
    ∙ sym c.loop-i.invariant.1

pub placed-requires : goal.placed-requires
placed-requires c =
    let a = c.args in
    let z = starts-at 0 c.first.result c.in-Some-first.s (rw (first-told (goal.at.placed-requires c).After-first) (first-start (data_at a.size a.area.now c.in-Some.met.number))) c.in-Some-first.is in
    omega (arith, interval-ends a.size a.n (length a.area.now) c.in-Some.met.number c.requires.1 c.if-n-number.false, z, c.well_formed)

pub returns-in-Some-first : goal.returns-in-Some-first
returns-in-Some-first c =
    let a = c.args in
    c.placed.ensures
    ∙ ahead-here a.area.now a.size a.n c.loop-i.i c.loop-i.e c.loop-i-test.true c.if-e-eq0.false c.in-Some.met.number c.in-Some.met.next c.in-Some.met.last (met_of (goal.at.returns-in-Some-first c).After-pass ∙ c.in-Some.is) c.if-n-number.false c.first.result (first-told (goal.at.returns-in-Some-first c).After-first)
    (edge c.if-met.right c.in-Some.met.next.end) (past-told (goal.at.returns-in-Some-first c).Joined-met) c.in-Some-first.s c.in-Some-first.is
    ∙ sym c.loop-i.invariant.1

pub loop-i-preserved : goal.loop-i-preserved
loop-i-preserved c =
    let a = c.args in (
      c.loop-i.invariant.0,
      c.loop-i.invariant.1
          ∙ ahead-on a.area.now a.size a.n c.loop-i.i c.loop-i.e c.loop-i-test.true c.if-e-eq0.false c.in-Some.met.number c.in-Some.met.next c.in-Some.met.last (met_of (goal.at.loop-i-preserved c).After-pass ∙ c.in-Some.is) c.if-n-number.false c.first.result (first-told (goal.at.loop-i-preserved c).After-first)
          (edge c.if-met.right c.in-Some.met.next.end) (past-told (goal.at.loop-i-preserved c).Joined-met) c.in_default-first.is,
    )

pub returns : goal.returns
returns c =
    let a = c.args in
    c.ended-2.ensures ∙ ahead_none a.area.now a.size a.n c.loop-i.i c.loop-i.e c.loop-i-test.false ∙ sym c.loop-i.invariant.1
