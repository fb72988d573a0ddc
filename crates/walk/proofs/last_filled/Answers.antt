use mathlib.Core.Path.{◌≡◌, ◌∙◌, sym, ap}
use Rattle.measures.specs.Judgement.{width_for}
use Rattle.index_walk.specs.AidPasses.{pass_of}
use Rattle.walk.specs.AidSteps.{index_at}
use Rattle.walk.proofs.Ways.{filled_none, filled-nothing, filled-far, filled-here, filled-empty, filled-few}
use Rattle.walk.proofs.last_filled.Goals as goal
use Rattle.walk.proofs.last_filled.Goals.{After-pass, then-read-ne0, else-read-ne0}

-- what a pass meets there
met_of : (q : After-pass)
    → pass_of (width_for q.args.n) (index_at q.args.size q.args.area.now) q.loop-i.e ≡ q.pass.result
met_of q =
    let a = q.args in
    sym (q.pass.ensures ∙ ap (λ w. pass_of w (index_at a.size a.area.now) q.loop-i.e) q.loop-i.invariant.0)

pub returns-in_default : goal.returns-in_default
returns-in_default c =
    let a = c.args in
    record { is = filled-nothing a.area.now a.size a.n c.loop-i.i a.entries c.loop-i.e c.loop-i.found c.loop-i-test.true (met_of (goal.at.returns-in_default c).After-pass ∙ c.in_default.is) ∙ sym c.loop-i.invariant.1; inside = c.loop-i.invariant.2 }

pub returns-then-n-number : goal.returns-then-n-number
returns-then-n-number c =
    let a = c.args in
    record {
      is = filled-far a.area.now a.size a.n c.loop-i.i a.entries c.loop-i.e c.loop-i.found c.loop-i-test.true c.in-Some.met.number c.in-Some.met.next c.in-Some.met.last (met_of (goal.at.returns-then-n-number c).After-pass ∙ c.in-Some.is) c.if-n-number.true
          ∙ sym c.loop-i.invariant.1;
      inside = c.loop-i.invariant.2;
    }

pub loop-i-preserved : goal.loop-i-preserved
loop-i-preserved c =
    let a = c.args in
    let turn = filled-here a.area.now a.size a.n c.loop-i.i a.entries c.loop-i.e c.loop-i.found c.loop-i-test.true c.in-Some.met.number c.in-Some.met.next c.in-Some.met.last (met_of (goal.at.loop-i-preserved c).After-pass ∙ c.in-Some.is) c.if-n-number.false
    c.read.result c.read.ensures.0 c.if-read-ne0.found in
    let stay = filled-empty a.area.now a.size a.n c.loop-i.i a.entries c.loop-i.e c.loop-i.found c.loop-i-test.true c.in-Some.met.number c.in-Some.met.next c.in-Some.met.last (met_of (goal.at.loop-i-preserved c).After-pass ∙ c.in-Some.is) c.if-n-number.false
    c.read.result c.read.ensures.0 c.if-read-ne0.found in
    let few = filled-few a.area.now a.size a.n c.loop-i.i a.entries c.loop-i.e c.loop-i.found c.loop-i-test.true c.in-Some.met.number c.in-Some.met.next c.in-Some.met.last (met_of (goal.at.loop-i-preserved c).After-pass ∙ c.in-Some.is) c.if-n-number.false
    c.read.result c.read.ensures.0 c.if-read-ne0.found in (
      c.loop-i.invariant.0,
      c.loop-i.invariant.1 ∙ elim c.if-read-ne0.branch [ then-read-ne0 x ↦ turn x.if-read-ne0.true x.found-is | else-read-ne0 x ↦ stay x.if-read-ne0.false x.found-is ],
      elim c.if-read-ne0.branch [ then-read-ne0 x ↦ few x.found-is | else-read-ne0 x ↦ rw x.found-is c.loop-i.invariant.2 ],
    )

pub returns : goal.returns
returns c =
    let a = c.args in
    record { is = filled_none a.area.now a.size a.n c.loop-i.i a.entries c.loop-i.e c.loop-i.found c.loop-i-test.false ∙ sym c.loop-i.invariant.1; inside = c.loop-i.invariant.2 }
