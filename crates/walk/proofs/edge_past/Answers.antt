use mathlib.Core.Path.{◌≡◌, ◌∙◌, sym, ap}
use native.Mathlib.Omega.{arith}
use Rattle.measures.specs.Judgement.{width_for}
use Rattle.index_walk.specs.AidPasses.{edge, pass_of}
use Rattle.walk.specs.AidSteps.{beyond_of, edge_past_of}
use Rattle.walk.proofs.Ways.{edge-start, stops, edge_on, beyond-last, beyond-more}
use Rattle.walk.proofs.edge_past.Goals as goal
use Rattle.walk.proofs.edge_past.Goals.{After-pass, Joined-met, then-met, else-met}

-- what a pass meets at the edge
met_of : (q : After-pass) → pass_of (width_for q.args.n) q.args.ib.now q.loop-i.e ≡ q.pass.result
met_of q = sym (q.pass.ensures ∙ ap (λ w. pass_of w q.args.ib.now q.loop-i.e) q.loop-i.invariant.0)

past-told : (c : Joined-met) → edge c.if-met.right c.in-Some.met.next.end ≡ beyond_of c.in-Some.met.last c.in-Some.met.next
past-told c =
    let m = c.in-Some.met in
    elim c.if-met.branch [ then-met x ↦ beyond-last m.last m.next c.if-met.right x.if-met.true x.right-is | else-met x ↦ beyond-more m.last m.next c.if-met.right x.if-met.false x.right-is ]

pub loop-i-init : goal.loop-i-init
loop-i-init c = (c.width_for-w.ensures, c.start-e.ensures ∙ edge-start (width_for c.args.n) c.args.ib.now)

pub returns-in_default : goal.returns-in_default
returns-in_default c =
    let a = c.args in
    stops (width_for a.n) a.ib.now c.loop-i._i a.entries c.loop-i.e c.loop-i.invariant.1 (omega arith) (met_of (goal.at.returns-in_default c).After-pass ∙ c.in_default.is)

pub loop-i-preserved : goal.loop-i-preserved
loop-i-preserved c =
    let a = c.args in
    let m = c.in-Some.met in (
      c.loop-i.invariant.0,
      past-told (goal.at.loop-i-preserved c).Joined-met
          ∙ edge_on (width_for a.n) a.ib.now c.loop-i._i c.loop-i.e c.loop-i.invariant.1 m.number m.next m.last (met_of (goal.at.loop-i-preserved c).After-pass ∙ c.in-Some.is),
    )

pub returns : goal.returns
returns c =
    let a = c.args in
    let z : c.loop-i._i ≡ a.entries = omega arith in
    c.loop-i.invariant.1 ∙ ap (λ k. edge_past_of (width_for a.n) a.ib.now k) z
