-- Loop: e is the edge past the first i entries.
use mathlib.Core.Path.{◌≡◌}
use Rattle.measures.specs.Judgement.{width_for}
use Rattle.walk.specs.AidSteps.{edge_past_of}
use Rattle.walk.proofs.edge_past.Given as goal

abbrev pub invariant-loop-i : goal.invariant-loop-i
invariant-loop-i l = (l.w ≡ width_for l.n) × (l.e ≡ edge_past_of (width_for l.n) l.ib l._i)
