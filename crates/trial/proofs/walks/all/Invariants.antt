-- Invariant: n is at most the area's length; the remainder is below 65521.
-- Measure: the bytes of the area from n on.
use Rattle.std.proofs.Common.{◌<◌, ◌≤◌, ◌-◌, length}
use Rattle.trial.proofs.walks.all.Given as goal

abbrev pub invariant-loop-n : goal.invariant-loop-n
invariant-loop-n l = (l.n ≤ length l.area) × (l.rest < 65521)

abbrev pub decreases-loop-n : goal.decreases-loop-n
decreases-loop-n l = length l.area - l.n
