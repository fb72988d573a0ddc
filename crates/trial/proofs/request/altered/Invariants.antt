-- Invariant: at is where the unit `place` begins, within the area; no unit is empty, so place is at most at.
-- Measure: the bytes from there on.
use Rattle.std.proofs.Common.{◌≤◌, ◌-◌, length}
use Rattle.trial.proofs.request.altered.Given as goal

abbrev pub invariant-loop-at : goal.invariant-loop-at
invariant-loop-at l = (l.place ≤ l.at) × (l.at ≤ length l.area)

abbrev pub decreases-loop-at : goal.decreases-loop-at
decreases-loop-at l = length l.area - l.at
