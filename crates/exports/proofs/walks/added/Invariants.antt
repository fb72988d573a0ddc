-- Invariant: what was added and what is still to come from the place on are the whole, in 64 bits; n is at most the area's length.
-- Measure: the bytes of the area from n on.
use Rattle.std.proofs.Common.{◌-◌, ◌^◌, ◌<◌, ◌≤◌, length}
use Rattle.exports.proofs.Adding.{Adding}
use Rattle.exports.proofs.walks.added.Given as goal

abbrev pub invariant-loop-n : goal.invariant-loop-n
invariant-loop-n l = Adding l.area l.size l.forward l.initial.p l.sum l.p l.n × (l.n ≤ length l.area) × (l.sum < 2 ^ 64)

abbrev pub decreases-loop-n : goal.decreases-loop-n
decreases-loop-n l = length l.area - l.n
