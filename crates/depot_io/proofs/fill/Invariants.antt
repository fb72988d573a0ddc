-- Invariant: n is at most the buffer's length.
-- Measure: the bytes of the buffer from n on. It falls, since a read that brings nothing ends the loop.
use Rattle.std.proofs.Common.{◌≤◌, ◌-◌, length}
use Rattle.depot_io.proofs.fill.Given as goal

abbrev pub invariant-loop-n : goal.invariant-loop-n
invariant-loop-n g l = l.n ≤ length l.buf

abbrev pub decreases-loop-n : goal.decreases-loop-n
decreases-loop-n g l = length l.buf - l.n
