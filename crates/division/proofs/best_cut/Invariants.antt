-- Invariant: left is the room of the first i lengths; bytes and need are the bytes and the need of the others (record Holds).
-- best is the best of the cuts 1 to i, with what its parts differ in; none where none of them fits.
-- Bounds on the bytes, the RDFs and the need keep the sums in a usize.
-- holds-start: nothing is left of the first cut. holds_on: one length goes from the right part to the left one, and the cut after it is weighed.
use Rattle.division.proofs.Turns.{Holds}
use Rattle.division.proofs.best_cut.Given as goal

-- the cuts up to i are weighed
abbrev pub invariant-loop-i : goal.invariant-loop-i
invariant-loop-i l = Holds l.s l.lens l.i l.left l.bytes l.need l.best
