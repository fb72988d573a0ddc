-- Invariant: the RDFs of the groups that the first i lengths make are stored from place at up to the end (record Written).
-- Every other byte is as at entry, and the RDFs still to be stored are those of the groups of the lengths from i on.
-- Measure: length lens - i, the lengths whose group is still to be stored.
-- step stores the next group just left of the others; room: there is room for it; all: with no length left the RDFs are all there.
use Prim.Native.Nat.{◌-◌}
use lib.ListN.{length}
use Rattle.interval_write.proofs.Written.{Written}
use Rattle.interval_write.proofs.write_rdfs.Given as goal

abbrev pub invariant-loop-i : goal.invariant-loop-i
invariant-loop-i l = Written l.initial.ci l.end l.lens l.ci l.at l.i

abbrev pub decreases-loop-i : goal.decreases-loop-i
decreases-loop-i l = length l.lens - l.i
