-- Invariant: the lengths of the first i records stand at the front of the buffer, what lies behind is as at entry (record Gathered).
-- The lengths still to come are those that the left unread RDFs describe; these RDFs are well formed and lie in the interval.
-- Measure: left, the unread RDFs; a group takes at least one.
-- gather-turn adds one group, gather-room: the buffer has room for it. no-damage: well-formed RDFs never begin with a damaged group.
-- gather-end: with no RDF left all lengths are there.
use Rattle.interval_find.proofs.Gather.{Gathered}
use Rattle.interval_find.proofs.lengths_out.Given as goal

abbrev pub invariant-loop-left : goal.invariant-loop-left
invariant-loop-left l = Gathered l.m l.ci l.p l.left l.initial.lens l.lens l.i

abbrev pub decreases-loop-left : goal.decreases-loop-left
decreases-loop-left l = l.left
