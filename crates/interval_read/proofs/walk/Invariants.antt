-- Invariant: the judgement on all RDFs from the start is that on the left unread ones (record Come), for records from place at on,
-- after the key of the record at last, or after none where no record was seen. seen counts the records passed.
-- The unread RDFs end at q. The last of all records is the one at last, unless more come. last is at most at, at is at most bytes, seen is at most at.
-- Measure: left, the unread RDFs; a group takes at least one.
-- steps: the first group stands for its part of the RDFs; goes_on passes it; no-group, too_long and falls make the interval unsound.
-- ended: with no RDF left the interval is sound exactly if the records end at bytes.
use Prim.Native.Nat.{◌+◌, ◌*◌, ◌≤◌}
use mathlib.Core.Path.{◌≡◌}
use Rattle.interval.specs.Reading.{rdfs}
use Rattle.interval_read.proofs.Walking.{Come}
use Rattle.interval_read.proofs.walk.Given as goal

abbrev pub invariant-loop-left : goal.invariant-loop-left
invariant-loop-left l =
    ((l.left ≤ l.tail.many) × (l.q ≡ l.tail.at + 3 * l.left)) × Come l.offset l.key l.least l.most l.ci l.bytes (rdfs l.ci l.tail.at l.tail.many) (rdfs l.ci l.tail.at l.left) l.at l.seen l.last

abbrev pub decreases-loop-left : goal.decreases-loop-left
decreases-loop-left l = l.left
