-- Invariant (Along): at most as many entries are left as at the start, and whatever walk stood at the start stands here now (Stand): the
-- place and the buffers are before an entry, and the whole record is fine exactly where the entries left are. The entry before closed no section, unless none was passed.
-- A key that was sought at the start still is, with the reach that the loop holds: an entry whose F is below it is looked at, any other is below the key (NextReach).
-- The walk stands right of the edge with the header before it, so F, L and the number may be read before the entry is judged (roomy, within).
-- Each way out is a law of Walking: ends-top (a section's highest is met), ends-left (the entry begins left of the edge), ends_last and ends_found (the entry that the
-- key leads to is met, which must not be the last), ends-big, ends-again, ends-bad, and ends_open where no entry is left. Where the record isn't fine nothing is said of
-- the marks, so a number may be marked before its entry is judged.
-- Measure: the entries left.
use Rattle.index_read.proofs.Walking.{Along}
use Rattle.index_read.proofs.walk_inner.Given as goal

abbrev pub invariant-loop-left : goal.invariant-loop-left
invariant-loop-left l =
    Along l.ib l.by l.key l.initial.seen l.initial.buf (record { p = l.initial.p; left = l.initial.left; reach = l.initial.reach }) l.seen l.buf l.p l.left l.reach

abbrev pub decreases-loop-left : goal.decreases-loop-left
decreases-loop-left l = l.left
