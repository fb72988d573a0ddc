-- Invariant (Stand): the walk stands before an entry that ends within the record; the place says where, and both buffers begin with the separator before it and
-- with the highest of the section before (Held). Both have at most a key's length, and the last byte of the separator before isn't X'FF'.
-- The whole record is fine exactly where the entries from there on are fine after that separator and that highest, with the marks made so far; the entry before
-- closed a section, or is none, or others come. The search has come as far; once the key is sought no more, the entry that it leads to was found (Finding). While it
-- is sought, its reach is that past the highest of the section before (Above), to which F of the next section's highest refers.
-- What the walk over a section's entries hands on is such a place again, before its highest or the entry that the key leads to; that entry is the step
-- of this loop (Turn): turn_on, turn-finds, turn-above. Past the last entry, whose separator is empty, no key is sought (finding-end).
-- Measure: the entries left.
use mathlib.Core.Bool.{true}
use lib.ListN.{take}
use Rattle.index_read.specs.AidStand.{Stand}
use Rattle.index_read.proofs.Reaching.{Above}
use Rattle.index_read.proofs.Finding.{Finding}
use Rattle.index_read.proofs.mark_entries.Given as goal

abbrev pub invariant-loop-left : goal.invariant-loop-left
invariant-loop-left l =
    Stand l.ib l.by l.key l.initial.seen l.seen l.buf l.high l.p true l.left l.reach × Finding l.ib l.by l.key l.before l.own l.spot l.reach × Above l.key (take l.p.high l.high) l.reach

abbrev pub decreases-loop-left : goal.decreases-loop-left
decreases-loop-left l = l.left
