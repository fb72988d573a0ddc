-- Invariant: the first i bytes of new stand from place at on; every other byte is as at entry.
-- copy_on: a byte stored just behind an earlier splice makes one splice with it.
use mathlib.Core.Path.{◌≡◌}
use lib.ListN.{take}
use Rattle.fields.specs.Bytes.{splice}
use Rattle.fields.proofs.copy.Given as goal

abbrev pub invariant-loop-i : goal.invariant-loop-i
invariant-loop-i l = l.b ≡ splice l.initial.b l.at (take l.i l.new)
