-- Invariant: the bytes that move, from the i-th on, stand from place to + i on; every other byte is as at entry, so what is still to be moved is too, since it
-- lies left of all that is stored; i is at most their number; a block has 1,024 bytes; the buffer is as long as it was.
-- Measure: i, the bytes that are still to be moved. A block has at least one byte (some).
-- right-step: a block stored just before an earlier splice makes one splice with it.
use Prim.Native.Nat.{◌+◌, ◌-◌, ◌≤◌}
use mathlib.Core.Path.{◌≡◌}
use lib.ListN.{length}
use Rattle.fields.specs.Bytes.{part, splice}
use Rattle.fields.proofs.move_right.Given as goal

abbrev pub invariant-loop-i : goal.invariant-loop-i
invariant-loop-i l =
    (l.i ≤ l.len) × (length l.block ≡ 1024) × (length l.b ≡ length l.initial.b) × (l.b ≡ splice l.initial.b (l.to + l.i) (part l.initial.b (l.from + l.i) (l.len - l.i)))

abbrev pub decreases-loop-i : goal.decreases-loop-i
decreases-loop-i l = l.i
