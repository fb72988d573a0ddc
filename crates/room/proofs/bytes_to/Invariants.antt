-- Invariant: sum is that of the first i lengths, and at most 65535 * i, so that it stays in a usize.
-- sum-turn: one length more.
use Prim.Native.Nat.{◌*◌, ◌≤◌}
use mathlib.Core.Path.{◌≡◌}
use lib.ListN.{take}
use Rattle.fields.specs.Lists.{sum}
use Rattle.room.proofs.bytes_to.Given as goal

abbrev pub invariant-loop-i : goal.invariant-loop-i
invariant-loop-i l = (l.sum ≤ 65535 * l.i) × (l.sum ≡ sum (take l.i l.lens))
