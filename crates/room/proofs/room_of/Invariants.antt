-- Invariant: the room held is that of the first i lengths; it has at most 65535 * i bytes and i RDFs, so the sums stay in a usize.
-- Measure: length lens - i, the lengths that are still to be added.
-- run-turn: the room of the first i lengths with the run added that begins there is the room of the lengths up to its end.
use Prim.Native.Nat.{◌≤◌, ◌-◌, ◌*◌}
use mathlib.Core.Path.{◌≡◌}
use lib.ListN.{length, take}
use Rattle.room.specs.AidSteps.{room_of}
use Rattle.room.proofs.room_of.Given as goal

abbrev pub invariant-loop-i : goal.invariant-loop-i
invariant-loop-i l = (l.i ≤ length l.lens) × (l.r.bytes ≤ 65535 * l.i) × (l.r.rdfs ≤ l.i) × (l.r ≡ room_of (take l.i l.lens))

abbrev pub decreases-loop-i : goal.decreases-loop-i
decreases-loop-i l = length l.lens - l.i
