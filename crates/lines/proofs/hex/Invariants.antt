-- Invariant: the text has room for two digits a byte. From place 2 * i on it holds the digits of the bytes from i on, and elsewhere it is as it was.
-- Measure: i, the bytes whose digits aren't stored yet.
-- A turn stores the low digit, then the high one before it (hex-turn). A text that is too short stays as it was (hex-short).
use Prim.Native.Nat.{◌*◌, ◌≤◌}
use mathlib.Core.Path.{◌≡◌}
use lib.ListN.{length, drop}
use Rattle.fields.specs.Bytes.{splice}
use Rattle.lines.specs.Hex.{hex_of}
use Rattle.lines.proofs.hex.Given as goal

abbrev pub invariant-loop-i : goal.invariant-loop-i
invariant-loop-i l =
    (l.i ≤ length l.bytes) × (2 * length l.bytes ≤ length l.initial.text) × (l.text ≡ splice l.initial.text (2 * l.i) (hex_of (drop l.i l.bytes)))

abbrev pub decreases-loop-i : goal.decreases-loop-i
decreases-loop-i l = l.i
