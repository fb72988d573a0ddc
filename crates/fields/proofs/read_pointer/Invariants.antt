-- Invariant: x is the number that the bytes read so far hold.
use mathlib.Core.Path.{◌≡◌}
use Rattle.fields.specs.Bytes.{number}
use Rattle.fields.proofs.read_pointer.Given as goal

abbrev pub invariant-loop-byte : goal.invariant-loop-byte
invariant-loop-byte l = l.x ≡ number l.byte-index l.b l.at
