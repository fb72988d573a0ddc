-- Invariant: x is the number that the first i bytes hold.
use mathlib.Core.Path.{◌≡◌}
use Rattle.fields.specs.Bytes.{number}
use Rattle.fields.proofs.read.Given as goal

abbrev pub invariant-loop-i : goal.invariant-loop-i
invariant-loop-i g l = l.x ≡ number l.i l.b l.at
