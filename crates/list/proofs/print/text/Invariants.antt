-- Invariant: the bytes are at most 64, the length of the line.
use Rattle.std.proofs.Common.{◌≡◌, ◌≤◌, length}
use Rattle.list.proofs.print.text.Given as goal

abbrev pub invariant-loop-i : goal.invariant-loop-i
invariant-loop-i g l = (length l.bytes ≤ 64) × (length l.line ≡ 64)
