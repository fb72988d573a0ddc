-- Invariant: of the i bytes passed, at most i wait to be printed.
use Rattle.std.proofs.Common.{◌≤◌}
use Rattle.trial.proofs.print.bytes.Given as goal

abbrev pub invariant-loop-i : goal.invariant-loop-i
invariant-loop-i l = l.count ≤ l.i
