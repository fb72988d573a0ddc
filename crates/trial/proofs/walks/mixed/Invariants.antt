-- Invariant: what is left is below 65521, so that its product fits.
use Rattle.std.proofs.Common.{◌<◌}
use Rattle.trial.proofs.walks.mixed.Given as goal

abbrev pub invariant-loop-byte : goal.invariant-loop-byte
invariant-loop-byte l = l.r < 65521
