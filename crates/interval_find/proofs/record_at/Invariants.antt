-- Invariant: the runs that were passed (Passed) have start bytes, and the place does not lie before their end.
-- Measure: the RDFs that are left.
-- run-lies, begins-here: the place is a multiple of the length behind the run's start. none-between: it lies inside a record. none-behind: behind all.
use Prim.Native.Nat.{◌≤◌}
use mathlib.Core.Path.{◌≡◌}
use Rattle.fields.specs.Lists.{sum}
use Rattle.interval_find.proofs.Runs.{Passed}
use Rattle.interval_find.proofs.record_at.Given as goal

abbrev pub invariant-loop-left : goal.invariant-loop-left
invariant-loop-left l = (g : Passed l.m l.ci l.p l.left) × (sum g.done ≡ l.start) × (l.start ≤ l.place)

abbrev pub decreases-loop-left : goal.decreases-loop-left
decreases-loop-left l = l.left
