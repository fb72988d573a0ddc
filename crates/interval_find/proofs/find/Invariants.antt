-- Invariant: the runs that were passed (Passed) have ordinal records in start bytes, and all their keys are below the key.
-- Measure: the RDFs that are left.
-- run_lies: the next run is one of the interval's. run-below, run-same: what is seen at its last record. passed-last, gap-last: no run is left.
use Prim.Native.Nat.{◌≤◌}
use mathlib.Core.Path.{◌≡◌}
use lib.ListN.{length}
use Rattle.fields.specs.Lists.{sum}
use Rattle.interval.specs.Reading.{records_in}
use Rattle.interval.specs.Search.{lower}
use Rattle.interval_find.proofs.Runs.{Passed}
use Rattle.interval_find.proofs.find.Given as goal

abbrev pub invariant-loop-left : goal.invariant-loop-left
invariant-loop-left l =
    (g : Passed l.m l.ci l.p l.left) × (length g.done ≡ l.ordinal) × (sum g.done ≡ l.start) × (l.ordinal ≤ lower l.m l.key (records_in l.ci))

abbrev pub decreases-loop-left : goal.decreases-loop-left
decreases-loop-left l = l.left
