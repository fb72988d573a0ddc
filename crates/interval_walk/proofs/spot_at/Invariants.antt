-- Invariant: the runs that were passed (Passed) have `ordinal` records, which take `start` bytes; the ordinal that is sought does not lie before them, and no more RDFs are left than
-- the interval has. Measure: the RDFs that are left.
-- run-stands: the spot in the run that holds the ordinal. passed-all: where no RDF is left all
-- records are passed, so the ordinal was met before.
use Prim.Native.Nat.{◌≤◌}
use mathlib.Core.Path.{◌≡◌}
use lib.ListN.{length}
use Rattle.fields.specs.Lists.{sum}
use Rattle.interval.specs.Reading.{rdfs_many}
use Rattle.interval_find.proofs.Runs.{Passed}
use Rattle.interval_walk.proofs.spot_at.Given as goal

abbrev pub invariant-loop-left : goal.invariant-loop-left
invariant-loop-left l =
    (g : Passed l.m l.ci l.p l.left) × (length g.done ≡ l.ordinal) × (sum g.done ≡ l.start) × (l.ordinal ≤ l.i) × (l.left ≤ rdfs_many l.ci)

abbrev pub decreases-loop-left : goal.decreases-loop-left
decreases-loop-left l = l.left
