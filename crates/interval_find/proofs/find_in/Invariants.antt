-- Invariant: low and high are records of the run, low not behind high; all records before low are below the key, and that at high is above it.
-- Measure: how many lie from low to high.
-- run-below, run-same: what is seen at the middle says where the key stands, since keys ascend. run-gap: where low has come to high the gap is found.
use Prim.Native.Nat.{◌+◌, ◌-◌, ◌≤◌}
use mathlib.Core.Path.{◌≡◌}
use mathlib.Core.List.{[]}
use lib.ListN.{get_or}
use Rattle.fields.specs.Order.{order_of}
use Rattle.std.specs.declared.cmp.Ordering.TheVariants.{Greater}
use Rattle.interval.specs.Records.{key_of}
use Rattle.interval.specs.Reading.{records_in}
use Rattle.interval.specs.Search.{lower}
use Rattle.interval_find.proofs.find_in.Given as goal

abbrev pub invariant-loop-low : goal.invariant-loop-low
invariant-loop-low l =
    (l.low ≤ l.high)
    × (l.high ≤ l.run.last)
    × (l.run.ordinal + l.low ≤ lower l.m l.key (records_in l.ci))
    × (order_of (key_of l.m (get_or (records_in l.ci) (l.run.ordinal + l.high) [])) l.key ≡ Greater)

abbrev pub decreases-loop-low : goal.decreases-loop-low
decreases-loop-low l = l.high - l.low
