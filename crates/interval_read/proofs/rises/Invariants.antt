-- Invariant: whether all the keys ascend is whether those that are left, from place here on, ascend after the key at place before.
-- The key at before lies in the interval, and so do all keys from here on; word is the lead of the key at before.
-- run_on: a key above the one before it is passed. run-stops: one that is not ends the run. one_less: the key compared now lies in the interval.
use Prim.Native.Nat.{◌+◌, ◌-◌, ◌*◌, ◌≤◌}
use mathlib.Core.Path.{◌≡◌}
use lib.ListN.{length}
use Rattle.fields.specs.Bytes.{part}
use Rattle.interval.specs.Records.{ascend_from}
use Rattle.interval_read.specs.AidWalk.{keys_at, lead_of}
use Rattle.interval_read.proofs.rises.Given as goal

abbrev pub invariant-loop : goal.invariant-loop
invariant-loop l = record {
  before : l.before + l.key ≤ length l.ci;
  rest : l.here + l.keys.len * (l.keys.count - l.counter) ≤ length l.ci + (l.keys.len - l.key);
  same : ascend_from (part l.ci l.prev l.key) (keys_at l.key l.ci l.keys.at l.keys.len l.keys.count)
      ≡ ascend_from (part l.ci l.before l.key) (keys_at l.key l.ci l.here l.keys.len (l.keys.count - l.counter));
  lead : l.word ≡ lead_of l.key l.ci l.before;
}
