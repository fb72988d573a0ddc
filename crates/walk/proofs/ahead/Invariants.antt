-- Loop: the first record from the entry on is the first from entry i on, before which e stands. Measure: the entries still to look at, n less i.
use Prim.Native.Nat.{◌-◌}
use mathlib.Core.Path.{◌≡◌}
use Rattle.measures.specs.Judgement.{width_for}
use Rattle.walk.specs.AidSteps.{ahead_of}
use Rattle.walk.proofs.ahead.Given as goal

abbrev pub invariant-loop-i : goal.invariant-loop-i
invariant-loop-i l =
    (l.w ≡ width_for l.n) × (ahead_of (l.n - l.entry) l.area l.size l.n l.entry l.initial.e ≡ ahead_of (l.n - l.i) l.area l.size l.n l.i l.e)
