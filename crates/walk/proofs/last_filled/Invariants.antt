-- Loop: the last of the first entries with records is the last of those from entry i on, before which e stands, or else what was found before. Measure: the entries
-- still to pass.
use Prim.Native.Nat.{◌-◌}
use mathlib.Core.Path.{◌≡◌}
use Rattle.measures.specs.Judgement.{width_for}
use Rattle.walk.specs.AidSteps.{Among, filled_from, last_filled_of}
use Rattle.walk.proofs.last_filled.Given as goal

abbrev pub invariant-loop-i : goal.invariant-loop-i
invariant-loop-i l =
    (l.w ≡ width_for l.n) × (last_filled_of l.area l.size l.n l.entries ≡ filled_from (l.entries - l.i) l.area l.size l.n l.i l.e l.found) × Among l.n l.found
