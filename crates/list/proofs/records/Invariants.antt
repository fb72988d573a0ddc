-- Invariant: n lines are printed, no more than the list has, and from the place on the steps give the rest of it (Rest).
-- Measure: the lines still to come. Each turn prints the next line (more, line-is) and goes on to the place after it (rest-on); at the end none is left (closing).
use Rattle.std.proofs.Common.{◌≤◌, ◌-◌, length}
use Rattle.list.specs.Listed.{list_of}
use Rattle.list.proofs.Listing.{Rest}
use Rattle.list.proofs.records.Given as goal

abbrev pub invariant-loop-p : goal.invariant-loop-p
invariant-loop-p g l = (l.n ≤ length (list_of l.area)) × Rest l.area l.n l.p

abbrev pub decreases-loop-p : goal.decreases-loop-p
decreases-loop-p g l = length (list_of l.area) - l.n
