-- Invariant: lines served so far led from the area at the start to this one.
use Rattle.lines_history.specs.Day.{Leads}
use Rattle.depot.proofs.serve.all.Given as goal

abbrev pub invariant-loop-place : goal.invariant-loop-place
invariant-loop-place g l = Leads l.fn.area l.area
