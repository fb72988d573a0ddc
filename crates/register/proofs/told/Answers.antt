-- Each of the three outcomes of a change has its answer in answer_for; case by case the two are the same.
use mathlib.Core.Path.{sym, ap}
use Rattle.register.specs.AidTold.{answer_for}
use Rattle.register.proofs.told.Goals as goal

pub returns-in-Ok : goal.returns-in-Ok
returns-in-Ok c = sym (ap answer_for c.in-Ok.is)
