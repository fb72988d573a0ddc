-- The line that was served is the day.
use Rattle.std.proofs.Common.{arith}
use Rattle.depot.proofs.serve.served.Goals as goal
use Rattle.lines_history.proofs.Led.{led-line}

pub returns : goal.returns
returns c = led-line _ _ _ _ _ _ (λ i. omega (arith, c.type_inv.request i)) c.step.ensures
