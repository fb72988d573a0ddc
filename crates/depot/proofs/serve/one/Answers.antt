-- Where no line was read, the area is as it was.
use Rattle.depot.proofs.serve.one.Goals as goal
use Rattle.lines_history.proofs.Led.{led-nowhere}

pub returns-in-Some : goal.returns-in-Some
returns-in-Some g c = led-nowhere _

pub returns-then-n-eq0 : goal.returns-then-n-eq0
returns-then-n-eq0 g c = led-nowhere _
