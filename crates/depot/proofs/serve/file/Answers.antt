-- Where the file was not opened, the area is as it was.
use Rattle.depot.proofs.serve.file.Goals as goal
use Rattle.lines_history.proofs.Led.{led-nowhere}

pub returns-then-eq : goal.returns-then-eq
returns-then-eq g c = led-nowhere _

pub returns-else-eq : goal.returns-else-eq
returns-else-eq g c = led-nowhere _
