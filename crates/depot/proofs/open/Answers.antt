-- An area that is refused is as it was.
use Rattle.depot.proofs.open.Goals as goal
use Rattle.lines_history.proofs.Led.{led-nowhere}

pub returns-in_default : goal.returns-in_default
returns-in_default g c = led-nowhere _
