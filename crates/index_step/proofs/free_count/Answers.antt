-- No loop: the numbers fill the bytes from place 24 up to the unused space.
use Rattle.index_step.proofs.free_count.Goals as goal

pub returns : goal.returns
returns c = rw c.read.ensures.0
