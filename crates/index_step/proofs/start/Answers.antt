use Rattle.index_step.proofs.start.Goals as goal

-- src/lib.rt:40:1
pub returns : goal.returns
returns c = rw c.read.ensures.0
