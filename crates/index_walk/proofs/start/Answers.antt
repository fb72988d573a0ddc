-- No loop. start-short: no entry in so few bytes; start_is: the header says where the first section's highest lies.
use Rattle.index_walk.proofs.Reading.{start-short, start_is}
use Rattle.index_walk.proofs.start.Goals as goal

pub returns-then-ib-lt24 : goal.returns-then-ib-lt24
returns-then-ib-lt24 c = start-short c.args.ib.now c.if-ib-lt24.true

pub returns : goal.returns
returns c = start_is c.args.ib.now c.if-ib-lt24.false c.read.result c.read.ensures.0
