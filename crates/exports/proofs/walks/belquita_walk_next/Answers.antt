-- No loop. The contracts of the step and of the record.
use Rattle.std.proofs.Common.{length, ap}
use Rattle.exports.proofs.walks.belquita_walk_next.Goals as goal

pub returns : goal.returns
returns c = record { next = c.walk_next-p.ensures; long = ap length c.walk_record.ensures.bytes }
