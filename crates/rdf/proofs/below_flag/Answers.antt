-- and-32767: the mask of fifteen bits leaves the remainder by 32768.
use Rattle.fields.proofs.Masks.{and-32767}
use Rattle.rdf.proofs.below_flag.Goals as goal

pub returns : goal.returns
returns c = and-32767 c.args.field
