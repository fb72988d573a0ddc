use mathlib.Core.Path.{◌∙◌}
use Rattle.measures.proofs.Sizes.{listed}
use Rattle.measures.proofs.permitted.Goals as goal

pub returns : goal.returns
returns c = c.contains.ensures.value ∙ listed c.args.size
