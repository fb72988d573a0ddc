-- No loop. The verdict on the record, in numbers.
use Rattle.std.proofs.Common.{sym, ap, ◌∙◌}
use Rattle.exports.specs.Values.{index_told}
use Rattle.exports.proofs.belquita_index.Goals as goal

pub returns-in_default : goal.returns-in_default
returns-in_default c = ap index_told (sym c.in_default.is ∙ c.check.ensures)

pub returns : goal.returns
returns c = ap index_told (sym c.in-Some.is ∙ c.check.ensures)
