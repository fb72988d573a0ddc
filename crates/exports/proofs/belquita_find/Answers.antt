-- No loop. The place that the search tells, in numbers.
use Rattle.std.proofs.Common.{sym, ap, ◌∙◌}
use Rattle.exports.specs.Values.{place_told}
use Rattle.exports.proofs.belquita_find.Goals as goal

pub returns-in-At : goal.returns-in-At
returns-in-At c = ap place_told (sym c.in-At.is ∙ c.find.ensures.is)

pub returns-in-Gap : goal.returns-in-Gap
returns-in-Gap c = ap place_told (sym c.in-Gap.is ∙ c.find.ensures.is)
