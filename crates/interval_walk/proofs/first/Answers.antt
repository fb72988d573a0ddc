-- No loop. first_short: bytes that have no CIDF; first-is: the group whose RDFs end where the CIDF begins.
use mathlib.Core.Path.{◌∙◌}
use Rattle.interval_walk.proofs.Reading.{first_short, first-is}
use Rattle.interval_walk.proofs.first.Goals as goal

pub returns-then-ci-lt4 : goal.returns-then-ci-lt4
returns-then-ci-lt4 c = first_short c.args.ci.now c.if-ci-lt4.true

pub returns : goal.returns
returns c = c.group_left.ensures ∙ first-is c.args.ci.now c.if-ci-lt4.false
