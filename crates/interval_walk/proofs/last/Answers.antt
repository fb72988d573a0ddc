-- No loop. last-short: bytes that have no CIDF; last-is: the group whose RDFs begin where the CIDF's fields say.
use mathlib.Core.Path.{◌∙◌}
use Rattle.interval_walk.proofs.Reading.{last-short, last-is}
use Rattle.interval_walk.proofs.last.Goals as goal

pub returns-then-n-lt4 : goal.returns-then-n-lt4
returns-then-n-lt4 c = last-short c.args.ci.now c.if-n-lt4.true

pub returns : goal.returns
returns c =
    c.group_right.ensures
    ∙ last-is c.args.ci.now c.if-n-lt4.false c.read-bytes.result c.rdfs_begin.result c.read-bytes.ensures.0 c.rdfs_begin.ensures.is
