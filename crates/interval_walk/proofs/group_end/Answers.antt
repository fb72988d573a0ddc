-- No loop. end_short, end_empty and end_is: the three ways of end_of.
use mathlib.Core.Path.{◌∙◌}
use native.Mathlib.Omega.{arith}
use Rattle.interval_walk.proofs.Reading.{end_short, end_empty, end_is}
use Rattle.interval_walk.proofs.group_end.Goals as goal
use Rattle.interval_walk.proofs.group_end.Goals.{then-end-len-via-then-end-len, then-end-len-via-else-end-len+then-count-eq0}

pub returns-then-end-len : goal.returns-then-end-len
returns-then-end-len c =
    let a = c.args in
    elim c.then-end-len.branch [
      | then-end-len-via-then-end-len w ↦ end_short a.end a.len a.count a.q w.if-end-len.true
      | then-end-len-via-else-end-len+then-count-eq0 w ↦ end_empty a.end a.len a.count a.q w.if-end-len.false w.if-count-eq0.true
    ]

pub returns : goal.returns
returns c =
    let a = c.args in
    c.some_spot.ensures ∙ end_is a.end a.len a.count a.q c.if-end-len.false (omega (arith, c.if-count-eq0.false))
