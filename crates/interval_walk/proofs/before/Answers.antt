-- No loop. Each way out is one of before_of: before_same within a run, before-short where no CIDF is, before-group for the group before.
use mathlib.Core.Path.{◌∙◌}
use Rattle.interval_walk.proofs.Reading.{before_same, before-short, before-group}
use Rattle.interval_walk.proofs.before.Goals as goal

pub returns-then-s-gt0 : goal.returns-then-s-gt0
returns-then-s-gt0 c =
    let a = c.args in
    c.group_end.ensures ∙ before_same a.ci.now a.s c.if-s-gt0.true

pub returns-then-ci-lt4 : goal.returns-then-ci-lt4
returns-then-ci-lt4 c =
    let a = c.args in
    before-short a.ci.now a.s c.if-s-gt0.false c.if-ci-lt4.true

pub returns : goal.returns
returns c =
    let a = c.args in
    c.group_right.ensures ∙ before-group a.ci.now a.s c.if-s-gt0.false c.if-ci-lt4.false
