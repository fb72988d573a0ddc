-- No loop. Each way out is one of after_of: after-past and after-cut for a spot that does not lie in the interval, after_same within a run, after-short and
-- after-far where no RDF can lie at the place, after-group for the next group.
use mathlib.Core.Path.{◌∙◌}
use Rattle.interval_walk.proofs.Reading.{after-past, after-cut, after_same, after-short, after-far, after-group}
use Rattle.interval_walk.proofs.after.Goals as goal
use Rattle.interval_walk.proofs.after.Goals.{then-n-s-via-then-n-s, then-n-s-via-else-n-s+then-n-s-2, then-n-lt4-via-then-n-lt4, then-n-lt4-via-else-n-lt4+then-n-s-3}

pub returns-then-n-s : goal.returns-then-n-s
returns-then-n-s c =
    let a = c.args in
    elim c.then-n-s.branch [
      | then-n-s-via-then-n-s w ↦ after-past a.ci.now a.s w.if-n-s.true
      | then-n-s-via-else-n-s+then-n-s-2 w ↦ after-cut a.ci.now a.s w.if-n-s.false w.if-n-s-2.true
    ]

pub returns-then-s-gt0 : goal.returns-then-s-gt0
returns-then-s-gt0 c =
    let a = c.args in
    c.some_spot.ensures ∙ after_same a.ci.now a.s c.if-n-s.false c.if-n-s-2.false c.if-s-gt0.true

pub returns-then-n-lt4 : goal.returns-then-n-lt4
returns-then-n-lt4 c =
    let a = c.args in
    elim c.then-n-lt4.branch [
      | then-n-lt4-via-then-n-lt4 w ↦ after-short a.ci.now a.s c.if-n-s.false c.if-n-s-2.false c.if-s-gt0.false w.if-n-lt4.true
      | then-n-lt4-via-else-n-lt4+then-n-s-3 w ↦ after-far a.ci.now a.s c.if-n-s.false c.if-n-s-2.false c.if-s-gt0.false w.if-n-lt4.false w.if-n-s-3.true
    ]

pub returns : goal.returns
returns c =
    let a = c.args in
    c.group_left.ensures
    ∙ after-group a.ci.now a.s c.if-n-s.false c.if-n-s-2.false c.if-s-gt0.false c.if-n-lt4.false c.if-n-s-3.false
