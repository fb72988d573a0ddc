-- No loop. next-end at the end, next-along in a run, next-leave past one.
use mathlib.Core.Path.{◌∙◌}
use Rattle.walk.proofs.Ways.{next-end, next-along, next-leave}
use Rattle.walk.proofs.walk_next.Goals as goal

pub returns-then-p-eq0 : goal.returns-then-p-eq0
returns-then-p-eq0 c =
    let a = c.args in
    next-end a.area.now a.size a.forward a.p c.if-p-eq0.true

pub returns-then-p-gt0 : goal.returns-then-p-gt0
returns-then-p-gt0 c =
    let a = c.args in
    c.along.ensures ∙ next-along a.area.now a.size a.forward a.p c.if-p-eq0.false c.if-p-gt0.true

pub returns : goal.returns
returns c =
    let a = c.args in
    c.leave.ensures ∙ next-leave a.area.now a.size a.forward a.p c.if-p-eq0.false c.if-p-gt0.false
