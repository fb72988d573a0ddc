-- No loop: the index record of a whole area holds its free numbers, so that one can be taken (takable), and it is a free one (taken_is).
use mathlib.Core.Path.{sym}
use Rattle.area.proofs.Places.{length-index}
use Rattle.change_plan.proofs.Free.{takable, taken_is}
use Rattle.change_plan.proofs.taken_at.Goals as goal

pub slice_bounds-taken-end : goal.slice_bounds-taken-end
slice_bounds-taken-end c =
    sym (length-index c.args.m c.args.n c.args.area.now c.requires.0)

pub taken-requires : goal.taken-requires
taken-requires c =
    rw c.width_for.ensures (takable c.args.m c.args.n c.args.area.now c.requires.1 c.args.k c.requires.2)

pub returns : goal.returns
returns c =
    let a = c.args in
    taken_is a.m a.n a.area.now a.k c.taken.result c.requires.2 (rw c.width_for.ensures at c.taken.ensures.0)
