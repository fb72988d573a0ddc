-- No loop. The lengths told are those of the edited records (edit-told), so that the edit can be planned. What is planned is applied at the site that it names, which is
-- the one asked for (at_told). What is refused leaves the area.
use mathlib.Core.Path.{◌≡◌}
use lib.ListN.{length, take, length-take}
use native.Mathlib.Omega.{arith}
use Rattle.change_plan.specs.AidEdited.{Told}
use Rattle.change_write.proofs.Editing.{edit-lengths, edit-told, edit-counted, at_told}
use Rattle.change_write.proofs.change_by.Goals as goal
use Rattle.change_write.proofs.change_by.Goals.{After-lengths-count}

told : (k : After-lengths-count) → Told k.args.m k.args.n k.args.area.now k.args.site k.args.new.now (take k.lengths-count.result k.lengths-count.new.lens)
told k =
    let a = k.args in
    let r = k.lengths-count in
    edit-told a.m a.n a.area.now a.site a.new.now k.requires.0 a.lens.now k.requires.1 r.new.lens r.result r.ensures.count r.ensures.list

counted : (k : After-lengths-count) → k.lengths-count.result ≡ length (take k.lengths-count.result k.lengths-count.new.lens)
counted k =
    let a = k.args in
    let r = k.lengths-count in
    edit-counted a.m a.n a.area.now a.site a.new.now k.requires.0 a.lens.now k.requires.1 r.new.lens r.result r.ensures.count r.ensures.list

pub lengths-count-requires : goal.lengths-count-requires
lengths-count-requires c =
    let a = c.args in
    edit-lengths a.m a.n a.area.now a.site a.new.now c.requires.0 a.lens.now c.requires.1

pub slice_bounds-plan-end : goal.slice_bounds-plan-end
slice_bounds-plan-end c =
    omega (arith, counted (goal.at.slice_bounds-plan-end c).After-lengths-count, length-take c.lengths-count.result c.lengths-count.new.lens)

pub slice_bounds-plan-end-2 : goal.slice_bounds-plan-end-2
slice_bounds-plan-end-2 c = counted (goal.at.slice_bounds-plan-end-2 c).After-lengths-count

pub plan-requires : goal.plan-requires
plan-requires c = told (goal.at.plan-requires c).After-lengths-count

pub slice_bounds-apply-end : goal.slice_bounds-apply-end
slice_bounds-apply-end c =
    omega (arith, counted (goal.at.slice_bounds-apply-end c).After-lengths-count, length-take c.lengths-count.result c.lengths-count.new.lens)

pub slice_bounds-apply-end-2 : goal.slice_bounds-apply-end-2
slice_bounds-apply-end-2 c = counted (goal.at.slice_bounds-apply-end-2 c).After-lengths-count

pub apply-requires-clause-told : goal.apply-requires-clause-told
apply-requires-clause-told c =
    let a = c.args in
    at_told a.m a.n a.area.now a.site a.new.now c.requires.0 (take c.lengths-count.result c.lengths-count.new.lens) (told (goal.at.apply-requires-clause-told c).After-lengths-count)
    c.in_ok-spread.spread c.plan.result c.plan.ensures c.in_ok-spread.was
