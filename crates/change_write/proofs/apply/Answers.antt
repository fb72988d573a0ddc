-- No loop. One part is stored in its own interval, which it fits (one-fits), and that is the plan (one-applied). Several are stored by apply_divided, which asks what a
-- ready plan gives (several-parted), and that is the plan (several-applied). The numbers told are of intervals that differ (one_apart, several-apart).
use Rattle.change_plan.proofs.Telling.{told-seen}
use Rattle.change_write.proofs.Carrying.{one-fits, one_apart, one-applied, several-parted, several-apart, several-applied}
use Rattle.change_write.proofs.apply.Goals as goal

pub store_own-requires : goal.store_own-requires
store_own-requires c =
    let a = c.args in record { seen = told-seen a.m a.n a.area.now a.spread.site a.new.now a.lens.now c.requires.told; fits = one-fits a.m a.n a.area.now a.new.now a.lens.now a.spread c.requires.told c.requires.planned c.if-parts-eq1.true }

pub written_by-requires : goal.written_by-requires
written_by-requires c =
    let a = c.args in
    one_apart a.m a.n a.area.now a.new.now a.lens.now a.spread c.requires.told c.requires.planned c.if-parts-eq1.true

pub returns-then-parts-eq1 : goal.returns-then-parts-eq1
returns-then-parts-eq1 c =
    let a = c.args in
    one-applied a.m a.n a.area.now a.new.now a.lens.now a.spread c.requires.told c.requires.planned c.if-parts-eq1.true c.store_own.new.area c.store_own.ensures
    c.written_by.result c.written_by.ensures

pub apply_divided-requires : goal.apply_divided-requires
apply_divided-requires c =
    let a = c.args in
    several-parted a.m a.n a.area.now a.new.now a.lens.now a.spread c.requires.told c.requires.planned c.if-parts-eq1.false

pub written_by-requires-2 : goal.written_by-requires-2
written_by-requires-2 c =
    let a = c.args in
    several-apart a.m a.n a.area.now a.new.now a.lens.now a.spread c.requires.told c.requires.planned c.if-parts-eq1.false

pub returns : goal.returns
returns c =
    let a = c.args in
    several-applied a.m a.n a.area.now a.new.now a.lens.now a.spread c.requires.told c.requires.planned c.if-parts-eq1.false c.apply_divided.new.area c.apply_divided.ensures
    c.written_by-2.result c.written_by-2.ensures
