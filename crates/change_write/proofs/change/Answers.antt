-- No loop. The buffer that is chosen is long enough for what records_below tells (edit-countable is what it asks);
-- the longest holds whatever an interval has (edit-few).
use native.Mathlib.Omega.{arith}
use Rattle.change_write.proofs.Editing.{edit-few, edit-countable}
use Rattle.change_write.proofs.change.Goals as goal

pub records_below-many-requires : goal.records_below-many-requires
records_below-many-requires c =
    let a = c.args in
    edit-countable a.m a.n a.area.now a.site a.new.now c.requires

pub change_sized-requires-2-clause-long : goal.change_sized-requires-2-clause-long
change_sized-requires-2-clause-long c =
    let a = c.args in
    (edit-few a.m a.n a.area.now a.site a.new.now c.requires, omega arith)
