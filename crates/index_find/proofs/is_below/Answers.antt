-- No loop. The comparison of the two fronts gives their order; only Less counts as below (below-is), and Equal and Greater don't (not-less).
-- Both parts have len bytes at least, so that the fronts are len bytes long (length-take-le).
use mathlib.Core.Path.{sym, ap}
use mathlib.Core.Bool.{true, false}
use lib.ListN.{take}
use lib.Seq.{length-take-le}
use Rattle.fields.specs.Order.{is_less}
use Rattle.fields.proofs.Answers.{not-less}
use Rattle.index_find.proofs.Finding.{below-is}
use Rattle.index_find.proofs.is_below.Goals as goal

pub slice_bounds-compare_bytes-end : goal.slice_bounds-compare_bytes-end
slice_bounds-compare_bytes-end c = sym (length-take-le _ _ c.requires.0)

pub slice_bounds-compare_bytes-end-2 : goal.slice_bounds-compare_bytes-end-2
slice_bounds-compare_bytes-end-2 c = sym (length-take-le _ _ c.requires.1)

pub returns-in_default : goal.returns-in_default
returns-in_default c = let a = c.args in
    let o = c.compare_bytes in
    below-is (take a.len a.buf.now) (take a.len a.key.now) o.result false o.ensures (not-less o.result c.in_default.not-Less)

pub returns : goal.returns
returns c = let a = c.args in
    let o = c.compare_bytes in
    below-is (take a.len a.buf.now) (take a.len a.key.now) o.result true o.ensures (ap is_less c.in-Less.is)
