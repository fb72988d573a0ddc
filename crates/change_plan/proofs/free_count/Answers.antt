-- In a sound area the unused space begins past the header and the free numbers (header-before), and between lies their count (free-counted).
use mathlib.Core.Path.{sym}
use native.Mathlib.Omega.{arith}
use Rattle.measures.proofs.Fine.{fits-large}
use Rattle.measures.proofs.Width.{width_some}
use Rattle.area.proofs.Places.{length-index}
use Rattle.change_plan.proofs.Free.{header-before, free-counted}
use Rattle.change_plan.proofs.free_count.Goals as goal

pub slice_bounds-free_count-end : goal.slice_bounds-free_count-end
slice_bounds-free_count-end c =
    let a = c.args in
    sym (length-index a.m a.n a.area.now c.requires.0)

pub free_count-requires : goal.free_count-requires
free_count-requires c =
    let a = c.args in
    let k = length-index a.m a.n a.area.now c.requires.0 in
    (omega (arith, k, fits-large c.requires.0), rw c.width_for.ensures (width_some a.n), header-before a.m a.n a.area.now c.requires.1)

pub returns : goal.returns
returns c =
    let a = c.args in
    free-counted a.m a.n a.area.now c.free_count.result (rw c.width_for.ensures at c.free_count.ensures)
