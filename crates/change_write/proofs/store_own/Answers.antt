-- No loop. The interval is lent as its part of the area, and can be written anew by itself (rewritable); back in the area, it is the form of the first of the edited
-- records (own-written).
use lib.Seq.{length-take-le}
use mathlib.Core.Path.{sym}
use native.Mathlib.Omega.{arith}
use Rattle.change_write.proofs.Counting.{number_small}
use Rattle.change_write.proofs.Storing.{rewritable, own-written}
use Rattle.change_write.proofs.store_own.Goals as goal

pub overflow_add-at : goal.overflow_add-at
overflow_add-at c =
    let a = c.args in
    let n = number_small a.m a.area.now a.site.number c.requires.seen.there c.requires.seen.readable c.requires.seen.area_small in
    omega (arith, n)

pub slice_bounds-rewrite-end-2 : goal.slice_bounds-rewrite-end-2
slice_bounds-rewrite-end-2 c = sym (length-take-le c.args.last c.args.lens.now c.requires.fits.0)

pub rewrite-requires : goal.rewrite-requires
rewrite-requires c =
    let a = c.args in
    rewritable a.m a.area.now a.site a.new.now a.lens.now c.requires.seen a.last c.requires.fits.1

pub returns : goal.returns
returns c =
    let a = c.args in
    own-written a.m a.area.now a.site a.new.now a.lens.now c.requires.seen a.last c.requires.fits.1 c.rewrite.new.ci c.rewrite.ensures
