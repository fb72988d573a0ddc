-- No loop. A sound area has a sound index record (index-readable), so that locate gives one of its entries with a number below n.
-- Each data interval of a sound area is sound and so can be read (readable, which find asks): it is free or named by an entry.
-- The bytes lent for the search are that data interval (lent-data), and it ends within the area (data-ends).
use mathlib.Core.Path.{◌≡◌, sym}
use lib.ListN.{length}
use native.Mathlib.Omega.{arith}
use borrow.Author.Rules.{rules}
use Rattle.measures.proofs.Fine.{fits-small, fits-large}
use Rattle.area.proofs.Places.{data-ends, data-small, lent-data, length-index}
use Rattle.area_find.proofs.Readables.{readable, index-readable}
use Rattle.area_find.proofs.find.Goals as goal

pub slice_bounds-locate-end : goal.slice_bounds-locate-end
slice_bounds-locate-end c =
    let a = c.args in
    sym (length-index a.m a.n a.area.now c.requires.0)

pub locate-located-requires : goal.locate-located-requires
locate-located-requires c =
    let a = c.args in
    let z = length-index a.m a.n a.area.now c.requires.0 in
    let k : length a.key.now ≡ a.m.key = c.requires.2 in
    record {
      least = omega (arith, z, fits-large c.requires.0);
      most = omega (arith, z, fits-small c.requires.0);
      some = omega (arith, c.requires.0.key-some);
      short = omega (arith, c.requires.0.key-most);
      sound = rw k (index-readable a.m a.n a.area.now c.requires.1);
    }

pub overflow_mul-a : goal.overflow_mul-a
overflow_mul-a c =
    let a = c.args in
    omega (arith, data-small a.m a.n a.area.now c.requires.0 c.locate-located.result.number c.locate-located.ensures.within)

pub overflow_add-e : goal.overflow_add-e
overflow_add-e c =
    let a = c.args in
    omega (arith, data-small a.m a.n a.area.now c.requires.0 c.locate-located.result.number c.locate-located.ensures.within, fits-small c.requires.0)

pub slice_bounds-find-end : goal.slice_bounds-find-end
slice_bounds-find-end c =
    let a = c.args in
    let z = data-ends a.m a.n a.area.now c.requires.0 c.locate-located.result.number c.locate-located.ensures.within in
    search rules

pub find-found-requires : goal.find-found-requires
find-found-requires c =
    let a = c.args in (
      rw (lent-data a.m a.n a.area.now c.requires.0 c.locate-located.result.number c.locate-located.ensures.within)
          (readable a.m a.n a.area.now c.requires.0 c.requires.1 c.locate-located.result.number c.locate-located.ensures.within),
      c.requires.2,
    )

pub returns : goal.returns
returns c =
    let a = c.args in
    let l = c.locate-located.ensures in
    let d = lent-data a.m a.n a.area.now c.requires.0 c.locate-located.result.number c.locate-located.ensures.within in
    record { entry = l.ordinal; number = l.number; inside = l.inside; within = l.within; found = rw d at c.find-found.ensures.is; place = rw d at c.find-found.ensures.within }
