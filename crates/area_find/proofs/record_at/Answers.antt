-- No loop. The four ways out are those of sought_at: an address before the base (before-all), in no interval of the area (behind-all),
-- where no record begins (none-there), where one begins (one-there).
-- Each data interval of a sound area can be read (readable, which record_at asks); the bytes lent are that interval (lent-data).
-- The record ends within its interval, and the interval ends within the area (data-ends).
use Prim.Native.Nat.{◌-◌, ◌/◌}
use mathlib.Core.Path.{◌∙◌, sym}
use lib.ListN.{length}
use native.Mathlib.Omega.{arith}
use borrow.Author.Rules.{rules}
use Rattle.measures.proofs.Fine.{fits-small, fits-large}
use Rattle.area.proofs.Places.{data-ends, data-small, lent-data, length-lent, length-index}
use Rattle.area_find.proofs.Readables.{readable}
use Rattle.area_find.proofs.Addresses.{before-all, behind-all, none-there, one-there}
use Rattle.area_find.proofs.record_at.Goals as goal

pub slice_bounds-base_of-end : goal.slice_bounds-base_of-end
slice_bounds-base_of-end c =
    let a = c.args in
    sym (length-index a.m a.n a.area.now c.requires.0)

pub base_of-base-requires : goal.base_of-base-requires
base_of-base-requires c =
    let a = c.args in
    omega (arith, length-index a.m a.n a.area.now c.requires.0, fits-large c.requires.0)

pub returns-then-wanted-base : goal.returns-then-wanted-base
returns-then-wanted-base c =
    let a = c.args in
    record { is = before-all a.m a.n a.area.now a.address c.base_of-base.result c.base_of-base.ensures.0 c.if-wanted-base.true; inside = tt }

pub returns-then-n-number : goal.returns-then-n-number
returns-then-n-number c =
    let a = c.args in
    record { is = behind-all a.m a.n a.area.now a.address c.base_of-base.result c.base_of-base.ensures.0 c.if-wanted-base.false c.if-n-number.true; inside = tt }

pub overflow_mul-a : goal.overflow_mul-a
overflow_mul-a c =
    let a = c.args in
    let b = c.base_of-base in
    omega (arith, data-small a.m a.n a.area.now c.requires.0 ((a.address - b.result) / a.m.size) c.if-n-number.false)

pub overflow_add-e : goal.overflow_add-e
overflow_add-e c =
    let a = c.args in
    let b = c.base_of-base in
    omega (arith, data-small a.m a.n a.area.now c.requires.0 ((a.address - b.result) / a.m.size) c.if-n-number.false, fits-small c.requires.0)

pub slice_bounds-record_at-end : goal.slice_bounds-record_at-end
slice_bounds-record_at-end c =
    let a = c.args in
    let b = c.base_of-base in
    let z = data-ends a.m a.n a.area.now c.requires.0 ((a.address - b.result) / a.m.size) c.if-n-number.false in
    search rules

pub record_at-requires : goal.record_at-requires
record_at-requires c =
    let a = c.args in
    let b = c.base_of-base in
    rw (lent-data a.m a.n a.area.now c.requires.0 ((a.address - b.result) / a.m.size) c.if-n-number.false)
    (readable a.m a.n a.area.now c.requires.0 c.requires.1 ((a.address - b.result) / a.m.size) c.if-n-number.false)

pub returns-in_default : goal.returns-in_default
returns-in_default c =
    let a = c.args in
    let b = c.base_of-base in
    let e = rw (lent-data a.m a.n a.area.now c.requires.0 ((a.address - b.result) / a.m.size) c.if-n-number.false) at c.record_at.ensures.is in
    record { is = none-there a.m a.n a.area.now a.address b.result b.ensures.0 c.if-wanted-base.false c.if-n-number.false (sym c.in_default.is ∙ e); inside = tt }

pub overflow_add-result : goal.overflow_add-result
overflow_add-result c =
    let a = c.args in
    let b = c.base_of-base in
    let d = lent-data a.m a.n a.area.now c.requires.0 ((a.address - b.result) / a.m.size) c.if-n-number.false in
    let f = rw c.in-Some.is at c.record_at.ensures.ends in
    let z = length-lent a.m a.n a.area.now c.requires.0 ((a.address - b.result) / a.m.size) c.if-n-number.false in
    let y = data-ends a.m a.n a.area.now c.requires.0 ((a.address - b.result) / a.m.size) c.if-n-number.false in
    omega (arith, data-small a.m a.n a.area.now c.requires.0 ((a.address - b.result) / a.m.size) c.if-n-number.false, f, fits-small c.requires.0)

pub returns : goal.returns
returns c =
    let a = c.args in
    let b = c.base_of-base in
    let d = lent-data a.m a.n a.area.now c.requires.0 ((a.address - b.result) / a.m.size) c.if-n-number.false in
    let f = rw c.in-Some.is at c.record_at.ensures.ends in
    let z = length-lent a.m a.n a.area.now c.requires.0 ((a.address - b.result) / a.m.size) c.if-n-number.false in
    let y = data-ends a.m a.n a.area.now c.requires.0 ((a.address - b.result) / a.m.size) c.if-n-number.false in
    let e = rw d at c.record_at.ensures.is in record {
      is = one-there a.m a.n a.area.now a.address b.result b.ensures.0 c.if-wanted-base.false c.if-n-number.false c.in-Some.length
          (sym c.in-Some.is ∙ e);
      inside = omega (arith, f, z, y);
    }
