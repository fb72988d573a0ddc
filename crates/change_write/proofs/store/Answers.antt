-- No loop. The sums of the lengths say where the bytes lie and how many they are (layable); laid at the interval's front and closed there, with their lengths,
-- they are the form of those records (stored).
use native.Mathlib.Omega.{arith}
use Rattle.change_write.proofs.Counting.{number_small}
use Rattle.change_write.proofs.Storing.{layable, closable, stored}
use Rattle.change_write.proofs.store.Goals as goal

pub overflow_add-base : goal.overflow_add-base
overflow_add-base c =
    let a = c.args in
    let n = number_small a.m a.area.now a.site.number c.requires.0.there c.requires.0.readable c.requires.0.area_small in
    omega (arith, n)

pub lay-requires : goal.lay-requires
lay-requires c =
    let a = c.args in
    layable a.m a.area.now a.site a.new.now a.lens.now c.requires.0 a.s c.requires.1 c.bytes_to-from.result c.bytes_to-len.result
    c.bytes_to-from.ensures.is c.bytes_to-len.ensures.is

pub close-requires : goal.close-requires
close-requires c =
    let a = c.args in
    closable a.m a.area.now a.site a.new.now a.lens.now c.requires.0 a.s c.requires.1 c.bytes_to-from.result c.bytes_to-len.result
    c.bytes_to-from.ensures.is c.bytes_to-len.ensures.is c.lay.new.b c.lay.auto.b

pub returns : goal.returns
returns c =
    let a = c.args in
    stored a.m a.area.now a.site a.new.now a.lens.now c.requires.0 a.s c.requires.1 c.bytes_to-from.result c.bytes_to-len.result
    c.bytes_to-from.ensures.is c.bytes_to-len.ensures.is c.lay.new.b c.close.new.ci c.lay.ensures c.close.ensures
