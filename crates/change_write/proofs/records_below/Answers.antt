-- No loop. What is read at the interval's end is the CIDF's displacement, the sum of the records' lengths; each is at least the least (fewer).
use native.Mathlib.Omega.{arith}
use native.Mathlib.Nat.{div-le_self}
use Rattle.change_write.proofs.Counting.{cidf-inside, number_small, fewer}
use Rattle.change_write.proofs.records_below.Goals as goal

pub overflow_add-e : goal.overflow_add-e
overflow_add-e c =
    let a = c.args in
    omega (arith, number_small a.m a.area.now a.number c.requires.there c.requires.readable c.requires.small)

pub overflow_sub-e : goal.overflow_sub-e
overflow_sub-e c =
    let a = c.args in
    (cidf-inside a.m a.area.now a.number c.requires.there c.requires.readable).0

pub read-requires : goal.read-requires
read-requires c =
    let a = c.args in
    (omega arith, (cidf-inside a.m a.area.now a.number c.requires.there c.requires.readable).1)

pub overflow_add-result : goal.overflow_add-result
overflow_add-result c =
    omega (arith, c.read.ensures.1, div-le_self c.read.result c.args.m.least)

pub returns : goal.returns
returns c =
    let a = c.args in
    fewer a.m a.area.now a.number c.requires.there c.requires.readable c.read.result c.requires.some c.read.ensures.0
