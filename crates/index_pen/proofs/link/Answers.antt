-- No loop. The field of what was stored becomes zero; where no section was closed before, that is all (link-first), else the one before is told (link-next).
use native.Mathlib.Omega.{arith}
use Rattle.index_pen.proofs.Putting.{link-first, link-next}
use Rattle.index_pen.proofs.link.Goals as goal

pub returns-then-pen-eq0 : goal.returns-then-pen-eq0
returns-then-pen-eq0 c =
    let a = c.args in
    let told = link-first a.b.now a.pen a.at c.write.new.b c.write.ensures c.if-pen-eq0.true in record { is = told.0; bytes = told.1 }

pub overflow_sub-pen : goal.overflow_sub-pen
overflow_sub-pen c = c.requires.before c.if-pen-eq0.false

pub write-requires-2 : goal.write-requires-2
write-requires-2 c =
    (omega arith, omega (arith, c.requires.field c.if-pen-eq0.false, c.write.auto.b))

pub returns : goal.returns
returns c =
    let a = c.args in
    let told = link-next a.b.now a.pen a.at c.write.new.b c.write.ensures c.if-pen-eq0.false c.write-2.new.b c.write-2.ensures in record { is = told.0; bytes = told.1 }
