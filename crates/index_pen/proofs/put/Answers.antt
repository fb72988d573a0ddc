-- No loop. Where the entry is not the last to come in its section, it is an inner one (inner-puts, inner-on). Else its F is counted against the highest of the
-- section before, which it then takes the place of (top-puts, top-on).
use mathlib.Core.Path.{sym}
use lib.Seq.{length-take-le}
use borrow.Author.Tests.{eq-eqb, ne_eqb}
use Rattle.index_pen.proofs.Putting.{inner-puts, inner-on, top-puts, top-on}
use Rattle.index_pen.proofs.put.Goals as goal

pub put_inner-requires : goal.put_inner-requires
put_inner-requires c =
    let a = c.args in
    (inner-puts a.b.now a.pen a.top.now a.sep.now a.front a.number (ne_eqb _ _ c.if-pen-ne1.true) c.requires.puts.0, c.requires.puts.1, c.requires.room.0)

pub returns-then-pen-ne1 : goal.returns-then-pen-ne1
returns-then-pen-ne1 c =
    let a = c.args in
    let told = inner-on a.b.now a.pen a.top.now a.sep.now a.front a.number (ne_eqb _ _ c.if-pen-ne1.true) c.put_inner.result c.put_inner.new.b
    c.put_inner.ensures.is c.put_inner.ensures.bytes in record { is = told.0; top = told.1.0; bytes = told.1.1 }

pub slice_bounds-common_front-end-2 : goal.slice_bounds-common_front-end-2
slice_bounds-common_front-end-2 c =
    let a = c.args in
    sym (length-take-le a.pen.high a.top.now c.requires.room.1)

pub put_top-requires : goal.put_top-requires
put_top-requires c =
    let a = c.args in (
      top-puts a.b.now a.pen a.top.now a.sep.now a.front a.number (eq-eqb _ _ c.if-pen-ne1.false) c.common_front-f.result c.common_front-f.ensures.0
          c.requires.puts.0,
      c.common_front-f.ensures.2,
    )

pub returns : goal.returns
returns c =
    let a = c.args in
    let told = top-on a.b.now a.pen a.top.now a.sep.now a.front a.number (eq-eqb _ _ c.if-pen-ne1.false) c.common_front-f.result
    c.common_front-f.ensures.0 c.put_top.result c.copy.new.b c.put_top.new.b c.put_top.ensures.is c.copy.ensures c.put_top.ensures.bytes in record { is = told.0; top = told.1.0; bytes = told.1.1 }
