-- Only the next two lengths count. ahead-end: there are fewer than two; ahead-first, ahead-second: one of them differs; ahead-both: both are equal.
use native.Mathlib.Omega.{arith}
use Rattle.room.proofs.Steps.{ahead-end, ahead-first, ahead-second, ahead-both}
use Rattle.room.proofs.ahead_at.Goals as goal

pub returns-then-lens-i-le2 : goal.returns-then-lens-i-le2
returns-then-lens-i-le2 c =
    let a = c.args in
    ahead-end a.lens.now a.i (omega arith) c.if-lens-i-le2.true

pub returns-then-lens-i : goal.returns-then-lens-i
returns-then-lens-i c =
    let a = c.args in
    ahead-first a.lens.now a.i c.if-lens-i-le2.false c.if-lens-i.true

pub returns-then-lens-i-2 : goal.returns-then-lens-i-2
returns-then-lens-i-2 c =
    let a = c.args in
    ahead-second a.lens.now a.i c.if-lens-i-le2.false c.if-lens-i.false c.if-lens-i-2.true

pub returns : goal.returns
returns c =
    let a = c.args in
    ahead-both a.lens.now a.i c.if-lens-i-le2.false c.if-lens-i.false c.if-lens-i-2.false
