-- The order of two lists is that of what follows their common front, whose length common_front gives.
-- order-ends, order-shorter and order-longer answer where a list ends there; order-lower and order-higher where the next byte decides.
use mathlib.Core.Path.{sym}
use native.Mathlib.Omega.{arith}
use Rattle.fields.proofs.Fronts.{order-ends, order-shorter, order-longer, order-lower, order-higher}
use Rattle.fields.proofs.compare_bytes.Goals as goal

pub returns-then-b-i : goal.returns-then-b-i
returns-then-b-i c =
    let x = c.args in
    let i = c.common_front-i in
    sym (order-ends x.a.now x.b.now i.result i.ensures.0 (omega arith) (omega arith))

pub returns-then-a-i : goal.returns-then-a-i
returns-then-a-i c =
    let x = c.args in
    let i = c.common_front-i in
    sym (order-shorter x.a.now x.b.now i.result i.ensures.0 (omega arith) (omega arith))

pub returns-then-b-i-2 : goal.returns-then-b-i-2
returns-then-b-i-2 c =
    let x = c.args in
    let i = c.common_front-i in
    sym (order-longer x.a.now x.b.now i.result i.ensures.0 (omega arith) (omega arith))

pub returns-then-a-i-2 : goal.returns-then-a-i-2
returns-then-a-i-2 c =
    let x = c.args in
    let i = c.common_front-i in
    sym (order-lower x.a.now x.b.now i.result i.ensures.0 (omega arith) (omega arith) c.if-a-i-2.true)

pub returns : goal.returns
returns c =
    let x = c.args in
    let i = c.common_front-i in
    sym (order-higher x.a.now x.b.now i.result i.ensures.0 (omega arith) (omega arith) c.if-a-i-2.false)
