-- No loop. By how many parts there are, the numbers stored are one, three or four (one-by, two-by, three-by); that they differ is what SpreadApart says.
use Prim.Native.Nat.{◌+◌, ◌≤◌}
use mathlib.Core.Path.{◌≡◌}
use native.Mathlib.Omega.{arith}
use Rattle.change_write.proofs.Ordering.{one-by, two-by, three-by}
use Rattle.change_write.proofs.written_by.Goals as goal

pub overflow_add-old : goal.overflow_add-old
overflow_add-old c = omega (arith, c.requires.old_below)

pub returns-then-spread-eq1 : goal.returns-then-spread-eq1
returns-then-spread-eq1 c = one-by c.args.spread c.if-spread-eq1.true

pub overflow_add-spread : goal.overflow_add-spread
overflow_add-spread c = omega (arith, c.requires.a-below (omega (arith, c.if-spread-eq2.true)))

pub two_written-requires : goal.two_written-requires
two_written-requires c =
    let p = c.requires in
    let s = c.args.spread in (
      omega arith,
      omega arith,
      λ (e : s.a + 1 ≡ s.site.number + 1). p.a-other (omega (arith, c.if-spread-eq2.true)) (omega arith),
    )

pub returns-then-spread-eq2 : goal.returns-then-spread-eq2
returns-then-spread-eq2 c =
    let s = c.args.spread in
    two-by s c.if-spread-eq2.true c.two_written.result c.two_written.ensures

pub overflow_add-spread-2 : goal.overflow_add-spread-2
overflow_add-spread-2 c =
    let p = c.requires in
    omega (arith, p.a-below (omega (arith, p.some, c.if-spread-eq1.false)))

pub overflow_add-spread-3 : goal.overflow_add-spread-3
overflow_add-spread-3 c =
    let p = c.requires in
    omega (arith, p.b-below (omega (arith, p.some, c.if-spread-eq1.false, c.if-spread-eq2.false)))

pub three_written-requires : goal.three_written-requires
three_written-requires c =
    let p = c.requires in
    let s = c.args.spread in
    let h : 3 ≤ s.parts.many = omega (arith, p.some, c.if-spread-eq1.false, c.if-spread-eq2.false) in (
      omega arith,
      omega arith,
      omega arith,
      λ (e : s.a + 1 ≡ s.b + 1). p.two-taken h (omega arith),
      λ (e : s.a + 1 ≡ s.site.number + 1). p.a-other (omega arith) (omega arith),
      λ (e : s.b + 1 ≡ s.site.number + 1). p.b-other h (omega arith),
    )

pub returns : goal.returns
returns c =
    three-by c.args.spread c.if-spread-eq1.false c.if-spread-eq2.false c.three_written.result c.three_written.ensures
