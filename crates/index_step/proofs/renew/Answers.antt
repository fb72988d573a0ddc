use Prim.Native.Nat.{◌+◌}
use mathlib.Core.Path.{◌≡◌, refl, ◌∙◌}
use mathlib.Core.Bool.{true, false}
use native.Mathlib.Omega.{arith}
use borrow.Author.Tests.{not-true, not-false}
use Rattle.index_step.proofs.Reaching.{reach-most}
use Rattle.index_step.proofs.renew.Goals as goal

-- src/lib.rt:125:9
pub extend-requires : goal.extend-requires
extend-requires c =
    let s = c.args.s in
    (omega (arith, c.requires.1, reach-most s.len), c.requires.2)

-- src/lib.rt:126:9
pub returns-then-not-s : goal.returns-then-not-s
returns-then-not-s c =
    let h : c.args.s.closes ≡ false = not-true _ c.if-not-s.true in
    rw h (c.extend.ensures, refl)

-- src/lib.rt:128:5
pub extend-requires-2 : goal.extend-requires-2
extend-requires-2 c =
    let s = c.args.s in
    (omega (arith, c.requires.0, reach-most s.len), c.requires.2)

-- src/lib.rt:129:29
pub overflow_add-s : goal.overflow_add-s
overflow_add-s c = omega (arith, c.requires.0)

-- src/lib.rt:129:5
pub extend-requires-3 : goal.extend-requires-3
extend-requires-3 c =
    let s = c.args.s in
    let m = reach-most (s.front + s.len) in
    (omega (arith, c.requires.1, m), omega (arith, c.requires.0, m, c.extend-2.auto.buf))

-- src/lib.rt:119:1
pub returns : goal.returns
returns c =
    let h : c.args.s.closes ≡ true = not-false _ c.if-not-s.false in
    rw h (c.extend-3.ensures ∙ rw c.extend-2.ensures, c.extend-2.ensures)
