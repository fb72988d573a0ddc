use Prim.Native.Nat.{◌+◌, ◌-◌, ◌*◌}
use mathlib.Core.Path.{◌≡◌, sym, ◌∙◌}
use native.Mathlib.Omega.{arith}
use Rattle.index_read.proofs.Marking.{mark-big, mark-again, mark_on, mark-end, seen-on, seen_end}
use Rattle.index_read.proofs.mark_free.Goals as goal

pub returns-then-n-number-clause-sound : goal.returns-then-n-number-clause-sound
returns-then-n-number-clause-sound c =
    let o = c.loop-i in
    let a = c.args in
    let x = c.read_pointer-number in
    mark-big a.w a.n o.seen a.ib.now (24 + a.w * o.i) (a.count - o.i) x.result (omega arith) x.ensures.0 c.if-n-number.true ∙ sym o.invariant.0

pub returns-then-seen-number-ne0-clause-sound : goal.returns-then-seen-number-ne0-clause-sound
returns-then-seen-number-ne0-clause-sound c =
    let o = c.loop-i in
    let a = c.args in
    let x = c.read_pointer-number in
    mark-again a.w a.n o.seen a.ib.now (24 + a.w * o.i) (a.count - o.i) x.result (omega arith) x.ensures.0 c.if-n-number.false c.if-seen-number-ne0.true ∙ sym o.invariant.0

pub loop-i-preserved : goal.loop-i-preserved
loop-i-preserved c =
    let o = c.loop-i in
    let a = c.args in
    let x = c.read_pointer-number in
    let at : 24 + a.w * (o.i + 1) ≡ 24 + a.w * o.i + a.w = omega arith in
    let left : a.count - (o.i + 1) ≡ a.count - o.i - 1 = omega arith in
    rw (at, left) (
      o.invariant.0 ∙ mark_on a.w a.n o.seen a.ib.now (24 + a.w * o.i) (a.count - o.i) x.result (omega arith) x.ensures.0 c.if-n-number.false c.if-seen-number-ne0.false,
      o.invariant.1 ∙ seen-on a.w a.n o.seen a.ib.now (24 + a.w * o.i) (a.count - o.i) x.result (omega arith) x.ensures.0,
    )

pub returns : goal.returns
returns c =
    let o = c.loop-i in
    let a = c.args in
    record {
      sound = mark-end a.w a.n o.seen a.ib.now (24 + a.w * o.i) (a.count - o.i) (omega arith) ∙ sym o.invariant.0;
      marks = λ z. seen_end a.w o.seen a.ib.now (24 + a.w * o.i) (a.count - o.i) (omega arith) ∙ sym o.invariant.1;
    }
