use mathlib.Core.Path.{◌≡◌, ◌∙◌, ap}
use lib.ListN.{length, length-set}
use native.Mathlib.Omega.{arith}
use Rattle.lines.proofs.Digits.{hex-short, hex-none, hex-done, spelt-length, hex-turn}
use Rattle.lines.proofs.hex.Goals as goal

pub returns-then-text-bytes : goal.returns-then-text-bytes
returns-then-text-bytes c =
    let a = c.args in
    hex-short a.bytes.now a.text.now (omega (arith, c.if-text-bytes.true))

pub loop-i-init : goal.loop-i-init
loop-i-init c =
    let a = c.args in
    (omega arith, omega (arith, c.if-text-bytes.false), hex-none a.bytes.now a.text.now)

pub bounds-text-at : goal.bounds-text-at
bounds-text-at c =
    let a = c.args in
    let o = c.loop-i in
    omega (arith, (ap length o.invariant.2 ∙ spelt-length a.bytes.now a.text.now o.invariant.1 o.i o.invariant.0))

pub digit-requires-in-loop-i : goal.digit-requires-in-loop-i
digit-requires-in-loop-i c = omega arith

pub bounds-text-at-in-loop-i : goal.bounds-text-at-in-loop-i
bounds-text-at-in-loop-i c =
    let a = c.args in
    let o = c.loop-i in
    rw length-set (omega (arith, (ap length o.invariant.2 ∙ spelt-length a.bytes.now a.text.now o.invariant.1 o.i o.invariant.0)))

pub loop-i-preserved : goal.loop-i-preserved
loop-i-preserved c =
    let a = c.args in
    let o = c.loop-i in (
      omega arith,
      o.invariant.1,
      hex-turn a.bytes.now a.text.now o.invariant.1 o.i o.invariant.0 (omega arith) o.text c.digit.result c.digit-in-loop-i.result
          o.invariant.2 c.digit.ensures c.digit-in-loop-i.ensures,
    )

pub shape_of-text : goal.shape_of-text
shape_of-text c =
    let a = c.args in
    let o = c.loop-i in
    ap length o.invariant.2 ∙ spelt-length a.bytes.now a.text.now o.invariant.1 o.i o.invariant.0

pub returns : goal.returns
returns c =
    let a = c.args in
    let o = c.loop-i in
    let z : o.i ≡ 0 = omega arith in
    hex-done a.bytes.now a.text.now o.invariant.1 o.text (o.invariant.2 ∙ rw z)
