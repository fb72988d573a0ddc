use mathlib.Core.Path.{◌≡◌, ◌∙◌, refl}
use native.Mathlib.Omega.{arith}
use Rattle.fields.specs.Lists.{sum}
use Rattle.room.proofs.Steps.{sum-turn}
use Rattle.room.proofs.bytes_to.Goals as goal

pub loop-i-init : goal.loop-i-init
loop-i-init c = (omega arith, unfold sum in refl)

pub overflow_add-sum : goal.overflow_add-sum
overflow_add-sum c = omega (arith, c.type_inv.lens c.loop-i.i, c.from-sum.ensures)

pub loop-i-preserved : goal.loop-i-preserved
loop-i-preserved c =
    let s = c.args.lens.now in
    (omega (arith, c.type_inv.lens c.loop-i.i, c.from-sum.ensures), rw c.from-sum.ensures (sum-turn s c.loop-i.i c.loop-i.sum (omega arith) c.loop-i.invariant.1))

pub returns : goal.returns
returns c =
    let e : c.loop-i.i ≡ c.args.k = omega arith in
    record { is = c.loop-i.invariant.1 ∙ rw e; small = omega arith }
