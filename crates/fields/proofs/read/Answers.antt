-- number_more takes one byte more. Before each turn at most seven bytes are read, so number_small keeps x * 256 plus a byte in a usize.
-- number-below gives the bound of the result, as every byte is below 256.
use Prim.Native.Nat.{◌+◌}
use mathlib.Core.Path.{◌≡◌}
use native.Mathlib.Omega.{arith}
use Rattle.fields.specs.Bytes.{number}
use Rattle.fields.proofs.Numbers.{number_more, number_small, number-below, number-none}
use Rattle.fields.proofs.read.Goals as goal

pub loop-i-init : goal.loop-i-init
loop-i-init g c = number-none _ _

pub overflow_mul-x : goal.overflow_mul-x
overflow_mul-x g c = omega (arith, c.requires.0, c.loop-i-test.true, number_small c.loop-i.i c.args.b.now c.args.at (λ k. omega (arith, c.type_inv.b k)) (omega arith), c.loop-i.invariant)

pub overflow_add-x : goal.overflow_add-x
overflow_add-x g c = omega (arith, number_small c.loop-i.i c.args.b.now c.args.at (λ k. omega (arith, c.type_inv.b k)) (omega arith), c.loop-i.invariant, c.from.ensures, c.type_inv.b (c.args.at + c.loop-i.i))

pub loop-i-preserved : goal.loop-i-preserved
loop-i-preserved g c = omega (arith, number_more c.loop-i.i c.args.b.now c.args.at, c.loop-i.invariant, c.from.ensures)

pub returns : goal.returns
returns g c =
    let e : c.loop-i.i ≡ g.row.N = omega arith in
    let v : c.loop-i.x ≡ number g.row.N c.args.b.now c.args.at = rw e at c.loop-i.invariant in
    (v, omega (arith, v, number-below g.row.N c.args.b.now c.args.at (λ k. omega (arith, c.type_inv.b k))))
