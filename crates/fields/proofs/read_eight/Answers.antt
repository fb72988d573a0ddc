-- number-8: the number in eight bytes is that of the first four times 2 ^ 32, plus that of the last four. Each half is below 2 ^ 32.
use native.Mathlib.Omega.{arith}
use Rattle.fields.proofs.Numbers.{number-8}
use Rattle.fields.proofs.read_eight.Goals as goal

pub returns : goal.returns
returns c =
    let x = c.args in
    omega (arith, number-8 x.b.now x.at, c.read.ensures.0, c.read-2.ensures.0)
