-- No loop. To the left and to the right the callees' contracts are this one; bytes that stay where they lie are stored there again (stays).
use mathlib.Core.Path.{◌≡◌}
use native.Mathlib.Omega.{arith}
use Rattle.fields.proofs.Moves.{stays}
use Rattle.fields.proofs.carry.Goals as goal

pub returns-else-from-to : goal.returns-else-from-to
returns-else-from-to c =
    let a = c.args in
    let e : a.to ≡ a.from = omega (arith, c.if-from-to.false, c.if-to-from.false) in
    rw e (stays a.b.now a.from a.len (omega arith))
