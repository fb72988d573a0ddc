-- No loop. The bytes compared are the key's: from the offset on, as many as a key has.
use Prim.Native.Nat.{◌+◌, ◌-◌}
use mathlib.Core.Path.{◌≡◌}
use native.Mathlib.Omega.{arith}
use Rattle.interval_find.proofs.order_at.Goals as goal

pub returns : goal.returns
returns c =
    let x = c.args in
    let a = x.at + x.m.offset in
    let e : a + x.m.key - a ≡ x.m.key = omega arith in
    rw e at c.compare.ensures
