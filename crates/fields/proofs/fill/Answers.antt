use Prim.Native.Nat.{◌-◌}
use lib.ListN.{replicate, length-replicate}
use native.Mathlib.Omega.{arith}
use Rattle.fields.proofs.Splices.{mid-splice, length-mid}
use Rattle.fields.proofs.fill.Goals as goal

pub returns : goal.returns
returns c =
    let a = c.args in
    let n = length-mid a.b.now a.from (a.to - a.from) (omega arith) in
    rw (c.fill.ensures.after (λ y e. e), n) (mid-splice a.b.now (replicate (a.to - a.from) a.byte) a.from _ (length-replicate (a.to - a.from) a.byte))
