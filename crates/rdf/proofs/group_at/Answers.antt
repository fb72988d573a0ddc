-- No loop: n RDFs from place p on end at p + 3 * n.
use Prim.Native.Nat.{◌+◌, ◌-◌, ◌*◌}
use mathlib.Core.Path.{◌≡◌}
use native.Mathlib.Omega.{arith}
use Rattle.rdf.proofs.group_at.Goals as goal

pub returns : goal.returns
returns c =
    let a = c.args in
    let e : a.p + 3 * a.n - 3 * a.n ≡ a.p = omega arith in
    record { is = rw e at c.group_before.ensures.is; small = c.group_before.ensures.small }
