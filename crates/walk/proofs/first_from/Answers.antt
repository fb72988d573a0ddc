-- No loop. The first record (from_first), or the one after that of the ordinal before (from-after).
use native.Mathlib.Omega.{arith}
use Rattle.walk.proofs.Ways.{from_first, from-after}
use Rattle.walk.proofs.first_from.Goals as goal

pub returns-then-ordinal-eq0 : goal.returns-then-ordinal-eq0
returns-then-ordinal-eq0 c =
    let a = c.args in
    from_first a.m a.ci.now c.requires.0 a.ordinal c.if-ordinal-eq0.true c.first.result c.first.ensures

pub returns : goal.returns
returns c =
    let a = c.args in
    let n = c.if-ordinal-eq0.false in
    from-after a.m a.ci.now c.requires.0 a.ordinal (omega (arith, n)) c.spot_at.result c.spot_at.ensures c.after.result c.after.ensures
