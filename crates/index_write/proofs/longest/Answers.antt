-- No loop: both separators begin with the same F bytes (longest-is), so only what stands behind them is compared.
use lib.ListN.{take, drop}
use native.Mathlib.Omega.{arith}
use Rattle.fields.proofs.Splices.{length-mid, part-is}
use Rattle.index_write.proofs.Renewed.{longest-is}
use Rattle.index_write.proofs.longest.Goals as goal

pub returns : goal.returns
returns c =
    let a = c.args in
    let f = c.common_front in
    let chars = take a.s.len (drop a.s.at a.ib.now) in
    let k = rw (part-is a.ib.now a.s.at a.s.len) at f.ensures.0 in
    let m = rw (part-is a.ib.now a.s.at a.s.len, length-mid a.ib.now a.s.at a.s.len c.requires.2) at f.ensures.2 in
    record { is = longest-is a.buf.now chars a.s.front a.len f.result c.requires.0 c.requires.1 k; inside = (omega arith, omega (arith, m)) }
