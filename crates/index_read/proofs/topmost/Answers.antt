-- No loop. Where nothing is before it, it rises (first-rises); else all bytes are compared from the front on (other-rises).
use Rattle.index_read.proofs.Rising.{first-rises, other-rises}
use Rattle.index_read.proofs.topmost.Goals as goal

pub returns-then-first : goal.returns-then-first
returns-then-first c =
    let a = c.args in
    first-rises a.first 0 a.len a.buf.now a.high.now 0 a.z c.if-first.true

pub returns : goal.returns
returns c =
    let a = c.args in
    other-rises a.first 0 a.len a.buf.now a.high.now 0 a.z c.if-first.false c.compares.result c.compares.ensures
