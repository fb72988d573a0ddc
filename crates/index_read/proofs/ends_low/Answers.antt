-- No loop. The last byte is read from where the separator is made of: of its characters (low-chars), or of the F bytes where it has none (low-front).
use Rattle.index_read.proofs.Entry.{low-front, low-chars}
use Rattle.index_read.proofs.ends_low.Goals as goal

pub returns-then-s-eq0 : goal.returns-then-s-eq0
returns-then-s-eq0 c =
    let a = c.args in
    low-front a.buf.now a.ib.now a.s.front a.s.at a.s.len c.if-s-eq0.true c.last_of.result c.last_of.ensures

pub returns : goal.returns
returns c =
    let a = c.args in
    low-chars a.buf.now a.ib.now a.s.front a.s.at a.s.len c.requires.0 c.if-s-eq0.false
