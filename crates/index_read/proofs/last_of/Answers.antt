-- The last of the first len bytes stands at place len - 1 in the whole buffer and in its first len bytes alike (last-is).
-- Where len is 0 nothing is there, and 0 is the answer by definition.
use Rattle.index_read.proofs.Entry.{last-is}
use Rattle.index_read.proofs.last_of.Goals as goal

pub returns : goal.returns
returns c = last-is c.args.buf.now c.args.len c.if-len-eq0.false
