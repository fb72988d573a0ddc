-- Invariant (State): the search stands before entry i of a sound record, as place and buffers say. Where the key leads among all entries is i plus where
-- it leads among those from i on.
-- The way out without an answer is never taken: a key leads to one of a sound record's entries, since the last separator is empty
-- (leads-inside), so there is a next entry (not-past).
use Rattle.index_find.proofs.Finding.{State}
use Rattle.index_find.proofs.locate.Given as goal

abbrev pub invariant-loop-i : goal.invariant-loop-i
invariant-loop-i l = State l.ib l.n l.key l.buf l.high l.p l.i
