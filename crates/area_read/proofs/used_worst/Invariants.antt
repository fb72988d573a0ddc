-- Invariant (Going): the walk stands before entry i of a sound index record, as place and buffers say: buf, 263 bytes, begins with the separator before.
-- The lowest of `worst` and the unsound numbers of all entries is the lowest of `lowest` and those of the entries from i on.
-- Where all intervals in use are sound, `records` and the records of the entries from i on make up all of them.
-- At most 32768 records were counted for each entry passed, so the sum can't overflow.
use Rattle.area_read.proofs.Entries.{Going}
use Rattle.area_read.proofs.used_worst.Given as goal

abbrev pub invariant-loop-i : goal.invariant-loop-i
invariant-loop-i l = Going l.m l.n l.area l.ib l.worst l.buf l.high l.p l.i l.lowest l.records
