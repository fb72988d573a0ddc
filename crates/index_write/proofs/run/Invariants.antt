-- Invariant (Going): the pass stands before the old entries that are still to be put, which can be read and put, as place, buffers, pen and bytes say. What comes from here
-- on, among the old entries and in the new record, is what comes from the start on.
use Prim.Native.Nat.{◌-◌}
use Rattle.index_write.proofs.Running.{Going}
use Rattle.index_write.proofs.run.Given as goal

abbrev pub invariant-loop : goal.invariant-loop
invariant-loop l =
    Going l.w l.ib l.fn.c l.initial.b l.initial.buf l.initial.high l.initial.top l.p l.pen (l.fn.c.count - l.counter) l.b l.buf l.high l.top
