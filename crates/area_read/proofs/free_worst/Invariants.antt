-- Invariant (Looking): the free numbers from the i-th on lie within the index record, and each is below n.
-- The lowest of n and the unsound ones of all the free numbers is the lowest of `worst` and the unsound ones of those left.
use Prim.Native.Nat.{◌+◌, ◌-◌, ◌*◌}
use Rattle.measures.specs.Judgement.{width_for}
use Rattle.area_read.proofs.Lows.{Looking}
use Rattle.area_read.proofs.free_worst.Given as goal

abbrev pub invariant-loop-i : goal.invariant-loop-i
invariant-loop-i l = Looking l.m l.n l.area l.ib (width_for l.n) l.free l.worst (24 + width_for l.n * l.i) (l.free - l.i)
