-- Invariant: all the free numbers are below n and new exactly where those from the i-th on are, with the marks made so far.
-- The marks after all of them are those so far with the numbers from the i-th on added.
use Prim.Native.Nat.{◌+◌, ◌-◌, ◌*◌}
use mathlib.Core.Path.{◌≡◌}
use Rattle.index.specs.Reading.{numbers_at}
use Rattle.index_read.specs.AidWalk.{marking, seen_after}
use Rattle.index_read.proofs.mark_free.Given as goal

abbrev pub invariant-loop-i : goal.invariant-loop-i
invariant-loop-i l =
    (marking l.n l.initial.seen (numbers_at l.w l.ib 24 l.count) ≡ marking l.n l.seen (numbers_at l.w l.ib (24 + l.w * l.i) (l.count - l.i)))
    × (seen_after l.initial.seen (numbers_at l.w l.ib 24 l.count) ≡ seen_after l.seen (numbers_at l.w l.ib (24 + l.w * l.i) (l.count - l.i)))
