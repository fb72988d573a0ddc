-- Invariant: the digits of x from digit i on are stored in their places, every other byte is as at entry (record Stored).
-- The digits not yet stored are the i digits of left; i is at most the width.
use Rattle.fields.proofs.Numbers.{Stored}
use Rattle.fields.proofs.write.Given as goal

abbrev pub invariant-loop-i : goal.invariant-loop-i
invariant-loop-i l = Stored l.width l.x l.at l.initial.b l.b l.left l.i
