-- Invariant: the common front of the two lists is i bytes plus the common front of what follows place i in both.
-- front-more counts a byte that agrees; front-differs and front_ends say that the front stops at a difference and at the end of a list.
use Prim.Native.Nat.{◌+◌}
use mathlib.Core.Path.{◌≡◌}
use lib.ListN.{drop}
use Rattle.fields.specs.Order.{common}
use Rattle.fields.proofs.common_front.Given as goal

abbrev pub invariant-loop-i : goal.invariant-loop-i
invariant-loop-i l = common l.a l.b ≡ l.i + common (drop l.i l.a) (drop l.i l.b)
