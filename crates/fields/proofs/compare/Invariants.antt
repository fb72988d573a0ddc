-- Invariant: the two parts stand to each other as what follows the words that were read.
use Prim.Native.Nat.{◌*◌}
use mathlib.Core.Path.{◌≡◌}
use lib.ListN.{drop}
use Rattle.fields.specs.Order.{order_of}
use Rattle.fields.proofs.compare.Given as goal

abbrev pub invariant-loop-word : goal.invariant-loop-word
invariant-loop-word l = order_of l.a l.b ≡ order_of (drop (8 * l.word) l.a) (drop (8 * l.word) l.b)
