use Rattle.index_step.proofs.past.Lts
use Rattle.index_step.proofs.past.Reads
use Rattle.index_step.proofs.past.Tie
use Prim.Native.Nat.{ℕ, ◌≤◌}
use mathlib.Core.Path.{◌≡◌}
use mathlib.Core.Bool.{Bool, true, false}
use borrow.Author.Tests.{not-true, not-false}
use native.Mathlib.Omega.{arith}
use Rattle.fields.specs.Choice.{pick}
use Rattle.index_step.proofs.past.Goals as goal

abbrev After-struct_known3-state : Type 0
After-struct_known3-state = Lts.After-struct_known3 Tie.the-claims Reads.Pre Reads.Post

closes-there : (c : After-struct_known3-state) → c.args.s.closes ≡ true
closes-there c = not-false _ c.if-not-s.false

two-there : (c : After-struct_known3-state) → 2 ≤ c.args.s.at
two-there c = there c.args.s.closes c.args.s.at (closes-there c) c.requires.2
  where
    there : (t : Bool) (a : ℕ) → t ≡ true → pick t 2 0 ≤ a → 2 ≤ a
    there t a h p = rw h at p

-- src/lib.rt:86:9
pub returns-then-not-s : goal.returns-then-not-s
returns-then-not-s c = let h : c.args.s.closes ≡ false = not-true _ c.if-not-s.true in rw h

-- src/lib.rt:93:17
pub overflow_sub-right : goal.overflow_sub-right
overflow_sub-right c = two-there c.before

-- src/lib.rt:96:26
pub read-requires : goal.read-requires
read-requires c = omega (arith, c.requires.1, two-there c.before)

-- src/lib.rt:80:1
pub returns : goal.returns
returns c =
    rw (closes-there c.before.before.before, c.saturating_sub.ensures, c.read.ensures.0)
