-- agree: the three masks tell the bytes apart just as control_of does, by one computed test over all 256 bytes.
-- Each way out is a case of by_mask, which says what the code's tests choose.
use Rattle.std.specs.Prelude.{Option, Some, None}
use Prim.Native.Nat.{ℕ, zero, suc, ◌<◌}
use mathlib.Core.Path.{◌≡◌, refl, ◌∙◌, sym, ap}
use lib.Dec.{eqb}
use lib.Bits.{bit_and}
use borrow.Author.Tests.{eq-eqb, ne_eqb}
use borrow.Author.Rules.{rules}
use Rattle.fields.specs.Choice.{pick}
use Rattle.fields.proofs.Masks.{below_eq}
use Rattle.rdf.specs.Control.{control_of}
use Rattle.rdf.specs.declared.Control.{Control}
use Rattle.rdf.specs.declared.Control.TheVariants.{Single, Paired, Count}
use Rattle.rdf.proofs.take_apart.Goals as goal

-- what the code does, as a function of its tests
abbrev by_mask : ℕ → Option Control
by_mask c =
    pick (eqb (bit_and c 183) 0)
    (pick (eqb (bit_and c 64) 0) (pick (eqb (bit_and c 8) 0) (Some Single) (Some Count)) (pick (eqb (bit_and c 8) 0) (Some Paired) None))
    None

abbrev code : Option Control → ℕ
code (Some Single) = 0
code (Some Paired) = 1
code (Some Count) = 2
code None = 3

abbrev back : ℕ → Option Control
back zero = Some Single
back (suc zero) = Some Paired
back (suc (suc zero)) = Some Count
back (suc (suc (suc n))) = None

back-code : (a : Option Control) → back (code a) ≡ a
back-code (Some Single) = refl
back-code (Some Paired) = refl
back-code (Some Count) = refl
back-code None = refl

-- the masks tell the bytes apart: one test over the 256 bytes
agree : (c : ℕ) → c < 256 → by_mask c ≡ control_of c
agree c h =
    sym (back-code (by_mask c))
    ∙ ap back (below_eq 256 (λ k. code (by_mask k)) (λ k. code (control_of k)) tt c h)
    ∙ back-code (control_of c)

pub returns-then-control-ne0 : goal.returns-then-control-ne0
returns-then-control-ne0 c = rw (← agree c.args.control (search rules)) (simp (ne_eqb _ _ c.if-control-ne0.true))

pub returns-then-control-ne0-3 : goal.returns-then-control-ne0-3
returns-then-control-ne0-3 c =
    rw (← agree c.args.control (search rules))
    (simp (eq-eqb _ _ c.if-control-ne0.false, ne_eqb _ _ c.if-control-ne0-2.true, ne_eqb _ _ c.if-control-ne0-3.true))

pub returns-then-control-ne0-2 : goal.returns-then-control-ne0-2
returns-then-control-ne0-2 c =
    rw (← agree c.args.control (search rules))
    (simp (eq-eqb _ _ c.if-control-ne0.false, ne_eqb _ _ c.if-control-ne0-2.true, eq-eqb _ _ c.if-control-ne0-3.false))

pub returns-then-control-ne0-4 : goal.returns-then-control-ne0-4
returns-then-control-ne0-4 c =
    rw (← agree c.args.control (search rules))
    (simp (eq-eqb _ _ c.if-control-ne0.false, eq-eqb _ _ c.if-control-ne0-2.false, ne_eqb _ _ c.if-control-ne0-4.true))

pub returns-else-control-ne0-4 : goal.returns-else-control-ne0-4
returns-else-control-ne0-4 c =
    rw (← agree c.args.control (search rules))
    (simp (eq-eqb _ _ c.if-control-ne0.false, eq-eqb _ _ c.if-control-ne0-2.false, eq-eqb _ _ c.if-control-ne0-4.false))
