-- Aid: one step of rule 2, over numbers, and its cut as an option. Contracts of inner functions cite it; proofs/Turns.antt joins it to
-- `better` and `by_cut`, and nothing here has to be believed.
use Rattle.std.specs.Prelude.{ℕ, Bool, true, eqb, leb, ltb, Option, Some, None}
use Rattle.fields.specs.Choice.{pick, both}
use Rattle.division.specs.Division.{distance}
use Rattle.division.specs.declared.Chosen.{Chosen}

-- the cut that rule 2 gives: 0 is none
abbrev pub cut_of : ℕ → Option ℕ
cut_of c = pick (eqb c 0) None (Some c)

-- do the parts of one more cut, which differ in d, differ less than those of the best so far?
abbrev pub nearer : Option Chosen → ℕ → Bool
nearer None d = true
nearer (Some best) d = ltb d best.difference

-- the better of the best cut so far and one more, whose parts have and need so many bytes
unfoldable pub weighed : Option Chosen → ℕ → ℕ → ℕ → ℕ → ℕ → ℕ → Option Chosen
weighed best cut bytes₁ need₁ bytes₂ need₂ s =
    pick (both (both (leb need₁ s) (leb need₂ s)) (nearer best (distance bytes₁ bytes₂)))
    (Some (record { cut = cut; difference = distance bytes₁ bytes₂ })) best
