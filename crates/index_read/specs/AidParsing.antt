-- Aids: one entry as code takes it apart. Contracts of this crate's functions cite them; w is the width of a pointer.
use Rattle.std.specs.Prelude.{ℕ, ◌+◌, ◌-◌, Bool, List, Option, Some, None, eqb, leb}
use Rattle.fields.specs.Choice.{pick, both}
use Rattle.index.specs.Reading.{length_at}
use Rattle.index_step.specs.declared.PassPlace.{PassPlace}
use Rattle.index_step.specs.declared.Step.{Step}
use Rattle.index_step.specs.AidStep.{front_at, step_at}
use Rattle.index_read.specs.declared.Limits.{Limits}

-- whether it is the highest of its section
abbrev pub closes_at : ℕ → PassPlace → Bool
closes_at w p = eqb (p.right - (w + 2)) p.end

-- it doesn't begin left of the edge, nor does the field before it; its F is at most the length of what it refers to, and F and L make at most K
unfoldable pub parses : List ℕ → PassPlace → Limits → Bool
parses ib p by =
    let w = by.width in
    let r = p.right in
    both (leb (by.edge + (w + 2 + length_at w ib r + pick (closes_at w p) 2 0)) r)
    (both (leb (front_at w ib r) (pick (closes_at w p) p.high p.len)) (leb (front_at w ib r + length_at w ib r) by.key))

unfoldable pub parsed_of : List ℕ → PassPlace → Limits → Option Step
parsed_of ib p by = pick (parses ib p by) (Some (step_at by.width ib p.right p.end)) None
