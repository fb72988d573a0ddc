-- Aids: the steps from entry to entry of an index record, for any bytes and any edge. What is believed of a sound record is its reading (`read_index` of crate sections).
use Rattle.std.specs.Prelude.{ℕ, ◌+◌, ◌-◌, Bool, Option, Some, None, List, length, eqb, ltb}
use Rattle.fields.specs.Choice.{pick, either}
use Rattle.fields.specs.Bytes.{number}
use Rattle.index.specs.Reading.{section_at, last_at, length_at}
use Rattle.index_step.specs.declared.PassPlace.{PassPlace}
use Rattle.index_step.specs.AidStep.{step_at, place_past}
use Rattle.index_walk.specs.declared.Edge.{Edge}
use Rattle.index_walk.specs.declared.Met.{Met}

abbrev pub edge : ℕ → ℕ → Edge
edge right end = record { right = right; end = end }

abbrev pub met : ℕ → Edge → Bool → Met
met number next last = record { number = number; next = next; last = last }

abbrev pub edge_first : List ℕ → Edge
edge_first ib = pick (ltb (length ib) 24) (edge 0 0) (edge (length ib - 7) (section_at ib))

-- a pass that stands there, with no separator at hand
abbrev pub place_of : Edge → PassPlace
place_of e = record { right = e.right; end = e.end; len = 0; high = 0 }

abbrev pub edge_of : PassPlace → Edge
edge_of p = edge p.right p.end

-- past the entry that ends there: where its control information, its characters and its section's field lie in the record
unfoldable pub pass_of : ℕ → List ℕ → Edge → Option Met
pass_of w ib e =
    let r = e.right in
    pick (either (ltb 4 w) (either (ltb (length ib) 24) (either (ltb (length ib) r) (ltb r (w + 2))))) None
    (pick (ltb (r - (w + 2)) (length_at w ib r + pick (eqb (r - (w + 2)) e.end) 2 0)) None
    (Some (met (number w ib (r - w)) (edge_of (place_past ib (step_at w ib r e.end) (place_of e))) (eqb (r - (w + 2)) (last_at ib)))))
