-- What an area holds after a change that is made: document 01, 'Dividing an interval'.
use Rattle.std.specs.Prelude.{ℕ, ◌+◌, ◌-◌, List, [], ◌∷◌, ◌++◌, length}
use Rattle.fields.specs.Lists.{swap}
use Rattle.measures.specs.declared.Measures.{Measures}
use Rattle.index.specs.Cuts.{separators}
use Rattle.index.specs.Divided.{free_after}
use Rattle.area.specs.Content.{Filled, Content}
use Rattle.change.specs.Parts.{Edit, entry_at, divided, taken}

-- entries one after another, with these separators, numbers and records
unfoldable pub filled_with : List (List ℕ) → List ℕ → List (List (List ℕ)) → List Filled
filled_with (s ∷ seps) (k ∷ nums) (p ∷ ps) = record { sep = s; num = k; records = p } ∷ filled_with seps nums ps
filled_with [] nums ps = []
filled_with (s ∷ seps) [] ps = []
filled_with (s ∷ seps) (k ∷ nums) [] = []

-- The entries that the parts of an entry make. Each but the last has the separator of the cut after it, the last the old one. The first keeps the old
-- number, each later one has the free number that it takes.
abbrev pub parts_filled : Measures → List ℕ → Filled → List (List (List ℕ)) → List Filled
parts_filled m free f ps = filled_with (separators m ps ++ (f.sep ∷ [])) (f.num ∷ taken (length ps - 1) free) ps

-- The content in which entry i (counted from 0) has given way to these parts: the free numbers that they take are free no longer, all else is as it was.
unfoldable pub parted_at : Measures → Content → ℕ → List (List (List ℕ)) → Content
parted_at m c i ps =
    record {
      kept = c.kept;
      spare = c.spare;
      free = free_after (length ps - 1) c.free;
      filled = swap i 1 (parts_filled m c.free (entry_at c.filled i) ps) c.filled;
    }

-- and that is what a change leaves, with the parts that the rules of division prescribe
abbrev pub content_after : Measures → Content → Edit → Content
content_after m c e = parted_at m c e.entry (divided m c.filled e)
