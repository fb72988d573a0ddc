-- The bytes of entries in the writer's sections, counted out over their separators: what number 7 counts (document 02, L5).
use Rattle.std.specs.Prelude.{ℕ, ◌+◌, ◌-◌, List, [], ◌∷◌, length, leb}
use Rattle.fields.specs.Choice.{pick}
use Rattle.fields.specs.Order.{common}
use Rattle.sections.specs.Form.{section_for}

-- a pointer of w bytes, two more, and the characters that an entry has not in common with the separator that its F is counted against
abbrev pub entry_need : ℕ → List ℕ → List ℕ → ℕ
entry_need w ref s = w + 2 + (length s - common ref s)

-- Sections of c, of which the open one has `left` to come: its highest is counted against the highest before, with two bytes for the field; every other against
-- the one before.
abbrev pub sections_need : ℕ → ℕ → ℕ → List ℕ → List ℕ → List (List ℕ) → ℕ
sections_need w c left high ref [] = 0
sections_need w c left high ref (s ∷ []) = entry_need w high s + 2
sections_need w c left high ref (s ∷ t ∷ seps) =
    pick (leb left 1) (entry_need w high s + 2 + sections_need w c c s s (t ∷ seps)) (entry_need w ref s + sections_need w c (left - 1) high s (t ∷ seps))

-- all of them
abbrev pub all_need : ℕ → List (List ℕ) → ℕ
all_need w seps = sections_need w (section_for (length seps)) (section_for (length seps)) [] [] seps
