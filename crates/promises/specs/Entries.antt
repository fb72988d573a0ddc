-- Entries of an index record, seen by their separators, and the bytes that they need: document 01, 'Index record' and number 7; document 02, L5.
use Rattle.std.specs.Prelude.{ℕ, List, map}
use Rattle.sections.specs.Need.{all_need}
use Rattle.area.specs.Content.{Filled}

-- the records and the separators of entries, one by one
abbrev pub records_by : List Filled → List (List (List ℕ))
records_by fs = map (λ (f : Filled). f.records) fs

abbrev pub seps_by : List Filled → List (List ℕ)
seps_by fs = map (λ (f : Filled). f.sep) fs

-- The bytes of all entries of a record, by their separators: for each a pointer of w bytes, two more, and the characters that it has not in common with the
-- separator that its F is counted against, which is the highest of the section before for a section's highest, and else the one before; and two bytes for each
-- section. The sections are those that the writer makes of just these entries: of a record after a division, that record's own, counted out, never estimated.
abbrev pub entries_need : ℕ → List (List ℕ) → ℕ
entries_need w seps = all_need w seps
