-- The writer's form of an index record: document 02, L5. Sections of c entries from the low end, c the least whose square is no less than the number of
-- entries, the last section with the rest; F as long as it can be; zeros in the unused space.
use Rattle.std.specs.Prelude.{ℕ, zero, suc, ◌+◌, ◌-◌, ◌*◌, true, false, List, [], ◌∷◌, length, replicate, leb}
use Rattle.fields.specs.Choice.{pick}
use Rattle.index.specs.Meaning.{Entry, Meaning}
use Rattle.index.specs.Form.{pack}
use Rattle.sections.specs.Parts.{Part, parts_size}
use Rattle.sections.specs.Layout.{layout}

-- the least c, from c on, with c × c ≥ e, if it is found within so many tries
unfoldable pub root_from : ℕ → ℕ → ℕ → ℕ
root_from zero c e = c
root_from (suc k) c e = pick (leb e (c * c)) c (root_from k (suc c) e)

-- the entries of a section
abbrev pub section_for : ℕ → ℕ
section_for e = root_from e 1 e

-- The entries with their sections and the longest Fs; `left` entries are still to come in the section that is open.
unfoldable pub packed_in : ℕ → ℕ → List ℕ → List ℕ → List Entry → List Part
packed_in c left high ref [] = []
packed_in c left high ref (e ∷ []) = record { piece = pack high e.sep e.num; closes = true } ∷ []
packed_in c left high ref (e ∷ f ∷ es) =
    pick (leb left 1)
    (record { piece = pack high e.sep e.num; closes = true } ∷ packed_in c c e.sep e.sep (f ∷ es))
    (record { piece = pack ref e.sep e.num; closes = false } ∷ packed_in c (left - 1) high e.sep (f ∷ es))

abbrev pub packed_all : List Entry → List Part
packed_all es = packed_in (section_for (length es)) (section_for (length es)) [] [] es

-- 24, the free numbers, the entries with their longest Fs, and two bytes for each section: what must not exceed S - 7
unfoldable pub index_size : ℕ → Meaning → ℕ
index_size w m = 24 + w * length m.free + parts_size w (packed_all m.entries)

-- the bytes that the writer makes, S of them
unfoldable pub index_bytes : ℕ → ℕ → Meaning → List ℕ
index_bytes w S m = layout w m (replicate (S - 7 - index_size w m) 0) (packed_all m.entries)
