-- Aids: entries written one after another in the writer's sections, and their bytes while more are to come; no part of the meaning.
use Rattle.std.specs.Prelude.{ℕ, ◌+◌, ◌-◌, min, true, false, List, [], ◌∷◌, ◌++◌, length, eqb}
use Rattle.fields.specs.Choice.{pick}
use Rattle.fields.specs.Bytes.{digits}
use Rattle.index.specs.Meaning.{Entry}
use Rattle.index.specs.Layout.{piece_bytes}
use Rattle.index.specs.Form.{pack}
use Rattle.sections.specs.Parts.{Part, parts_size, sections_in}
use Rattle.sections.specs.Layout.{ahead}

-- ---- which part each entry becomes

-- How far a writer has come: so many entries are to come in the open section, and in all; the highest of the section before, and the separator before.
pub record Reached : Type 0 where
  pub left : ℕ
  pub rest : ℕ
  pub high : List ℕ
  pub ref : List ℕ

-- what the next entry becomes: the last to come in its section closes it
abbrev pub part_next : Reached → Entry → Part
part_next s e =
    pick (eqb s.left 1) (record { piece = pack s.high e.sep e.num; closes = true }) (record { piece = pack s.ref e.sep e.num; closes = false })

-- how far it has come then; a section has c entries, or as many as are left
abbrev pub reached_next : ℕ → Reached → Entry → Reached
reached_next c s e =
    pick (eqb s.left 1) (record { left = min c (s.rest - 1); rest = s.rest - 1; high = e.sep; ref = e.sep })
    (record { left = s.left - 1; rest = s.rest - 1; high = s.high; ref = e.sep })

-- some entries
unfoldable pub parts_by : ℕ → Reached → List Entry → List Part
parts_by c s [] = []
parts_by c s (e ∷ es) = part_next s e ∷ parts_by c (reached_next c s e) es

unfoldable pub reached_after : ℕ → Reached → List Entry → Reached
reached_after c s [] = s
reached_after c s (e ∷ es) = reached_after c (reached_next c s e) es

-- ---- their bytes, where the field of the last section's highest is still to be told

-- the field of an entry that closes a section, if the one of the last such entry is `last`
abbrev pub field_by : ℕ → ℕ → Part → List Part → ℕ
field_by w last p ps = pick (eqb (sections_in ps) 0) last (length p.piece.chars + 2 + ahead w ps)

unfoldable pub parts_bytes_by : ℕ → ℕ → List Part → List ℕ
parts_bytes_by w last [] = []
parts_bytes_by w last (p ∷ ps) = parts_bytes_by w last ps ++ (pick p.closes (digits 2 (field_by w last p ps)) [] ++ piece_bytes w p.piece)

-- from the left edge of them all to the field of the last section's highest, and to its control information
unfoldable pub open_out : ℕ → List Part → ℕ
open_out w [] = 0
open_out w (p ∷ ps) = pick (eqb (sections_in ps) 0) (parts_size w ps) (open_out w ps)

unfoldable pub lead_out : ℕ → List Part → ℕ
lead_out w [] = 0
lead_out w (p ∷ ps) = pick (eqb (sections_in ps) 0) (length p.piece.chars + 2 + parts_size w ps) (lead_out w ps)
