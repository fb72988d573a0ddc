-- The layout of an index record with sections, as a grammar: document 02, L5; source document 001, appendix D. Bytes are put together by concatenation
-- only, fields from the lengths of what is laid; nothing here reads. w is the width of a pointer and of a free number.
use Rattle.std.specs.Prelude.{ℕ, ◌+◌, ◌-◌, ◌^◌, ◌≡◌, true, List, [], ◌∷◌, ◌++◌, map, length, eqb}
use Rattle.fields.specs.Choice.{pick}
use Rattle.fields.specs.Bytes.{digits}
use Rattle.index.specs.Meaning.{Meaning}
use Rattle.index.specs.Pieces.{Piece, one_byte_each, piece_size}
use Rattle.index.specs.Layout.{piece_bytes, free_bytes, unused_place, trailer}
use Rattle.sections.specs.Parts.{Part, spell_all, fronts_in, parts_size, sections_in, ends_closed, spread_fine}

-- from the left edge of an entry to the control information of the next section's highest: past the entries between, that one's control information
unfoldable pub ahead : ℕ → List Part → ℕ
ahead w [] = 0
ahead w (p ∷ ps) = pick p.closes (w + 2) (piece_size w p.piece + ahead w ps)

-- the field of a section's highest: from its own control information to that of the next section's highest, so past its characters and the field; 0 where no
-- section follows
abbrev pub field_of : ℕ → Part → List Part → ℕ
field_of w p ps = pick (eqb (sections_in ps) 0) 0 (length p.piece.chars + 2 + ahead w ps)

-- a field stands left of the characters of a section's highest
unfoldable pub part_bytes : ℕ → Part → List Part → List ℕ
part_bytes w p ps = pick p.closes (digits 2 (field_of w p ps)) [] ++ piece_bytes w p.piece

-- the first entry stands rightmost, each later one left of it
unfoldable pub parts_bytes : ℕ → List Part → List ℕ
parts_bytes w [] = []
parts_bytes w (p ∷ ps) = parts_bytes w ps ++ part_bytes w p ps

-- the characters of the last entry, and of the first section's highest with all that lies right of its control information
unfoldable pub last_long : List Part → ℕ
last_long [] = 0
last_long (p ∷ []) = length p.piece.chars
last_long (p ∷ q ∷ ps) = last_long (q ∷ ps)

-- displacement to the control information of the last entry: past the unused space, the last section's field and the entry's characters
abbrev pub last_place : ℕ → Meaning → List ℕ → List Part → ℕ
last_place w m unused ps = unused_place w m + length unused + 2 + last_long ps

-- the record's length, S - 7
abbrev pub record_length : ℕ → Meaning → List ℕ → List Part → ℕ
record_length w m unused ps = unused_place w m + length unused + parts_size w ps

-- displacement to the control information of the first section's highest
abbrev pub section_place : ℕ → Meaning → List ℕ → List Part → ℕ
section_place w m unused ps = record_length w m unused ps - ahead w ps

-- The header, 24 bytes: record length R, control length, pointer indicator, base RBA with horizontal pointer and reserved bytes, level 1, reserved,
-- displacements to the unused space (u), to the last entry (e), and to the first section's highest (f)
unfoldable pub header : ℕ → Meaning → ℕ → ℕ → ℕ → ℕ → List ℕ
header w m R u e f =
    digits 2 R ++ ((w + 2) ∷ (2 ^ w - 1) ∷ (m.kept ++ (1 ∷ m.spare ∷ (digits 2 u ++ (digits 2 e ++ digits 2 f)))))

-- header, free numbers, unused space, entries, RDF and CIDF
unfoldable pub layout : ℕ → Meaning → List ℕ → List Part → List ℕ
layout w m unused ps =
    header w m (record_length w m unused ps) (unused_place w m) (last_place w m unused ps) (section_place w m unused ps)
    ++ (free_bytes w m.free ++ (unused ++ (parts_bytes w ps ++ trailer (record_length w m unused ps))))

abbrev pub pieces_of : List Part → List Piece
pieces_of ps = map (λ (p : Part). p.piece) ps

-- ib is an index interval of size S that means m: in any sections of at least one entry, with any legal F at each, and any bytes in the unused space
pub record LaidOut (w S : ℕ) (m : Meaning) (ib : List ℕ) : Type 0 where
  pub parts : List Part
  pub unused : List ℕ
  pub twelve : length m.kept ≡ 12
  pub closed : ends_closed parts ≡ true
  pub spread : spread_fine parts ≡ true
  pub fits : fronts_in [] [] parts ≡ true
  pub small : one_byte_each (pieces_of parts) ≡ true
  pub spells : spell_all [] [] parts ≡ m.entries
  pub bytes : ib ≡ layout w m unused parts
  pub size : length ib ≡ S
