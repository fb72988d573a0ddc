-- The old form, kept for the statements on areas in it and for nothing else: its layout as a grammar; document 01, 'Index record'.
-- Bytes are put together by concatenation only, fields from the lengths of what is laid; nothing here reads.
-- w is the width of a pointer and of a free number: control length w + 2, pointer indicator X'01', X'03', X'07' for 1, 2, 3.
use Rattle.std.specs.Prelude.{ℕ, ◌+◌, ◌-◌, ◌^◌, ◌≡◌, true, List, [], ◌∷◌, ◌++◌, length}
use Rattle.fields.specs.Bytes.{digits}
use Rattle.index.specs.Meaning.{Meaning}
use Rattle.index.specs.Pieces.{Piece, one_byte_each}
use Rattle.index.specs.Layout.{piece_bytes, free_bytes, unused_place, trailer}
use Rattle.index_old.specs.Pieces.{spell, fronts_fit, pieces_size, last_chars}

-- the first entry stands rightmost, each later one left of it
unfoldable pub pieces_bytes : ℕ → List Piece → List ℕ
pieces_bytes w [] = []
pieces_bytes w (p ∷ ps) = pieces_bytes w ps ++ piece_bytes w p

-- displacement to the control information of the last entry: it is the leftmost, so past the unused space and that entry's characters. (In the
-- base its separator is empty and it has none.)
abbrev pub last_place : ℕ → Meaning → List ℕ → List Piece → ℕ
last_place w m unused ps = unused_place w m + length unused + length (last_chars ps)

-- the record's length, S - 7
abbrev pub record_length : ℕ → Meaning → List ℕ → List Piece → ℕ
record_length w m unused ps = unused_place w m + length unused + pieces_size w ps

-- The header, 24 bytes: record length R, control length, pointer indicator, base RBA with horizontal pointer and reserved bytes, level 1, reserved,
-- displacements to the unused space (u), to the last entry (e), and to the last section entry, which is the same: one section
unfoldable pub header : ℕ → Meaning → ℕ → ℕ → ℕ → List ℕ
header w m R u e =
    digits 2 R ++ ((w + 2) ∷ (2 ^ w - 1) ∷ (m.kept ++ (1 ∷ m.spare ∷ (digits 2 u ++ (digits 2 e ++ digits 2 e)))))

-- header, free numbers, unused space, entries, RDF and CIDF
unfoldable pub layout : ℕ → Meaning → List ℕ → List Piece → List ℕ
layout w m unused ps =
    header w m (record_length w m unused ps) (unused_place w m) (last_place w m unused ps)
    ++ (free_bytes w m.free ++ (unused ++ (pieces_bytes w ps ++ trailer (record_length w m unused ps))))

-- ib is an index interval of size S that means m: with any legal choice of F at each entry, and any bytes in the unused space
pub record LaidOut (w S : ℕ) (m : Meaning) (ib : List ℕ) : Type 0 where
  pub pieces : List Piece
  pub unused : List ℕ
  pub twelve : length m.kept ≡ 12
  pub fits : fronts_fit [] pieces ≡ true
  pub small : one_byte_each pieces ≡ true
  pub spells : spell [] pieces ≡ m.entries
  pub bytes : ib ≡ layout w m unused pieces
  pub size : length ib ≡ S
