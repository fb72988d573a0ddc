-- Parts of an index record's layout: an entry's bytes, the free numbers, RDF and CIDF; document 01, 'Index record'; source document 001, appendix D.
-- Bytes are put together by concatenation only, fields from the lengths of what is laid; nothing here reads. The whole is said in `sections`.
-- w is the width of a pointer and of a free number.
use Rattle.std.specs.Prelude.{ℕ, ◌+◌, ◌*◌, List, [], ◌∷◌, ◌++◌, length}
use Rattle.fields.specs.Bytes.{digits}
use Rattle.index.specs.Meaning.{Meaning}
use Rattle.index.specs.Pieces.{Piece}

-- an entry's bytes: its characters, then F, L and the pointer
unfoldable pub piece_bytes : ℕ → Piece → List ℕ
piece_bytes w p = p.chars ++ (p.front ∷ length p.chars ∷ digits w p.num)

-- the free numbers, left to right
unfoldable pub free_bytes : ℕ → List ℕ → List ℕ
free_bytes w [] = []
free_bytes w (x ∷ xs) = digits w x ++ free_bytes w xs

-- displacement to the unused space: past the header and the free numbers
abbrev pub unused_place : ℕ → Meaning → ℕ
unused_place w m = 24 + w * length m.free

-- behind the record: the RDF of a single record of S - 7 bytes, and a CIDF that tells no unused space
unfoldable pub trailer : ℕ → List ℕ
trailer R = 0 ∷ (digits 2 R ++ (digits 2 R ++ digits 2 0))
