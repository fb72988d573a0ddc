-- The old form, kept for the statements on areas in it and for nothing else: entries in one section, by some legal writer; document 01, 'Index record'.
-- w is the width of a pointer. ref is the separator before, [] before the first entry.
use Rattle.std.specs.Prelude.{ℕ, ◌+◌, Bool, true, List, [], ◌∷◌, length, leb}
use Rattle.fields.specs.Choice.{both}
use Rattle.index.specs.Meaning.{Entry}
use Rattle.index.specs.Pieces.{Piece, spelt, piece_size}

-- the entries that pieces spell, each with the separator before it
unfoldable pub spell : List ℕ → List Piece → List Entry
spell ref [] = []
spell ref (p ∷ ps) = record { sep = spelt ref p; num = p.num } ∷ spell (spelt ref p) ps

-- F takes over no more than there is; so the first entry has F = 0
unfoldable pub fronts_fit : List ℕ → List Piece → Bool
fronts_fit ref [] = true
fronts_fit ref (p ∷ ps) = both (leb p.front (length ref)) (fronts_fit (spelt ref p) ps)

-- the bytes that they take
unfoldable pub pieces_size : ℕ → List Piece → ℕ
pieces_size w [] = 0
pieces_size w (p ∷ ps) = piece_size w p + pieces_size w ps

-- the key characters of the last entry
unfoldable pub last_chars : List Piece → List ℕ
last_chars [] = []
last_chars (p ∷ []) = p.chars
last_chars (p ∷ q ∷ ps) = last_chars (q ∷ ps)
