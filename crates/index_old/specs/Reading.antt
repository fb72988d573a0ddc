-- The old form, kept for the statements on areas in it and for nothing else: how it was read, and when it was sound; document 01, 'Index record'.
-- S is the length of ib itself; w is the width of a pointer.
use Rattle.std.specs.Prelude.{ℕ, zero, suc, ◌+◌, ◌-◌, ◌*◌, Bool, List, [], ◌∷◌, length, get_or, eqb, leb}
use Rattle.fields.specs.Choice.{both}
use Rattle.fields.specs.Bytes.{part}
use Rattle.index.specs.Meaning.{Meaning}
use Rattle.index.specs.Rules.{keeps_rules}
use Rattle.index.specs.Pieces.{Piece, piece_size}
use Rattle.index.specs.Reading.{unused_at, last_at, section_at, free_count, numbers_at, piece_at, frame}
use Rattle.index_old.specs.Pieces.{spell, fronts_fit, pieces_size, last_chars}

-- e entries, right to left, the first of which ends at place r
unfoldable pub pieces_at : ℕ → List ℕ → ℕ → ℕ → List Piece
pieces_at w ib r zero = []
pieces_at w ib r (suc e) = piece_at w ib r ∷ pieces_at w ib (r - piece_size w (piece_at w ib r)) e

-- as many as there are intervals that aren't free
unfoldable pub pieces_in : ℕ → ℕ → List ℕ → List Piece
pieces_in w n ib = pieces_at w ib (length ib - 7) (n - free_count w ib)

unfoldable pub read_index : ℕ → ℕ → List ℕ → Meaning
read_index w n ib =
    record { kept = part ib 4 12; spare = get_or ib 17 0; free = numbers_at w ib 24 (free_count w ib); entries = spell [] (pieces_in w n ib) }

-- The displacements are true, and nothing lies over anything else: the unused space begins past the free numbers, of
-- which there are at most n; these and the entries end within S - 7 bytes; the last entry's control information lies where the entries begin, past that
-- entry's characters; the last-section field equals the last-entry field.
unfoldable pub places : ℕ → ℕ → List ℕ → Bool
places w n ib =
    let ps = pieces_in w n ib in
    let size = pieces_size w ps in
    both (eqb (24 + w * free_count w ib) (unused_at ib))
    (both (leb (free_count w ib) n)
    (both (leb (unused_at ib + size) (length ib - 7))
    (both (eqb (last_at ib + size) (length ib - 7 + length (last_chars ps))) (eqb (section_at ib) (last_at ib)))))

unfoldable pub sound_index : ℕ → ℕ → ℕ → List ℕ → List ℕ → List ℕ → Bool
sound_index w K n low end ib =
    both (frame w ib)
    (both (places w n ib) (both (fronts_fit [] (pieces_in w n ib)) (keeps_rules (length ib) K n low end (read_index w n ib))))
