-- An index record's entries in sections, as some legal writer compresses them: document 02, L5; source document 001, appendix D.
-- A section is its entries in key order; its highest closes it. w is the width of a pointer.
use Rattle.std.specs.Prelude.{ℕ, ◌+◌, Bool, true, false, List, [], ◌∷◌, length, leb}
use Rattle.fields.specs.Choice.{pick, both}
use Rattle.index.specs.Meaning.{Entry}
use Rattle.index.specs.Pieces.{Piece, spelt, piece_size}

-- an entry as it is compressed, and whether it is the highest of its section
pub record Part : Type 0 where
  pub piece : Piece
  pub closes : Bool

-- what F of an entry takes over from: the highest of the section before for a section's highest, else the separator before
abbrev pub against : List ℕ → List ℕ → Part → List ℕ
against high ref p = pick p.closes high ref

-- the separator that it stands for
abbrev pub sep_of : List ℕ → List ℕ → Part → List ℕ
sep_of high ref p = spelt (against high ref p) p.piece

-- the highest of the section before the entry after this one
abbrev pub high_after : List ℕ → List ℕ → Part → List ℕ
high_after high ref p = pick p.closes (sep_of high ref p) high

-- the entries that they spell
unfoldable pub spell_all : List ℕ → List ℕ → List Part → List Entry
spell_all high ref [] = []
spell_all high ref (p ∷ ps) = record { sep = sep_of high ref p; num = p.piece.num } ∷ spell_all (high_after high ref p) (sep_of high ref p) ps

-- F takes over no more than there is
unfoldable pub fronts_in : List ℕ → List ℕ → List Part → Bool
fronts_in high ref [] = true
fronts_in high ref (p ∷ ps) = both (leb p.piece.front (length (against high ref p))) (fronts_in (high_after high ref p) (sep_of high ref p) ps)

-- the bytes that an entry takes: a section's highest has a field of two before it
abbrev pub part_size : ℕ → Part → ℕ
part_size w p = piece_size w p.piece + pick p.closes 2 0

unfoldable pub parts_size : ℕ → List Part → ℕ
parts_size w [] = 0
parts_size w (p ∷ ps) = part_size w p + parts_size w ps

-- how many sections there are, and whether the last entry closes one, as it must
unfoldable pub sections_in : List Part → ℕ
sections_in [] = 0
sections_in (p ∷ ps) = pick p.closes 1 0 + sections_in ps

unfoldable pub ends_closed : List Part → Bool
ends_closed [] = false
ends_closed (p ∷ []) = p.closes
ends_closed (p ∷ q ∷ ps) = ends_closed (q ∷ ps)

-- a single section only where the writer makes one: at most two entries
abbrev pub spread_fine : List Part → Bool
spread_fine ps = pick (leb (sections_in ps) 1) (leb (length ps) 2) true
