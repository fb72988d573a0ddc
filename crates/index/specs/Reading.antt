-- The reading of an index record's fields, of its free numbers and of one entry: document 01, 'Index record'. How the entries are found one after another,
-- and when the whole is sound, is said in `sections`. S is the length of ib itself; w is the width of a pointer.
use Rattle.std.specs.Prelude.{ℕ, zero, suc, ◌+◌, ◌-◌, ◌/◌, ◌^◌, Bool, List, [], ◌∷◌, length, get_or, eqb}
use Rattle.fields.specs.Choice.{both}
use Rattle.fields.specs.Bytes.{part, number}
use Rattle.index.specs.Pieces.{Piece}

-- ---- the fields

-- the displacements: to the unused space, to the control information of the last entry, to the section entry
abbrev pub unused_at : List ℕ → ℕ
unused_at ib = number 2 ib 18

abbrev pub last_at : List ℕ → ℕ
last_at ib = number 2 ib 20

abbrev pub section_at : List ℕ → ℕ
section_at ib = number 2 ib 22

-- header values, RDF and CIDF
unfoldable pub frame : ℕ → List ℕ → Bool
frame w ib =
    both (eqb (number 2 ib 0) (length ib - 7))
    (both (eqb (get_or ib 2 0) (w + 2))
    (both (eqb (get_or ib 3 0) (2 ^ w - 1))
    (both (eqb (get_or ib 16 0) 1)
    (both (eqb (get_or ib (length ib - 7) 0) 0)
    (both (eqb (number 2 ib (length ib - 6)) (length ib - 7))
    (both (eqb (number 2 ib (length ib - 4)) (length ib - 7)) (eqb (number 2 ib (length ib - 2)) 0)))))))

-- ---- the free numbers: from place 24 to the unused space

abbrev pub free_count : ℕ → List ℕ → ℕ
free_count w ib = (unused_at ib - 24) / w

-- c numbers from place a on
unfoldable pub numbers_at : ℕ → List ℕ → ℕ → ℕ → List ℕ
numbers_at w ib a zero = []
numbers_at w ib a (suc c) = number w ib a ∷ numbers_at w ib (a + w) c

-- ---- one entry

-- L of the entry that ends at place r
abbrev pub length_at : ℕ → List ℕ → ℕ → ℕ
length_at w ib r = get_or ib (r - (w + 1)) 0

-- the entry that ends at place r
abbrev pub piece_at : ℕ → List ℕ → ℕ → Piece
piece_at w ib r =
    record { front = get_or ib (r - (w + 2)) 0; chars = part ib (r - (w + 2 + length_at w ib r)) (length_at w ib r); num = number w ib (r - w) }
