-- The old form, kept for the statements on areas in it and for nothing else: its entries as one section, and the two bytes where that section's field stands now.
use Rattle.std.specs.Prelude.{ℕ, ◌+◌, ◌-◌, ◌≤◌, ◌≡◌, true, false, List, [], ◌∷◌, length, get_or}
use Rattle.fields.specs.Bytes.{number}
use Rattle.index.specs.Pieces.{Piece}
use Rattle.index.specs.Reading.{unused_at}
use Rattle.sections.specs.Parts.{Part}
use Rattle.index_old.specs.Pieces.{pieces_size}
use Rattle.index_old.specs.Reading.{pieces_in}

-- only the last entry closes a section
unfoldable pub last_only : List Piece → List Part
last_only [] = []
last_only (p ∷ []) = record { piece = p; closes = true } ∷ []
last_only (p ∷ q ∷ ps) = record { piece = p; closes = false } ∷ last_only (q ∷ ps)

-- bytes, at least two of them, of which the last two are zero
pub record EndsInZeros (xs : List ℕ) : Type 0 where
  pub two : 2 ≤ length xs
  pub next : get_or xs (length xs - 2) 0 ≡ 0
  pub last : get_or xs (length xs - 1) 0 ≡ 0

-- where the old reading lets the entries begin, so where the unused space ends
abbrev pub entries_from : ℕ → ℕ → List ℕ → ℕ
entries_from w n ib = length ib - 7 - pieces_size w (pieces_in w n ib)

-- The same of the unused space of a record that is found: it has at least two bytes, and its last two are zero.
pub record ZerosLast (w n : ℕ) (ib : List ℕ) : Type 0 where
  pub two : unused_at ib + 2 ≤ entries_from w n ib
  pub zeros : number 2 ib (entries_from w n ib - 2) ≡ 0
