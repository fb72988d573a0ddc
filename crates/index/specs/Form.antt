-- An entry as the writer compresses it: document 01, 'Index record'. F is always as long as it can be.
use Rattle.std.specs.Prelude.{ℕ, List, drop}
use Rattle.fields.specs.Order.{common}
use Rattle.index.specs.Pieces.{Piece}

-- against ref, as far as possible
abbrev pub pack : List ℕ → List ℕ → ℕ → Piece
pack ref sep num = record { front = common ref sep; chars = drop (common ref sep) sep; num = num }
