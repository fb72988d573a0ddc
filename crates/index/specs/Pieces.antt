-- An entry as it is compressed, by some legal writer: document 01, 'Index record'. How the entries follow one another is said in `sections`.
-- w is the width of a pointer.
use Rattle.std.specs.Prelude.{ℕ, ◌+◌, Bool, List, ◌++◌, length, take, ltb}
use Rattle.fields.specs.Choice.{both}
use Rattle.fields.specs.Lists.{every}

-- F, the key characters (L of them), the pointer
pub record Piece : Type 0 where
  pub front : ℕ
  pub chars : List ℕ
  pub num : ℕ

-- the separator that it stands for: F bytes are taken over from ref, the separator that it is compressed against, the characters come after them
abbrev pub spelt : List ℕ → Piece → List ℕ
spelt ref p = take p.front ref ++ p.chars

-- F and L are one byte each
abbrev pub one_byte_each : List Piece → Bool
one_byte_each ps = every (λ (p : Piece). both (ltb p.front 256) (ltb (length p.chars) 256)) ps

-- the bytes that it takes
abbrev pub piece_size : ℕ → Piece → ℕ
piece_size w p = w + 2 + length p.chars
