-- A change is a list of stores, each of one whole interval; the area afterwards is the stores put in one after another: document 01, 'Dividing an
-- interval'.
use Rattle.std.specs.Prelude.{ℕ, ◌*◌, List, [], ◌∷◌}
use Rattle.fields.specs.Bytes.{splice}

-- which interval of the buffer (0 the index record, k + 1 data interval k), and its bytes
pub record Store : Type 0 where
  pub at : ℕ
  pub bytes : List ℕ

unfoldable pub stored : ℕ → List ℕ → List Store → List ℕ
stored S area [] = area
stored S area (s ∷ ss) = stored S (splice area (s.at * S) s.bytes) ss
