-- The bound that a separator stands for: document 01, 'Index record'. K is the key's length.
use Rattle.std.specs.Prelude.{ℕ, ◌-◌, List, ◌++◌, length, replicate}

-- a separator's bound has K bytes: X'FF' in place of those that it lacks
unfoldable pub bound : ℕ → List ℕ → List ℕ
bound K sep = sep ++ replicate (K - length sep) 255
