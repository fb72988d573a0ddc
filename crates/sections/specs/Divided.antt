-- What an index record in sections means after a division: document 01, 'Dividing an interval'; document 02, L5.
use Rattle.std.specs.Prelude.{ℕ, List}
use Rattle.index.specs.Meaning.{Meaning}
use Rattle.index.specs.Divided.{divided_at}
use Rattle.sections.specs.Reading.{read_index}

-- What an index record ib of n intervals means after that. w is the width of a pointer.
abbrev pub new_meaning : ℕ → ℕ → List ℕ → ℕ → List (List ℕ) → Meaning
new_meaning w n ib i seps = divided_at (read_index w n ib) i seps
