-- The three sound control bytes: document 01, 'Data interval'.
use Rattle.std.specs.Prelude.{ℕ, Option, Some, None, eqb}
use Rattle.fields.specs.Choice.{pick}
use Rattle.rdf.specs.declared.Control.{Control}
use Rattle.rdf.specs.declared.Control.TheVariants.{Single, Paired, Count}

-- X'00' a single record, X'40' the first of a pair, X'08' its second; any other byte is bad
abbrev pub control_of : ℕ → Option Control
control_of c = pick (eqb c 0) (Some Single) (pick (eqb c 64) (Some Paired) (pick (eqb c 8) (Some Count) None))

-- the byte of a kind
abbrev pub byte_of : Control → ℕ
byte_of Single = 0
byte_of Paired = 64
byte_of Count = 8
