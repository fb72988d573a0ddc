-- For each public function: any two results that its contract allows are equal.
use mathlib.Core.Path.{◌≡◌}
use Rattle.std.specs.Prelude.{Option}
use Rattle.fields.proofs.Choices.{agree}
use Rattle.index_walk.specs.declared.Edge.{Edge}
use Rattle.index_walk.specs.declared.Met.{Met}
use Rattle.index_walk.proofs.start.Reads as start
use Rattle.index_walk.proofs.pass.Reads as pass

pub unique-start : (κs : _) (args : _) (r s : Edge) (e f : _) → start.Learnt κs args r e → start.Learnt κs args s f → r ≡ s
unique-start κs args r s e f p q = agree p q

pub unique-pass : (κs : _) (args : _) (r s : Option Met) (e f : _) → pass.Learnt κs args r e → pass.Learnt κs args s f → r ≡ s
unique-pass κs args r s e f p q = agree p q
