-- For each public function: any two results that its contract allows are equal.
use mathlib.Core.Path.{◌≡◌}
use Rattle.fields.proofs.Choices.{agree}
use Rattle.division.specs.declared.Division.{Division}
use Rattle.division.proofs.divide.Reads as divide

pub unique-divide : (κs : _) (args : _) (r s : Division) (e f : _) → divide.Learnt κs args r e → divide.Learnt κs args s f → r ≡ s
unique-divide κs args r s e f p q = agree p q
