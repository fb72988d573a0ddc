-- For the public function: any two results that its contract allows are equal. `Learnt` is the contract as a caller reads it.
use Rattle.std.specs.Prelude.{Result}
use mathlib.Core.Path.{◌≡◌}
use Rattle.fields.proofs.Choices.{agree}
use Rattle.area_read.proofs.check.Reads as check
use Rattle.area.specs.declared.Intact.{Intact}
use Rattle.area.specs.declared.Damage.{Damage}

pub unique-check : (κs : _) (args : _) (r s : Result Intact Damage) (e f : _) → check.Learnt κs args r e → check.Learnt κs args s f → r ≡ s
unique-check κs args r s e f p q = agree p q
