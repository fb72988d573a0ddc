-- For the public function: any two results that its contract allows are equal.
use Rattle.std.specs.Prelude.{Result, Option}
use mathlib.Core.Path.{◌≡◌}
use Rattle.fields.proofs.Choices.{agree}
use Rattle.area_seek.proofs.look_up.Reads as look_up
use Rattle.area.specs.declared.Lying.{Lying}
use Rattle.area.specs.declared.Damage.{Damage}

pub unique-look-up : (κs : _) (args : _) (r s : Result (Option Lying) Damage) (e f : _) → look_up.Learnt κs args r e → look_up.Learnt κs args s f → r ≡ s
unique-look-up κs args r s e f p q = agree p.0 q.0
