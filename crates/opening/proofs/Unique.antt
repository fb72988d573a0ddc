-- For the public function: any two results that its contract allows are equal. `Learnt` is the contract as a caller reads it.
use mathlib.Core.Path.{◌≡◌}
use Rattle.fields.proofs.Choices.{agree}
use Rattle.opening.specs.AidOpened.{Opened}
use Rattle.opening.proofs.open.Reads as opens

pub unique-open : (κs : _) (args : _) (r s : Opened) (e f : _) → opens.Learnt κs args r e → opens.Learnt κs args s f → r ≡ s
unique-open κs args r s e f p q = agree p q
