-- For the public function: any two results that its contract allows are equal. `Learnt` is the contract as a caller reads it.
use Prim.Native.Nat.{ℕ}
use mathlib.Core.Path.{◌≡◌}
use Rattle.fields.proofs.Choices.{agree}
use Rattle.requests.proofs.number.Reads as number

pub unique-number : (κs : _) (args : _) (r s : ℕ) (e f : _) → number.Learnt κs args r e → number.Learnt κs args s f → r ≡ s
unique-number κs args r s e f p q = agree p q
