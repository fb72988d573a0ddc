-- For each function: any two results that its contract allows are equal, the output too. `Learnt` is the contract as a caller reads it.
use Prim.Native.Nat.{ℕ}
use mathlib.Core.Path.{◌≡◌}
use Rattle.fields.proofs.Choices.{agree}
use Rattle.scanner.proofs.belquita_check.Reads as check
use Rattle.scanner.proofs.belquita_get.Reads as get

pub unique-belquita-check : (κs : _) (args : _) (r s : ℕ) (e f : _) → check.Learnt κs args r e → check.Learnt κs args s f → r ≡ s
unique-belquita-check κs args r s e f p q = agree p q

-- the output is the seventh parameter
pub unique-belquita-get : (κs : _) (args : _) (r s : ℕ) (e f : _) → get.Learnt κs args r e → get.Learnt κs args s f
    → (r ≡ s) × (e.1.1.1.1.1.1.0.now ≡ f.1.1.1.1.1.1.0.now)
unique-belquita-get κs args r s e f p q = (agree p.word-is q.word-is, agree p.outputs q.outputs)
