-- For each public function: any two results that its contract allows are equal, area and output too. `Learnt` is the contract as a caller reads it.
use Rattle.std.specs.Prelude.{Option}
use Prim.Native.Nat.{ℕ}
use mathlib.Core.Path.{◌≡◌}
use Rattle.fields.proofs.Choices.{agree}
use Rattle.lines.proofs.step.Reads as step
use Rattle.lines.proofs.number.Reads as number
use Rattle.lines.proofs.hex.Reads as hex
use Rattle.requests.specs.Answers.{Answer}

-- the area is the first parameter, the output the third
pub unique-step : (κs : _) (args : _) (r s : Option Answer) (e f : _) → step.Learnt κs args r e → step.Learnt κs args s f
    → (r ≡ s) × (e.0.now ≡ f.0.now) × (e.1.1.0.now ≡ f.1.1.0.now)
unique-step κs args r s e f p q = (agree p.tells q.tells, agree p.leaves q.leaves, agree p.outputs q.outputs)

pub unique-number : (κs : _) (args : _) (r s : ℕ) (e f : _) → number.Learnt κs args r e → number.Learnt κs args s f → r ≡ s
unique-number κs args r s e f p q = agree p q

-- the text is the second parameter
pub unique-hex : (κs : _) (args : _) (r s : ℕ) (e f : _) → hex.Learnt κs args r e → hex.Learnt κs args s f → (r ≡ s) × (e.1.0.now ≡ f.1.0.now)
unique-hex κs args r s e f p q = (agree p.counts q.counts, agree p.leaves q.leaves)
