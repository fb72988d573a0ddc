-- For each public function: any two results that its contract allows are equal, buffers too.
-- `Learnt` of a function is its contract's `ensures`, as every caller reads it: at the lifetimes, the arguments, the result and
-- the parameters at exit. So these lemmas speak of the contracts themselves, and a contract that is made weaker breaks its own.
use Prim.Native.Nat.{ℕ}
use mathlib.Core.Path.{◌≡◌}
use Rattle.fields.proofs.Choices.{agree}
use Rattle.interval_edit.proofs.lengths.Reads as lengths

-- the buffer is the fifth parameter
pub unique-lengths : (κs : _) (args : _) (r s : ℕ) (e f : _) → lengths.Learnt κs args r e → lengths.Learnt κs args s f
    → (r ≡ s) × (e.1.1.1.1.0.now ≡ f.1.1.1.1.0.now)
unique-lengths κs args r s e f p q = (agree p.0 q.0, agree p.1 q.1)
