-- For each public function: any two results that its contract allows are equal, buffers too.
-- `Learnt` of a function is its contract's `ensures`, as every caller reads it: at the lifetimes, the arguments, the result and
-- the parameters at exit. So these lemmas speak of the contracts themselves, and a contract that is made weaker breaks its own.
use Prim.Native.Nat.{ℕ}
use mathlib.Core.Path.{◌≡◌}
use Rattle.fields.proofs.Choices.{agree}
use Rattle.interval.specs.declared.Found.{Found}
use Rattle.std.specs.Prelude.{Option}
use Rattle.interval_find.proofs.find.Reads as find
use Rattle.interval_find.proofs.lengths_out.Reads as lengths-out
use Rattle.interval_find.proofs.record_at.Reads as record-at

pub unique-find : (κs : _) (args : _) (r s : Found) (e f : _) → find.Learnt κs args r e → find.Learnt κs args s f → r ≡ s
unique-find κs args r s e f p q = agree p.0 q.0

-- `.1 .1 .0` is the third parameter, the buffer of lengths
pub unique-lengths-out : (κs : _) (args : _) (r s : ℕ) (e f : _)
    → lengths-out.Learnt κs args r e → lengths-out.Learnt κs args s f → (r ≡ s) × (e.1.1.0.now ≡ f.1.1.0.now)
unique-lengths-out κs args r s e f p q = (agree p.0 q.0, agree p.1 q.1)

pub unique-record-at : (κs : _) (args : _) (r s : Option ℕ) (e f : _) → record-at.Learnt κs args r e → record-at.Learnt κs args s f → r ≡ s
unique-record-at κs args r s e f p q = agree p.0 q.0
