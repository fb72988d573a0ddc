-- For each public function: any two contents of the buffer that its contract allows are equal.
-- `Learnt` of a function is its contract's `ensures`, as every caller reads it: at the lifetimes, the arguments, the result and
-- what is lent at exit. So these lemmas speak of the contracts themselves, and a contract that is made weaker breaks its own.
use mathlib.Core.Path.{◌≡◌}
use Rattle.fields.proofs.Choices.{agree}
use Rattle.interval_write.proofs.close.Reads as close

pub unique-close : (κs : _) (args : _) (r s : _) (e f : _) → close.Learnt κs args r e → close.Learnt κs args s f → e.0.now ≡ f.0.now
unique-close κs args r s e f p q = agree p q
