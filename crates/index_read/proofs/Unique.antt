-- For each public function: any two results that its contract allows are equal, buffers too.
use Prim.Native.Nat.{ℕ}
use mathlib.Core.Path.{◌≡◌}
use Rattle.std.specs.Prelude.{Option}
use Rattle.fields.proofs.Choices.{agree}
use Rattle.index_read.specs.declared.Index.{Index}
use Rattle.index_read.specs.declared.Lead.{Lead}
use Rattle.index_read.proofs.base_of.Reads as base-of
use Rattle.index_read.proofs.check.Reads as check
use Rattle.index_read.proofs.seek.Reads as seek

pub unique-base-of : (κs : _) (args : _) (r s : ℕ) (e f : _) → base-of.Learnt κs args r e → base-of.Learnt κs args s f → r ≡ s
unique-base-of κs args r s e f p q = agree p.0 q.0

pub unique-check : (κs : _) (args : _) (r s : Option Index) (e f : _) → check.Learnt κs args r e → check.Learnt κs args s f → r ≡ s
unique-check κs args r s e f p q = agree p q

-- and what stands in both buffers
pub unique-seek : (κs : _) (args : _) (r s : Option Lead) (e f : _) → seek.Learnt κs args r e → seek.Learnt κs args s f
    → (r ≡ s) × (e.1.1.1.0.now ≡ f.1.1.1.0.now) × (e.1.1.1.1.0.now ≡ f.1.1.1.1.0.now)
unique-seek κs args r s e f p q = (agree p.0.answers q.0.answers, agree p.0.low q.0.low, agree p.0.high q.0.high)
