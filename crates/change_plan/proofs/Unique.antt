-- For each public function: any two results that its contract allows are equal, buffers too.
-- `Learnt` of a function is its contract's `ensures`, as every caller reads it, and `Asked` its `requires`.
use mathlib.Core.Path.{◌≡◌}
use Rattle.std.specs.Prelude.{Result}
use Rattle.fields.proofs.Choices.{agree}
use Rattle.index_write.specs.declared.Cuts.{Cuts}
use Rattle.change.specs.declared.Full.{Full}
use Rattle.change_plan.specs.declared.Spread.{Spread}
use Rattle.change_plan.proofs.cuts_out.Reads as cuts-out
use Rattle.change_plan.proofs.plan.Reads as plan

-- the buffer is the seventh parameter
pub unique-cuts-out : (κs : _) (args : _) (r s : Cuts) (e f : _) → cuts-out.Learnt κs args r e → cuts-out.Learnt κs args s f
    → (r ≡ s) × (e.1.1.1.1.1.1.0.now ≡ f.1.1.1.1.1.1.0.now)
unique-cuts-out κs args r s e f p q = (agree p.0 q.0, agree p.1 q.1)

-- an area that has a content leaves one plan
pub unique-plan : (κs : _) (args : _) (r s : Result Spread Full) (e f : _) → plan.Asked κs args → plan.Learnt κs args r e → plan.Learnt κs args s f → r ≡ s
unique-plan κs args r s e f d p q = agree (p d.edits.entered.content d.edits.entered.reads) (q d.edits.entered.content d.edits.entered.reads)
