-- For each public function: any two results that its contract allows are equal, buffers too.
use Prim.Native.Nat.{ℕ}
use mathlib.Core.Path.{◌≡◌}
use Rattle.fields.proofs.Choices.{agree}
use Rattle.index_pen.specs.declared.Pen.{Pen}
use Rattle.index_pen.proofs.section_for.Reads as section-for
use Rattle.index_pen.proofs.begin.Reads as begin
use Rattle.index_pen.proofs.put.Reads as put

pub unique-section-for : (κs : _) (args : _) (r s : ℕ) (e f : _) → section-for.Learnt κs args r e → section-for.Learnt κs args s f → r ≡ s
unique-section-for κs args r s e f p q = agree p.0 q.0

pub unique-begin : (κs : _) (args : _) (r s : Pen) (e f : _) → begin.Learnt κs args r e → begin.Learnt κs args s f → r ≡ s
unique-begin κs args r s e f p q = agree p q

-- the pen, and both buffers at exit
pub unique-put : (κs : _) (args : _) (r s : Pen) (e f : _) → put.Learnt κs args r e → put.Learnt κs args s f
    → (r ≡ s) × (e.0.now ≡ f.0.now) × (e.1.1.0.now ≡ f.1.1.0.now)
unique-put κs args r s e f p q = (agree p.0 q.0, agree p.1.1 q.1.1, agree p.1.0 q.1.0)
