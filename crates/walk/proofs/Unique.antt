-- For each public function: any two results that its contract allows are equal. `Learnt` is the contract as a caller reads it.
use mathlib.Core.Path.{◌≡◌}
use Rattle.fields.proofs.Choices.{agree}
use Rattle.walk.specs.declared.Place.{Place}
use Rattle.walk.specs.AidGives.{Begun}
use Rattle.walk.proofs.walk_next.Reads as walk-next
use Rattle.walk.proofs.walk_record.Reads as walk-record
use Rattle.walk.proofs.walk_from.Reads as walk_from
use Rattle.walk.proofs.walk_end.Reads as walk_end

pub unique-walk-next : (κs : _) (args : _) (r s : Place) (e f : _) → walk-next.Learnt κs args r e → walk-next.Learnt κs args s f → r ≡ s
unique-walk-next κs args r s e f p q = agree p q

-- the part that is given back, and where it lies
pub unique-walk-record : (κs : _) (args : _) (r s : _) (e f : _) → walk-record.Learnt κs args r e → walk-record.Learnt κs args s f → (r.now ≡ s.now) × (r.ref_ptr ≡ s.ref_ptr)
unique-walk-record κs args r s e f p q = (agree p.bytes q.bytes, agree p.lies q.lies)

pub unique-walk-end : (κs : _) (args : _) (r s : Begun) (e f : _) → walk_end.Learnt κs args r e → walk_end.Learnt κs args s f → r ≡ s
unique-walk-end κs args r s e f p q = agree p.1 q.1

pub unique-walk-from : (κs : _) (args : _) (r s : Begun) (e f : _) → walk_from.Learnt κs args r e → walk_from.Learnt κs args s f → r ≡ s
unique-walk-from κs args r s e f p q = agree p.1.1 q.1.1
