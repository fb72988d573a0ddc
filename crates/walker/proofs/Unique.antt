-- For each public function: any two results that its contract allows are equal. What a caller learns is read off the contract itself: `Learnt`, or by Contracts.
use mathlib.Core.Path.{◌≡◌}
use Rattle.fields.proofs.Choices.{agree}
use Rattle.walk.specs.declared.Place.{Place}
use Rattle.walker.specs.declared.Walker.{Walker}
use Rattle.walker.proofs.Contracts.{BegunLearnt, SeenLearnt, NextLearnt}
use Rattle.walker.proofs.seen_at.Reads as seen_at
use Rattle.walker.proofs.next_place.Reads as next_place

pub unique-begun : (κs : _) (args : _) (r s : Walker) (e f : _) → BegunLearnt κs args r e → BegunLearnt κs args s f → r ≡ s
unique-begun κs args r s e f p q = agree p q

-- the part, and where it lies
pub unique-seen : (κs : _) (args : _) (r s : _) (e f : _) → SeenLearnt κs args r e → SeenLearnt κs args s f → (r.now ≡ s.now) × (r.ref_ptr ≡ s.ref_ptr)
unique-seen κs args r s e f p q = (agree p.bytes q.bytes, agree p.lies q.lies)

pub unique-next : (κs : _) (args : _) (r s : Walker) (e f : _) → NextLearnt κs args r e → NextLearnt κs args s f → r ≡ s
unique-next κs args r s e f p q = agree p q

-- as for seen
pub unique-seen-at : (κs : _) (args : _) (r s : _) (e f : _) → seen_at.Learnt κs args r e → seen_at.Learnt κs args s f → (r.now ≡ s.now) × (r.ref_ptr ≡ s.ref_ptr)
unique-seen-at κs args r s e f p q = (agree p.bytes q.bytes, agree p.lies q.lies)

pub unique-next-place : (κs : _) (args : _) (r s : Place) (e f : _) → next_place.Learnt κs args r e → next_place.Learnt κs args s f → r ≡ s
unique-next-place κs args r s e f p q = agree p q
