-- For each public function: any two results that its contract allows are equal, buffers too.
use Prim.Native.Nat.{ℕ}
use mathlib.Core.Path.{◌≡◌}
use Rattle.fields.proofs.Choices.{agree}
use Rattle.index_step.specs.declared.Step.{Step}
use Rattle.index_step.specs.declared.PassPlace.{PassPlace}
use Rattle.index_step.proofs.free_count.Reads as free-count
use Rattle.index_step.proofs.start.Reads as start
use Rattle.index_step.proofs.entry_at.Reads as entry_at
use Rattle.index_step.proofs.past.Reads as past
use Rattle.index_step.proofs.extend.Reads as extend
use Rattle.index_step.proofs.renew.Reads as renew

pub unique-free-count : (κs : _) (args : _) (r s : ℕ) (e f : _) → free-count.Learnt κs args r e → free-count.Learnt κs args s f → r ≡ s
unique-free-count κs args r s e f p q = agree p q

pub unique-start : (κs : _) (args : _) (r s : PassPlace) (e f : _) → start.Learnt κs args r e → start.Learnt κs args s f → r ≡ s
unique-start κs args r s e f p q = agree p q

pub unique-entry-at : (κs : _) (args : _) (r s : Step) (e f : _) → entry_at.Learnt κs args r e → entry_at.Learnt κs args s f → r ≡ s
unique-entry-at κs args r s e f p q = agree p.0 q.0

pub unique-past : (κs : _) (args : _) (r s : PassPlace) (e f : _) → past.Learnt κs args r e → past.Learnt κs args s f → r ≡ s
unique-past κs args r s e f p q = agree p q

-- It returns nothing; the buffer at exit is what the contract says.
pub unique-extend : (κs : _) (args : _) (r s : _) (e f : _) → extend.Learnt κs args r e → extend.Learnt κs args s f → e.0.now ≡ f.0.now
unique-extend κs args r s e f p q = agree p q

-- and both of them
pub unique-renew : (κs : _) (args : _) (r s : _) (e f : _) → renew.Learnt κs args r e → renew.Learnt κs args s f → (e.0.now ≡ f.0.now) × (e.1.0.now ≡ f.1.0.now)
unique-renew κs args r s e f p q = (agree p.0 q.0, agree p.1 q.1)
