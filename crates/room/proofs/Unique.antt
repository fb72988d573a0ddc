-- For each public function: any two results that its contract allows are equal.
-- `Learnt` of a function is its contract's `ensures`, as every caller reads it: at the lifetimes, the arguments, the result and
-- the parameters at exit. So these lemmas speak of the contracts themselves, and a contract that is made weaker breaks its own.
use Prim.Native.Nat.{ℕ}
use mathlib.Core.Path.{◌≡◌}
use Rattle.fields.proofs.Choices.{agree}
use Rattle.room.specs.declared.Room.{Room}
use Rattle.room.proofs.Runs.{run-unique}
use Rattle.room.proofs.add.Reads as add
use Rattle.room.proofs.run_at.Reads as run_at
use Rattle.room.proofs.room_of.Reads as room_of
use Rattle.room.proofs.ahead_at.Reads as ahead-at
use Rattle.room.proofs.bytes_to.Reads as bytes-to
use Rattle.room.proofs.need_of.Reads as need-of

pub unique-add : (κs : _) (args : _) (r s : Room) (e f : _) → add.Learnt κs args r e → add.Learnt κs args s f → r ≡ s
unique-add κs args r s e f p q = agree p q

pub unique-run-at : (κs : _) (args : _) (r s : ℕ) (e f : _) → run_at.Learnt κs args r e → run_at.Learnt κs args s f → r ≡ s
unique-run-at κs args r s e f p q = run-unique args.0.now args.1.0 r s p.0 q.0

pub unique-room-of : (κs : _) (args : _) (r s : Room) (e f : _) → room_of.Learnt κs args r e → room_of.Learnt κs args s f → r ≡ s
unique-room-of κs args r s e f p q = agree p.0 q.0

pub unique-ahead-at : (κs : _) (args : _) (r s : ℕ) (e f : _) → ahead-at.Learnt κs args r e → ahead-at.Learnt κs args s f → r ≡ s
unique-ahead-at κs args r s e f p q = agree p q

pub unique-bytes-to : (κs : _) (args : _) (r s : ℕ) (e f : _) → bytes-to.Learnt κs args r e → bytes-to.Learnt κs args s f → r ≡ s
unique-bytes-to κs args r s e f p q = agree p.0 q.0

pub unique-need-of : (κs : _) (args : _) (r s : ℕ) (e f : _) → need-of.Learnt κs args r e → need-of.Learnt κs args s f → r ≡ s
unique-need-of κs args r s e f p q = agree p.0 q.0
