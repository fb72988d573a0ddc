-- For each public function: any two results that its contract allows are equal, buffers too. `Learnt` is the contract as a caller reads it.
use Prim.Native.Nat.{ℕ}
use mathlib.Core.Path.{◌≡◌}
use Rattle.std.specs.declared.cmp.Ordering.{Ordering}
use Rattle.fields.proofs.Choices.{agree}
use Rattle.fields.proofs.read.Reads as read
use Rattle.fields.proofs.read_eight.Reads as read-eight
use Rattle.fields.proofs.read_pointer.Reads as read-pointer
use Rattle.fields.proofs.write.Reads as write
use Rattle.fields.proofs.common_front.Reads as common-front
use Rattle.fields.proofs.compare_bytes.Reads as compare-bytes
use Rattle.fields.proofs.compare.Reads as compare
use Rattle.fields.proofs.copy.Reads as copy
use Rattle.fields.proofs.copy_eight.Reads as copy-eight
use Rattle.fields.proofs.fill.Reads as fill
use Rattle.fields.proofs.carry.Reads as carry

pub unique-read : (N n : _) (κs : _) (args : _) (r s : ℕ) (e f : _) → read.Learnt N n κs args r e → read.Learnt N n κs args s f → r ≡ s
unique-read N n κs args r s e f p q = agree p.0 q.0

pub unique-read-eight : (κs : _) (args : _) (r s : ℕ) (e f : _) → read-eight.Learnt κs args r e → read-eight.Learnt κs args s f → r ≡ s
unique-read-eight κs args r s e f p q = agree p q

pub unique-read-pointer : (κs : _) (args : _) (r s : ℕ) (e f : _) → read-pointer.Learnt κs args r e → read-pointer.Learnt κs args s f → r ≡ s
unique-read-pointer κs args r s e f p q = agree p.0 q.0

pub unique-write : (κs : _) (args : _) (r s : _) (e f : _) → write.Learnt κs args r e → write.Learnt κs args s f → e.0.now ≡ f.0.now
unique-write κs args r s e f p q = agree p q

pub unique-common-front : (κs : _) (args : _) (r s : ℕ) (e f : _) → common-front.Learnt κs args r e → common-front.Learnt κs args s f → r ≡ s
unique-common-front κs args r s e f p q = agree p.0 q.0

pub unique-compare-bytes : (κs : _) (args : _) (r s : Ordering) (e f : _) → compare-bytes.Learnt κs args r e → compare-bytes.Learnt κs args s f → r ≡ s
unique-compare-bytes κs args r s e f p q = agree p q

pub unique-compare : (κs : _) (args : _) (r s : Ordering) (e f : _) → compare.Learnt κs args r e → compare.Learnt κs args s f → r ≡ s
unique-compare κs args r s e f p q = agree p q

pub unique-copy : (κs : _) (args : _) (r s : _) (e f : _) → copy.Learnt κs args r e → copy.Learnt κs args s f → e.0.now ≡ f.0.now
unique-copy κs args r s e f p q = agree p q

pub unique-copy-eight : (κs : _) (args : _) (r s : _) (e f : _) → copy-eight.Learnt κs args r e → copy-eight.Learnt κs args s f → e.0.now ≡ f.0.now
unique-copy-eight κs args r s e f p q = agree p q

pub unique-fill : (κs : _) (args : _) (r s : _) (e f : _) → fill.Learnt κs args r e → fill.Learnt κs args s f → e.0.now ≡ f.0.now
unique-fill κs args r s e f p q = agree p q

pub unique-carry : (κs : _) (args : _) (r s : _) (e f : _) → carry.Learnt κs args r e → carry.Learnt κs args s f → e.0.now ≡ f.0.now
unique-carry κs args r s e f p q = agree p q
