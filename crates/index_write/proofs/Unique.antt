-- For each public function: any two results that its contract allows are equal, buffers too.
use Prim.Native.Nat.{ℕ}
use mathlib.Core.Path.{◌≡◌}
use Rattle.fields.proofs.Choices.{agree}
use Rattle.index_write.proofs.cut_length.Reads as cut-length
use Rattle.index_write.proofs.taken.Reads as taken
use Rattle.index_write.proofs.size_divided.Reads as size-divided
use Rattle.index_write.proofs.divide.Reads as divide

pub unique-cut-length : (κs : _) (args : _) (r s : ℕ) (e f : _) → cut-length.Learnt κs args r e → cut-length.Learnt κs args s f → r ≡ s
unique-cut-length κs args r s e f p q = agree p.0 q.0

pub unique-taken : (κs : _) (args : _) (r s : ℕ) (e f : _) → taken.Learnt κs args r e → taken.Learnt κs args s f → r ≡ s
unique-taken κs args r s e f p q = agree p.0 q.0

pub unique-size-divided : (κs : _) (args : _) (r s : ℕ) (e f : _) → size-divided.Learnt κs args r e → size-divided.Learnt κs args s f → r ≡ s
unique-size-divided κs args r s e f p q = agree p q

-- It returns nothing; the record at exit is what the contract says.
pub unique-divide : (κs : _) (args : _) (r s : _) (e f : _) → divide.Learnt κs args r e → divide.Learnt κs args s f → e.0.now ≡ f.0.now
unique-divide κs args r s e f p q = agree p q
