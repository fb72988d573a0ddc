-- For each public function: any two results that its contract allows are equal, buffers too. `Learnt` is the contract as a caller reads it.
use Prim.Native.Nat.{ℕ}
use mathlib.Core.Path.{◌≡◌, ◌∙◌, ap}
use mathlib.Core.Bool.{Bool}
use Rattle.fields.proofs.Choices.{agree}
use Rattle.rdf.specs.declared.Control.{Control}
use Rattle.std.specs.Prelude.{Option}
use Rattle.rdf.specs.declared.Front.{Front}
use Rattle.rdf.specs.declared.RdfsIn.{RdfsIn}
use Rattle.rdf.proofs.take_apart.Reads as take-apart
use Rattle.rdf.proofs.put_together.Reads as put-together
use Rattle.rdf.proofs.control_byte.Reads as control-byte
use Rattle.rdf.proofs.is_busy.Reads as is-busy
use Rattle.rdf.proofs.below_flag.Reads as below-flag
use Rattle.rdf.proofs.with_flag.Reads as with-flag
use Rattle.rdf.proofs.rdfs_begin.Reads as rdfs-begin
use Rattle.rdf.proofs.rdfs_of.Reads as rdfs_of
use Rattle.rdf.proofs.group_at.Reads as group_at
use Rattle.rdf.proofs.group_before.Reads as group-before

abbrev rdfs_lie : ℕ → ℕ → RdfsIn
rdfs_lie at many = record { at = at; many = many }

pub unique-take-apart : (κs : _) (args : _) (r s : Option Control) (e f : _) → take-apart.Learnt κs args r e → take-apart.Learnt κs args s f → r ≡ s
unique-take-apart κs args r s e f p q = agree p q

pub unique-put-together : (κs : _) (args : _) (r s : ℕ) (e f : _) → put-together.Learnt κs args r e → put-together.Learnt κs args s f → r ≡ s
unique-put-together κs args r s e f p q = agree p q

pub unique-control-byte : (κs : _) (args : _) (r s : ℕ) (e f : _) → control-byte.Learnt κs args r e → control-byte.Learnt κs args s f → r ≡ s
unique-control-byte κs args r s e f p q = agree p q

pub unique-is-busy : (κs : _) (args : _) (r s : Bool) (e f : _) → is-busy.Learnt κs args r e → is-busy.Learnt κs args s f → r ≡ s
unique-is-busy κs args r s e f p q = agree p q

pub unique-below-flag : (κs : _) (args : _) (r s : ℕ) (e f : _) → below-flag.Learnt κs args r e → below-flag.Learnt κs args s f → r ≡ s
unique-below-flag κs args r s e f p q = agree p q

pub unique-with-flag : (κs : _) (args : _) (r s : ℕ) (e f : _) → with-flag.Learnt κs args r e → with-flag.Learnt κs args s f → r ≡ s
unique-with-flag κs args r s e f p q = agree p q

pub unique-rdfs-begin : (κs : _) (args : _) (r s : ℕ) (e f : _) → rdfs-begin.Learnt κs args r e → rdfs-begin.Learnt κs args s f → r ≡ s
unique-rdfs-begin κs args r s e f p q = agree p.0 q.0

pub unique-rdfs-of : (κs : _) (args : _) (r s : RdfsIn) (e f : _) → rdfs_of.Learnt κs args r e → rdfs_of.Learnt κs args s f → r ≡ s
unique-rdfs-of κs args r s e f p q = ap (λ (k : ℕ). rdfs_lie k r.many) (agree p.0 q.0) ∙ ap (rdfs_lie s.at) (agree p.1 q.1)

pub unique-group-at : (κs : _) (args : _) (r s : Option Front) (e f : _) → group_at.Learnt κs args r e → group_at.Learnt κs args s f → r ≡ s
unique-group-at κs args r s e f p q = agree p.0 q.0

pub unique-group-before : (κs : _) (args : _) (r s : Option Front) (e f : _) → group-before.Learnt κs args r e → group-before.Learnt κs args s f → r ≡ s
unique-group-before κs args r s e f p q = agree p.0 q.0
