-- For each public function: any two results that its contract allows are equal, buffers too. `Learnt` is the contract as a caller reads it.
use Rattle.std.specs.Prelude.{Option}
use Prim.Native.Nat.{ℕ}
use mathlib.Core.Path.{◌≡◌}
use mathlib.Core.Bool.{Bool}
use Rattle.fields.proofs.Choices.{agree}
use Rattle.measures.specs.declared.Judged.{Judged}
use Rattle.measures.proofs.permitted.Reads as permitted
use Rattle.measures.proofs.judge_measures.Reads as judge-measures
use Rattle.measures.proofs.judge.Reads as judge
use Rattle.measures.proofs.width_for.Reads as width-for

pub unique-permitted : (κs : _) (args : _) (r s : Bool) (e f : _) → permitted.Learnt κs args r e → permitted.Learnt κs args s f → r ≡ s
unique-permitted κs args r s e f p q = agree p q

pub unique-judge-measures : (κs : _) (args : _) (r s : Option Judged) (e f : _) → judge-measures.Learnt κs args r e → judge-measures.Learnt κs args s f → r ≡ s
unique-judge-measures κs args r s e f p q = agree p q

pub unique-judge : (κs : _) (args : _) (r s : Option Judged) (e f : _) → judge.Learnt κs args r e → judge.Learnt κs args s f → r ≡ s
unique-judge κs args r s e f p q = agree p q

pub unique-width-for : (κs : _) (args : _) (r s : ℕ) (e f : _) → width-for.Learnt κs args r e → width-for.Learnt κs args s f → r ≡ s
unique-width-for κs args r s e f p q = agree p q
