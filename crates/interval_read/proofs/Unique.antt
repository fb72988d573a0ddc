-- For each public function: any two results that its contract allows are equal.
use mathlib.Core.Path.{◌≡◌}
use mathlib.Core.Bool.{Bool}
use Rattle.std.specs.Prelude.{Option}
use Rattle.fields.proofs.Choices.{agree}
use Rattle.interval_read.specs.declared.Verdict.{Verdict}
use Rattle.interval_read.specs.declared.Opened.{Opened}
use Rattle.interval_read.proofs.check.Reads as check
use Rattle.interval_read.proofs.free_sound.Reads as free-sound
use Rattle.interval_read.proofs.opens.Reads as opens
use Rattle.interval_read.proofs.closes.Reads as closes

pub unique-check : (κs : _) (args : _) (r s : Option Verdict) (e f : _) → check.Learnt κs args r e → check.Learnt κs args s f → r ≡ s
unique-check κs args r s e f p q = agree p q

pub unique-free-sound : (κs : _) (args : _) (r s : Bool) (e f : _) → free-sound.Learnt κs args r e → free-sound.Learnt κs args s f → r ≡ s
unique-free-sound κs args r s e f p q = agree p q

pub unique-opens : (κs : _) (args : _) (r s : Option Opened) (e f : _) → opens.Learnt κs args r e → opens.Learnt κs args s f → r ≡ s
unique-opens κs args r s e f p q = agree p.0 q.0

pub unique-closes : (κs : _) (args : _) (r s : Bool) (e f : _) → closes.Learnt κs args r e → closes.Learnt κs args s f → r ≡ s
unique-closes κs args r s e f p q = agree p q
