-- For each public function: any two results that its contract allows are equal.
use mathlib.Core.Path.{◌≡◌}
use Rattle.fields.proofs.Choices.{agree}
use Rattle.std.specs.Prelude.{Option}
use Rattle.interval_walk.specs.declared.Spot.{Spot}
use Rattle.interval_walk.proofs.Standing.{stands-once}
use Rattle.interval_walk.proofs.first.Reads as first
use Rattle.interval_walk.proofs.last.Reads as last
use Rattle.interval_walk.proofs.after.Reads as after
use Rattle.interval_walk.proofs.before.Reads as before
use Rattle.interval_walk.proofs.spot_at.Reads as spot-at

pub unique-first : (κs : _) (args : _) (r s : Option Spot) (e f : _) → first.Learnt κs args r e → first.Learnt κs args s f → r ≡ s
unique-first κs args r s e f p q = agree p q

pub unique-last : (κs : _) (args : _) (r s : Option Spot) (e f : _) → last.Learnt κs args r e → last.Learnt κs args s f → r ≡ s
unique-last κs args r s e f p q = agree p q

pub unique-after : (κs : _) (args : _) (r s : Option Spot) (e f : _) → after.Learnt κs args r e → after.Learnt κs args s f → r ≡ s
unique-after κs args r s e f p q = agree p q

pub unique-before : (κs : _) (args : _) (r s : Option Spot) (e f : _) → before.Learnt κs args r e → before.Learnt κs args s f → r ≡ s
unique-before κs args r s e f p q = agree p q

-- for each record and direction one spot stands there
pub unique-spot-at : (κs : _) (args : _) (r s : Spot) (e f : _) → spot-at.Learnt κs args r e → spot-at.Learnt κs args s f → r ≡ s
unique-spot-at κs args r s e f p q = stands-once args.1.0 args.0.now args.1.1.0 args.1.1.1.0 r s p q
