-- For each public function: any two results that its contract allows are equal. `Learnt` is the contract as a caller
-- reads it. One equation holds the number, both areas, the output and the values.
use Prim.Native.Nat.{ℕ}
use mathlib.Core.Path.{◌≡◌}
use Rattle.fields.proofs.Choices.{agree}
use Rattle.ask.specs.Asking.{left}
use Rattle.ask.proofs.belquita_read.Reads as read
use Rattle.ask.proofs.belquita_ask.Reads as ask

pub unique-belquita-read : (κs : _) (args : _) (r s : ℕ) (e f : _) → read.Learnt κs args r e → read.Learnt κs args s f
    → left r args.1.1.0.now args.1.1.1.0.now e.1.1.1.1.1.0.now e.1.1.1.1.1.1.0.now
    ≡ left s args.1.1.0.now args.1.1.1.0.now f.1.1.1.1.1.0.now f.1.1.1.1.1.1.0.now
unique-belquita-read κs args r s e f p q = agree p q

pub unique-belquita-ask : (κs : _) (args : _) (r s : ℕ) (e f : _) → ask.Learnt κs args r e → ask.Learnt κs args s f
    → left r e.1.1.0.now e.1.1.1.0.now e.1.1.1.1.1.0.now e.1.1.1.1.1.1.0.now
    ≡ left s f.1.1.0.now f.1.1.1.0.now f.1.1.1.1.1.0.now f.1.1.1.1.1.1.0.now
unique-belquita-ask κs args r s e f p q = agree p q
