-- room-of-need: the bytes, three for each RDF, and four for the CIDF are the need of any lengths that the room was counted from.
use Prim.Native.Nat.{ℕ}
use mathlib.Core.Path.{◌≡◌, refl}
use mathlib.Core.List.{List}
use Rattle.room.specs.AidSteps.{room_of}
use Rattle.room.proofs.Steps.{room-of-need}
use Rattle.room.proofs.need_of.Goals as goal

pub returns : goal.returns
returns c =
    let r = c.args.r in
    record { is = refl; means = λ (ls : List ℕ) (e : r ≡ room_of ls). rw e (room-of-need ls) }
