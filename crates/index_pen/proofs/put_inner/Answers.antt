-- No loop. Where entries are stored, the piece with the characters that F does not take over is put where they end (piece-fits, piece_is); else nothing is
-- stored. The pen moves on in the same way in both cases (inner-moved).
use Prim.Native.Nat.{◌+◌, ◌-◌, ◌≤◌}
use mathlib.Core.Path.{◌≡◌, ◌∙◌, ap}
use mathlib.Core.Bool.{false}
use lib.ListN.{length}
use native.Mathlib.Omega.{arith}
use Rattle.index_pen.specs.AidPen.{bytes_on, part_after}
use Rattle.index_pen.proofs.Putting.{room-left, piece-fits, piece_is, inner-moved, inner-stored, inner-counted}
use Rattle.index_pen.proofs.put_inner.Goals as goal
use Rattle.index_pen.proofs.put_inner.Goals.{Joined-b-gt7, Then-b-gt7, then-b-gt7, else-b-gt7}

-- there is room where entries are stored
room : (c : Then-b-gt7)
    → c.args.pen.size + (c.args.pen.width + 2 + (length c.args.sep.now - c.args.front)) + 7
    ≤ length c.args.b.now
room c =
    let a = c.args in
    room-left a.b.now a.pen a.sep.now false a.front a.number c.requires.0 c.if-b-gt7.true

-- the bytes in both cases
bytes : (c : Joined-b-gt7)
    → c.if-b-gt7.b
    ≡ bytes_on c.args.b.now c.args.pen
    (part_after false c.args.front c.args.sep.now c.args.number)
bytes c =
    let a = c.args in
    elim c.if-b-gt7.branch [
      | then-b-gt7 w ↦
          inner-stored a.b.now a.pen a.sep.now a.front a.number w.if-b-gt7.true c.if-b-gt7.b
          (piece_is a.b.now a.pen a.sep.now a.front a.number c.if-b-gt7.b (w.b-is ∙ w.put_piece.ensures))
      | else-b-gt7 w ↦ inner-counted a.b.now a.pen a.sep.now a.front a.number w.if-b-gt7.false c.if-b-gt7.b w.b-is
    ]

pub overflow_sub-r : goal.overflow_sub-r
overflow_sub-r c = omega (arith, room (goal.at.overflow_sub-r c).Then-b-gt7)

pub overflow_sub-r-then-b-gt7 : goal.overflow_sub-r-then-b-gt7
overflow_sub-r-then-b-gt7 c = omega (arith, room (goal.at.overflow_sub-r-then-b-gt7 c).Then-b-gt7)

pub put_piece-requires : goal.put_piece-requires
put_piece-requires c =
    let a = c.args in
    piece-fits a.b.now a.pen a.sep.now false a.front a.number c.requires.0 c.if-b-gt7.true c.requires.1

pub shape_of-b : goal.shape_of-b
shape_of-b c =
    elim c.if-b-gt7.branch [ then-b-gt7 w ↦ ap length w.b-is ∙ w.put_piece.auto.b | else-b-gt7 w ↦ ap length w.b-is ]

pub returns : goal.returns
returns c =
    let a = c.args in
    record { is = inner-moved a.b.now a.pen a.sep.now a.front a.number; bytes = bytes (goal.at.returns c).Joined-b-gt7 }
