-- No loop. The pen moves on (top-counted). Where entries are stored, the piece is put where they end (piece-fits, piece_is), and link writes its field and
-- tells the section before of it (top-fits, top-stored).
use Prim.Native.Nat.{◌+◌, ◌-◌, ◌≤◌, ◌<◌}
use mathlib.Core.Bool.{true}
use lib.ListN.{length}
use native.Mathlib.Omega.{arith}
use Rattle.index_pen.proofs.Putting.{room-left, piece-fits, piece_is, top-counted, top-fits, top-stored}
use Rattle.index_pen.proofs.put_top.Goals as goal
use Rattle.index_pen.proofs.put_top.Goals.{Else-b-le7}

-- entries are stored
stores : (c : Else-b-le7) → 7 < length c.args.b.now
stores c = c.if-b-le7.false

-- there is room for this one
room : (c : Else-b-le7)
    → c.args.pen.size + (c.args.pen.width + 2 + (length c.args.sep.now - c.args.front)) + 7
    ≤ length c.args.b.now
room c =
    let a = c.args in
    room-left a.b.now a.pen a.sep.now true a.front a.number c.requires.0 (stores c)

pub returns-then-b-le7 : goal.returns-then-b-le7
returns-then-b-le7 c =
    let a = c.args in
    let told = top-counted a.b.now a.pen a.sep.now a.front a.number c.min.result c.min.ensures c.requires.1 c.if-b-le7.true in record { is = told.0; bytes = told.1 }

pub overflow_sub-r : goal.overflow_sub-r
overflow_sub-r c = omega (arith, room (goal.at.overflow_sub-r c).Else-b-le7)

pub overflow_sub-r-2 : goal.overflow_sub-r-2
overflow_sub-r-2 c = omega (arith, room (goal.at.overflow_sub-r-2 c).Else-b-le7)

pub put_piece-requires : goal.put_piece-requires
put_piece-requires c =
    let a = c.args in
    piece-fits a.b.now a.pen a.sep.now true a.front a.number c.requires.0 (stores (goal.at.put_piece-requires c).Else-b-le7) c.requires.1

pub overflow_sub-r-3 : goal.overflow_sub-r-3
overflow_sub-r-3 c = omega (arith, room (goal.at.overflow_sub-r-3 c).Else-b-le7)

pub link-requires : goal.link-requires
link-requires c =
    let a = c.args in
    top-fits a.b.now a.pen a.sep.now a.front a.number c.min.result c.min.ensures c.requires.1 c.requires.0 (stores (goal.at.link-requires c).Else-b-le7)
    c.put_piece.new.b c.put_piece.auto.b

pub returns : goal.returns
returns c =
    let a = c.args in
    let told = top-stored a.b.now a.pen a.sep.now a.front a.number c.min.result c.min.ensures c.requires.1 (stores (goal.at.returns c).Else-b-le7)
    c.put_piece.new.b c.put_piece.auto.b
    (piece_is a.b.now a.pen a.sep.now a.front a.number c.put_piece.new.b c.put_piece.ensures)
    c.link.result c.link.new.b c.link.ensures.is c.link.ensures.bytes in record { is = told.0; bytes = told.1 }
