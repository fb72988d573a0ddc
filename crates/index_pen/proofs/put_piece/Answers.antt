-- No loop. The characters, then F, L and the pointer, stored one behind the other, are the piece's bytes (piece-put). They end at place r.
use mathlib.Core.Path.{◌∙◌}
use lib.ListN.{length-set}
use native.Mathlib.Omega.{arith}
use Rattle.index_pen.proofs.Putting.{piece-put}
use Rattle.index_pen.proofs.put_piece.Goals as goal

pub bounds-b-z-2 : goal.bounds-b-z-2
bounds-b-z-2 c = simp length-set (omega (arith, c.copy.auto.b, c.requires.1, c.requires.2))

pub write-requires : goal.write-requires
write-requires c =
    let p = c.requires in
    (p.0, simp (length-set, length-set) (omega (arith, c.copy.auto.b, p.1, p.2)))

pub shape_of-b : goal.shape_of-b
shape_of-b c = c.write.auto.b ∙ simp length-set c.copy.auto.b

pub returns : goal.returns
returns c =
    let a = c.args in
    let p = c.requires in
    let q = c.write in
    piece-put a.width a.b.now a.chars.now a.r a.front a.number p.1 p.2 c.copy.new.b q.new.b c.copy.ensures q.ensures
