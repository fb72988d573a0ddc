-- The separator of a cut is the common front and one byte more (cut_inside). Where the left key ends with the common front, it is that
-- key as a whole (cut-whole).
use native.Mathlib.Omega.{arith}
use Rattle.index_write.proofs.Cutting.{cut_inside, cut-whole}
use Rattle.index_write.proofs.cut_length.Goals as goal

pub returns-then-f-left : goal.returns-then-f-left
returns-then-f-left c =
    let a = c.args in
    let f = c.common_front-f in
    cut_inside a.left.now a.right.now f.result f.ensures.0 (omega arith)

pub returns-else-f-left : goal.returns-else-f-left
returns-else-f-left c =
    let a = c.args in
    let f = c.common_front-f in
    cut-whole a.left.now a.right.now f.result f.ensures.0 (omega arith) f.ensures.1
