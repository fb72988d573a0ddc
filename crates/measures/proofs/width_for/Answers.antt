-- No loop: the width is what its definition says on each side of 256.
use mathlib.Core.Path.{sym}
use Rattle.measures.proofs.Width.{width_one, width_two}
use Rattle.measures.proofs.width_for.Goals as goal

pub returns-then-n-le256 : goal.returns-then-n-le256
returns-then-n-le256 c = sym (width_one _ c.if-n-le256.true)

pub returns : goal.returns
returns c = sym (width_two _ c.if-n-le256.false)
