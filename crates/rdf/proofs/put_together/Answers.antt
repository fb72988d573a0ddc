-- bits-joined: the two bits do not meet, so the or of the shifted bits is their sum.
use native.Mathlib.Omega.{arith}
use Rattle.rdf.proofs.Controls.{bits-joined}
use Rattle.rdf.proofs.put_together.Goals as goal

pub returns : goal.returns
returns c = bits-joined c.args.paired c.args.count (omega arith) (omega arith)
