-- flag-joined: the length is below 32768, so the or with the flag above its fifteen bits is a sum.
use native.Mathlib.Omega.{arith}
use Rattle.rdf.proofs.Controls.{flag-joined}
use Rattle.rdf.proofs.with_flag.Goals as goal

pub returns : goal.returns
returns c = flag-joined c.args.busy c.args.unused (omega arith) (omega arith)
