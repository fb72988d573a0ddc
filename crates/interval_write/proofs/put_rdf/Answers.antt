-- rdf-stored: the control byte, set just before the two bytes of the number, makes one splice of the RDF with them.
use native.Mathlib.Omega.{arith}
use Rattle.interval_write.proofs.Stores.{rdf-stored}
use Rattle.interval_write.proofs.put_rdf.Goals as goal

pub returns : goal.returns
returns c =
    let a = c.args in
    rw (c.write.ensures, c.control_byte.ensures) (rdf-stored a.ci.now a.at _ a.num (omega arith))
