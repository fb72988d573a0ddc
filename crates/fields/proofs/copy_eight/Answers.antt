-- No loop: the value is the eight bytes at the place (part-is), and the part of the buffer that was lent for them comes back with it (mid-splice).
use native.Mathlib.Omega.{arith}
use Rattle.fields.specs.Bytes.{part}
use Rattle.fields.proofs.Splices.{mid-splice, part-is, length-mid}
use Rattle.fields.proofs.copy_eight.Goals as goal

pub returns : goal.returns
returns c =
    let a = c.args in
    rw (c.copy_from_slice.ensures.after, c.in-Ok.ensures.1.same, part-is a.new.now a.place 8)
    (mid-splice a.b.now (part a.new.now a.place 8) a.at _ (omega (arith, length-mid a.new.now a.place 8 c.requires.1)))
