-- cidf-stored: two numbers of two bytes, stored side by side, are one splice of the CIDF. The flag is 0, so with_flag gives the length itself.
use mathlib.Core.Path.{◌≡◌, ◌∙◌}
use native.Mathlib.Omega.{arith}
use Rattle.interval_write.proofs.Stores.{cidf-stored}
use Rattle.interval_write.proofs.put_cidf.Goals as goal

pub returns : goal.returns
returns c =
    let a = c.args in
    let u : c.with_flag.result ≡ a.unused = omega arith in
    c.write-2.ensures
    ∙ rw (c.write.ensures, u)
    (cidf-stored a.ci.now a.at a.displacement a.unused (omega arith))
