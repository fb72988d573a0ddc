-- No loop. What lies in the area of the last record that was found is its interval (interval-ends).
use Prim.Native.Nat.{◌+◌, ◌*◌}
use mathlib.Core.Path.{◌∙◌, sym, ap}
use lib.ListN.{length}
use native.Mathlib.Omega.{arith}
use Rattle.fields.specs.Bytes.{part}
use Rattle.fields.proofs.Splices.{part-is}
use Rattle.fields.proofs.Octets.{octets-part}
use Rattle.interval_walk.specs.AidSpots.{last_of}
use Rattle.walk.proofs.Ways.{among-few, interval-ends, last-starts}
use Rattle.walk.proofs.behind.Goals as goal

pub placed-requires : goal.placed-requires
placed-requires c =
    let a = c.args in
    let k = c.in-Some.field-0.number in
    let told = c.last.ensures ∙ ap last_of (part-is a.area.now ((k + 1) * a.size) a.size) in
    let l = last-starts (part a.area.now ((k + 1) * a.size) a.size) (octets-part a.area.now ((k + 1) * a.size) a.size (λ i. omega (arith, c.type_inv.area i))) c.in-Some-last.s (sym told ∙ c.in-Some-last.is) in
    let few = among-few a.n c.last_filled.result c.in-Some.field-0 c.last_filled.ensures.inside c.in-Some.is in
    omega (arith, interval-ends a.size a.n (length a.area.now) k c.requires.1 few, l, c.well_formed)
