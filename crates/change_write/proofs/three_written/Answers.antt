-- No loop: the third number goes before the lower of the other two, between them or behind the higher (three-told).
use Rattle.change_write.proofs.Ordering.{three-told}
use Rattle.change_write.proofs.three_written.Goals as goal

pub returns : goal.returns
returns c =
    let a = c.args in
    let p = c.requires in
    three-told a.x a.y a.z c.min-low.result c.max-high.result c.min.result c.min-2.result c.max-2.result p.0 p.1 p.2 p.3 p.4 p.5
    c.min-low.ensures c.max-high.ensures c.min.ensures (cc) c.max-2.ensures
