-- No loop: the lower of two numbers and the higher are the two in order (two-told).
use Rattle.change_write.proofs.Ordering.{two-told}
use Rattle.change_write.proofs.two_written.Goals as goal

pub returns : goal.returns
returns c =
    let p = c.requires in
    two-told c.args.x c.args.y c.min-low.result c.max-high.result p.0 p.1 p.2 c.min-low.ensures c.max-high.ensures
