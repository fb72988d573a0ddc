-- No loop. end-forward and end-backward: the first record from the first entry on, or the last of all entries in use.
use Rattle.walk.proofs.Ways.{index-long, end-forward, end-backward}
use Rattle.walk.proofs.end_in.Goals as goal

pub slice_bounds-start-end : goal.slice_bounds-start-end
slice_bounds-start-end c =
    index-long c.args.m.size c.args.n c.args.area.now c.requires.1

pub returns-then-forward : goal.returns-then-forward
returns-then-forward c =
    let a = c.args in
    end-forward a.area.now a.m.size a.n a.free a.forward c.ahead.result c.start-e.result c.if-forward.true c.start-e.ensures c.ahead.ensures

pub returns : goal.returns
returns c =
    let a = c.args in
    end-backward a.area.now a.m.size a.n a.free a.forward c.behind.result c.if-forward.false c.behind.ensures
