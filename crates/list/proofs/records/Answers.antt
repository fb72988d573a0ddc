use Rattle.std.proofs.Common.{arith}
use Rattle.list.proofs.Listing.{list-small, more, closing, line-is, rest-on}
use Rattle.list.proofs.records.Goals as goal

pub loop-p-init : goal.loop-p-init
loop-p-init g c = (omega arith, c.requires)

-- a turn prints a line that is still to come
pub overflow_add-n : goal.overflow_add-n
overflow_add-n g c =
    let turn = more c.args.area.now c.loop-p.n c.loop-p.p c.loop-p.invariant.1 c.loop-p-test.true in
    omega (arith, turn, list-small c.args.area.now)

pub line-requires : goal.line-requires
line-requires g c =
    let turn = more c.args.area.now c.loop-p.n c.loop-p.p c.loop-p.invariant.1 c.loop-p-test.true in
    line-is c.args.area.now c.loop-p.n c.loop-p.p c.loop-p.invariant.1 turn c.seen_at.result.now c.seen_at.ensures.bytes

pub loop-p-smaller : goal.loop-p-smaller
loop-p-smaller g c =
    let turn = more c.args.area.now c.loop-p.n c.loop-p.p c.loop-p.invariant.1 c.loop-p-test.true in
    omega (arith, turn)

pub loop-p-preserved : goal.loop-p-preserved
loop-p-preserved g c =
    let turn = more c.args.area.now c.loop-p.n c.loop-p.p c.loop-p.invariant.1 c.loop-p-test.true in
    (omega (arith, turn), rest-on c.args.area.now c.loop-p.n c.loop-p.p c.loop-p.invariant.1 turn c.next_place-p.result c.next_place-p.ensures)

pub closing-requires : goal.closing-requires
closing-requires g c = closing c.args.area.now c.loop-p.n c.loop-p.p c.loop-p.invariant.1 c.loop-p.invariant.0 c.loop-p-test.false
