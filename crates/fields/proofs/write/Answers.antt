use native.Mathlib.Omega.{arith}
use Rattle.fields.proofs.Numbers.{stored-none, stored_more, stored-all}
use Rattle.fields.proofs.write.Goals as goal

pub loop-i-init : goal.loop-i-init
loop-i-init c = stored-none c.args.width c.args.x c.args.at c.args.b.now

pub loop-i-preserved : goal.loop-i-preserved
loop-i-preserved c =
    let x = c.args in
    let o = c.loop-i in
    stored_more x.width x.x x.at x.b.now o.b o.left o.i o.invariant (omega arith) (omega arith)

pub returns : goal.returns
returns c =
    let x = c.args in
    let o = c.loop-i in
    stored-all x.width x.x x.at x.b.now o.b o.left o.i o.invariant (omega arith) (omega arith)
