use mathlib.Core.Path.{◌≡◌, sym, ◌∙◌}
use lib.ListN.{length}
use lib.Seq.{take-length}
use native.Mathlib.Omega.{arith}
use Rattle.fields.proofs.Splices.{splice-nil, copy_on}
use Rattle.fields.proofs.copy.Goals as goal

pub loop-i-init : goal.loop-i-init
loop-i-init c = sym (splice-nil c.args.b.now c.args.at)

pub loop-i-preserved : goal.loop-i-preserved
loop-i-preserved c =
    let a = c.args in
    let o = c.loop-i in
    rw o.invariant (copy_on a.b.now a.at a.new.now o.i (omega arith) (omega arith))

pub returns : goal.returns
returns c =
    let o = c.loop-i in
    let all : o.i ≡ length c.args.new.now = omega arith in
    o.invariant ∙ rw (all, take-length c.args.new.now)
