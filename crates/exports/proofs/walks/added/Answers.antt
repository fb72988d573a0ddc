use Rattle.std.proofs.Common.{◌+◌, ◌-◌, ◌%◌, ◌^◌, ◌<◌, length, ap, ◌∙◌, arith, rules}
use Rattle.exports.proofs.Adding.{adding-none, adding-on, added-ended, added-all}
use Rattle.exports.proofs.walks.added.Goals as goal

pub loop-n-init : goal.loop-n-init
loop-n-init c =
    let a = c.args in
    (adding-none a.area.now a.size a.forward a.begun, omega arith, omega arith)

pub returns-then-p-eq0 : goal.returns-then-p-eq0
returns-then-p-eq0 c =
    let a = c.args in
    added-ended a.area.now a.size a.forward a.begun c.loop-n.sum c.loop-n.p c.loop-n.n c.loop-n.invariant.0 c.loop-n.invariant.2 c.if-p-eq0.true

pub loop-n-preserved : goal.loop-n-preserved
loop-n-preserved c =
    let a = c.args in
    let e = c.wrapping_add_usize-sum.ensures.value ∙ ap (λ xs. (c.loop-n.sum + length xs) % 2 ^ 64) c.walk_record.ensures.bytes in
    let inside : c.loop-n.n < length a.area.now = search rules in (
      adding-on a.area.now a.size a.forward a.begun c.loop-n.sum c.loop-n.p c.loop-n.n c.loop-n.invariant.0 inside c.walk_next-p.result c.wrapping_add_usize-sum.result c.walk_next-p.ensures e,
      omega (arith, inside),
      search rules,
    )

pub returns : goal.returns
returns c =
    let a = c.args in
    added-all a.area.now a.size a.forward a.begun c.loop-n.sum c.loop-n.p c.loop-n.n c.loop-n.invariant.0 c.loop-n.invariant.2 c.loop-n-test.false
