use mathlib.Core.Path.{◌≡◌}
use mathlib.Core.Logic.{◌⊎◌, ⊎_elim, inl, inr}
use lib.ListN.{length}
use Rattle.std.proofs.lemmas.Bool.{cases_lt}
use native.Mathlib.Omega.{arith}
use Rattle.fields.proofs.Fronts.{front-more, front-differs, front_ends}
use Rattle.fields.proofs.common_front.Goals as goal

pub returns-then-a-i : goal.returns-then-a-i
returns-then-a-i c =
    let o = c.loop-i in
    let x = c.args in
    let e = front-differs x.a.now x.b.now o.i (omega arith) (omega arith) c.if-a-i.true in
    (omega (arith, o.invariant, e), omega arith, omega arith)

pub loop-i-preserved : goal.loop-i-preserved
loop-i-preserved c =
    let o = c.loop-i in
    let x = c.args in
    let e = front-more x.a.now x.b.now o.i (omega arith) (omega arith) c.if-a-i.false in
    omega (arith, o.invariant, e)

pub returns : goal.returns
returns c =
    let o = c.loop-i in
    let x = c.args in
    let s : (o.i ≡ length x.a.now) ⊎ (o.i ≡ length x.b.now) =
    ⊎_elim (λ h. inl (omega (arith, h))) (λ h. inr (omega (arith, h))) (cases_lt (length x.a.now) (length x.b.now)) in
    let e = front_ends x.a.now x.b.now o.i s in
    (omega (arith, o.invariant, e), omega arith, omega arith)
