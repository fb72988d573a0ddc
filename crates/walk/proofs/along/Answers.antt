-- No loop. Upwards along-past and along-cut for a place that does not lie in the area, else along-up; downwards along-none and along-down.
use Rattle.walk.proofs.along.Lts
use Rattle.walk.proofs.along.Reads
use Rattle.walk.proofs.along.Tie
use Prim.Native.Nat.{◌-◌, ◌≤◌}
use mathlib.Core.Path.{◌∙◌}
use mathlib.Core.Logic.{⊎_elim}
use native.Mathlib.Omega.{arith}
use borrow.Author.Tests.{ltb-true, ltb-false}
use Rattle.walk.proofs.Ways.{along-past, along-cut, along-up, along-none, along-down, along-forward, along-backward}
use Rattle.walk.proofs.along.Goals as goal

abbrev After-struct_known4-state : Type 0
After-struct_known4-state = Lts.After-struct_known4 Tie.the-claims Reads.Pre Reads.Post

-- upwards, the record lies in the area
lies : (d : After-struct_known4-state) → (d.args.p.start ≤ d.args.long) × (d.args.p.length ≤ d.args.long - d.args.p.start)
lies d = (d.if-long-p.false, ltb-false _ _ d.if-long-p-2.false-raw)

pub returns-then-long-p : goal.returns-then-long-p
returns-then-long-p c =
    let a = c.args in
    along-forward a.long a.forward a.p c.ended.result c.if-forward.true
    (c.ended.ensures
    ∙ ⊎_elim (λ w. along-past a.long a.p w.if-long-p.true) (λ w. along-cut a.long a.p w.if-long-p.false (ltb-true _ _ w.if-long-p-2.true-raw)) c.then-long-p.branch-raw)

pub overflow_add-p : goal.overflow_add-p
overflow_add-p c = omega (arith, lies c, c.ranges)

pub returns-then-forward : goal.returns-then-forward
returns-then-forward c =
    let a = c.args in
    along-forward a.long a.forward a.p c.moved.result c.if-forward.true
    (c.moved.ensures ∙ along-up a.long a.p (lies c.before).0 (lies c.before).1)

pub returns-then-p : goal.returns-then-p
returns-then-p c =
    let a = c.args in
    along-backward a.long a.forward a.p c.ended-then-p.result c.if-forward.false (c.ended-then-p.ensures ∙ along-none a.long a.p c.if-p.true)

pub returns : goal.returns
returns c =
    let a = c.args in
    along-backward a.long a.forward a.p c.moved-2.result c.if-forward.false
    (c.moved-2.ensures ∙ along-down a.long a.p c.if-p.false)
