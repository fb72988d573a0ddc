-- No loop. The two parts that are lent are the keys, so their order is the answer.
use Rattle.interval_read.proofs.key_below.Lts
use Rattle.interval_read.proofs.key_below.Reads
use Rattle.interval_read.proofs.key_below.Tie
use Prim.Native.Nat.{◌+◌, ◌-◌}
use mathlib.Core.Path.{◌≡◌, ◌∙◌, sym, ap}
use native.Mathlib.Omega.{arith}
use Rattle.fields.specs.Bytes.{part}
use Rattle.fields.specs.Order.{order_of, is_less}
use Rattle.fields.proofs.Answers.{not-less}
use Rattle.interval_read.proofs.key_below.Goals as goal

abbrev After-compare-state : Type 0
After-compare-state = Lts.After-compare Tie.the-claims Reads.Pre Reads.Post

-- what the comparison says
told : (c : After-compare-state)
    → c.compare.result
    ≡ order_of (part c.args.ci.now c.args.before c.args.key)
    (part c.args.ci.now c.args.here c.args.key)
told c =
    let a = c.args in
    let e : a.before + a.key - a.before ≡ a.key = omega arith in
    let f : a.here + a.key - a.here ≡ a.key = omega arith in
    rw (e, f) at c.compare.ensures

pub returns-in_default : goal.returns-in_default
returns-in_default c = sym (rw (told c.before.before) at (not-less c.compare.result c.in_default.not-Less))

pub returns : goal.returns
returns c = ap is_less (sym c.in-Less.is ∙ told c.before.before)
