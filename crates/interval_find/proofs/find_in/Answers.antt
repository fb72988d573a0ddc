use Rattle.interval_find.proofs.find_in.Lts
use Rattle.interval_find.proofs.find_in.Reads
use Rattle.interval_find.proofs.find_in.Tie
use Prim.Native.Nat.{ℕ, ◌+◌, ◌-◌, ◌*◌, ◌/◌, ◌^◌, ◌≤◌, ◌<◌}
use mathlib.Core.Path.{◌≡◌, ◌∙◌, sym}
use native.Mathlib.Omega.{arith}
use Rattle.interval_find.proofs.Halving.{run-key-inside, run_small, run-below, run-same, run-above, run-gap}
use Rattle.interval_find.proofs.find_in.Goals as goal

abbrev At-loop-state : Type 0
At-loop-state = Lts.At-loop Tie.the-claims Reads.Pre Reads.Post goal.the-invariant-loop-low goal.the-decreases-loop-low

abbrev In-loop-state : Type 0
In-loop-state = Lts.In-loop Tie.the-claims Reads.Pre Reads.Post goal.the-invariant-loop-low goal.the-decreases-loop-low

abbrev After-loop-state : Type 0
After-loop-state = Lts.After-loop Tie.the-claims Reads.Pre Reads.Post goal.the-invariant-loop-low goal.the-decreases-loop-low

abbrev middle : At-loop-state → ℕ
middle a = a.loop-low.low + (a.loop-low.high - a.loop-low.low) / 2

-- the middle is a record of the run, left of high
half : (k : In-loop-state) → (middle k.before < k.loop-low.high) × (middle k.before ≤ k.args.run.last)
half k = let i = k.loop-low.invariant in (omega (arith, k.loop-low-test.true), omega (arith, k.loop-low-test.true, i.1))

small : (k : In-loop-state)
    → (k.args.run.ordinal + middle k.before < 2 ^ 63) × (k.args.run.start + middle k.before * k.args.run.len < 2 ^ 63)
small k =
    run_small k.args.m k.args.ci.now k.args.key.now k.requires.0 k.args.run k.requires.2 (middle k.before) (half k).1

-- at the end low is high
ended : (k : After-loop-state) → k.loop-low.low ≡ k.loop-low.high
ended k = omega (arith, k.loop-low-test.false, k.loop-low.invariant.0)

last-small : (k : After-loop-state)
    → (k.args.run.ordinal + k.loop-low.low < 2 ^ 63) × (k.args.run.start + k.loop-low.low * k.args.run.len < 2 ^ 63)
last-small k =
    run_small k.args.m k.args.ci.now k.args.key.now k.requires.0 k.args.run k.requires.2 k.loop-low.low (omega (arith, ended k, k.loop-low.invariant.1))

pub loop-low-init : goal.loop-low-init
loop-low-init c =
    (omega arith, omega arith, omega (arith, c.requires.3.before), c.requires.3.above)

pub overflow_mul-middle : goal.overflow_mul-middle
overflow_mul-middle c = omega (arith, small c.before.before)

pub overflow_add-run : goal.overflow_add-run
overflow_add-run c = omega (arith, small c.before.before.before)

pub order_at-requires : goal.order_at-requires
order_at-requires c =
    (run-key-inside c.args.m c.args.ci.now c.args.key.now c.requires.0 c.args.run c.requires.2 (middle c.before.before.before.before) (half c.before.before.before).1, c.requires.1)

pub overflow_add-low : goal.overflow_add-low
overflow_add-low c = omega (arith, small c.before.before.before.before.before)

pub loop-low-smaller-in-Less : goal.loop-low-smaller-in-Less
loop-low-smaller-in-Less c = omega (arith, half c.before.before.before.before.before)

pub loop-low-preserved-in-Less : goal.loop-low-preserved-in-Less
loop-low-preserved-in-Less c =
    let i = c.loop-low.invariant in
    let b = run-below c.args.m c.args.ci.now c.args.key.now c.requires.0 c.args.run c.requires.2 (middle c.before.before.before.before.before.before) (half c.before.before.before.before.before).1 _
    (sym c.order_at.ensures) c.in-Less.is in
    (omega (arith, half c.before.before.before.before.before), i.1, omega (arith, b), i.3)

pub found-requires : goal.found-requires
found-requires c = small c.before.before.before.before.before

pub returns-in-Equal : goal.returns-in-Equal
returns-in-Equal c =
    c.found.ensures ∙ run-same c.args.m c.args.ci.now c.args.key.now c.requires.0 c.args.run c.requires.2 (middle c.before.before.before.before.before.before.before) (half c.before.before.before.before.before.before).1 _
    (sym c.order_at.ensures) c.in-Equal.is

pub loop-low-smaller : goal.loop-low-smaller
loop-low-smaller c = omega (arith, half c.before.before.before.before.before)

pub loop-low-preserved : goal.loop-low-preserved
loop-low-preserved c =
    let i = c.loop-low.invariant in
    let b = run-above c.args.m c.args.ci.now c.args.key.now c.requires.0 c.args.run c.requires.2 (middle c.before.before.before.before.before.before) (half c.before.before.before.before.before).1 _
    (sym c.order_at.ensures) c.in-Greater.is in
    (omega (arith, half c.before.before.before.before.before), omega (arith, half c.before.before.before.before.before), i.2, b)

pub overflow_add-result : goal.overflow_add-result
overflow_add-result c = omega (arith, last-small c.before.before)

pub overflow_mul-result : goal.overflow_mul-result
overflow_mul-result c = omega (arith, last-small c.before.before.before)

pub overflow_add-result-2 : goal.overflow_add-result-2
overflow_add-result-2 c = omega (arith, last-small c.before.before.before.before)

pub returns : goal.returns
returns c =
    let i = c.loop-low.invariant in
    run-gap c.args.m c.args.ci.now c.args.key.now c.requires.0 c.args.run c.requires.2 c.loop-low.low (omega (arith, ended c.before.before.before.before, i.1)) i.2 (rw (← ended c.before.before.before.before) at i.3)
