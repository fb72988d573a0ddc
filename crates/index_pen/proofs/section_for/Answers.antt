use native.Mathlib.Omega.{arith}
use Rattle.index_pen.proofs.Sectioning.{sought-first, sought-next, sought-found, sought-last, square-small}
use Rattle.index_pen.proofs.section_for.Goals as goal

pub loop-c-init : goal.loop-c-init
loop-c-init c = sought-first c.args.count

pub overflow_mul-c : goal.overflow_mul-c
overflow_mul-c c = omega (arith, square-small c.loop-c.c c.loop-c.invariant.most)

pub loop-c-preserved : goal.loop-c-preserved
loop-c-preserved c = sought-next c.args.count c.loop-c.c c.loop-c-test.true c.loop-c.invariant c.if-count-c.false

pub returns-then-count-c : goal.returns-then-count-c
returns-then-count-c c =
    (sought-found c.args.count c.loop-c.c c.loop-c.invariant c.if-count-c.true, omega (arith, c.loop-c.invariant.most))

pub returns : goal.returns
returns c = (sought-last c.args.count c.loop-c.c c.requires c.loop-c.invariant c.loop-c-test.false, omega arith)
