use Prim.Native.Nat.{◌+◌, ◌-◌, ◌*◌, ◌≤◌}
use mathlib.Core.Path.{◌≡◌, refl, ◌∙◌, sym}
use lib.ListN.{length}
use native.Mathlib.Omega.{arith}
use Rattle.fields.specs.Bytes.{part}
use Rattle.fields.proofs.Numbers.{one_less}
use Rattle.interval_read.proofs.Keys.{run_on, run-stops, keys_none, ascend-none}
use Rattle.interval_read.proofs.rises.Goals as goal
use Rattle.interval_read.proofs.rises.Goals.{In-loop}

-- the key that is compared lies in the interval
inside : (c : In-loop) → c.loop.here + c.args.key ≤ length c.args.ci.now
inside c =
    let a = c.args in
    let o = c.loop in
    omega (arith, one_less a.keys.len (a.keys.count - o.counter) (omega arith), o.invariant.rest)

pub loop-init : goal.loop-init
loop-init c =
    let a = c.args in
    let z : a.keys.count - 0 ≡ a.keys.count = omega arith in
    record { before = omega arith; rest = rw z (omega arith); same = rw z; lead = c.lead-word.ensures }

pub lead-next-requires : goal.lead-next-requires
lead-next-requires c = inside c

pub word_below-requires : goal.word_below-requires
word_below-requires c =
    let o = c.loop in
    (o.invariant.before, inside (goal.at.word_below-requires c).In-loop, c.requires.3, o.invariant.lead, c.lead-next.ensures)

pub returns-then-not-word_below : goal.returns-then-not-word_below
returns-then-not-word_below c =
    let a = c.args in
    let o = c.loop in
    sym
    (o.invariant.same
    ∙ run-stops a.key a.ci.now (part a.ci.now o.before a.key) o.here a.keys.len (a.keys.count - o.counter) (omega arith)
    (sym c.word_below.ensures ∙ c.if-not-word_below.true))

pub overflow_add-here : goal.overflow_add-here
overflow_add-here c = omega (arith, inside (goal.at.overflow_add-here c).In-loop, c.requires.3, c.requires.4)

pub loop-preserved : goal.loop-preserved
loop-preserved c =
    let a = c.args in
    let o = c.loop in
    let e : a.keys.count - o.counter - 1 ≡ a.keys.count - (o.counter + 1) = omega arith in
    let r : o.here + a.keys.len + a.keys.len * (a.keys.count - o.counter - 1) ≤ length a.ci.now + (a.keys.len - a.key) =
    omega (arith, one_less a.keys.len (a.keys.count - o.counter) (omega arith), o.invariant.rest) in
    record {
      before = inside (goal.at.loop-preserved c).In-loop;
      rest = rw e at r;
      same = o.invariant.same
          ∙ rw e at (run_on a.key a.ci.now (part a.ci.now o.before a.key) o.here a.keys.len (a.keys.count - o.counter) (omega arith)
          (sym c.word_below.ensures ∙ c.if-not-word_below.false));
      lead = c.lead-next.ensures;
    }

pub returns : goal.returns
returns c =
    let a = c.args in
    let o = c.loop in
    let z : a.keys.count - o.counter ≡ 0 = omega arith in
    sym (o.invariant.same ∙ rw (z, keys_none, ascend-none))
