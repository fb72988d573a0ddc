use Prim.Native.Nat.{ℕ, ◌-◌, ◌*◌, ◌≤◌, ◌<◌}
use mathlib.Core.Path.{◌≡◌, refl, ◌∙◌, sym}
use mathlib.Core.List.{List, []}
use native.Mathlib.Omega.{arith}
use borrow.Author.Tests.{eq-eqb, ne_eqb}
use Rattle.fields.proofs.Numbers.{one_less}
use Rattle.interval.specs.Reading.{rdfs}
use Rattle.rdf.specs.AidFront.{front_of}
use Rattle.std.specs.Prelude.{Some}
use Rattle.rdf.proofs.Fronts.{Step, steps, stops, front-within}
use Rattle.rdf.proofs.Rdfs.{prod16}
use Rattle.interval_read.proofs.Walking.{set_out, ended, no-group, too_long, falls, goes_on}
use Rattle.interval_read.proofs.walk.Goals as goal
use Rattle.interval_read.proofs.walk.Goals.{In_ok-len}

none : (ci : List ℕ) (p : ℕ) → rdfs ci p 0 ≡ []
unfolding rdfs
none ci p = refl

-- the group that was read, with the tests it passed
pub record Group (ci : List ℕ) (p n least most l c u : ℕ) (some : 0 < n) : Type 0 where
  pub step : Step ci p n least most some l c u
  pub least-is : least ≤ l
  pub len : l < 65536
  pub count : c < 65536
  pub taken : u ≤ n
  pub takes : 1 ≤ u
  pub holds : 1 ≤ c

group : (c : In_ok-len)
    → Group c.args.ci.now c.args.tail.at c.loop-left.left
    c.args.m.least c.args.m.most c.in_ok-len.field-0.len c.in_ok-len.field-0.count
    c.in_ok-len.field-0.used c.loop-left-test.true
group c =
    let a = c.args in
    let n = c.loop-left.left in
    let g = c.group_before in
    let q = c.loop-left.invariant.0.1 in
    let z : c.loop-left.q - 3 * n ≡ a.tail.at = omega (arith, q) in
    let e : Some c.in_ok-len.field-0 ≡ front_of a.m.least a.m.most
    (rdfs a.ci.now a.tail.at n) = sym c.in_ok-len.was ∙ rw z at g.ensures.is in
    let f = rw c.in_ok-len.was at g.ensures.small in
    record {
      step = steps a.ci.now a.tail.at n a.m.least a.m.most c.loop-left-test.true c.in_ok-len.field-0.len
          c.in_ok-len.field-0.count c.in_ok-len.field-0.used e f.3;
      least-is = (front-within a.m.least a.m.most (rdfs a.ci.now a.tail.at n) c.in_ok-len.field-0.len c.in_ok-len.field-0.count c.in_ok-len.field-0.used e).0;
      len = f.0;
      count = f.1;
      taken = f.3;
      takes = f.2;
      holds = f.4;
    }

pub loop-left-init : goal.loop-left-init
loop-left-init c =
    let a = c.args in
    ((omega arith, omega (arith, c.requires.0)), set_out a.m a.ci.now a.tail.bytes (rdfs a.ci.now a.tail.at a.tail.many))

pub group_before-requires : goal.group_before-requires
group_before-requires c =
    let o = c.loop-left in
    let p = c.requires.0 in
    (omega arith, omega (arith, o.invariant.0.1), omega (arith, o.invariant.0.1, o.invariant.0.0, p))

pub returns-in_err-len : goal.returns-in_err-len
returns-in_err-len c =
    let a = c.args in
    let o = c.loop-left in
    let some = c.loop-left-test.true in
    let z : o.q - 3 * o.left ≡ a.tail.at = omega (arith, o.invariant.0.1) in
    c.from_residual.ensures
    ∙ sym (no-group a.m a.ci.now a.tail.bytes (rdfs a.ci.now a.tail.at a.tail.many) a.tail.many a.tail.at o.left o.at o.seen o.last o.invariant.1 some
    (stops a.ci.now a.tail.at o.left a.m.least a.m.most some (sym c.in_err-len.was ∙ rw z at c.group_before.ensures.is)))

pub overflow_add-end : goal.overflow_add-end
overflow_add-end c = omega (arith, prod16 c.in_ok-len.field-0.len c.in_ok-len.field-0.count (group (goal.at.overflow_add-end c).In_ok-len).len (group (goal.at.overflow_add-end c).In_ok-len).count, c.loop-left.invariant.1.inside)

pub returns-then-bytes-end : goal.returns-then-bytes-end
returns-then-bytes-end c =
    let a = c.args in
    let o = c.loop-left in
    let g = group (goal.at.returns-then-bytes-end c).In_ok-len in
    sym (too_long a.m a.ci.now a.tail.bytes (rdfs a.ci.now a.tail.at a.tail.many) a.tail.many a.tail.at o.left o.at o.seen o.last o.invariant.1
    c.loop-left-test.true c.in_ok-len.field-0.len c.in_ok-len.field-0.count c.in_ok-len.field-0.used g.step
    g.holds (omega (arith, g.least-is)) c.if-bytes-end.true)

pub overflow_add-last : goal.overflow_add-last
overflow_add-last c =
    let a = c.args in
    let o = c.loop-left in
    let g = group (goal.at.overflow_add-last c).In_ok-len in
    omega (arith, g.least-is, g.len, o.invariant.1.behind, o.invariant.1.inside)

pub overflow_add-keys : goal.overflow_add-keys
overflow_add-keys c =
    let a = c.args in
    let o = c.loop-left in
    let g = group (goal.at.overflow_add-keys c).In_ok-len in
    omega (arith, g.least-is, g.len, o.invariant.1.inside)

pub run_rises-requires : goal.run_rises-requires
run_rises-requires c =
    let a = c.args in
    let o = c.loop-left in
    let g = group (goal.at.run_rises-requires c).In_ok-len in
    let one = one_less c.in_ok-len.field-0.len c.in_ok-len.field-0.count g.holds in
    ((omega (arith, g.least-is, o.invariant.1.behind, one), omega (arith, g.least-is), omega (arith, g.least-is), omega arith, g.len), omega arith, g.holds)

pub returns-then-not-run_rises : goal.returns-then-not-run_rises
returns-then-not-run_rises c =
    let a = c.args in
    let o = c.loop-left in
    let g = group (goal.at.returns-then-not-run_rises c).In_ok-len in
    sym (falls a.m a.ci.now a.tail.bytes (rdfs a.ci.now a.tail.at a.tail.many) a.tail.many a.tail.at o.left o.at o.seen o.last o.invariant.1
    c.loop-left-test.true c.in_ok-len.field-0.len c.in_ok-len.field-0.count c.in_ok-len.field-0.used g.step
    g.holds (omega (arith, g.least-is)) (sym c.run_rises.ensures ∙ c.if-not-run_rises.true))

pub overflow_add-seen : goal.overflow_add-seen
overflow_add-seen c =
    let a = c.args in
    let o = c.loop-left in
    let g = group (goal.at.overflow_add-seen c).In_ok-len in
    omega (arith, g.count, o.invariant.1.few, o.invariant.1.inside)

pub overflow_sub-q-in-loop-left : goal.overflow_sub-q-in-loop-left
overflow_sub-q-in-loop-left c =
    let o = c.loop-left in
    omega (arith, (group (goal.at.overflow_sub-q-in-loop-left c).In_ok-len).taken, o.invariant.0.1)

pub loop-left-preserved : goal.loop-left-preserved
loop-left-preserved c =
    let a = c.args in
    let o = c.loop-left in
    let g = group (goal.at.loop-left-preserved c).In_ok-len in (
      (omega (arith, g.taken, o.invariant.0.0), omega (arith, g.taken, o.invariant.0.1)),
      goes_on a.m a.ci.now a.tail.bytes (rdfs a.ci.now a.tail.at a.tail.many) a.tail.many a.tail.at o.left o.at o.seen o.last
          o.invariant.1 c.loop-left-test.true c.in_ok-len.field-0.len c.in_ok-len.field-0.count c.in_ok-len.field-0.used
          g.step g.holds (omega (arith, g.least-is)) c.if-bytes-end.false (sym c.run_rises.ensures ∙ c.if-not-run_rises.false),
    )

pub returns-then-at-bytes : goal.returns-then-at-bytes
returns-then-at-bytes c =
    let a = c.args in
    let o = c.loop-left in
    let z : o.left ≡ 0 = omega arith in
    let n : rdfs a.ci.now a.tail.at o.left ≡ [] = rw z (none a.ci.now a.tail.at) in
    let k = rw n at o.invariant.1 in
    sym (ended a.m a.ci.now a.tail.bytes (rdfs a.ci.now a.tail.at a.tail.many) a.tail.many o.at o.seen o.last k ∙ rw (ne_eqb o.at a.tail.bytes c.if-at-bytes.true))

pub returns : goal.returns
returns c =
    let a = c.args in
    let o = c.loop-left in
    let z : o.left ≡ 0 = omega arith in
    let n : rdfs a.ci.now a.tail.at o.left ≡ [] = rw z (none a.ci.now a.tail.at) in
    let k = rw n at o.invariant.1 in
    sym (ended a.m a.ci.now a.tail.bytes (rdfs a.ci.now a.tail.at a.tail.many) a.tail.many o.at o.seen o.last k ∙ rw (eq-eqb o.at a.tail.bytes c.if-at-bytes.false))
