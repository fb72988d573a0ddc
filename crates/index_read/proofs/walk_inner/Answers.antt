use Prim.Native.Nat.{◌+◌, ◌≤◌}
use mathlib.Core.Path.{◌≡◌}
use lib.ListN.{length, set}
use lib.Dec.{eqb}
use native.Mathlib.Omega.{arith}
use borrow.Author.Tests.{ne_eqb}
use Rattle.index.specs.Reading.{length_at}
use Rattle.index_read.specs.AidStand.{Stand}
use Rattle.index_read.proofs.Walking.{NextReach, by-look, by_front, roomy, ready, first-empty, sighted, within, length-is, ends-left, ends-top, ends_last, ends_found, ends-bad, ends-big, ends-again, passes_on, goes_on, ends_open}
use Rattle.index_read.proofs.walk_inner.Goals as goal
use Rattle.index_read.proofs.walk_inner.Goals.{In-loop-left, After-from, Joined-from-reach, then-from-reach+else-reach-eq0, else-from-reach}

-- at each turn
stand : (l : In-loop-left)
    → Stand l.args.ib.now l.args.by l.args.key.now l.requires.stands.old l.loop-left.seen l.loop-left.buf
    l.requires.stands.high l.loop-left.p (eqb l.loop-left.left l.args.from.left) l.loop-left.left l.loop-left.reach
stand l = let x = l.requires.stands in l.loop-left.invariant.goes x.old x.high x.stand

-- the control information lies in the record
begins : (l : In-loop-left) → l.args.by.width + 2 ≤ l.loop-left.p.right
begins l =
    let o = l.loop-left in
    let a = l.args in
    roomy a.ib.now a.by a.key.now l.requires.stands.old o.seen o.buf l.requires.stands.high o.p (eqb o.left a.from.left) o.left o.reach (stand l) l.requires.walkable.0

ends : (l : In-loop-left) → l.loop-left.p.right + 7 ≤ length l.args.ib.now
ends l =
    let o = l.loop-left in
    let a = l.args in
    within a.ib.now a.by a.key.now l.requires.stands.old o.seen o.buf l.requires.stands.high o.p (eqb o.left a.from.left) o.left o.reach (stand l)

-- the length of the entry, and the reach past it
long : (c : After-from) → c.from.result ≡ length_at c.args.by.width c.args.ib.now c.loop-left.p.right
long c =
    let o = c.loop-left in
    let a = c.args in
    let x = c.requires.stands in
    length-is a.ib.now a.by a.key.now x.old o.seen o.buf x.high o.p (eqb o.left a.from.left) o.left o.reach (o.invariant.goes x.old x.high x.stand) c.requires.walkable.0
    c.from.result c.from.ensures

reaches : (c : Joined-from-reach) → NextReach c.args.ib.now c.loop-left.p c.args.by c.args.key.now c.loop-left.reach c.if-from-reach.reach
reaches c =
    let o = c.loop-left in
    let a = c.args in
    elim c.if-from-reach.branch [
      | then-from-reach+else-reach-eq0 h ↦
          by-look a.ib.now o.p a.by a.key.now o.reach c.if-from-reach.reach c.from-in-loop-left.result c.from-in-loop-left.ensures h.look-reach.result h.if-from-reach.true h.look-reach.ensures h.if-reach-eq0.false h.reach-is
      | else-from-reach h ↦
          by_front a.ib.now o.p a.by a.key.now o.reach c.if-from-reach.reach c.from-in-loop-left.result c.from-in-loop-left.ensures h.if-from-reach.false h.reach-is
    ]

pub overflow_sub-c : goal.overflow_sub-c
overflow_sub-c c = begins (goal.at.overflow_sub-c c).In-loop-left

pub returns-then-c-p : goal.returns-then-c-p
returns-then-c-p c =
    let o = c.loop-left in
    let a = c.args in
    ends-top a.ib.now a.by a.key.now a.seen.now a.buf.now a.from o.seen o.buf o.p o.left o.reach o.invariant c.loop-left-test.true c.requires.walkable.0
    c.if-c-p.true

pub bounds-ib-c : goal.bounds-ib-c
bounds-ib-c c = omega (arith, begins (goal.at.bounds-ib-c c).In-loop-left, ends (goal.at.bounds-ib-c c).In-loop-left)

pub returns-then-c-by : goal.returns-then-c-by
returns-then-c-by c =
    let o = c.loop-left in
    let a = c.args in
    ends-left a.ib.now a.by a.key.now a.seen.now a.buf.now a.from o.seen o.buf o.p o.left o.reach o.invariant c.loop-left-test.true c.requires.walkable.0 o.seen o.buf
    c.from.result (long (goal.at.returns-then-c-by c).After-from) c.if-c-by.true

pub bounds-ib-c-in-loop-left : goal.bounds-ib-c-in-loop-left
bounds-ib-c-in-loop-left c = omega (arith, begins (goal.at.bounds-ib-c-in-loop-left c).In-loop-left, ends (goal.at.bounds-ib-c-in-loop-left c).In-loop-left)

pub look-reach-requires : goal.look-reach-requires
look-reach-requires c =
    let o = c.loop-left in
    let a = c.args in record {
      le_width = sighted a.ib.now a.by a.key.now c.requires.stands.old o.seen o.buf c.requires.stands.high o.p (eqb o.left a.from.left) o.left o.reach (stand (goal.at.look-reach-requires c).In-loop-left) c.requires.walkable.0
          (omega (arith, c.if-from-reach.true));
      which = ne_eqb _ _ c.if-c-p.false;
    }

pub returns-then-left-eq1 : goal.returns-then-left-eq1
returns-then-left-eq1 c =
    let o = c.loop-left in
    let a = c.args in
    ends_last a.ib.now a.by a.key.now a.seen.now a.buf.now a.from o.seen o.buf o.p o.left o.reach o.invariant c.loop-left-test.true c.requires.walkable.0
    o.seen o.buf c.if-left-eq1.true (ne_eqb _ _ c.if-c-p.false)

pub returns-then-reach-eq0 : goal.returns-then-reach-eq0
returns-then-reach-eq0 c =
    let o = c.loop-left in
    let a = c.args in
    ends_found a.ib.now a.by a.key.now a.seen.now a.buf.now a.from o.seen o.buf o.p o.left o.reach o.invariant c.loop-left-test.true c.requires.walkable.0
    c.if-left-eq1.false c.from-in-loop-left.result c.look-reach.result c.from-in-loop-left.ensures c.if-from-reach.true c.look-reach.ensures c.if-reach-eq0.true

pub read_pointer-number-requires : goal.read_pointer-number-requires
read_pointer-number-requires c =
    (c.requires.walkable.0.few, omega (arith, begins (goal.at.read_pointer-number-requires c).In-loop-left, ends (goal.at.read_pointer-number-requires c).In-loop-left))

pub returns-then-by-number : goal.returns-then-by-number
returns-then-by-number c =
    let o = c.loop-left in
    let a = c.args in
    ends-big a.ib.now a.by a.key.now a.seen.now a.buf.now a.from o.seen o.buf o.p o.left o.reach o.invariant c.loop-left-test.true c.requires.walkable.0
    c.read_pointer-number.result c.read_pointer-number.ensures.0 o.seen o.buf c.if-by-number.true

pub returns-then-seen-number-ne0 : goal.returns-then-seen-number-ne0
returns-then-seen-number-ne0 c =
    let o = c.loop-left in
    let a = c.args in
    ends-again a.ib.now a.by a.key.now a.seen.now a.buf.now a.from o.seen o.buf o.p o.left o.reach o.invariant c.loop-left-test.true c.requires.walkable.0
    c.read_pointer-number.result c.read_pointer-number.ensures.0 o.seen o.buf c.if-seen-number-ne0.true

pub next_inner-requires : goal.next_inner-requires
next_inner-requires c =
    let o = c.loop-left in
    let a = c.args in record {
      before = (
        ready a.ib.now a.by a.key.now c.requires.stands.old o.seen o.buf c.requires.stands.high o.p (eqb o.left a.from.left) o.left o.reach (stand (goal.at.next_inner-requires c).In-loop-left) c.requires.walkable.0,
        first-empty a.ib.now a.by a.key.now c.requires.stands.old o.seen o.buf c.requires.stands.high o.p (eqb o.left a.from.left) o.left o.reach (stand (goal.at.next_inner-requires c).In-loop-left),
      );
      which = ne_eqb _ _ c.if-c-p.false;
      lies = omega (arith, begins (goal.at.next_inner-requires c).In-loop-left, long (goal.at.next_inner-requires c).After-from, c.if-c-by.false);
    }

pub returns-in_default : goal.returns-in_default
returns-in_default c = λ old high st.
    let o = c.loop-left in
    let a = c.args in
    let x = c.next_inner in
    ends-bad a.ib.now a.by a.key.now a.seen.now a.buf.now a.from o.seen o.buf o.p o.left o.reach o.invariant c.loop-left-test.true c.requires.walkable.0
    (set o.seen c.read_pointer-number.result 1) x.new.buf x.result x.ensures.is c.in_default.is old high st

pub past-p-requires : goal.past-p-requires
past-p-requires c =
    let o = c.loop-left in
    let a = c.args in
    let x = c.next_inner in
    passes_on a.ib.now a.by a.key.now a.seen.now a.buf.now a.from o.seen o.buf o.p o.left o.reach o.invariant c.loop-left-test.true c.requires.walkable.0
    x.result c.in-Some.s x.ensures.is c.in-Some.is c.requires.stands.old c.requires.stands.high (stand (goal.at.past-p-requires c).In-loop-left)

pub loop-left-preserved : goal.loop-left-preserved
loop-left-preserved c =
    let o = c.loop-left in
    let a = c.args in
    let x = c.next_inner in
    goes_on a.ib.now a.by a.key.now a.seen.now a.buf.now a.from o.seen o.buf o.p o.left o.reach o.invariant c.loop-left-test.true c.requires.walkable.0
    x.result c.in-Some.s x.ensures.is c.in-Some.is x.new.buf x.ensures.renewed x.auto.buf c.past-p.result c.past-p.ensures (ne_eqb _ _ c.if-c-p.false)
    c.if-from-reach.reach (reaches (goal.at.loop-left-preserved c).Joined-from-reach) c.read_pointer-number.result c.read_pointer-number.ensures.0 c.if-by-number.false c.if-seen-number-ne0.false

pub returns : goal.returns
returns c =
    let o = c.loop-left in
    let a = c.args in
    ends_open a.ib.now a.by a.key.now a.seen.now a.buf.now a.from o.seen o.buf o.p o.left o.reach o.invariant c.requires.walkable.1 (omega arith)
