use mathlib.Core.Path.{refl, sym, ◌∙◌, ap}
use mathlib.Core.Bool.{true}
use mathlib.Core.Logic.{inl, inr}
use lib.ListN.{replicate}
use native.Mathlib.Omega.{arith}
use Rattle.index_step.specs.declared.PassPlace.{PassPlace}
use Rattle.index_read.specs.AidStand.{Paused}
use Rattle.index_read.proofs.Entry.{chosen}
use Rattle.index_read.proofs.Walking.{start, ready, first-empty, bad-entry, at-end, aimable, tall}
use Rattle.index_read.proofs.Finding.{Begun, begun-few, begun-keyed, finding-start, above-start, Meets, Turn, turn-big, turn-again, turn-passes, turn-keeps, turn_on, turn-above, turn-finds, finding-end}
use Rattle.index_read.proofs.mark_entries.Goals as goal
use Rattle.index_read.proofs.mark_entries.Goals.{Joined-key-eq0, In-Some, Joined-reach-eq0, In-Some-next_entry, then-key-eq0, else-key-eq0, then-reach-eq0, else-reach-eq0, then-meets, else-meets}

-- before the first entry
begun : (c : Joined-key-eq0) → Begun c.args.key.now c.if-key-eq0.reach
begun c = elim c.if-key-eq0.branch [ then-key-eq0 h ↦ inl (h.if-key-eq0.true, h.reach-is) | else-key-eq0 h ↦ inr (h.if-key-eq0.false, h.reach-is) ]

-- past a section's entries
paused : (c : In-Some)
    → Paused c.args.ib.now c.args.by c.args.key.now c.args.seen.now (record { p = c.loop-left.p; left = c.loop-left.left; reach = c.loop-left.reach }) c.walk_inner.new.seen
    c.walk_inner.new.buf c.loop-left.high c.in-Some.stop.p c.in-Some.stop.left
paused c = c.in-Some.ensures c.args.seen.now c.loop-left.high c.loop-left.invariant.0

-- whether the key leads to the next entry
meets : (c : Joined-reach-eq0) → Meets c.loop-left.reach c.aimed-aim.result c.if-reach-eq0.meets
meets c = elim c.if-reach-eq0.branch [ then-reach-eq0 h ↦ inl (h.if-reach-eq0.true, h.meets-is) | else-reach-eq0 h ↦ inr (h.if-reach-eq0.false, h.meets-is) ]

-- what the next entry says
turn : (c : In-Some-next_entry)
    → Turn c.args.ib.now c.args.by c.args.key.now c.args.seen.now (record { p = c.loop-left.p; left = c.loop-left.left; reach = c.loop-left.reach }) c.walk_inner.new.seen
    c.walk_inner.new.buf c.loop-left.high c.in-Some.stop.p c.in-Some.stop.left c.in-Some-next_entry.s c.next_entry.new.buf c.next_entry.new.high
turn c =
    let n = c.next_entry in
    record {
      paused = c.in-Some.ensures c.args.seen.now c.loop-left.high c.loop-left.invariant.0;
      walkable = c.requires.0;
      entry = sym c.in-Some-next_entry.ensures.is;
      renewed = c.in-Some-next_entry.ensures.renewed;
      long = n.auto.buf;
      long' = n.auto.high;
      above = c.loop-left.invariant.2;
    }

pub loop-left-init : goal.loop-left-init
loop-left-init c =
    let a = c.args in
    let b = begun (goal.at.loop-left-init c).Joined-key-eq0 in (
      start a.ib.now a.by a.key.now a.seen.now c.start-p.result c.if-key-eq0.reach c.start-p.ensures c.requires.0.large c.requires.0.inside c.requires.1 (begun-few a.key.now c.if-key-eq0.reach b)
          (begun-keyed a.key.now c.if-key-eq0.reach b a.by.key c.requires.0.wanted),
      finding-start a.ib.now a.by a.key.now a.before.now a.own.now c.default-spot.result c.if-key-eq0.reach b c.requires.2 c.requires.3,
      above-start a.key.now (replicate 263 0) c.start-p.result.high c.if-key-eq0.reach (ap (λ (x : PassPlace). x.high) c.start-p.ensures) (begun-few a.key.now c.if-key-eq0.reach b),
    )

pub returns-in_default-clause-sound : goal.returns-in_default-clause-sound
returns-in_default-clause-sound c = c.in_default.ensures c.args.seen.now c.loop-left.high c.loop-left.invariant.0

pub aimed-aim-requires : goal.aimed-aim-requires
aimed-aim-requires c =
    let x = c.walk_inner in
    let a = c.args in
    let o = c.loop-left in
    let e = c.in-Some.stop in
    aimable a.ib.now a.by a.key.now a.seen.now (record { p = o.p; left = o.left; reach = o.reach }) x.new.seen x.new.buf o.high e.p e.left (paused (goal.at.aimed-aim-requires c).In-Some)
    c.requires.0

pub keep-requires : goal.keep-requires
keep-requires c =
    let t = (paused (goal.at.keep-requires c).In-Some).stand in
    (t.held.short, omega (arith, c.loop-left.invariant.1.low), t.held.whole)

pub next_entry-requires : goal.next_entry-requires
next_entry-requires c =
    let x = c.walk_inner in
    let o = c.loop-left in
    let a = c.args in
    let e = c.in-Some.stop in
    let t = paused (goal.at.next_entry-requires c).In-Some in
    record {
      before = (
        ready a.ib.now a.by a.key.now a.seen.now x.new.seen x.new.buf o.high e.p true e.left t.reach t.stand c.requires.0,
        first-empty a.ib.now a.by a.key.now a.seen.now x.new.seen x.new.buf o.high e.p true e.left t.reach t.stand,
      );
      tall = tall a.ib.now a.by a.key.now a.seen.now x.new.seen x.new.buf o.high e.p true e.left t.reach t.stand c.requires.0.most;
    }

pub returns-in_default-next_entry-clause-sound : goal.returns-in_default-next_entry-clause-sound
returns-in_default-next_entry-clause-sound c =
    let x = c.walk_inner in
    let o = c.loop-left in
    let a = c.args in
    let e = c.in-Some.stop in
    let t = paused (goal.at.returns-in_default-next_entry-clause-sound c).In-Some in
    bad-entry a.ib.now a.by a.key.now a.seen.now x.new.seen x.new.buf o.high e.p true e.left t.reach t.stand t.some c.requires.0.least (sym c.in_default-next_entry.ensures.is)

pub returns-then-by-number-clause-sound : goal.returns-then-by-number-clause-sound
returns-then-by-number-clause-sound c = turn-big (turn (goal.at.returns-then-by-number-clause-sound c).In-Some-next_entry) c.if-by-number.true

pub returns-then-seen-number-ne0-clause-sound : goal.returns-then-seen-number-ne0-clause-sound
returns-then-seen-number-ne0-clause-sound c = turn-again (turn (goal.at.returns-then-seen-number-ne0-clause-sound c).In-Some-next_entry) c.if-seen-number-ne0.true

pub past-p-requires : goal.past-p-requires
past-p-requires c = turn-passes (turn (goal.at.past-p-requires c).In-Some-next_entry)

pub overflow_sub-left : goal.overflow_sub-left
overflow_sub-left c = (paused (goal.at.overflow_sub-left c).In-Some).some

pub overflow_sub-spot : goal.overflow_sub-spot
overflow_sub-spot c = (paused (goal.at.overflow_sub-spot c).In-Some).stand.few

pub keep-requires-in-loop-left : goal.keep-requires-in-loop-left
keep-requires-in-loop-left c =
    let o = c.loop-left in
    turn-keeps (turn (goal.at.keep-requires-in-loop-left c).In-Some-next_entry) c.past-p.result c.past-p.ensures o.own o.invariant.1.high

pub loop-left-smaller : goal.loop-left-smaller
loop-left-smaller c =
    let t = paused (goal.at.loop-left-smaller c).In-Some in
    omega (arith, t.some, t.few)

pub loop-left-preserved : goal.loop-left-preserved
loop-left-preserved c =
    let e = c.aimed-aim in
    let o = c.loop-left in
    let t = turn (goal.at.loop-left-preserved c).In-Some-next_entry in (
      turn_on t c.past-p.result c.past-p.ensures e.result e.ensures c.if-by-number.false c.if-seen-number-ne0.false,
      turn-finds t c.past-p.result c.past-p.ensures e.result e.ensures o.before o.own o.spot o.invariant.1 c.if-reach-eq0.meets (meets (goal.at.loop-left-preserved c).Joined-reach-eq0) c.keep.new.to c.keep-in-loop-left.new.to
          c.if-meets.spot c.keep.ensures c.keep-in-loop-left.ensures
          (chosen _ _ _ _ (elim c.if-meets.branch [ then-meets h ↦ inl (h.if-meets.true, h.spot-is) | else-meets h ↦ inr (h.if-meets.false, h.spot-is) ])),
      turn-above t c.past-p.result c.past-p.ensures e.result e.ensures,
    )

pub returns-then-not-ends-clause-sound : goal.returns-then-not-ends-clause-sound
returns-then-not-ends-clause-sound c =
    let o = c.loop-left in
    let a = c.args in
    sym c.if-not-ends.true ∙ c.ends.ensures ∙ at-end a.ib.now a.by a.key.now a.seen.now o.seen o.buf o.high o.p true o.left o.reach o.invariant.0 (omega arith) refl

pub returns : goal.returns
returns c =
    let o = c.loop-left in
    let a = c.args in
    let fine = sym c.if-not-ends.false ∙ c.ends.ensures ∙ at-end a.ib.now a.by a.key.now a.seen.now o.seen o.buf o.high o.p true o.left o.reach o.invariant.0 (omega arith) refl in record {
      sound = fine;
      found = λ sought. finding-end a.ib.now a.by a.key.now a.seen.now o.seen o.buf o.high o.p o.left o.reach o.invariant.0 (omega arith) c.requires.1 o.before o.own o.spot o.invariant.1 sought (sym fine);
    }
