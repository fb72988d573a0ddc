-- No loop. The first of the later parts ends where the second cut is, or with the last record (last-is), and can be stored in interval a (later-storable). That leaves
-- the old interval as it was, so that the edit is still seen there (later-seen), and the last of three parts can be stored in interval b (Keeping).
use mathlib.Core.Path.{◌≡◌, ◌∙◌}
use lib.ListN.{length}
use native.Mathlib.Omega.{arith}
use borrow.Author.Tests.{eq-eqb, ne_eqb}
use Rattle.fields.specs.Choice.{pick}
use Rattle.change_plan.specs.AidParts.{three_of}
use Rattle.change_write.proofs.Keeping.{place-small, later-storable, one-taken, later-seen, last-storable, two-taken}
use Rattle.change_write.proofs.store_taken.Goals as goal
use Rattle.change_write.proofs.store_taken.Goals.{Joined-parts-eq3, then-parts-eq3, else-parts-eq3}

-- where the first of the later parts ends
last-is : (j : Joined-parts-eq3)
    → j.if-parts-eq3.last ≡ pick (three_of j.args.spread.parts) j.args.spread.parts.second (length j.args.lens.now)
last-is j =
    let p = j.args.spread.parts in
    elim j.if-parts-eq3.branch [
      | then-parts-eq3 w ↦ w.last-is ∙ rw (eq-eqb p.many 3 w.if-parts-eq3.true)
      | else-parts-eq3 w ↦ w.last-is ∙ rw (ne_eqb p.many 3 w.if-parts-eq3.false)
    ]

pub overflow_add-middle : goal.overflow_add-middle
overflow_add-middle c =
    let a = c.args in
    omega (arith, place-small a.m a.area.now a.new.now a.lens.now a.spread c.requires a.spread.a c.requires.a-there)

pub store-requires : goal.store-requires
store-requires c =
    let a = c.args in
    (c.requires.seen, later-storable a.m a.area.now a.new.now a.lens.now a.spread c.requires c.if-parts-eq3.last (last-is (goal.at.store-requires c).Joined-parts-eq3))

pub overflow_add-end : goal.overflow_add-end
overflow_add-end c =
    let a = c.args in
    let z = eq-eqb a.spread.parts.many 3 c.if-parts-eq3-2.true in
    omega (arith, place-small a.m a.area.now a.new.now a.lens.now a.spread c.requires a.spread.b (c.requires.b_there z))

pub store-requires-then-parts-eq3-2 : goal.store-requires-then-parts-eq3-2
store-requires-then-parts-eq3-2 c =
    let a = c.args in
    let z = eq-eqb a.spread.parts.many 3 c.if-parts-eq3-2.true in
    let told = last-is (goal.at.store-requires-then-parts-eq3-2 c).Joined-parts-eq3 in (
      later-seen a.m a.area.now a.new.now a.lens.now a.spread c.requires c.if-parts-eq3.last told c.store.new.area c.store.ensures,
      last-storable a.m a.area.now a.new.now a.lens.now a.spread c.requires c.if-parts-eq3.last told c.store.new.area c.store.ensures z,
    )

pub returns-then-parts-eq3-2 : goal.returns-then-parts-eq3-2
returns-then-parts-eq3-2 c =
    let a = c.args in
    let z = eq-eqb a.spread.parts.many 3 c.if-parts-eq3-2.true in
    two-taken a.m a.area.now a.new.now a.lens.now a.spread c.requires c.if-parts-eq3.last (last-is (goal.at.returns-then-parts-eq3-2 c).Joined-parts-eq3) c.store.new.area c.store.ensures z
    c.store-then-parts-eq3-2.new.area c.store-then-parts-eq3-2.ensures

pub returns-else-parts-eq3-2 : goal.returns-else-parts-eq3-2
returns-else-parts-eq3-2 c =
    let a = c.args in
    one-taken a.m a.area.now a.new.now a.lens.now a.spread c.requires c.if-parts-eq3.last (last-is (goal.at.returns-else-parts-eq3-2 c).Joined-parts-eq3) c.store.new.area c.store.ensures
    (ne_eqb a.spread.parts.many 3 c.if-parts-eq3-2.false)
