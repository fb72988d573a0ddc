use Prim.Native.Nat.{◌<◌}
use mathlib.Core.Path.{◌≡◌, sym, ◌∙◌}
use mathlib.Core.List.{[]}
use lib.ListN.{length, take}
use lib.Dec.{eqb}
use native.Mathlib.Omega.{arith}
use borrow.Author.Rules.{rules}
use Rattle.fields.specs.Choice.{pick}
use Rattle.measures.specs.Judgement.{width_for}
use Rattle.measures.proofs.Fine.{fits-small, fits-large}
use Rattle.interval.proofs.Readable.{fits-checkable}
use Rattle.interval_read.specs.AidOpened.{opened_of}
use Rattle.index.specs.Bounds.{bound}
use Rattle.sections.specs.Reading.{read_index}
use Rattle.index_step.specs.AidStep.{step_at}
use Rattle.index_step.proofs.Stepping.{entries-count}
use Rattle.area.specs.Content.{data_in}
use Rattle.area.proofs.Places.{data-ends, data-small, length-lent, lent-data}
use Rattle.area_read.specs.AidEntries.{Closed}
use Rattle.area_read.proofs.Entries.{setting-out, arrived, entry-lies, within, before-short, renew-fits, past_fits, own-inside, own-long, own-short, seen_few, onward}
use Rattle.area_read.proofs.used_worst.Goals as goal
use Rattle.area_read.proofs.used_worst.Goals.{After-entry_at-s, After-opens-opened, After-closed-seen}

-- it was taken apart, by the width that the definitions say
stepped : (c : After-entry_at-s) → c.entry_at-s.result ≡ step_at (width_for c.args.n) c.args.ib.now c.loop-i.p.right c.loop-i.p.end
stepped c = rw c.width_for-w.ensures at c.entry_at-s.ensures.is

-- its interval is one of the area's
inside : (c : After-entry_at-s) → c.entry_at-s.result.number < c.args.n
inside c =
    let a = c.args in
    let o = c.loop-i in
    within a.m a.n a.area.now a.ib.now a.worst o.buf o.high o.p o.i o.lowest o.records o.invariant (omega (arith, c.requires.3, c.loop-i-test.true)) c.entry_at-s.result (stepped c)

-- its interval as it was opened and closed, in the definition's words
opened-is : (c : After-opens-opened) → c.entry_at-s.result.number < c.args.n
    → c.opens-opened.result
    ≡ opened_of c.args.m (pick (eqb c.loop-i.i 0) [] (bound c.args.m.key (take c.loop-i.p.len c.loop-i.buf))) (data_in c.args.m c.args.area.now c.entry_at-s.result.number)
opened-is c k =
    let a = c.args in
    rw (lent-data a.m a.n a.area.now c.requires.0 c.entry_at-s.result.number k) at c.opens-opened.ensures.is

closed_is : (c : After-closed-seen) → c.entry_at-s.result.number < c.args.n
    → Closed c.args.m (data_in c.args.m c.args.area.now c.entry_at-s.result.number) (bound c.args.m.key (take c.past-p.result.len c.renew.new.buf)) c.opens-opened.result
    c.closed-seen.result
closed_is c k =
    let a = c.args in
    rw (lent-data a.m a.n a.area.now c.requires.0 c.entry_at-s.result.number k) at c.closed-seen.ensures

pub start-p-requires : goal.start-p-requires
start-p-requires c = omega (arith, c.requires.1, fits-large c.requires.0)

pub loop-i-init : goal.loop-i-init
loop-i-init c =
    let a = c.args in
    setting-out a.m a.n a.area.now a.ib.now a.worst c.start-p.result (omega (arith, c.requires.1, fits-large c.requires.0)) c.requires.0.key-most c.requires.2 c.start-p.ensures

pub entry_at-s-requires : goal.entry_at-s-requires
entry_at-s-requires c =
    let a = c.args in
    let o = c.loop-i in
    rw c.width_for-w.ensures (entry-lies a.m a.n a.area.now a.ib.now a.worst o.buf o.high o.p o.i o.lowest o.records o.invariant (omega (arith, c.requires.3, c.loop-i-test.true)))

pub overflow_add-a : goal.overflow_add-a
overflow_add-a c = omega (arith, inside (goal.at.overflow_add-a c).After-entry_at-s, c.requires.0.few)

pub overflow_mul-a : goal.overflow_mul-a
overflow_mul-a c =
    let a = c.args in
    omega (arith, data-small a.m a.n a.area.now c.requires.0 c.entry_at-s.result.number (inside (goal.at.overflow_mul-a c).After-entry_at-s))

pub overflow_add-e : goal.overflow_add-e
overflow_add-e c =
    let a = c.args in
    omega (arith, data-small a.m a.n a.area.now c.requires.0 c.entry_at-s.result.number (inside (goal.at.overflow_add-e c).After-entry_at-s), fits-small c.requires.0)

pub slice_bounds-opens-end : goal.slice_bounds-opens-end
slice_bounds-opens-end c =
    let a = c.args in
    let z = data-ends a.m a.n a.area.now c.requires.0 c.entry_at-s.result.number (inside (goal.at.slice_bounds-opens-end c).After-entry_at-s) in
    search rules

pub opens-opened-requires : goal.opens-opened-requires
opens-opened-requires c =
    let a = c.args in
    let o = c.loop-i in
    let z = length-lent a.m a.n a.area.now c.requires.0 c.entry_at-s.result.number (inside (goal.at.opens-opened-requires c).After-entry_at-s) in
    (fits-checkable c.requires.0 _ z, before-short a.m a.n a.area.now a.ib.now a.worst o.buf o.high o.p o.i o.lowest o.records o.invariant (omega (arith, c.requires.3, c.loop-i-test.true)))

pub renew-requires : goal.renew-requires
renew-requires c =
    let a = c.args in
    let o = c.loop-i in
    renew-fits a.m a.n a.area.now a.ib.now a.worst o.buf o.high o.p o.i o.lowest o.records o.invariant (omega (arith, c.requires.3, c.loop-i-test.true)) c.entry_at-s.result (stepped (goal.at.renew-requires c).After-entry_at-s)

pub past-p-requires : goal.past-p-requires
past-p-requires c =
    let a = c.args in
    let o = c.loop-i in
    past_fits a.m a.n a.area.now a.ib.now a.worst o.buf o.high o.p o.i o.lowest o.records o.invariant (omega (arith, c.requires.3, c.loop-i-test.true)) c.entry_at-s.result (stepped (goal.at.past-p-requires c).After-entry_at-s)

pub slice_bounds-buf-end-in-loop-i : goal.slice_bounds-buf-end-in-loop-i
slice_bounds-buf-end-in-loop-i c =
    let a = c.args in
    let o = c.loop-i in
    own-inside a.m a.n a.area.now a.ib.now a.worst o.buf o.high o.p o.i o.lowest o.records o.invariant (omega (arith, c.requires.3, c.loop-i-test.true)) c.entry_at-s.result (stepped (goal.at.slice_bounds-buf-end-in-loop-i c).After-entry_at-s)
    c.renew.new.buf c.renew.new.high c.past-p.result c.renew.ensures c.past-p.ensures (c.renew.auto.buf ∙ o.invariant.whole)

pub slice_bounds-closed-end-in-loop-i : goal.slice_bounds-closed-end-in-loop-i
slice_bounds-closed-end-in-loop-i c =
    let a = c.args in
    let o = c.loop-i in
    sym (own-long a.m a.n a.area.now a.ib.now a.worst o.buf o.high o.p o.i o.lowest o.records o.invariant (omega (arith, c.requires.3, c.loop-i-test.true)) c.entry_at-s.result (stepped (goal.at.slice_bounds-closed-end-in-loop-i c).After-entry_at-s) c.renew.new.buf c.renew.new.high c.past-p.result c.renew.ensures c.past-p.ensures (c.renew.auto.buf ∙ o.invariant.whole))

pub closed-seen-requires : goal.closed-seen-requires
closed-seen-requires c =
    let a = c.args in
    let o = c.loop-i in
    let z = length-lent a.m a.n a.area.now c.requires.0 c.entry_at-s.result.number (inside (goal.at.closed-seen-requires c).After-entry_at-s) in (
      fits-checkable c.requires.0 _ z,
      c.opens-opened.ensures.inside,
      own-short a.m a.n a.area.now a.ib.now a.worst o.buf o.high o.p o.i o.lowest o.records o.invariant (omega (arith, c.requires.3, c.loop-i-test.true)) c.entry_at-s.result (stepped (goal.at.closed-seen-requires c).After-entry_at-s)
          c.renew.new.buf c.renew.new.high c.past-p.result c.renew.ensures c.past-p.ensures (c.renew.auto.buf ∙ o.invariant.whole),
    )

pub overflow_add-records : goal.overflow_add-records
overflow_add-records c =
    let a = c.args in
    let o = c.loop-i in
    let more : o.i < length (read_index (width_for a.n) a.n a.ib.now).entries = omega (arith, c.requires.3, c.loop-i-test.true) in
    let k = inside (goal.at.overflow_add-records c).After-entry_at-s in
    omega (
      arith,
      o.invariant.few,
      seen_few a.m a.n a.area.now a.ib.now a.worst o.buf o.high o.p o.i o.lowest o.records o.invariant more c.entry_at-s.result (stepped (goal.at.overflow_add-records c).After-entry_at-s) c.renew.new.buf
          c.renew.new.high c.past-p.result c.renew.ensures c.past-p.ensures (c.renew.auto.buf ∙ o.invariant.whole) c.requires.0 c.opens-opened.result c.closed-seen.result
          (opened-is (goal.at.overflow_add-records c).After-opens-opened k) (closed_is (goal.at.overflow_add-records c).After-closed-seen k),
      more,
      entries-count (width_for a.n) a.n a.ib.now,
      c.requires.0.few,
    )

pub loop-i-preserved : goal.loop-i-preserved
loop-i-preserved c =
    let a = c.args in
    let o = c.loop-i in
    rw (c.noted-lowest.ensures, c.is_some.ensures, c.unwrap_or-records.ensures)
    (onward a.m a.n a.area.now a.ib.now a.worst o.buf o.high o.p o.i o.lowest o.records o.invariant (omega (arith, c.requires.3, c.loop-i-test.true)) c.entry_at-s.result (stepped (goal.at.loop-i-preserved c).After-entry_at-s)
    c.renew.new.buf c.renew.new.high c.past-p.result c.renew.ensures c.past-p.ensures (c.renew.auto.buf ∙ o.invariant.whole)
    c.requires.0 c.opens-opened.result c.closed-seen.result (opened-is (goal.at.loop-i-preserved c).After-opens-opened (inside (goal.at.loop-i-preserved c).After-entry_at-s)) (closed_is (goal.at.loop-i-preserved c).After-closed-seen (inside (goal.at.loop-i-preserved c).After-entry_at-s)) (c.renew.auto.high ∙ o.invariant.whole'))

pub returns : goal.returns
returns c =
    let a = c.args in
    let o = c.loop-i in
    let told = arrived a.m a.n a.area.now a.ib.now a.worst o.buf o.high o.p o.i o.lowest o.records o.invariant (omega (arith, c.requires.3)) in record { lowest = told.0; counted = told.1 }
