use Prim.Native.Nat.{◌≤◌}
use mathlib.Core.Path.{◌≡◌, sym, ◌∙◌}
use lib.ListN.{length}
use native.Mathlib.Omega.{arith}
use Rattle.measures.specs.Judgement.{width_for}
use Rattle.index_step.specs.AidStep.{step_at}
use Rattle.index_find.proofs.Finding.{start, not-past, entry-lies, renew-fits, past_fits, below-fits, found, onward}
use Rattle.index_find.proofs.locate.Goals as goal
use Rattle.index_find.proofs.locate.Goals.{After-entry_at-s}

-- the entry that was taken apart, by the width that the definitions say
stepped : (c : After-entry_at-s) → c.entry_at-s.result ≡ step_at (width_for c.args.n) c.args.ib.now c.loop-i.p.right c.loop-i.p.end
stepped c = rw c.width_for-w.ensures at c.entry_at-s.ensures.is

pub loop-i-init : goal.loop-i-init
loop-i-init c = start c.args.ib.now c.args.n c.args.key.now c.start-p.result c.requires c.start-p.ensures

pub entry_at-s-requires : goal.entry_at-s-requires
entry_at-s-requires c =
    let a = c.args in
    let o = c.loop-i in
    rw c.width_for-w.ensures (entry-lies a.ib.now a.n a.key.now o.buf o.high o.p o.i c.requires (λ i. omega (arith, c.type_inv.key i)) o.invariant)

pub renew-requires : goal.renew-requires
renew-requires c =
    let a = c.args in
    let o = c.loop-i in
    renew-fits a.ib.now a.n a.key.now o.buf o.high o.p o.i c.requires (λ i. omega (arith, c.type_inv.key i)) o.invariant c.entry_at-s.result (stepped (goal.at.renew-requires c).After-entry_at-s)

pub is_below-requires : goal.is_below-requires
is_below-requires c =
    let a = c.args in
    let o = c.loop-i in
    let h =
    below-fits a.ib.now a.n a.key.now o.buf o.high o.p o.i c.requires (λ i. omega (arith, c.type_inv.key i)) o.invariant c.entry_at-s.result (stepped (goal.at.is_below-requires c).After-entry_at-s) in
    (omega (arith, h, c.renew.auto.buf, o.invariant.whole, c.requires.short), h)

pub returns-then-not-is_below : goal.returns-then-not-is_below
returns-then-not-is_below c =
    let a = c.args in
    let o = c.loop-i in
    found a.ib.now a.n a.key.now o.buf o.high o.p o.i c.requires (λ i. omega (arith, c.type_inv.key i)) o.invariant c.entry_at-s.result (stepped (goal.at.returns-then-not-is_below c).After-entry_at-s)
    c.renew.new.buf c.renew.new.high c.renew.ensures c.if-not-is_below.ensures

pub past-p-requires : goal.past-p-requires
past-p-requires c =
    let a = c.args in
    let o = c.loop-i in
    past_fits a.ib.now a.n a.key.now o.buf o.high o.p o.i c.requires (λ i. omega (arith, c.type_inv.key i)) o.invariant c.entry_at-s.result (stepped (goal.at.past-p-requires c).After-entry_at-s)

pub loop-i-preserved : goal.loop-i-preserved
loop-i-preserved c =
    let a = c.args in
    let o = c.loop-i in
    let r = c.renew in
    onward a.ib.now a.n a.key.now o.buf o.high o.p o.i c.requires (λ i. omega (arith, c.type_inv.key i)) o.invariant c.entry_at-s.result (stepped (goal.at.loop-i-preserved c).After-entry_at-s)
    r.new.buf r.new.high r.ensures c.if-not-is_below.ensures c.past-p.result c.past-p.ensures (r.auto.buf ∙ o.invariant.whole) (r.auto.high ∙ o.invariant.whole')

pub returns : goal.returns
returns c =
    let o = c.loop-i in
    let a = c.args in
    absurd (not-past a.ib.now a.n a.key.now o.buf o.high o.p o.i c.requires (λ i. omega (arith, c.type_inv.key i)) o.invariant c.loop-i-test.false)
