-- No loop. Three ways out: all bytes lie before the edit (laid-before), all behind it (laid-behind), or on both sides of what comes in, which is laid with
-- them from the right (laid-around). That one of the three holds is asked for.
use Rattle.change_write.proofs.lay.Lts
use Rattle.change_write.proofs.lay.Reads
use Rattle.change_write.proofs.lay.Tie
use Prim.Native.Nat.{◌+◌, ◌≤◌}
use lib.ListN.{length}
use native.Mathlib.Omega.{arith}
use Rattle.change_write.proofs.Laying.{laid-before, laid-behind, around, laid-around}
use Rattle.change_write.proofs.lay.Goals as goal

abbrev Else2-state : Type 0
Else2-state = Lts.Else2 Tie.the-claims Reads.Pre Reads.Post

-- what lies neither before nor behind holds all that comes in
holds : (k : Else2-state) → (k.args.span.from ≤ k.args.site.start)
    × (k.args.site.start + length k.args.new.now ≤ k.args.span.to)
holds k =
    let a = k.args in
    around a.b.now a.new.now a.at a.base a.site a.span k.requires (omega (arith, k.if-to-start.false)) (omega (arith, k.if-end-from.false))

pub returns-then-to-start : goal.returns-then-to-start
returns-then-to-start c =
    let a = c.args in
    laid-before a.b.now a.new.now a.at a.base a.site a.span c.requires c.carry.new.b (omega arith) c.carry.ensures

pub returns-then-end-from : goal.returns-then-end-from
returns-then-end-from c =
    let a = c.args in
    laid-behind a.b.now a.new.now a.at a.base a.site a.span c.requires c.carry-then-end-from.new.b (omega arith) c.carry-then-end-from.ensures

pub overflow_sub-to-2 : goal.overflow_sub-to-2
overflow_sub-to-2 c =
    omega (arith, holds c.before.before)

pub carry-requires-2 : goal.carry-requires-2
carry-requires-2 c =
    let l = c.requires in
    (omega (arith, holds c.before.before, l.fits), omega (arith, holds c.before.before, l.ends, l.there))

pub overflow_sub-start : goal.overflow_sub-start
overflow_sub-start c =
    omega (arith, holds c.before.before.before.before.before.before)

pub copy-requires : goal.copy-requires
copy-requires c =
    omega (arith, holds c.before.before.before.before.before.before, c.requires.fits)

pub overflow_sub-start-2 : goal.overflow_sub-start-2
overflow_sub-start-2 c =
    omega (arith, holds c.before.before.before.before.before.before.before.before.before.before)

pub carry-requires-3 : goal.carry-requires-3
carry-requires-3 c =
    let l = c.requires in
    (omega (arith, holds c.before.before.before.before.before.before.before.before.before.before, l.fits), omega (arith, holds c.before.before.before.before.before.before.before.before.before.before, l.inside, l.there))

pub returns : goal.returns
returns c =
    let a = c.args in
    let h = holds c.before.before.before.before.before.before.before.before.before.before.before.before.before in
    laid-around a.b.now a.new.now a.at a.base a.site a.span c.requires h.0 h.1
    c.carry-2.new.b c.copy.new.b c.carry-3.new.b
    c.carry-2.ensures c.copy.ensures c.carry-3.ensures
