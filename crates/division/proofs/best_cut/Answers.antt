use Rattle.division.proofs.best_cut.Lts
use Rattle.division.proofs.best_cut.Reads
use Rattle.division.proofs.best_cut.Tie
use Prim.Native.Nat.{ℕ, ◌≤◌, ◌<◌, ◌+◌}
use mathlib.Core.Path.{◌∙◌}
use lib.ListN.{get_or}
use native.Mathlib.Omega.{arith}
use Rattle.room.proofs.Steps.{also-bytes, also-rdfs}
use Rattle.division.proofs.Turns.{holds-start, holds-bytes, holds-need, holds_on, none-best, some-best}
use Rattle.division.proofs.best_cut.Goals as goal

abbrev After-add-state : Type 0
After-add-state = Lts.After-add Tie.the-claims Reads.Pre Reads.Post goal.the-invariant-loop-i goal.the-decreases-loop-i Tie.handed_clauses

elem : (c : After-add-state) → get_or c.args.lens.now c.loop-i.i 0 < 65536
elem c = omega (arith, c.shared_slice_known-in-loop-i-1.given c.loop-i.i)

right-needs : (c : After-add-state)
    → (get_or c.args.lens.now c.loop-i.i 0 + c.ahead_at-a.result ≤ c.loop-i.need) × (c.loop-i.need < 1099511627776)
right-needs c =
    let p = c.loop-i in
    let a = c.args in
    holds-need a.s a.lens.now p.i p.left p.bytes p.need p.best p.invariant
    c.ahead_at-a.result c.ahead_at-a.ensures (omega arith)

pub loop-i-init : goal.loop-i-init
loop-i-init c =
    let a = c.args in
    holds-start a.s a.lens.now a.whole c.need_of-need.result c.requires.0 c.requires.1 c.requires.2 c.need_of-need.ensures.is

pub ahead_at-a-requires : goal.ahead_at-a-requires
ahead_at-a-requires c = omega arith

pub add-left-requires : goal.add-left-requires
add-left-requires c =
    let p = c.loop-i in
    (omega (arith, p.invariant.most), omega (arith, p.invariant.many))

pub overflow_cast-bytes : goal.overflow_cast-bytes
overflow_cast-bytes c = omega (arith, elem c.before)

pub overflow_sub-bytes : goal.overflow_sub-bytes
overflow_sub-bytes c =
    let p = c.loop-i in
    let a = c.args in
    holds-bytes a.s a.lens.now p.i p.left p.bytes p.need p.best p.invariant (omega arith)

pub overflow_cast-need : goal.overflow_cast-need
overflow_cast-need c = omega (arith, elem c.before)

pub overflow_add-need : goal.overflow_add-need
overflow_add-need c = omega (arith, right-needs c.before)

pub overflow_sub-need : goal.overflow_sub-need
overflow_sub-need c = (right-needs c.before).0

pub weigh-best-requires : goal.weigh-best-requires
weigh-best-requires c =
    let p = c.loop-i in
    let l : ℕ = get_or c.args.lens.now p.i 0 in
    rw c.add-left.ensures
    (omega (arith, also-bytes p.left l, elem c.before, p.invariant.most), omega (arith, also-rdfs p.left l, p.invariant.many))

pub loop-i-preserved : goal.loop-i-preserved
loop-i-preserved c =
    let p = c.loop-i in
    let a = c.args in
    holds_on a.s a.lens.now p.i p.left p.bytes p.need p.best p.invariant c.ahead_at-a.result c.ahead_at-a.ensures
    (omega arith) (elem c.before.before) c.add-left.result c.add-left.ensures c.weigh-best.result c.weigh-best.ensures

pub returns-in_err-best : goal.returns-in_err-best
returns-in_err-best c =
    let p = c.loop-i in
    let a = c.args in
    c.from_residual.ensures ∙ none-best a.s a.lens.now p.i (omega arith) p.best p.invariant.known c.in_err-best.was

pub returns : goal.returns
returns c =
    let p = c.loop-i in
    let a = c.args in
    some-best a.s a.lens.now p.i (omega arith) p.best p.invariant.known c.in_ok-best.field-0 c.in_ok-best.was
