-- No loop. An entry that is no section's highest goes on from the separator before it, which gives the longest F at once (renewed-inner). Else its separator is made
-- from the highest of the section before, compared with the one before it, and copied (renewed-highest).
use Rattle.index_write.proofs.renew.Lts
use Rattle.index_write.proofs.renew.Reads
use Rattle.index_write.proofs.renew.Tie
use Prim.Native.Nat.{◌+◌}
use mathlib.Core.Path.{◌≡◌, sym}
use mathlib.Core.Bool.{true, false}
use lib.Seq.{length-take-le}
use native.Mathlib.Omega.{arith}
use borrow.Author.Tests.{not-true, not-false}
use Rattle.index_step.proofs.Reaching.{reach-least, reach-most}
use Rattle.index_write.proofs.Renewed.{renewed-inner, renewed-highest}
use Rattle.index_write.proofs.renew.Goals as goal

abbrev Then1-state : Type 0
Then1-state = Lts.Then1 Tie.the-claims Reads.Pre Reads.Post Tie.handed_clauses

abbrev Else1-state : Type 0
Else1-state = Lts.Else1 Tie.the-claims Reads.Pre Reads.Post Tie.handed_clauses

inner-there : (c : Then1-state) → c.args.s.closes ≡ false
inner-there c = not-true _ c.if-not-s.true

highest-there : (c : Else1-state) → c.args.s.closes ≡ true
highest-there c = not-false _ c.if-not-s.false

pub longest-f-requires : goal.longest-f-requires
longest-f-requires c =
    let s = c.args.s in
    (c.requires.before.2 (inner-there c.before), c.requires.before.0, omega (arith, c.requires.len_in_bounds.2, reach-least s.len), omega (arith, c.requires.before.1))

pub extend-requires : goal.extend-requires
extend-requires c =
    let s = c.args.s in
    (omega (arith, c.requires.len_in_bounds.1, reach-most s.len), c.requires.len_in_bounds.2)

pub returns-then-not-s : goal.returns-then-not-s
returns-then-not-s c =
    let a = c.args in
    let told = renewed-inner a.ib.now a.s a.buf.now a.high.now a.len c.longest-f.result (inner-there c.before.before.before.before.before.before) c.longest-f.ensures.is c.extend.new.buf c.extend.ensures in record { is = told.0; renewed = told.1 }

pub extend-requires-2 : goal.extend-requires-2
extend-requires-2 c =
    let s = c.args.s in
    (omega (arith, c.requires.len_in_bounds.0, reach-most s.len), c.requires.len_in_bounds.2)

pub overflow_add-z : goal.overflow_add-z
overflow_add-z c = omega (arith, c.requires.len_in_bounds.0)

pub slice_bounds-common_front-end-2 : goal.slice_bounds-common_front-end-2
slice_bounds-common_front-end-2 c =
    sym (length-take-le c.args.len c.args.buf.now c.requires.before.0)

pub slice_bounds-common_front-end-4 : goal.slice_bounds-common_front-end-4
slice_bounds-common_front-end-4 c =
    let s = c.args.s in
    sym (length-take-le (s.front + s.len) c.extend-2.new.buf (omega (arith, c.requires.len_in_bounds.0, c.extend-2.auto.buf)))

pub extend-requires-3 : goal.extend-requires-3
extend-requires-3 c =
    let s = c.args.s in
    let m = reach-most (s.front + s.len) in
    (omega (arith, c.requires.len_in_bounds.1, m), omega (arith, c.requires.len_in_bounds.0, m, c.extend-2.auto.buf))

pub returns : goal.returns
returns c =
    let a = c.args in
    let told = renewed-highest a.ib.now a.s a.buf.now a.high.now a.len c.common_front-f.result (highest-there c.before.before.before.before.before.before.before.before.before.before.before) c.requires.len_in_bounds.0 c.requires.len_in_bounds.2
    c.extend-2.new.buf c.extend-2.ensures c.common_front-f.ensures.0 c.extend-3.new.buf c.extend-3.ensures in record { is = told.0; renewed = told.1 }
