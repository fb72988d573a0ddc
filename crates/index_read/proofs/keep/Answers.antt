-- No loop. Where the key's entry is not met the buffer stays; else the other's front is copied to its own, eight bytes at least, for which both have room.
use mathlib.Core.Path.{refl}
use mathlib.Core.Logic.{inl, inr}
use native.Mathlib.Omega.{arith}
use borrow.Author.Tests.{not-true, not-false}
use Rattle.index_step.specs.AidStep.{copied_from}
use Rattle.index_step.proofs.Reaching.{reach-most}
use Rattle.index_read.proofs.Entry.{chosen}
use Rattle.index_read.proofs.keep.Goals as goal

pub returns-then-not-meets : goal.returns-then-not-meets
returns-then-not-meets c =
    let a = c.args in
    chosen a.meets a.to.now (copied_from a.buf.now a.len a.to.now) a.to.now (inr (not-true a.meets c.if-not-meets.true-raw, refl))

pub extend-requires : goal.extend-requires
extend-requires c =
    let m = reach-most c.args.len in
    (omega (arith, m, c.requires.0, c.requires.1), omega (arith, m, c.requires.0, c.requires.2))

pub returns : goal.returns
returns c =
    let a = c.args in
    let e = c.extend in
    chosen a.meets e.new.buf (copied_from a.buf.now a.len a.to.now) a.to.now (inl (not-false a.meets c.if-not-meets.false-raw, e.ensures))
