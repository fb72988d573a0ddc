-- No loop. The entry lies right of the edge, so it may be read before anything else is judged. Each way out has a law in Next: inner-long (longer than a key),
-- inner-low (F too large, or bound not above the one before), inner-high (last byte X'FF'), inner-on. The buffer is written last (inner-renewed); F + L is then at most a
-- key's length, so the copy has its place there and in the record (inner-reach).
use Rattle.index_read.proofs.next_inner.Lts
use Rattle.index_read.proofs.next_inner.Reads
use Rattle.index_read.proofs.next_inner.Tie
use Prim.Native.Nat.{ℕ, ◌+◌, ◌≤◌}
use mathlib.Core.List.{List}
use lib.ListN.{length}
use native.Mathlib.Omega.{arith}
use borrow.Author.Tests.{not-true, not-false}
use Rattle.index_step.specs.AidStep.{reach}
use Rattle.index_step.proofs.Reaching.{reach-least, reach-most}
use Rattle.index_read.proofs.Next.{inner-reach, inner-long, inner-low, inner-high, inner-on, inner-renewed}
use Rattle.index_read.proofs.next_inner.Goals as goal

abbrev After-entry_at-state : Type 0
After-entry_at-state = Lts.After-entry_at Tie.the-claims Reads.Pre Reads.Post Tie.handed_clauses

-- its characters lie in the record
inside : (c : After-entry_at-state) → c.entry_at-s.result.at + reach c.entry_at-s.result.len ≤ length c.args.ib.now
inside c =
    let a = c.args in
    inner-reach a.ib.now a.p a.by a.first a.buf.now c.requires.before.0 c.requires.which c.requires.lies c.entry_at-s.result c.entry_at-s.ensures.is

pub returns-then-by-s : goal.returns-then-by-s
returns-then-by-s c =
    let a = c.args in record { is = inner-long a.ib.now a.p a.by a.first a.buf.now c.requires.before.0 c.requires.which c.requires.lies c.entry_at-s.result c.entry_at-s.ensures.is c.if-by-s.true; renewed = λ (high : List ℕ) tall. tt }

pub ascends-requires : goal.ascends-requires
ascends-requires c =
    let b = c.requires.before in
    (omega (arith, b.0.short, b.0.whole), omega (arith, inside c.before.before.before.before, reach-least c.entry_at-s.result.len), b.0.held, b.1)

pub returns-then-not-ascends : goal.returns-then-not-ascends
returns-then-not-ascends c =
    let a = c.args in record {
      is = inner-low a.ib.now a.p a.by a.first a.buf.now c.requires.before.0 c.requires.which c.requires.lies c.entry_at-s.result c.entry_at-s.ensures.is c.if-by-s.false
          c.ascends.result c.ascends.ensures.over c.ascends.ensures.rises (not-true _ c.if-not-ascends.true-raw);
      renewed = λ (high : List ℕ) tall. tt;
    }

pub ends_low-requires : goal.ends_low-requires
ends_low-requires c =
    (omega (arith, c.if-by-s.false, c.requires.before.0.whole), omega (arith, inside c.before.before.before.before.before.before, reach-least c.entry_at-s.result.len))

pub returns-then-not-ends_low : goal.returns-then-not-ends_low
returns-then-not-ends_low c =
    let a = c.args in record {
      is = inner-high a.ib.now a.p a.by a.first a.buf.now c.requires.before.0 c.requires.which c.requires.lies c.entry_at-s.result c.entry_at-s.ensures.is c.if-by-s.false
          c.ascends.result c.ascends.ensures.over c.ascends.ensures.rises (not-false _ c.if-not-ascends.false-raw) c.ends_low.result c.ends_low.ensures
          (not-true _ c.if-not-ends_low.true-raw);
      renewed = λ (high : List ℕ) tall. tt;
    }

pub extend-requires : goal.extend-requires
extend-requires c =
    (omega (arith, c.if-by-s.false, c.requires.before.0.whole, reach-most c.entry_at-s.result.len), inside c.before.before.before.before.before.before.before.before.before)

pub returns : goal.returns
returns c =
    let a = c.args in record {
      is = inner-on a.ib.now a.p a.by a.first a.buf.now c.requires.before.0 c.requires.which c.requires.lies c.entry_at-s.result c.entry_at-s.ensures.is c.if-by-s.false
          c.ascends.result c.ascends.ensures.over c.ascends.ensures.rises (not-false _ c.if-not-ascends.false-raw) c.ends_low.result c.ends_low.ensures
          (not-false _ c.if-not-ends_low.false-raw);
      renewed = λ (high : List ℕ) tall.
          inner-renewed a.ib.now a.p a.by a.first a.buf.now c.requires.before.0 c.requires.which c.requires.lies c.entry_at-s.result c.entry_at-s.ensures.is c.extend.new.buf high
          c.extend.ensures;
    }
