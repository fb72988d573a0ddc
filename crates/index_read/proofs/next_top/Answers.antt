-- No loop. Each way out has a law in Next: entry-unparsed, low-top (bound not above the one before), entry-high (last byte X'FF'), entry-on.
-- After the first copy `high` begins with the separator, so that comparing it with buf from the front tells whether the bound rises (top-ascends); after the second
-- buf begins with it too (Turned), so its last byte can be read from there.
-- An entry that was taken apart has F + L of at most a key's length; so the copies have their place in the buffers and in the record (chars-reach).
use Prim.Native.Nat.{ℕ, ◌+◌, ◌≤◌}
use mathlib.Core.Path.{◌≡◌, sym, ◌∙◌, ap}
use mathlib.Core.Bool.{true}
use mathlib.Core.List.{List}
use lib.ListN.{length}
use native.Mathlib.Omega.{arith}
use Rattle.index_step.specs.AidStep.{reach, copied_from}
use Rattle.index_step.proofs.Reaching.{reach-most}
use Rattle.index_read.specs.AidWalk.{TopAscends}
use Rattle.index_read.proofs.Rising.{top-ascends}
use Rattle.index_read.proofs.Next.{Turned, closes-is, chars-reach, sep-short, turned-top, entry-unparsed, low-top, entry-high, entry-on}
use Rattle.index_read.proofs.next_top.Goals as goal
use Rattle.index_read.proofs.next_top.Goals.{In-Some, After-topmost, After-extend-2}

top : (c : In-Some) → c.in-Some.s.closes ≡ true
top c =
    closes-is c.args.ib.now c.args.p c.args.by c.in-Some.s (sym c.in-Some.ensures) true c.requires.which

short : (c : In-Some) → c.in-Some.s.front + c.in-Some.s.len ≤ c.args.by.key
short c =
    let a = c.args in
    sep-short a.ib.now a.p a.by a.first a.buf.now a.high.now c.in-Some.s (sym c.in-Some.ensures) c.requires.before c.requires.tall

reaches : (c : In-Some)
    → c.in-Some.s.at + reach c.in-Some.s.len ≤ length c.args.ib.now
reaches c =
    let a = c.args in
    chars-reach a.ib.now a.p a.by a.first a.buf.now a.high.now c.in-Some.s (sym c.in-Some.ensures) c.requires.before c.requires.tall

-- whether its bound rises
rises : (c : After-topmost)
    → TopAscends c.args.first c.args.p.len
    c.args.buf.now c.args.high.now c.args.ib.now
    c.in-Some.s c.topmost.result
rises c =
    let a = c.args in
    let e = c.extend in
    top-ascends a.first a.p.len a.buf.now a.high.now e.new.buf a.ib.now c.in-Some.s e.ensures (omega (arith, sep-short a.ib.now a.p a.by a.first a.buf.now a.high.now c.in-Some.s (sym c.in-Some.ensures) c.requires.before c.requires.tall, c.requires.tall)) (chars-reach a.ib.now a.p a.by a.first a.buf.now a.high.now c.in-Some.s (sym c.in-Some.ensures) c.requires.before c.requires.tall)
    c.topmost.result c.topmost.ensures

-- and what is known once it was copied
turned : (c : After-extend-2)
    → TopAscends c.args.first c.args.p.len c.args.buf.now c.args.high.now c.args.ib.now c.in-Some.s c.topmost.result
    → Turned c.args.ib.now c.args.p
    c.args.by c.args.first
    c.args.buf.now c.args.high.now
    c.in-Some.s c.topmost.result c.extend-2.new.buf
    c.extend.new.buf
turned c rise =
    let a = c.args in
    let e = c.extend in
    let s = c.in-Some.s in
    turned-top a.ib.now a.p a.by a.first a.buf.now a.high.now s (sym c.in-Some.ensures) c.requires.before c.requires.tall c.topmost.result c.extend-2.new.buf e.new.buf (closes-is a.ib.now a.p a.by s (sym c.in-Some.ensures) true c.requires.which) rise
    (c.extend-2.ensures ∙ ap (λ (x : List ℕ). copied_from x (s.front + s.len) a.buf.now) e.ensures) e.ensures

pub returns-in_default-clause-is : goal.returns-in_default-clause-is
returns-in_default-clause-is c =
    let a = c.args in
    entry-unparsed a.ib.now a.p a.by a.first a.buf.now a.high.now (sym c.in_default.ensures)

pub extend-requires : goal.extend-requires
extend-requires c =
    (omega (arith, short (goal.at.extend-requires c).In-Some, c.requires.tall, reach-most c.in-Some.s.len), reaches (goal.at.extend-requires c).In-Some)

pub overflow_add-z : goal.overflow_add-z
overflow_add-z c = omega (arith, short (goal.at.overflow_add-z c).In-Some)

pub topmost-requires : goal.topmost-requires
topmost-requires c =
    let b = c.requires.before in
    (omega (arith, b.short, b.whole), omega (arith, short (goal.at.topmost-requires c).In-Some, c.requires.tall, c.extend.auto.buf), b.held)

pub returns-then-not-topmost : goal.returns-then-not-topmost
returns-then-not-topmost c =
    let a = c.args in record {
      is = low-top a.ib.now a.p a.by a.first a.buf.now a.high.now c.in-Some.s (sym c.in-Some.ensures) c.requires.before c.requires.tall (top (goal.at.returns-then-not-topmost c).In-Some)
          (λ K k1 k2. sym c.if-not-topmost.true ∙ rises (goal.at.returns-then-not-topmost c).After-topmost K k1 k2);
      renewed = tt;
    }

pub extend-requires-2 : goal.extend-requires-2
extend-requires-2 c =
    let s = c.in-Some.s in
    let z = reach-most (s.front + s.len) in
    (omega (arith, short (goal.at.extend-requires-2 c).In-Some, c.requires.before.whole, z), omega (arith, short (goal.at.extend-requires-2 c).In-Some, c.requires.tall, z, c.extend.auto.buf))

pub last_of-requires : goal.last_of-requires
last_of-requires c =
    omega (arith, short (goal.at.last_of-requires c).In-Some, c.requires.before.whole, c.extend-2.auto.buf)

pub returns-then-last_of : goal.returns-then-last_of
returns-then-last_of c =
    let a = c.args in record {
      is = entry-high a.ib.now a.p a.by a.first a.buf.now a.high.now c.in-Some.s (sym c.in-Some.ensures) c.requires.before c.requires.tall c.topmost.result
          c.extend-2.new.buf c.extend.new.buf (turned (goal.at.returns-then-last_of c).After-extend-2 (rises (goal.at.returns-then-last_of c).After-topmost)) (sym c.last_of.ensures ∙ c.if-last_of.true);
      renewed = tt;
    }

pub returns : goal.returns
returns c =
    let a = c.args in record {
      is = entry-on a.ib.now a.p a.by a.first a.buf.now a.high.now c.in-Some.s (sym c.in-Some.ensures) c.requires.before c.requires.tall c.topmost.result
          c.extend-2.new.buf c.extend.new.buf (turned (goal.at.returns c).After-extend-2 (rises (goal.at.returns c).After-topmost)) c.if-not-topmost.false (λ z. c.if-last_of.false (c.last_of.ensures ∙ z));
      renewed = (turned (goal.at.returns c).After-extend-2 (rises (goal.at.returns c).After-topmost)).renewed;
    }
