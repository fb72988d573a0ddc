-- No loop. Each way out has a law in Next: entry-unparsed, low-inner (bound not above the one before), entry-high (last byte X'FF'), entry-on.
-- After the copy the first F + L bytes of the buffer are the new separator (Turned), so its last byte can be read from there.
-- An entry that was taken apart has F + L of at most a key's length; so the copy has its place in the buffer and in the record (chars-reach).
-- The buffer of the highest isn't looked at; the laws ask for one, and where it doesn't matter which, the first stands for it.
use Prim.Native.Nat.{ℕ, ◌+◌, ◌≤◌}
use mathlib.Core.Path.{◌≡◌, refl, sym, ◌∙◌}
use mathlib.Core.Bool.{false}
use mathlib.Core.List.{List}
use lib.ListN.{length}
use native.Mathlib.Omega.{arith}
use Rattle.index_step.proofs.Reaching.{reach-least, reach-most}
use Rattle.index_read.proofs.Next.{Turned, closes-is, chars-reach, sep-short, front-inner, turned-inner, entry-unparsed, low-inner, entry-high, entry-on}
use Rattle.index_read.proofs.next_met.Goals as goal
use Rattle.index_read.proofs.next_met.Goals.{In-Some, After-extend}

inner : (c : In-Some) → c.in-Some.s.closes ≡ false
inner c =
    closes-is c.args.ib.now c.args.p c.args.by c.in-Some.s (sym c.in-Some.ensures) false c.requires.which

short : (c : In-Some) → c.in-Some.s.front + c.in-Some.s.len ≤ c.args.by.key
short c =
    let a = c.args in
    sep-short a.ib.now a.p a.by a.first a.buf.now a.buf.now c.in-Some.s (sym c.in-Some.ensures) c.requires.before.0 c.requires.before.0.whole

front : (c : In-Some) → c.in-Some.s.front ≤ c.args.p.len
front c =
    let a = c.args in
    front-inner a.ib.now a.p a.by a.first a.buf.now a.buf.now c.in-Some.s (sym c.in-Some.ensures) c.requires.before.0 c.requires.before.0.whole (inner c)

-- and what is known once it was copied
turned : (c : After-extend) (high : List ℕ) → c.args.by.key + 8 ≤ length high
    → Turned c.args.ib.now c.args.p c.args.by
    c.args.first c.args.buf.now high c.in-Some.s
    c.ascends.result c.extend.new.buf high
turned c high tall =
    let a = c.args in
    let r = c.ascends in
    let shut = closes-is a.ib.now a.p a.by c.in-Some.s (sym c.in-Some.ensures) false c.requires.which in
    turned-inner a.ib.now a.p a.by a.first a.buf.now high c.in-Some.s (sym c.in-Some.ensures) c.requires.before.0 tall r.result c.extend.new.buf high
    shut
    (r.ensures.rises (front-inner a.ib.now a.p a.by a.first a.buf.now a.buf.now c.in-Some.s (sym c.in-Some.ensures) c.requires.before.0 c.requires.before.0.whole shut)) c.extend.ensures refl

pub returns-in_default : goal.returns-in_default
returns-in_default c =
    let a = c.args in record {
      is = λ (high : List ℕ) tall. entry-unparsed a.ib.now a.p a.by a.first a.buf.now high (sym c.in_default.ensures);
      renewed = λ (high : List ℕ) tall. tt;
    }

pub ascends-requires : goal.ascends-requires
ascends-requires c =
    let a = c.args in
    let b = c.requires.before.0 in
    let s = c.in-Some.s in (
      omega (arith, b.short, b.whole),
      omega (arith, chars-reach a.ib.now a.p a.by a.first a.buf.now a.buf.now s (sym c.in-Some.ensures) b b.whole, reach-least s.len),
      b.held,
      c.requires.before.1,
    )

pub returns-then-not-ascends : goal.returns-then-not-ascends
returns-then-not-ascends c =
    let a = c.args in record {
      is = λ (high : List ℕ) tall. low-inner a.ib.now a.p a.by a.first a.buf.now high c.in-Some.s (sym c.in-Some.ensures) c.requires.before.0 tall (inner (goal.at.returns-then-not-ascends c).In-Some)
          (λ K k1 k2. sym c.if-not-ascends.true ∙ c.ascends.ensures.rises (front (goal.at.returns-then-not-ascends c).In-Some) K k1 k2);
      renewed = λ (high : List ℕ) tall. tt;
    }

pub extend-requires : goal.extend-requires
extend-requires c =
    let a = c.args in
    let b = c.requires.before.0 in
    let s = c.in-Some.s in
    (omega (arith, short (goal.at.extend-requires c).In-Some, b.whole, reach-most s.len), chars-reach a.ib.now a.p a.by a.first a.buf.now a.buf.now s (sym c.in-Some.ensures) b b.whole)

pub overflow_add-s : goal.overflow_add-s
overflow_add-s c = omega (arith, short (goal.at.overflow_add-s c).In-Some)

pub last_of-requires : goal.last_of-requires
last_of-requires c =
    omega (arith, short (goal.at.last_of-requires c).In-Some, c.requires.before.0.whole, c.extend.auto.buf)

pub returns-then-last_of : goal.returns-then-last_of
returns-then-last_of c =
    let a = c.args in record {
      is = λ (high : List ℕ) tall. entry-high a.ib.now a.p a.by a.first a.buf.now high c.in-Some.s (sym c.in-Some.ensures) c.requires.before.0 tall
          c.ascends.result c.extend.new.buf high (turned (goal.at.returns-then-last_of c).After-extend high tall) (sym c.last_of.ensures ∙ c.if-last_of.true);
      renewed = λ (high : List ℕ) tall. tt;
    }

pub returns : goal.returns
returns c =
    let a = c.args in record {
      is = λ (high : List ℕ) tall. entry-on a.ib.now a.p a.by a.first a.buf.now high c.in-Some.s (sym c.in-Some.ensures) c.requires.before.0 tall
          c.ascends.result c.extend.new.buf high (turned (goal.at.returns c).After-extend high tall) c.if-not-ascends.false (λ z. c.if-last_of.false (c.last_of.ensures ∙ z));
      renewed = λ (high : List ℕ) tall. (turned (goal.at.returns c).After-extend high tall).renewed;
    }
