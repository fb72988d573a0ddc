-- Each test that refuses denies one field of Fits, so by refused the judgement is None. At the end all fields hold, and accepted gives passed.
-- permitted-range: a permitted size is at least 512, so size - 7 does not fall below zero.
-- no-remainder and whole-number: with no remainder, and only then, the length is a whole number of intervals.
use Rattle.std.specs.Prelude.{None}
use Rattle.measures.proofs.judge_measures.Lts
use Rattle.measures.proofs.judge_measures.Reads
use Rattle.measures.proofs.judge_measures.Tie
use Prim.Native.Nat.{ℕ, ◌%◌}
use mathlib.Core.Path.{◌≡◌, ◌∙◌, sym}
use mathlib.Core.Bool.{true}
use native.Mathlib.Omega.{arith}
use borrow.Author.Tests.{not-true, not-false}
use Rattle.fields.proofs.Choices.{false-true}
use Rattle.measures.specs.Sizes.{permitted_size}
use Rattle.measures.specs.Judgement.{Fits, count_of, judged_of}
use Rattle.measures.specs.declared.Measures.{Measures}
use Rattle.measures.proofs.Sizes.{permitted-range}
use Rattle.measures.proofs.Fine.{refused, accepted, no-remainder, whole-number}
use Rattle.measures.proofs.judge_measures.Goals as goal

abbrev Else1-state : Type 0
Else1-state = Lts.Else1 Tie.the-claims Reads.Pre Reads.Post

-- what fits, of the measures and a length; and what does not is outside
abbrev FitsHere : Measures → ℕ → Type 0
FitsHere m length = Fits m (count_of m.size length) length

outside : (m : Measures) (length : ℕ) → (FitsHere m length → ⊥) → None ≡ judged_of m length
outside m length f = sym (refused m length f)

size-fine : (c : Else1-state) → permitted_size c.args.m.size ≡ true
size-fine c = sym c.permitted.ensures ∙ not-false c.permitted.result c.if-not-permitted.false-raw

pub returns-then-not-permitted : goal.returns-then-not-permitted
returns-then-not-permitted c =
    let a = c.args in
    outside a.m a.length (λ (f : FitsHere a.m a.length). false-true
    (sym (not-true c.permitted.result c.if-not-permitted.true-raw) ∙ c.permitted.ensures ∙ f.permitted))

pub returns-then-key-lt1 : goal.returns-then-key-lt1
returns-then-key-lt1 c =
    let a = c.args in
    outside a.m a.length (λ (f : FitsHere a.m a.length). omega (arith, f.key-some))

pub returns-then-key-gt255 : goal.returns-then-key-gt255
returns-then-key-gt255 c =
    let a = c.args in
    outside a.m a.length (λ (f : FitsHere a.m a.length). omega (arith, f.key-most))

pub overflow_sub-size : goal.overflow_sub-size
overflow_sub-size c = omega (arith, (permitted-range c.args.m.size (size-fine c.before.before)).0)

pub returns-then-size-most : goal.returns-then-size-most
returns-then-size-most c =
    let a = c.args in
    outside a.m a.length (λ (f : FitsHere a.m a.length). omega (arith, f.most-inside))

pub returns-then-most-least : goal.returns-then-most-least
returns-then-most-least c =
    let a = c.args in
    outside a.m a.length (λ (f : FitsHere a.m a.length). omega (arith, f.least-inside))

pub returns-then-least-key : goal.returns-then-least-key
returns-then-least-key c =
    let a = c.args in
    outside a.m a.length (λ (f : FitsHere a.m a.length). omega (arith, f.key-inside))

pub returns-then-least-key-2 : goal.returns-then-least-key-2
returns-then-least-key-2 c =
    let a = c.args in
    outside a.m a.length (λ (f : FitsHere a.m a.length). omega (arith, f.key-inside))

pub returns-then-length-size-ne0 : goal.returns-then-length-size-ne0
returns-then-length-size-ne0 c =
    let a = c.args in
    outside a.m a.length (λ (f : FitsHere a.m a.length). c.if-length-size-ne0.true
    (no-remainder a.m.size a.length (count_of a.m.size a.length) (omega (arith, f.most-inside)) f.bytes))

pub returns-then-whole-lt2 : goal.returns-then-whole-lt2
returns-then-whole-lt2 c =
    let a = c.args in
    outside a.m a.length (λ (f : FitsHere a.m a.length). omega (arith, f.some))

pub returns-then-whole : goal.returns-then-whole
returns-then-whole c =
    let a = c.args in
    outside a.m a.length (λ (f : FitsHere a.m a.length). omega (arith, f.few))

pub returns : goal.returns
returns c =
    let a = c.args in
    let e : a.length % a.m.size ≡ 0 = c.if-length-size-ne0.false in
    sym
    (accepted a.m a.length (count_of a.m.size a.length)
    (record {
      permitted = size-fine c.before.before.before.before.before.before.before.before.before;
      key-some = omega arith;
      key-most = omega arith;
      key-inside = omega arith;
      least-inside = omega arith;
      most-inside = omega (arith, (permitted-range a.m.size (size-fine c.before.before.before.before.before.before.before.before.before)).0);
      bytes = whole-number a.m.size a.length e (omega arith);
      some = omega arith;
      few = omega arith;
    }))
