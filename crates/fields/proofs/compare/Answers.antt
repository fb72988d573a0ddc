-- word-differs and word_same say what the numbers in the next eight bytes decide.
use Prim.Native.Nat.{◌+◌, ◌-◌, ◌*◌, ◌/◌, ◌≤◌}
use mathlib.Core.Path.{◌≡◌, refl, ◌∙◌, sym}
use lib.ListN.{length, drop, length-drop}
use lib.Seq.{take_all}
use native.Mathlib.Omega.{arith}
use Rattle.fields.proofs.Words.{word-differs, word_same}
use Rattle.fields.proofs.compare.Goals as goal

pub loop-word-init : goal.loop-word-init
loop-word-init c = refl

pub returns-then-x-y : goal.returns-then-x-y
returns-then-x-y c =
    let a = c.args in
    let i = 8 * c.loop-word.word in
    let h : i + 8 ≤ length a.a.now = omega (arith, c.loop-word-test.true, c.min-words.ensures) in
    let k : i + 8 ≤ length a.b.now = omega (arith, c.loop-word-test.true, c.min-words.ensures) in
    let n = c.if-x-y.true in
    c.cmp.ensures
    ∙ rw (c.read_eight-x.ensures, c.read_eight-y.ensures)
    (sym
    (c.loop-word.invariant
    ∙ word-differs i a.a.now a.b.now (λ j. omega (arith, c.type_inv.a j)) (λ j. omega (arith, c.type_inv.b j)) h k
    (λ e. n (c.read_eight-x.ensures ∙ e ∙ sym c.read_eight-y.ensures))))

pub loop-word-preserved : goal.loop-word-preserved
loop-word-preserved c =
    let a = c.args in
    let i = 8 * c.loop-word.word in
    let h : i + 8 ≤ length a.a.now = omega (arith, c.loop-word-test.true, c.min-words.ensures) in
    let k : i + 8 ≤ length a.b.now = omega (arith, c.loop-word-test.true, c.min-words.ensures) in
    let e : 8 * (c.loop-word.word + 1) ≡ i + 8 = omega arith in
    c.loop-word.invariant
    ∙ word_same i a.a.now a.b.now (λ j. omega (arith, c.type_inv.a j)) (λ j. omega (arith, c.type_inv.b j)) h k
    (sym c.read_eight-x.ensures ∙ c.if-x-y.false ∙ c.read_eight-y.ensures)
    ∙ rw e

pub returns : goal.returns
returns c =
    let a = c.args in
    let i = 8 * (c.min-words.result / 8) in
    let e : 8 * c.loop-word.word ≡ i = omega arith in
    let left = take_all (length a.a.now - i) (drop i a.a.now) (omega (arith, length-drop i a.a.now)) in
    let right = take_all (length a.b.now - i) (drop i a.b.now) (omega (arith, length-drop i a.b.now)) in
    c.compare_bytes.ensures ∙ rw (left, right) (rw (← e) (sym c.loop-word.invariant))
