-- number_more takes one byte more. Before each turn at most three bytes are read, so number_small keeps x * 256 plus a byte in a usize.
-- number-below gives the bound of the result, as every byte is below 256. number-byte: one byte is its own number.
use Prim.Native.Nat.{ℕ, ◌+◌, ◌<◌, ◌^◌}
use mathlib.Core.Path.{◌≡◌, sym, ◌∙◌}
use mathlib.Core.List.{List}
use lib.ListN.{get_or}
use native.Mathlib.Omega.{arith}
use Rattle.fields.specs.Bytes.{number}
use Rattle.fields.proofs.Numbers.{number_more, number_small, number-below, number-none, number-byte}
use Rattle.fields.proofs.Splices.{length-part-is, get-part-is}
use Rattle.fields.proofs.read_pointer.Goals as goal

-- one byte
alone : (b : List ℕ) (at width x : ℕ) → width ≡ 1 → x ≡ get_or b at 0 → x < 256 → (x ≡ number width b at) × (x < 256 ^ width)
alone b at width x one is below = rw one (is ∙ sym (number-byte b at), omega arith)

pub returns-then-width-eq1 : goal.returns-then-width-eq1
returns-then-width-eq1 c =
    let a = c.args in
    alone a.b.now a.at a.width c.from.result c.if-width-eq1.true c.from.ensures (omega (arith, c.from.ensures, c.type_inv.b a.at))

pub loop-byte-init : goal.loop-byte-init
loop-byte-init c = number-none _ _

pub overflow_mul-x : goal.overflow_mul-x
overflow_mul-x c =
    let a = c.args in
    let o = c.loop-byte in
    let n = length-part-is a.b.now a.at a.width c.requires.1 in
    omega (arith, c.requires.0, n, c.loop-byte-test.true, number_small o.byte-index a.b.now a.at (λ k. omega (arith, c.type_inv.b k)) (omega (arith, n)), o.invariant)

pub overflow_add-x : goal.overflow_add-x
overflow_add-x c =
    let a = c.args in
    let o = c.loop-byte in
    let n = length-part-is a.b.now a.at a.width c.requires.1 in
    let i = get-part-is a.b.now a.at a.width o.byte-index (omega (arith, n)) in
    omega (arith, number_small o.byte-index a.b.now a.at (λ k. omega (arith, c.type_inv.b k)) (omega (arith, n)), o.invariant, i, c.from-in-loop-byte.ensures, c.type_inv.b (a.at + o.byte-index))

pub loop-byte-preserved : goal.loop-byte-preserved
loop-byte-preserved c =
    let a = c.args in
    let o = c.loop-byte in
    let n = length-part-is a.b.now a.at a.width c.requires.1 in
    let i = get-part-is a.b.now a.at a.width o.byte-index (omega (arith, n)) in
    omega (arith, number_more o.byte-index a.b.now a.at, o.invariant, i, c.from-in-loop-byte.ensures)

pub returns : goal.returns
returns c =
    let a = c.args in
    let o = c.loop-byte in
    let e : o.byte-index ≡ a.width = omega (arith, length-part-is a.b.now a.at a.width c.requires.1) in
    let v : o.x ≡ number a.width a.b.now a.at = rw e at o.invariant in
    (v, omega (arith, v, number-below a.width a.b.now a.at (λ k. omega (arith, c.type_inv.b k))))
