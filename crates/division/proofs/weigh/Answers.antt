-- The ways out are the cases of weighed: left-large and right-large, where a part does not fit; no-nearer, where the parts do not differ
-- less, so on a tie the earlier cut stays; nearer-cut, where they do; first-cut, where there is none yet.
use Prim.Native.Nat.{ℕ, ◌+◌, ◌*◌}
use native.Mathlib.Omega.{arith}
use Rattle.division.proofs.Turns.{left-large, right-large, first-cut, nearer-cut, no-nearer}
use Rattle.division.proofs.weigh.Goals as goal

pub returns-then-s-need_of : goal.returns-then-s-need_of
returns-then-s-need_of c =
    let a = c.args in
    let n₁ : ℕ = a.left.bytes + 3 * a.left.rdfs + 4 in
    left-large a.best a.cut a.left.bytes n₁ a.bytes a.need a.s (omega (arith, c.if-s-need_of.true, c.need_of.ensures.is))

pub returns-then-s-need : goal.returns-then-s-need
returns-then-s-need c =
    let a = c.args in
    let n₁ : ℕ = a.left.bytes + 3 * a.left.rdfs + 4 in
    right-large a.best a.cut a.left.bytes n₁ a.bytes a.need a.s (omega (arith, c.if-s-need_of.false, c.need_of.ensures.is)) c.if-s-need.true

pub returns-in-Some : goal.returns-in-Some
returns-in-Some c =
    let a = c.args in
    let n₁ : ℕ = a.left.bytes + 3 * a.left.rdfs + 4 in
    no-nearer a.best a.cut a.left.bytes n₁ a.bytes a.need a.s (omega (arith, c.if-s-need_of.false, c.need_of.ensures.is)) c.if-s-need.false
    c.abs_diff-difference.result c.abs_diff-difference.ensures c.in-Some.earlier c.in-Some.is c.if-earlier-difference.true

pub returns-in_default : goal.returns-in_default
returns-in_default c =
    let a = c.args in
    let n₁ : ℕ = a.left.bytes + 3 * a.left.rdfs + 4 in
    nearer-cut a.best a.cut a.left.bytes n₁ a.bytes a.need a.s (omega (arith, c.if-s-need_of.false, c.need_of.ensures.is)) c.if-s-need.false
    c.abs_diff-difference.result c.abs_diff-difference.ensures c.in-Some.earlier c.in-Some.is c.if-earlier-difference.false

pub returns-in_default-2 : goal.returns-in_default-2
returns-in_default-2 c =
    let a = c.args in
    let n₁ : ℕ = a.left.bytes + 3 * a.left.rdfs + 4 in
    first-cut a.best a.cut a.left.bytes n₁ a.bytes a.need a.s (omega (arith, c.if-s-need_of.false, c.need_of.ensures.is)) c.if-s-need.false
    c.abs_diff-difference.result c.abs_diff-difference.ensures c.in_default.is
