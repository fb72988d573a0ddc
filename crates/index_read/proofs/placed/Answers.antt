-- No loop. LiesWell holds the conditions on the displacements. A test that fails contradicts one of them (no_header to no-spread).
-- When all are passed, some-place puts LiesWell together, with the count of free numbers and where the entries begin.
-- The product of w and the count can't overflow: it is at most the displacement (count_small), which was read from two bytes.
use mathlib.Core.Logic.{⊎_elim}
use native.Mathlib.Omega.{arith}
use Rattle.index_read.proofs.Header.{count_small, no_header, no_number, no-entry, no_gap, no-space, no-spread, some-place}
use Rattle.index_read.proofs.placed.Goals as goal

pub returns-then-unused-lt24 : goal.returns-then-unused-lt24
returns-then-unused-lt24 c =
    let a = c.args in
    let u = c.read-unused in
    let e = c.read-last in
    no_header a.w a.n a.ib.now u.result e.result u.ensures.0 e.ensures.0 c.if-unused-lt24.true

pub overflow_mul-w : goal.overflow_mul-w
overflow_mul-w c =
    let a = c.args in
    let u = c.read-unused in
    omega (arith, count_small a.w a.ib.now c.free_count-free.result c.free_count-free.ensures, u.ensures.0, u.ensures.1)

pub overflow_add-w : goal.overflow_add-w
overflow_add-w c =
    let a = c.args in
    let u = c.read-unused in
    omega (arith, count_small a.w a.ib.now c.free_count-free.result c.free_count-free.ensures, u.ensures.0, u.ensures.1)

pub returns-then-w-free : goal.returns-then-w-free
returns-then-w-free c =
    let a = c.args in
    let u = c.read-unused in
    let e = c.read-last in
    let f = c.free_count-free in
    no_number a.w a.n a.ib.now u.result e.result u.ensures.0 e.ensures.0 f.result f.ensures c.if-w-free.true

pub returns-then-n-free : goal.returns-then-n-free
returns-then-n-free c =
    let a = c.args in
    let u = c.read-unused in
    let e = c.read-last in
    let f = c.free_count-free in
    no-entry a.w a.n a.ib.now u.result e.result u.ensures.0 e.ensures.0 f.result f.ensures c.if-n-free.true

pub returns-then-last-unused : goal.returns-then-last-unused
returns-then-last-unused c =
    let a = c.args in
    let u = c.read-unused in
    let e = c.read-last in
    no_gap a.w a.n a.ib.now u.result e.result u.ensures.0 e.ensures.0 c.if-last-unused.true

pub returns-then-ib-last : goal.returns-then-ib-last
returns-then-ib-last c =
    let a = c.args in
    let u = c.read-unused in
    let e = c.read-last in
    no-space a.w a.n a.ib.now u.result e.result u.ensures.0 e.ensures.0 c.if-ib-last.true

pub returns-then-n-free-gt2 : goal.returns-then-n-free-gt2
returns-then-n-free-gt2 c =
    let a = c.args in
    let u = c.read-unused in
    let e = c.read-last in
    let f = c.free_count-free in
    no-spread a.w a.n a.ib.now u.result e.result u.ensures.0 e.ensures.0 f.result f.ensures c.read.result c.read.ensures.0
    c.if-read-last.true c.if-n-free-gt2.true

pub returns : goal.returns
returns c =
    let a = c.args in
    let u = c.read-unused in
    let e = c.read-last in
    let f = c.free_count-free in
    some-place a.w a.n a.ib.now u.result e.result u.ensures.0 e.ensures.0 f.result f.ensures c.read.result c.read.ensures.0
    c.if-w-free.false c.if-n-free.false c.if-last-unused.false c.if-ib-last.false
    (λ z. ⊎_elim (λ p. p.if-n-free-gt2.false) (λ p. absurd (p.if-read-last.false z)) c.if-read-last.branch-raw)
