-- The four ways in which a record is added are the cases of also: also-first after no record, also-other after another length,
-- also-second as the second of a run, also-more as a later one of it. The bounds asked for keep the two sums in a usize.
use mathlib.Core.Logic.{⊎_elim}
use borrow.Author.Tests.{eqb-true, eqb-false, not-true, not-false}
use Rattle.room.proofs.Steps.{also-first, also-other, also-second, also-more}
use Rattle.room.proofs.add.Goals as goal

pub returns-then-r-eq0 : goal.returns-then-r-eq0
returns-then-r-eq0 c =
    let a = c.args in
    ⊎_elim
    (λ w. also-first a.r a.len w.if-r-eq0.true)
    (λ w. also-other a.r a.len w.if-r-eq0.false (eqb-false _ _ (not-true _ w.if-r-len.true-raw)))
    c.then-r-eq0.branch-raw

pub returns-then-r-eq1 : goal.returns-then-r-eq1
returns-then-r-eq1 c =
    let a = c.args in
    also-second a.r a.len c.if-r-eq0.false (eqb-true _ _ (not-false _ c.if-r-len.false-raw)) c.if-r-eq1.true

pub returns : goal.returns
returns c =
    let a = c.args in
    also-more a.r a.len c.if-r-eq0.false (eqb-true _ _ (not-false _ c.if-r-len.false-raw)) c.if-r-eq1.false
