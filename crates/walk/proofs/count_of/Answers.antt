-- No loop. count_small and count-short where there is no interval, count-there else; an area of the size at least has one interval and more (count-some).
use mathlib.Core.Logic.{⊎_elim}
use borrow.Author.Tests.{ltb-true, ltb-false}
use Rattle.walk.proofs.Ways.{count_small, count-short, count-some, count-there}
use Rattle.walk.proofs.count_of.Goals as goal

pub returns-then-size-lt512 : goal.returns-then-size-lt512
returns-then-size-lt512 c =
    let a = c.args in
    ⊎_elim (λ w. count_small a.long a.size w.if-size-lt512.true) (λ w. count-short a.long a.size w.if-size-lt512.false (ltb-true _ _ w.if-long-size.true-raw)) c.then-size-lt512.branch-raw

pub overflow_sub-result : goal.overflow_sub-result
overflow_sub-result c =
    let a = c.args in
    count-some a.long a.size c.if-size-lt512.false (ltb-false _ _ c.if-long-size.false-raw)

pub returns : goal.returns
returns c =
    let a = c.args in
    count-there a.long a.size c.if-size-lt512.false (ltb-false _ _ c.if-long-size.false-raw)
