-- tail-bad: an interval whose tail is not fine is unsound. tail-good: where the tail is fine, what the walk says is the verdict.
-- That the numbers of the tail lie in the interval (Small) is what walk asks for.
use mathlib.Core.Path.{◌∙◌, sym}
use native.Mathlib.Omega.{arith}
use Rattle.interval_read.proofs.Judging.{tail-bad, tail-good}
use Rattle.interval_read.proofs.check.Goals as goal

pub returns-in_err-read_tail : goal.returns-in_err-read_tail
returns-in_err-read_tail c =
    let a = c.args in
    c.from_residual.ensures ∙ tail-bad a.m a.ci.now (omega arith) (omega arith) (sym c.in_err-read_tail.was ∙ c.read_tail.ensures.is)

pub walk-requires : goal.walk-requires
walk-requires c =
    let f = rw c.in_ok-read_tail.was at c.read_tail.ensures.small in
    (f.1, f.0, c.requires)

pub returns : goal.returns
returns c =
    let a = c.args in
    c.walk.ensures
    ∙ tail-good a.m a.ci.now (omega arith) (omega arith) c.in_ok-read_tail.field-0 (sym c.in_ok-read_tail.was ∙ c.read_tail.ensures.is)
