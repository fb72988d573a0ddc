-- No loop. Each of the two tests denies that the key ends within the longest record, so by refused the judgement is None; the rest is judged over the value
-- that the four numbers make.
use mathlib.Core.Path.{sym}
use native.Mathlib.Omega.{arith}
use Rattle.measures.specs.Judgement.{Fits, asked, count_of}
use Rattle.measures.proofs.Fine.{refused}
use Rattle.measures.proofs.judge.Goals as goal

pub returns-then-most-key : goal.returns-then-most-key
returns-then-most-key c =
    let a = c.args in
    sym (refused (asked a.numbers) a.length
    (λ (f : Fits (asked a.numbers) (count_of a.numbers.size a.length) a.length). omega (arith, f.least-inside)))

pub returns-then-most-key-2 : goal.returns-then-most-key-2
returns-then-most-key-2 c =
    let a = c.args in
    sym (refused (asked a.numbers) a.length
    (λ (f : Fits (asked a.numbers) (count_of a.numbers.size a.length) a.length). omega (arith, f.least-inside)))
