-- No loop. The request's contract, told in numbers.
use Rattle.std.proofs.Common.{ap, ◌∙◌}
use Rattle.exports.specs.Values.{values_told}
use Rattle.exports.specs.declared.Values.{Values}
use Rattle.exports.proofs.belquita_check.Goals as goal

pub returns : goal.returns
returns c =
    let e = c.told-v.ensures ∙ ap values_told c.check.ensures in
    record { number = ap (λ (v : Values). v.number) e; first-is = ap (λ (v : Values). v.first) e; second_is = ap (λ (v : Values). v.second) e }
