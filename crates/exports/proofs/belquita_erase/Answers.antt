-- No loop. The request's contract, told in numbers.
use Rattle.std.proofs.Common.{ap, ◌∙◌}
use Rattle.exports.specs.Values.{values_told}
use Rattle.exports.specs.declared.Values.{Values}
use Rattle.exports.proofs.belquita_erase.Goals as goal

pub returns : goal.returns
returns c =
    let g = c.erase in
    let e = c.told-v.ensures ∙ ap values_told g.ensures.answers in
    record {
      number = ap (λ (v : Values). v.number) e;
      value-is = ap (λ (v : Values). v.first) e;
      first-is = ap (λ (v : Values). v.second) e;
      second_is = ap (λ (v : Values). v.third) e;
      third-is = ap (λ (v : Values). v.fourth) e;
      fourth-is = ap (λ (v : Values). v.fifth) e;
      leaves = g.ensures.leaves;
    }
