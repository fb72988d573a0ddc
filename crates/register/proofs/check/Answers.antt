-- No loop. What the area was opened as says it all: a refusal is told on (check-shut), and of a whole area its two counts (check-whole).
use mathlib.Core.Path.{◌∙◌, sym}
use Rattle.measures.specs.Judgement.{measures}
use Rattle.requests.proofs.Exits.{handed_on}
use Rattle.register.proofs.Reading.{check-shut, check-whole}
use Rattle.register.proofs.check.Goals as goal

pub returns-in_err-whole : goal.returns-in_err-whole
returns-in_err-whole c =
    let a = c.args in
    let e = c.in_err-whole in
    handed_on c.from_residual.result e.field-0.0 c.from_residual.ensures.1
    ∙ check-shut (measures a.size a.offset a.key a.most) a.area.now e.field-0.0 (sym c.open.ensures ∙ e.was)

pub returns : goal.returns
returns c =
    let a = c.args in
    let whole = c.in_ok-whole.whole in
    check-whole (measures a.size a.offset a.key a.most) a.area.now whole.measures whole.count whole.records whole.free (sym c.open.ensures ∙ c.in_ok-whole.was)
