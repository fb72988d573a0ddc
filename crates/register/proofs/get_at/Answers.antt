-- No loop. A refusal is told on and leaves the output (get-at-shut); of a whole area get_at_in says the rest (get-at-whole), which may be asked there (whole-there).
use mathlib.Core.Path.{◌∙◌, sym}
use Rattle.measures.specs.Judgement.{measures}
use Rattle.requests.proofs.Exits.{handed_on}
use Rattle.register.proofs.Reading.{gives-same, get-at-shut, whole-there, get-at-whole}
use Rattle.register.proofs.get_at.Goals as goal

pub returns-in_err-whole : goal.returns-in_err-whole
returns-in_err-whole c =
    let a = c.args in
    let e = c.in_err-whole in
    gives-same (handed_on c.from_residual.result e.field-0.0 c.from_residual.ensures.1)
    (get-at-shut (measures a.size a.offset a.key a.most) a.area.now e.field-0.0 (sym c.open.ensures ∙ e.was) a.address a.out.now)

pub get_at_in-requires : goal.get_at_in-requires
get_at_in-requires c =
    let a = c.args in
    let whole = c.in_ok-whole.whole in
    whole-there (measures a.size a.offset a.key a.most) a.area.now whole.measures whole.count whole.records whole.free (sym c.open.ensures ∙ c.in_ok-whole.was)

pub returns : goal.returns
returns c =
    let a = c.args in
    let whole = c.in_ok-whole.whole in
    get-at-whole (measures a.size a.offset a.key a.most) a.area.now whole.measures whole.count whole.records whole.free (sym c.open.ensures ∙ c.in_ok-whole.was) a.address a.out.now
    c.get_at_in.result c.get_at_in.new.out c.get_at_in.ensures
