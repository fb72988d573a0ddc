-- No loop. A refusal is told on and leaves the area (change-shut); of a whole area change_in says the rest (change-whole), which may be asked there (whole-there).
use mathlib.Core.Path.{◌∙◌, sym}
use Rattle.measures.specs.Judgement.{asked}
use Rattle.requests.proofs.Exits.{handed_on}
use Rattle.register.specs.AidChange.{change_for}
use Rattle.register.proofs.Changing.{makes-same-answer, change-shut, change-whole}
use Rattle.register.proofs.Reading.{whole-there}
use Rattle.register.proofs.change.Goals as goal

pub returns-in_err-whole : goal.returns-in_err-whole
returns-in_err-whole c =
    let a = c.args in
    let e = c.in_err-whole in
    makes-same-answer (handed_on c.from_residual.result e.field-0.0 c.from_residual.ensures.1)
    (change-shut (asked a.numbers) a.area.now (change_for a.kind a.given.now) e.field-0.0 (sym c.open.ensures ∙ e.was))

pub change_in-requires : goal.change_in-requires
change_in-requires c =
    let a = c.args in
    let whole = c.in_ok-whole.whole in
    whole-there (asked a.numbers) a.area.now whole.measures whole.count whole.records whole.free (sym c.open.ensures ∙ c.in_ok-whole.was)

pub returns : goal.returns
returns c =
    let a = c.args in
    let whole = c.in_ok-whole.whole in
    change-whole (asked a.numbers) a.area.now (change_for a.kind a.given.now) whole.measures whole.count whole.records whole.free (sym c.open.ensures ∙ c.in_ok-whole.was)
    c.change_in.result c.change_in.new.area c.change_in.ensures
