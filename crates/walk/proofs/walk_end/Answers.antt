-- No loop. A refusal is that of the meaning (end_refused); an area that was opened begins at the first record from its end (end-begins).
use mathlib.Core.Path.{◌∙◌, sym}
use Rattle.measures.specs.Judgement.{asked}
use Rattle.requests.proofs.Exits.{handed_on}
use Rattle.walk.proofs.Walking.{opened-asks, end_refused, end-begins}
use Rattle.walk.proofs.walk_end.Goals as goal

pub returns-in_err-whole : goal.returns-in_err-whole
returns-in_err-whole c =
    let a = c.args in
    let e = c.in_err-whole in
    let told = end_refused (asked a.numbers) a.area.now a.forward e.field-0.0 (sym c.open.ensures ∙ e.was) in
    let h = handed_on c.from_residual.result e.field-0.0 c.from_residual.ensures.1 in
    record { begins = rw h told.0; is = h ∙ told.1 }

pub end_in-requires : goal.end_in-requires
end_in-requires c =
    let w = c.in_ok-whole.whole in
    opened-asks (asked c.args.numbers) c.args.area.now c.args.forward w.measures w.count w.records w.free (sym c.open.ensures ∙ c.in_ok-whole.was)

pub returns : goal.returns
returns c =
    let a = c.args in
    let w = c.in_ok-whole.whole in
    let told = end-begins (asked a.numbers) a.area.now a.forward w.measures w.count w.records w.free (sym c.open.ensures ∙ c.in_ok-whole.was) c.end_in.result c.end_in.ensures in
    record { begins = told.0; is = told.1 }
