-- No loop. Numbers that are fine are what area_read's check asks (fits-lent).
use mathlib.Core.Path.{◌∙◌, sym}
use Rattle.measures.specs.Judgement.{asked}
use Rattle.opening.proofs.Opening.{fits-lent}
use Rattle.opening.proofs.open.Goals as goal

pub check-requires : goal.check-requires
check-requires c =
    let a = c.args in
    let fine = c.in-Some.fine in
    fits-lent (asked a.numbers) a.area.now fine.measures fine.count (sym c.judge.ensures ∙ c.in-Some.is)
