-- No loop. Numbers that are not fine are refusal 1, and the output stays (get-outside); where they are fine the area is as get_in asks (fits-lent), which says the rest
-- (get-fine).
use mathlib.Core.Path.{◌∙◌, sym}
use Rattle.measures.specs.Judgement.{measures}
use Rattle.opening.proofs.Opening.{fits-lent}
use Rattle.register.proofs.Reading.{get-outside, get-fine}
use Rattle.register.proofs.get.Goals as goal

pub returns-in_default : goal.returns-in_default
returns-in_default c =
    let a = c.args in
    get-outside (measures a.size a.offset a.key a.most) a.area.now a.wanted.now a.out.now (sym c.judge.ensures ∙ c.in_default.is)

pub get_in-requires : goal.get_in-requires
get_in-requires c =
    let a = c.args in
    let fine = c.in-Some.fine in
    fits-lent (measures a.size a.offset a.key a.most) a.area.now fine.measures fine.count (sym c.judge.ensures ∙ c.in-Some.is)

pub returns : goal.returns
returns c =
    let a = c.args in
    let fine = c.in-Some.fine in
    get-fine (measures a.size a.offset a.key a.most) a.area.now a.wanted.now a.out.now fine.measures fine.count (sym c.judge.ensures ∙ c.in-Some.is)
    c.get_in.result c.get_in.new.out c.get_in.ensures
