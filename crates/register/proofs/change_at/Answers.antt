-- No loop. What the search finds either refuses the change (aim-not) or aims it at a site, where its edit fits (aim-edits); and then its meaning is that the plan
-- of that edit is carried out (aim_at_lem), which is what is made and told (carried).
use mathlib.Core.Path.{◌≡◌, refl, ◌∙◌, sym, ap}
use native.Mathlib.Omega.{arith}
use Rattle.interval_edit.specs.AidChanged.{fresh_in}
use Rattle.area.specs.Content.{Content}
use Rattle.area.specs.Reading.{read_area, whole}
use Rattle.change.specs.Parts.{Edit}
use Rattle.change.specs.Plan.{plan_of}
use Rattle.change_plan.specs.AidEdited.{edit_at}
use Rattle.requests.specs.Changing.{carry_out}
use Rattle.requests.proofs.Exits.{handed_on}
use Rattle.register.proofs.Aimed.{aim-not, aim_at_lem, aim-edits}
use Rattle.register.proofs.Changing.{makes-as, makes-same-answer, carried}
use Rattle.register.proofs.change_at.Goals as goal

pub returns-in_err-site : goal.returns-in_err-site
returns-in_err-site c =
    let a = c.args in
    let e = c.in_err-site in
    λ (d : Content) (h : read_area a.m a.n a.area.now ≡ whole d).
    makes-same-answer (handed_on c.from_residual.result e.field-0.0 c.from_residual.ensures.1)
    (makes-as (sym (aim-not a.m a.n a.area.now c.requires.fits.0 d h a.kind a.key.now a.new.now c.requires.asked (λ i. omega (arith, c.type_inv.key i)) (λ i. omega (arith, c.type_inv.new i))
    c.find.result c.find.ensures e.field-0.0 (sym c.take_aim.ensures ∙ e.was))) (record { answers = refl; leaves = refl }))

pub change-requires : goal.change-requires
change-requires c =
    let a = c.args in
    aim-edits a.m a.n a.area.now c.requires.fits.0 c.requires.fits.1.content c.requires.fits.1.reads a.kind a.key.now a.new.now c.requires.asked (λ i. omega (arith, c.type_inv.key i)) (λ i. omega (arith, c.type_inv.new i))
    c.find.result c.find.ensures c.in_ok-site.site (sym c.take_aim.ensures ∙ c.in_ok-site.was) (λ i. omega (arith, c.slice_known-1.given i))

pub returns : goal.returns
returns c =
    let a = c.args in
    let site = c.in_ok-site.site in
    λ (d : Content) (h : read_area a.m a.n a.area.now ≡ whole d).
    let m = aim_at_lem a.m a.n a.area.now c.requires.fits.0 d h a.kind a.key.now a.new.now c.requires.asked (λ i. omega (arith, c.type_inv.key i)) (λ i. omega (arith, c.type_inv.new i))
    c.find.result c.find.ensures site (sym c.take_aim.ensures ∙ c.in_ok-site.was) in
    makes-as (sym (m.0 ∙ ap (λ (e : Edit). carry_out a.m a.area.now (plan_of a.m d e)) m.1))
    (carried a.m a.area.now (plan_of a.m d (edit_at site (fresh_in a.new.now))) c.change.result c.change.new.area c.told.result
    (c.change.ensures d h) c.told.ensures)
