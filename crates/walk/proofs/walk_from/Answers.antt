-- No loop. A refusal is that of the meaning (from-refused); 3 for none or too many bytes (from_nothing, from-too-many); else where the walk stands, or 5 where it stands
-- nowhere (from-present, from-absent). What that is computed by follows from it (from_told).
use Rattle.std.specs.Prelude.{Ok, Err}
use mathlib.Core.Path.{◌∙◌, sym}
use mathlib.Core.Logic.{⊎_elim}
use native.Mathlib.Omega.{arith}
use Rattle.measures.specs.Judgement.{asked}
use Rattle.requests.specs.declared.Refusal.TheVariants.{WrongLength, Absent}
use Rattle.requests.proofs.Exits.{handed_on}
use Rattle.walk.proofs.Walking.{opened-fits, opened-reads, from-refused, from_nothing, from-too-many, from-absent, from-present, from_told}
use Rattle.walk.proofs.walk_from.Goals as goal

pub returns-in_err-whole : goal.returns-in_err-whole
returns-in_err-whole c =
    let a = c.args in
    let e = c.in_err-whole in
    let h = handed_on c.from_residual.result e.field-0.0 c.from_residual.ensures.1 in
    let told = from_told (asked a.numbers) a.area.now a.forward a.given.now c.from_residual.result
    (rw h (from-refused (asked a.numbers) a.area.now a.forward e.field-0.0 (sym c.open.ensures ∙ e.was) a.given.now)) in record { begins = told.0; there = told.1.0; is = told.1.1 }

pub returns-then-given-eq0 : goal.returns-then-given-eq0
returns-then-given-eq0 c =
    let a = c.args in
    let w = c.in_ok-whole.whole in
    let e = sym c.open.ensures ∙ c.in_ok-whole.was in
    let told = from_told (asked a.numbers) a.area.now a.forward a.given.now (Err WrongLength)
    (⊎_elim (λ x. from_nothing (asked a.numbers) a.area.now a.forward w.measures w.count w.records w.free e a.given.now x)
    (λ x. from-too-many (asked a.numbers) a.area.now a.forward w.measures w.count w.records w.free e a.given.now x.1)
    c.then-given-eq0.either) in record { begins = told.0; there = told.1.0; is = told.1.1 }

pub begin_at-p-requires : goal.begin_at-p-requires
begin_at-p-requires c =
    let a = c.args in
    let w = c.in_ok-whole.whole in
    let e = sym c.open.ensures ∙ c.in_ok-whole.was in (
      opened-fits (asked a.numbers) a.area.now a.forward w.measures w.count w.records w.free e,
      opened-reads (asked a.numbers) a.area.now a.forward w.measures w.count w.records w.free e,
      omega (arith, c.if-m-given.false),
    )

pub returns-then-p-eq0 : goal.returns-then-p-eq0
returns-then-p-eq0 c =
    let a = c.args in
    let w = c.in_ok-whole.whole in
    let told = from_told (asked a.numbers) a.area.now a.forward a.given.now (Err Absent)
    (from-absent (asked a.numbers) a.area.now a.forward w.measures w.count w.records w.free (sym c.open.ensures ∙ c.in_ok-whole.was) a.given.now
    (λ i. omega (arith, c.type_inv.area i)) c.if-given-eq0.false (omega (arith, c.if-m-given.false)) c.begin_at-p.result
    c.begin_at-p.ensures c.if-p-eq0.true) in record { begins = told.0; there = told.1.0; is = told.1.1 }

pub returns : goal.returns
returns c =
    let a = c.args in
    let w = c.in_ok-whole.whole in
    let told = from_told (asked a.numbers) a.area.now a.forward a.given.now (Ok c.begin_at-p.result)
    (from-present (asked a.numbers) a.area.now a.forward w.measures w.count w.records w.free (sym c.open.ensures ∙ c.in_ok-whole.was) a.given.now
    (λ i. omega (arith, c.type_inv.area i)) c.if-given-eq0.false (omega (arith, c.if-m-given.false)) c.begin_at-p.result
    c.begin_at-p.ensures c.if-p-eq0.false) in record { begins = told.0; there = told.1.0; is = told.1.1 }
