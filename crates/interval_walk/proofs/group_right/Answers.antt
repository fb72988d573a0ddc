-- No loop. right-past and right-none: no RDF begins at the place. Else the kind of its control byte decides: right-one, right-run, right-cut for a count whose length
-- would lie in the CIDF, and nothing for the others.
use mathlib.Core.Path.{◌∙◌, sym, ap}
use Rattle.std.specs.Prelude.{Some, None}
use Rattle.rdf.specs.declared.Control.TheVariants.{Paired}
use Rattle.interval_walk.proofs.Reading.{right-past, right-none, right_is, right-one, right-cut, right-run}
use Rattle.interval_walk.proofs.group_right.Goals as goal
use Rattle.interval_walk.proofs.group_right.Goals.{then-e-q-via-then-e-q, then-e-q-via-else-e-q+then-e-q-lt3}

pub returns-then-e-q : goal.returns-then-e-q
returns-then-e-q c =
    let a = c.args in
    elim c.then-e-q.branch [
      | then-e-q-via-then-e-q w ↦ right-past a.ci.now a.end a.q w.if-e-q.true
      | then-e-q-via-else-e-q+then-e-q-lt3 w ↦ right-none a.ci.now a.end a.q w.if-e-q.false w.if-e-q-lt3.true
    ]

pub returns-then-e-q-lt6 : goal.returns-then-e-q-lt6
returns-then-e-q-lt6 c =
    let a = c.args in
    let kind = sym c.take_apart.ensures ∙ c.in-Some-Count.is ∙ ap Some c.in-Some-Count.field-0-is in
    right-cut a.ci.now a.end a.q c.if-e-q.false c.if-e-q-lt3.false kind c.if-e-q-lt6.true

pub returns-in-Some-Single : goal.returns-in-Some-Single
returns-in-Some-Single c =
    let a = c.args in
    let kind = sym c.take_apart.ensures ∙ c.in-Some-Single.is ∙ ap Some c.in-Some-Single.field-0-is in
    c.group_end.ensures
    ∙ right-one a.ci.now a.end a.q c.if-e-q.false c.if-e-q-lt3.false kind c.read-first.result c.read-first.ensures.0

pub returns-else-e-q-lt6 : goal.returns-else-e-q-lt6
returns-else-e-q-lt6 c =
    let a = c.args in
    let kind = sym c.take_apart.ensures ∙ c.in-Some-Count.is ∙ ap Some c.in-Some-Count.field-0-is in
    c.group_end-in-Some-Count.ensures
    ∙ right-run a.ci.now a.end a.q c.if-e-q.false c.if-e-q-lt3.false kind c.if-e-q-lt6.false c.read.result c.read-first.result c.read.ensures.0
    c.read-first.ensures.0

pub returns-in-Some-Paired : goal.returns-in-Some-Paired
returns-in-Some-Paired c =
    let a = c.args in
    let kind = sym c.take_apart.ensures ∙ c.in-Some-Paired.is ∙ ap Some c.in-Some-Paired.field-0-is in
    right_is a.ci.now a.end a.q c.if-e-q.false c.if-e-q-lt3.false (Some Paired) kind

pub returns-in-None : goal.returns-in-None
returns-in-None c =
    let a = c.args in
    right_is a.ci.now a.end a.q c.if-e-q.false c.if-e-q-lt3.false None (sym c.take_apart.ensures ∙ c.in-None.is)
