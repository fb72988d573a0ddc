-- No loop. An interval that opened well brings its count of records and the start of the last (opened-told), which is what `closes` asks; then its own bound decides
-- (closes-well). One that opened badly is unsound (opens-badly).
use mathlib.Core.Path.{◌∙◌}
use mathlib.Core.List.{[]}
use native.Mathlib.Omega.{arith}
use Rattle.fields.specs.Choice.{pick}
use Rattle.interval.specs.Bounds.{bound}
use Rattle.area_seek.proofs.Seeking.{opened-told, closes-well, opens-badly}
use Rattle.area_seek.proofs.sound_between.Goals as goal

pub closes-requires : goal.closes-requires
closes-requires c =
    let x = c.opens in
    let f = opened-told c.args.m c.args.ci.now x.result c.in-Some.field-0.count c.in-Some.field-0.last c.in-Some.is x.ensures.inside in
    ((c.requires.0.small, c.requires.0.keyed, c.requires.0.inside, f.0, f.1, f.2), omega arith)

pub returns-in-Some : goal.returns-in-Some
returns-in-Some c =
    let x = c.opens in
    let a = c.args in
    c.closes.ensures
    ∙ closes-well a.m (pick a.first [] (bound a.m.key a.low.now)) (bound a.m.key a.high.now) a.ci.now x.result c.in-Some.field-0.count c.in-Some.field-0.last c.in-Some.is x.ensures.is

pub returns-in-None : goal.returns-in-None
returns-in-None c =
    let a = c.args in
    opens-badly a.m (pick a.first [] (bound a.m.key a.low.now)) (bound a.m.key a.high.now) a.ci.now c.opens.result c.in-None.is c.opens.ensures.is
