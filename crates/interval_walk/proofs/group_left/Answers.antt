-- No loop. left-none and left_is: the group that is read there is that of left_of.
use mathlib.Core.Path.{◌∙◌, sym, ap}
use Rattle.interval_walk.specs.AidSpots.{beginning}
use Rattle.interval_walk.proofs.Reading.{left-none, left_is}
use Rattle.interval_walk.proofs.group_left.Goals as goal

pub returns-then-q-p : goal.returns-then-q-p
returns-then-q-p c =
    let a = c.args in
    left-none a.ci.now a.start a.q c.rdfs_begin-p.result c.rdfs_begin-p.ensures.is c.if-q-p.true

pub returns-in_err-len : goal.returns-in_err-len
returns-in_err-len c =
    let a = c.args in
    c.from_residual.ensures
    ∙ ap (beginning a.start a.q) (sym c.in_err-len.was)
    ∙ left_is a.ci.now a.start a.q c.rdfs_begin-p.result c.rdfs_begin-p.ensures.is c.if-q-p.false _ c.group_before.ensures.is

pub returns : goal.returns
returns c =
    let a = c.args in
    ap (beginning a.start a.q) (sym c.in_ok-len.was)
    ∙ left_is a.ci.now a.start a.q c.rdfs_begin-p.result c.rdfs_begin-p.ensures.is c.if-q-p.false _ c.group_before.ensures.is
