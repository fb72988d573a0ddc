-- No loop. pass-wide, pass-short, pass-past and pass-cut: no entry can end at the edge. pass-none: the entry would begin before the record. pass-is: the entry, and the
-- edge past it.
use Prim.Native.Nat.{◌+◌, ◌-◌}
use mathlib.Core.Path.{◌≡◌}
use lib.Dec.{eqb}
use native.Mathlib.Omega.{arith}
use Rattle.fields.specs.Choice.{pick}
use Rattle.index_walk.proofs.Reading.{field-there, field-none, pass-wide, pass-short, pass-past, pass-cut, pass-none, pass-is}
use Rattle.index_walk.proofs.pass.Goals as goal
use Rattle.index_walk.proofs.pass.Goals.{Joined-control-e, then-control-e, else-control-e, then-w-gt4-via-then-w-gt4, then-w-gt4-via-else-w-gt4+then-ib-lt24, then-w-gt4-via-else-w-gt4+else-ib-lt24+then-ib-r, then-w-gt4-via-else-w-gt4+else-ib-lt24+else-ib-r+then-r-w}

-- the bytes of the field
field_told : (j : Joined-control-e) → j.if-control-e.field ≡ pick (eqb (j.args.e.right - (j.args.w + 2)) j.args.e.end) 2 0
field_told j =
    let a = j.args in
    elim j.if-control-e.branch [
      | then-control-e x ↦ field-there j.if-control-e.field (a.e.right - (a.w + 2)) a.e.end x.if-control-e.true x.field-is
      | else-control-e x ↦ field-none j.if-control-e.field (a.e.right - (a.w + 2)) a.e.end x.if-control-e.false x.field-is
    ]

pub returns-then-w-gt4 : goal.returns-then-w-gt4
returns-then-w-gt4 c =
    let a = c.args in
    elim c.then-w-gt4.branch [
      | then-w-gt4-via-then-w-gt4 x ↦ pass-wide a.w a.ib.now a.e x.if-w-gt4.true
      | then-w-gt4-via-else-w-gt4+then-ib-lt24 x ↦ pass-short a.w a.ib.now a.e x.if-w-gt4.false x.if-ib-lt24.true
      | then-w-gt4-via-else-w-gt4+else-ib-lt24+then-ib-r x ↦ pass-past a.w a.ib.now a.e x.if-w-gt4.false x.if-ib-lt24.false x.if-ib-r.true
      | then-w-gt4-via-else-w-gt4+else-ib-lt24+else-ib-r+then-r-w x ↦ pass-cut a.w a.ib.now a.e x.if-w-gt4.false x.if-ib-lt24.false x.if-ib-r.false x.if-r-w.true
    ]

pub returns-then-control-l : goal.returns-then-control-l
returns-then-control-l c =
    let a = c.args in
    pass-none a.w a.ib.now a.e c.if-w-gt4.false c.if-ib-lt24.false c.if-ib-r.false c.if-r-w.false c.from-l.result c.if-control-e.field c.from-l.ensures
    (field_told (goal.at.returns-then-control-l c).Joined-control-e) c.if-control-l.true

pub returns : goal.returns
returns c =
    let a = c.args in
    pass-is a.w a.ib.now a.e c.if-w-gt4.false c.if-ib-lt24.false c.if-ib-r.false c.if-r-w.false c.from-l.result c.if-control-e.field c.from-l.ensures
    (field_told (goal.at.returns c).Joined-control-e) c.if-control-l.false c.entry_at-s.result c.entry_at-s.ensures.is c.past-q.result c.past-q.ensures c.read.result c.read.ensures.0
