-- No loop. What is handed out is the record (record-fits), or nothing where the output is too short (record-short).
use Rattle.ask.proofs.Doors.{record-short, record-fits}
use Rattle.ask.proofs.show.Goals as goal

pub returns-then-out-long : goal.returns-then-out-long
returns-then-out-long c =
    let a = c.args in
    record-short a.area.now a.p a.out.now c.walk_record-r.result.now c.walk_record-r.ensures.bytes c.if-out-long.true

pub returns : goal.returns
returns c =
    let a = c.args in
    record-fits a.area.now a.p a.out.now c.walk_record-r.result.now c.walk_record-r.ensures.bytes _ c.if-out-long.false c.copy.ensures
