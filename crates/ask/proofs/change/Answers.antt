-- No loop. Each arm is one law over plain values (proofs/Doors.antt).
use Rattle.ask.proofs.Doors.{insert-made, update-made, erase-made}
use Rattle.ask.proofs.change.Goals as goal

pub returns-in-Insert : goal.returns-in-Insert
returns-in-Insert c =
    let a = c.args in
    insert-made a.kind a.numbers.now a.area.now a.second.now a.given.now a.out.now c.numbers_in-n.result c.tell.result
    c.numbers_in-n.ensures c.insert.result c.tell.ensures _ c.in-Insert.is c.insert.ensures

pub returns-in-Update : goal.returns-in-Update
returns-in-Update c =
    let a = c.args in
    update-made a.kind a.numbers.now a.area.now a.second.now a.given.now a.out.now c.numbers_in-n.result c.tell-in-Update.result
    c.numbers_in-n.ensures c.update.result c.tell-in-Update.ensures _ c.in-Update.is c.update.ensures

pub returns-in-Erase : goal.returns-in-Erase
returns-in-Erase c =
    let a = c.args in
    erase-made a.kind a.numbers.now a.area.now a.second.now a.given.now a.out.now c.numbers_in-n.result c.tell-in-Erase.result
    c.numbers_in-n.ensures c.erase.result c.tell-in-Erase.ensures _ c.in-Erase.is c.erase.ensures
