-- No loop. Each arm is one law over plain values (proofs/Doors.antt).
use Rattle.ask.proofs.Doors.{check-made, get-made, get-at-made, walk-from-made, walk-end-made, step-made, record-made}
use Rattle.ask.proofs.read.Goals as goal

pub returns-in-Check : goal.returns-in-Check
returns-in-Check c =
    let a = c.args in
    check-made a.kind a.numbers.now a.area.now a.second.now a.given.now a.out.now c.numbers_in-n.result c.tell.result
    c.numbers_in-n.ensures c.check.result c.tell.ensures c.in-Check.is c.check.ensures

pub returns-in-Get : goal.returns-in-Get
returns-in-Get c =
    let a = c.args in
    get-made a.kind a.numbers.now a.area.now a.second.now a.given.now a.out.now c.numbers_in-n.result c.tell-in-Get.result
    c.numbers_in-n.ensures c.get.result c.tell-in-Get.ensures _ c.in-Get.is c.get.ensures

pub returns-in-GetAt : goal.returns-in-GetAt
returns-in-GetAt c =
    let a = c.args in
    get-at-made a.kind a.numbers.now a.area.now a.second.now a.given.now a.out.now c.numbers_in-n.result c.tell-in-GetAt.result
    c.numbers_in-n.ensures c.get_at.result c.tell-in-GetAt.ensures _ _ c.in-GetAt.is c.at-address.ensures c.get_at.ensures

pub returns-in-WalkFrom : goal.returns-in-WalkFrom
returns-in-WalkFrom c =
    let a = c.args in
    walk-from-made a.kind a.numbers.now a.area.now a.second.now a.given.now a.out.now c.numbers_in-n.result c.begun.result
    c.numbers_in-n.ensures c.at.result c.at.ensures c.walk_from.result c.in-WalkFrom.is c.begun.ensures c.walk_from.ensures.is

pub returns-in-WalkEnd : goal.returns-in-WalkEnd
returns-in-WalkEnd c =
    let a = c.args in
    walk-end-made a.kind a.numbers.now a.area.now a.second.now a.given.now a.out.now c.numbers_in-n.result c.begun-in-WalkEnd.result
    c.numbers_in-n.ensures c.at-in-WalkEnd.result c.at-in-WalkEnd.ensures c.walk_end.result c.in-WalkEnd.is c.begun-in-WalkEnd.ensures c.walk_end.ensures.is

pub returns-in-Step : goal.returns-in-Step
returns-in-Step c =
    let a = c.args in
    step-made a.kind a.numbers.now a.area.now a.second.now a.given.now a.out.now c.numbers_in-n.result c.standing.result
    c.numbers_in-n.ensures c.at-in-Step.result c.at-in-Step.ensures c.place_in-p.result c.walk_next.result c.in-Step.is c.standing.ensures c.place_in-p.ensures c.walk_next.ensures

pub returns-in-Record : goal.returns-in-Record
returns-in-Record c =
    let a = c.args in
    record-made a.kind a.numbers.now a.area.now a.second.now a.given.now a.out.now c.numbers_in-n.result c.tell-in-Record.result
    c.numbers_in-n.ensures c.show.result c.tell-in-Record.ensures _ c.place_in.result c.in-Record.is c.place_in.ensures c.show.ensures
