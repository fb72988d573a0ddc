-- No loop. Each way out has a law in Serving. A line that isn't 64 bytes long, promises more than 62, or has another letter is bad and
-- leaves area and output (wrong_size, too_long, no-letter). For the four letters what the register makes is what serving the line comes to
-- (got, inserted, updated, erased); the bytes handed on are those after the length byte, as many as it says (cut-is).
use native.Mathlib.Omega.{arith}
use Rattle.lines.proofs.Serving.{wrong_size, too_long, got, inserted, updated, erased, no-letter}
use Rattle.lines.proofs.step.Goals as goal

pub returns-then-request-ne64 : goal.returns-then-request-ne64
returns-then-request-ne64 c =
    let a = c.args in
    wrong_size a.area.now a.request.now a.out.now c.if-request-ne64.true

pub overflow_cast-len : goal.overflow_cast-len
overflow_cast-len c = omega arith

pub returns-then-len-gt62 : goal.returns-then-len-gt62
returns-then-len-gt62 c =
    let a = c.args in
    too_long a.area.now a.request.now a.out.now c.if-request-ne64.false c.if-len-gt62.true

pub returns-then-letter-eq71 : goal.returns-then-letter-eq71
returns-then-letter-eq71 c =
    let a = c.args in
    got a.area.now a.request.now a.out.now c.if-request-ne64.false c.if-len-gt62.false c.if-letter-eq71.true
    c.get.result c.get.new.out c.get.ensures

pub returns-then-letter-eq73 : goal.returns-then-letter-eq73
returns-then-letter-eq73 c =
    let a = c.args in
    inserted a.area.now a.request.now a.out.now c.if-request-ne64.false c.if-len-gt62.false c.if-letter-eq73.true
    c.insert.result c.insert.new.area c.insert.ensures

pub returns-then-letter-eq85 : goal.returns-then-letter-eq85
returns-then-letter-eq85 c =
    let a = c.args in
    updated a.area.now a.request.now a.out.now c.if-request-ne64.false c.if-len-gt62.false c.if-letter-eq85.true
    c.update.result c.update.new.area c.update.ensures

pub returns-then-letter-eq69 : goal.returns-then-letter-eq69
returns-then-letter-eq69 c =
    let a = c.args in
    erased a.area.now a.request.now a.out.now c.if-request-ne64.false c.if-len-gt62.false c.if-letter-eq69.true
    c.erase.result c.erase.new.area c.erase.ensures

pub returns : goal.returns
returns c =
    let a = c.args in
    no-letter a.area.now a.request.now a.out.now c.if-request-ne64.false c.if-len-gt62.false c.if-letter-eq71.false
    c.if-letter-eq73.false c.if-letter-eq85.false c.if-letter-eq69.false
