-- The part of the area has the length that was asked for, since it lies within the area. Where the output is shorter nothing is stored
-- and that length is told (hand-short); else it is stored at the front and the later bytes stay (hand-found).
use Prim.Native.Nat.{◌+◌, ◌-◌}
use mathlib.Core.Path.{◌≡◌}
use native.Mathlib.Omega.{arith}
use Rattle.register.proofs.Reading.{hand-short, hand-found}
use Rattle.register.proofs.hand_out.Goals as goal

pub returns-then-out-bytes : goal.returns-then-out-bytes
returns-then-out-bytes c =
    let a = c.args in
    hand-short a.area.now a.from a.bytes a.out.now (omega arith) c.if-out-bytes.true

pub returns : goal.returns
returns c =
    let a = c.args in
    let e : a.from + a.bytes - a.from ≡ a.bytes = omega arith in
    hand-found a.area.now a.from a.bytes a.out.now (omega arith) (omega arith) c.copy.new.b (rw e at c.copy.ensures)
