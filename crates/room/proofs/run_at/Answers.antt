use Prim.Native.Nat.{◌-◌}
use mathlib.Core.Path.{◌≡◌}
use lib.ListN.{get_or, length}
use native.Mathlib.Omega.{arith}
use Rattle.room.proofs.Runs.{lead-more, lead-none, lead-end, groups-at}
use Rattle.room.proofs.run_at.Goals as goal

pub returns-then-lens-j : goal.returns-then-lens-j
returns-then-lens-j c =
    let a = c.args in
    let j = c.loop-j.j in
    let n = lead-none (get_or a.lens.now a.i 0) a.lens.now j (omega arith) c.if-lens-j.true in
    record { run = groups-at a.lens.now a.i (j - a.i) (omega arith) (omega arith); inside = omega arith }

pub loop-j-preserved : goal.loop-j-preserved
loop-j-preserved c =
    let a = c.args in
    let j = c.loop-j.j in
    omega (arith, lead-more (get_or a.lens.now a.i 0) a.lens.now j (omega arith) c.if-lens-j.false)

pub returns : goal.returns
returns c =
    let a = c.args in
    let j = c.loop-j.j in
    let e : j ≡ length a.lens.now = omega arith in
    let n = lead-end (get_or a.lens.now a.i 0) a.lens.now j (omega arith) in
    record { run = rw (← e) (groups-at a.lens.now a.i (j - a.i) (omega arith) (omega arith)); inside = omega arith }
