-- One record is added by `add` (run-one). Of a longer run the first two are, and the others only add their bytes: from the second on, what stands at the end is
-- a run of this length (run-two). The bounds asked for keep the product and the sums in a usize.
use Rattle.room.proofs.add_run.Lts
use Rattle.room.proofs.add_run.Reads
use Rattle.room.proofs.add_run.Tie
use Prim.Native.Nat.{◌*◌, ◌≤◌}
use mathlib.Core.Path.{◌∙◌, ap}
use native.Mathlib.Omega.{arith}
use native.Mathlib.Nat.{mul-le-mul}
use Rattle.room.specs.AidSteps.{also}
use Rattle.room.specs.declared.Room.{Room}
use Rattle.room.proofs.Steps.{also-bytes, also-rdfs}
use Rattle.room.proofs.Runs.{run-one, run-two}
use Rattle.room.proofs.add_run.Goals as goal

abbrev After-add2-state : Type 0
After-add2-state = Lts.After-add2 Tie.the-claims Reads.Pre Reads.Post

-- the bytes of a run are few
few : (c : After-add2-state) → c.args.count * c.args.len ≤ 32768 * 65535
few c = mul-le-mul {n₂ = 32768} {m₂ = 65535} (omega arith) (omega arith)

pub returns-then-count-eq1 : goal.returns-then-count-eq1
returns-then-count-eq1 c =
    let a = c.args in
    c.add-one.ensures ∙ rw c.if-count-eq1.true (run-one a.r a.len)

pub add-two-requires : goal.add-two-requires
add-two-requires c =
    let a = c.args in
    rw c.add-one.ensures (omega (arith, also-bytes a.r a.len), omega (arith, also-rdfs a.r a.len))

pub overflow_mul-result : goal.overflow_mul-result
overflow_mul-result c = omega (arith, few c)

pub overflow_add-result : goal.overflow_add-result
overflow_add-result c = omega (arith, few c.before)

pub returns : goal.returns
returns c =
    let a = c.args in
    let two = ap (λ (x : Room). x.rdfs) (c.add-two.ensures ∙ ap (λ (x : Room). also x a.len) c.add-one.ensures) in
    rw two (run-two a.r a.len a.count (omega (arith, c.if-count-eq1.false)))
