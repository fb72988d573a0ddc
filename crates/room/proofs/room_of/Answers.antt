use Prim.Native.Nat.{ℕ, ◌≤◌}
use mathlib.Core.Path.{◌≡◌, sym, ap, ◌∙◌}
use lib.ListN.{length, take, get_or}
use lib.Seq.{take-length}
use native.Mathlib.Omega.{arith}
use native.Mathlib.Nat.{mul-le-mul_left}
use borrow.Author.Rules.{rules}
use Rattle.room.specs.AidSteps.{room_of}
use Rattle.room.proofs.Steps.{room-none}
use Rattle.room.proofs.Runs.{run-turn, run-bytes, run-rdfs}
use Rattle.room.proofs.room_of.Goals as goal

pub loop-i-init : goal.loop-i-init
loop-i-init c = (search rules, search rules, search rules, sym room-none)

pub loop-i-preserved : goal.loop-i-preserved
loop-i-preserved c =
    let s = c.args.lens.now in
    let k = c.run_at-count in
    let l = get_or s c.loop-i.i 0 in
    let v : l ≤ 65535 = omega (arith, c.shared_slice_known-in-loop-i-1.given c.loop-i.i) in
    let m = mul-le-mul_left k.result v in
    rw c.add_run-r.ensures (
      k.ensures.inside.1,
      omega (arith, run-bytes k.result l c.loop-i.r, m, c.loop-i.invariant.1),
      omega (arith, run-rdfs k.result l c.loop-i.r, c.loop-i.invariant.2),
      run-turn s c.loop-i.i k.result c.loop-i.r k.ensures.run c.loop-i.invariant.3,
    )

pub returns : goal.returns
returns c =
    let s = c.args.lens.now in
    let e : c.loop-i.i ≡ length s = omega arith in
    record { is = c.loop-i.invariant.3 ∙ ap room_of (ap (λ (k : ℕ). take k s) e ∙ take-length s); small = (omega arith, omega arith) }
