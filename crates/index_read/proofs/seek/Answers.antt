-- No loop. The key is sought in the walk that judges the record; what was found is the definition's (seeks-found), and lies within its limits (seeks-within): so
-- both separators fit into the buffers that were lent, and each copy is one splice. Where the record is unsound nothing is stored (seeks-unsound).
use Prim.Native.Nat.{◌<◌, ◌≤◌}
use lib.ListN.{length, length-take}
use native.Mathlib.Omega.{arith}
use Rattle.index_read.proofs.Seeking.{seeks-within, seeks-found, seeks-unsound}
use Rattle.index_read.proofs.seek.Goals as goal
use Rattle.index_read.proofs.seek.Goals.{In_ok-verdict}

within : (c : In_ok-verdict)
    → (c.in_ok-verdict.verdict.spot.number < c.args.n) × (c.in_ok-verdict.verdict.spot.before ≤ length c.args.key.now) × (c.in_ok-verdict.verdict.spot.own ≤ length c.args.key.now)
within c =
    let x = c.judge in
    let a = c.args in
    seeks-within a.n a.ib.now a.key.now x.new.before x.new.own c.in_ok-verdict.verdict c.in_ok-verdict.ensures c.requires.in_bounds.2

pub returns-in_err-verdict-clause-is : goal.returns-in_err-verdict-clause-is
returns-in_err-verdict-clause-is c = rw c.from_residual.ensures (seeks-unsound c.args.n c.args.ib.now c.args.key.now c.args.before.now c.args.own.now c.in_err-verdict.ensures)

pub copy-requires : goal.copy-requires
copy-requires c =
    let p = c.requires in
    omega (arith, length-take c.in_ok-verdict.verdict.spot.before c.judge.new.before, (within (goal.at.copy-requires c).In_ok-verdict).1, p.in_bounds.3, p.buffers.0)

pub copy-requires-2 : goal.copy-requires-2
copy-requires-2 c =
    let p = c.requires in
    omega (arith, length-take c.in_ok-verdict.verdict.spot.own c.judge.new.own, (within (goal.at.copy-requires-2 c).In_ok-verdict).2, p.in_bounds.3, p.buffers.1)

pub returns : goal.returns
returns c =
    let x = c.judge in
    let a = c.args in
    record {
      is = seeks-found a.n a.ib.now a.key.now x.new.before x.new.own c.in_ok-verdict.verdict c.in_ok-verdict.ensures c.requires.in_bounds.2
          a.before.now a.own.now c.copy.new.b c.copy-2.new.b c.copy.ensures c.copy-2.ensures;
      within = within (goal.at.returns c).In_ok-verdict;
    }
