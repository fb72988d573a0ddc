-- The free numbers end where the unused space begins, w bytes each: the k-th from the right lies k + 1 numbers before that place (taken_is).
use Rattle.index_write.proofs.taken.Lts
use Rattle.index_write.proofs.taken.Reads
use Rattle.index_write.proofs.taken.Tie
use Prim.Native.Nat.{◌+◌, ◌*◌, ◌≤◌}
use native.Mathlib.Omega.{arith}
use Rattle.index.specs.Reading.{unused_at}
use Rattle.index_write.proofs.Taking.{taken_is, taken-place}
use Rattle.index_write.proofs.taken.Goals as goal

abbrev Start-state : Type 0
Start-state = Lts.Start Tie.the-claims Reads.Pre Reads.Post

place : (c : Start-state) → (c.args.k + 1 ≤ c.args.w * (c.args.k + 1)) × (c.args.w ≤ c.args.w * (c.args.k + 1)) × (24 + c.args.w * (c.args.k + 1) ≤ unused_at c.args.ib.now)
place c = taken-place c.args.ib.now c.args.w c.args.k c.requires.0 c.requires.2 c.requires.3

pub read-u-requires : goal.read-u-requires
read-u-requires c = omega (arith, c.requires.3.0, c.requires.3.1)

pub overflow_add-k : goal.overflow_add-k
overflow_add-k c = omega (arith, place c.before.before.before, c.read-u.ensures)

pub overflow_mul-w : goal.overflow_mul-w
overflow_mul-w c = omega (arith, place c.before.before.before, c.read-u.ensures)

pub overflow_sub-u : goal.overflow_sub-u
overflow_sub-u c = omega (arith, place c.before.before.before, c.read-u.ensures)

pub read_pointer-requires : goal.read_pointer-requires
read_pointer-requires c =
    let p = c.requires in
    (p.1, omega (arith, place c.before.before.before, c.read-u.ensures, p.3.1))

pub returns : goal.returns
returns c =
    let u = c.read-u in
    let r = c.read_pointer in
    (taken_is c.args.ib.now c.args.w c.args.k c.requires.0 c.requires.2 c.requires.3 u.result r.result u.ensures.0 r.ensures.0, r.ensures.1)
