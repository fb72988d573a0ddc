-- No loop: a pen that only counts goes past all entries of the new meaning (AllPut), and the free numbers that are left are counted beside them (divided-size).
use Rattle.index_write.proofs.size_divided.Lts
use Rattle.index_write.proofs.size_divided.Reads
use Rattle.index_write.proofs.size_divided.Tie
use Prim.Native.Nat.{◌-◌, ◌*◌, ◌+◌, ◌≤◌}
use mathlib.Core.Path.{◌≡◌, ◌∙◌, ap}
use lib.ListN.{length}
use native.Mathlib.Omega.{arith}
use Rattle.index_write.specs.AidStream.{cuts_in}
use Rattle.index_write.proofs.Dividing.{counted, last-many}
use Rattle.index_write.proofs.Renewing.{taken-enough, left-small, divided-size}
use Rattle.index_write.proofs.size_divided.Goals as goal

abbrev After-last_cut-state : Type 0
After-last_cut-state = Lts.After-last_cut Tie.the-claims Reads.Pre Reads.Post

abbrev After-free_count-state : Type 0
After-free_count-state = Lts.After-free_count Tie.the-claims Reads.Pre Reads.Post

many_is : (k : After-last_cut-state) → k.last_cut-last.result.count ≡ length (cuts_in k.args.cuts k.args.bytes.now)
many_is k = ap (λ x. x.count) k.last_cut-last.ensures ∙ last-many k.args.cuts k.args.bytes.now

small : (k : After-free_count-state) → 24 + k.width_for-w.result * (k.free_count.result - k.last_cut-last.result.count) ≤ 32768
small k =
    let a = k.args in
    left-small a.n a.i a.cuts a.bytes.now a.ib.now k.requires.0 k.width_for-w.result k.free_count.result k.last_cut-last.result.count
    k.width_for-w.ensures k.free_count.ensures (many_is k.before.before.before.before)

pub put_all-pen-requires : goal.put_all-pen-requires
put_all-pen-requires c =
    (c.requires.0, c.requires.1, λ h. absurd (omega (arith, h)))

pub free_count-requires : goal.free_count-requires
free_count-requires c =
    let a = c.args in
    counted a.n a.i a.cuts a.bytes.now a.ib.now c.requires.0 c.width_for-w.result c.width_for-w.ensures

pub overflow_sub-result : goal.overflow_sub-result
overflow_sub-result c =
    let a = c.args in
    taken-enough a.n a.i a.cuts a.bytes.now a.ib.now c.requires.0 c.width_for-w.result c.free_count.result c.last_cut-last.result.count
    c.width_for-w.ensures c.free_count.ensures (many_is c.before.before.before.before.before.before)

pub overflow_mul-result : goal.overflow_mul-result
overflow_mul-result c = omega (arith, small c.before.before)

pub overflow_add-result : goal.overflow_add-result
overflow_add-result c = omega (arith, small c.before.before)

pub overflow_add-result-2 : goal.overflow_add-result-2
overflow_add-result-2 c =
    omega (arith, small c.before.before.before, c.put_all-pen.ensures.few, c.requires.0.few)

pub returns : goal.returns
returns c =
    let a = c.args in
    divided-size a.n a.i a.cuts a.bytes.now a.ib.now c.requires.0 c.width_for-w.result c.free_count.result c.last_cut-last.result.count
    c.width_for-w.ensures c.free_count.ensures (many_is c.before.before.before.before.before.before.before) c.put_all-pen.result.size c.put_all-pen.ensures.size
