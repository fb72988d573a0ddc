-- No loop. divided-is does the work: the entries, the zeros up to them and three displacements, stored over the old record, make the writer's form of the
-- new meaning, byte for byte. The first 18 bytes, the free numbers that are left, RDF and CIDF stay where they lay. The entries are made from a copy at the
-- front of the lent buffer, which is the old record (copied). Header, free numbers and entries together fit the record less its last 7 bytes (left-small,
-- written-fits), so each store has its place.
use Rattle.index_write.proofs.divide_by.Lts
use Rattle.index_write.proofs.divide_by.Reads
use Rattle.index_write.proofs.divide_by.Tie
use Prim.Native.Nat.{◌+◌, ◌-◌, ◌*◌, ◌≤◌, ◌<◌}
use mathlib.Core.Path.{◌≡◌, sym, ap, ◌∙◌}
use lib.ListN.{length, take}
use native.Mathlib.Omega.{arith}
use Rattle.measures.proofs.Width.{width_some}
use Rattle.index_write.specs.AidStream.{cuts_in}
use Rattle.index_write.proofs.Dividing.{last-many}
use Rattle.index_write.proofs.Renewing.{copied, unused-there, taken-enough, left-small, copy-divisible, copy-room, written-fits, divided-is}
use Rattle.index_write.proofs.divide_by.Goals as goal

abbrev After-last_cut-state : Type 0
After-last_cut-state = Lts.After-last_cut Tie.the-claims Reads.Pre Reads.Post Tie.handed_clauses

abbrev After-free_count-state : Type 0
After-free_count-state = Lts.After-free_count Tie.the-claims Reads.Pre Reads.Post Tie.handed_clauses

abbrev After-copy-state : Type 0
After-copy-state = Lts.After-copy Tie.the-claims Reads.Pre Reads.Post Tie.handed_clauses

abbrev After-put_all-state : Type 0
After-put_all-state = Lts.After-put_all Tie.the-claims Reads.Pre Reads.Post Tie.handed_clauses

many_is : (k : After-last_cut-state) → k.last_cut-last.result.count ≡ length (cuts_in k.args.cuts k.args.bytes.now)
many_is k = ap (λ x. x.count) k.last_cut-last.ensures ∙ last-many k.args.cuts k.args.bytes.now

small : (k : After-free_count-state) → 24 + k.width_for-w.result * (k.free_count.result - k.last_cut-last.result.count) ≤ 32768
small k =
    let a = k.args in
    left-small a.n a.i a.cuts a.bytes.now a.ib.now k.requires.divisible.0 k.width_for-w.result k.free_count.result k.last_cut-last.result.count
    k.width_for-w.ensures k.free_count.ensures (many_is k.before)

old-is : (k : After-copy-state) → take (length k.args.ib.now) k.copy.new.b ≡ k.args.ib.now
old-is k = copied _ k.copy.ensures

-- what is stored fits
stored : (k : After-put_all-state)
    → 24 + k.width_for-w.result * (k.free_count.result - k.last_cut-last.result.count) + k.put_all-pen.result.size
    ≤ length k.args.ib.now - 7
stored k =
    let a = k.args in
    written-fits a.n a.i a.cuts a.bytes.now a.ib.now k.requires.divisible.0 k.width_for-w.result k.free_count.result k.last_cut-last.result.count
    k.width_for-w.ensures k.free_count.ensures (many_is k.before.before.before.before.before.before.before.before) k.requires.room _ (old-is k.before.before.before.before) k.put_all-pen.result k.put_all-pen.new.b k.put_all-pen.ensures

pub free_count-requires : goal.free_count-requires
free_count-requires c =
    let a = c.args in
    let p = c.requires.divisible.0 in
    (omega (arith, p.large), omega (arith, c.width_for-w.ensures, width_some a.n), unused-there a.n a.i a.cuts a.bytes.now a.ib.now p)

pub overflow_sub-u : goal.overflow_sub-u
overflow_sub-u c =
    let a = c.args in
    taken-enough a.n a.i a.cuts a.bytes.now a.ib.now c.requires.divisible.0 c.width_for-w.result c.free_count.result c.last_cut-last.result.count
    c.width_for-w.ensures c.free_count.ensures (many_is c.before.before.before)

pub overflow_mul-u : goal.overflow_mul-u
overflow_mul-u c = omega (arith, small c.before.before)

pub overflow_add-u : goal.overflow_add-u
overflow_add-u c = omega (arith, small c.before.before)

pub slice_bounds-put_all-end-2 : goal.slice_bounds-put_all-end-2
slice_bounds-put_all-end-2 c = sym (ap length (old-is c.before.before.before.before))

pub put_all-pen-requires : goal.put_all-pen-requires
put_all-pen-requires c =
    let a = c.args in (
      copy-divisible a.n a.i a.cuts a.bytes.now a.ib.now c.requires.divisible.0 c.width_for-w.result c.free_count.result c.last_cut-last.result.count
          c.width_for-w.ensures c.free_count.ensures (many_is c.before.before.before.before.before.before.before.before) c.requires.room _ (old-is c.before.before.before.before),
      c.requires.divisible.1,
      copy-room a.n a.i a.cuts a.bytes.now a.ib.now c.requires.divisible.0 c.width_for-w.result c.free_count.result c.last_cut-last.result.count
          c.width_for-w.ensures c.free_count.ensures (many_is c.before.before.before.before.before.before.before.before) c.requires.room _ (old-is c.before.before.before.before),
    )

pub overflow_sub-e : goal.overflow_sub-e
overflow_sub-e c = omega (arith, c.requires.divisible.0.large)

pub overflow_sub-e-2 : goal.overflow_sub-e-2
overflow_sub-e-2 c = omega (arith, stored c.before.before.before.before)

pub fill-requires : goal.fill-requires
fill-requires c =
    (omega (arith, stored c.before.before.before.before.before), omega (arith, c.put_all-pen.auto.b))

pub write-requires : goal.write-requires
write-requires c =
    (omega arith, omega (arith, c.requires.divisible.0.large, c.fill.auto.b, c.put_all-pen.auto.b))

pub write-requires-2 : goal.write-requires-2
write-requires-2 c =
    (omega arith, omega (arith, c.requires.divisible.0.large, c.write.auto.b, c.fill.auto.b, c.put_all-pen.auto.b))

pub write-requires-3 : goal.write-requires-3
write-requires-3 c =
    (omega arith, omega (arith, c.requires.divisible.0.large, c.write-2.auto.b, c.write.auto.b, c.fill.auto.b, c.put_all-pen.auto.b))

pub returns : goal.returns
returns c =
    let a = c.args in record {
      «record» = divided-is a.n a.i a.cuts a.bytes.now a.ib.now c.requires.divisible.0 c.width_for-w.result c.free_count.result c.last_cut-last.result.count
          c.width_for-w.ensures c.free_count.ensures (many_is c.before.before.before.before.before.before.before.before.before.before.before.before.before.before.before.before.before.before.before.before.before.before.before.before.before.before.before.before) c.requires.room _ (old-is c.before.before.before.before.before.before.before.before.before.before.before.before.before.before.before.before.before.before.before.before.before.before.before.before) c.put_all-pen.result c.put_all-pen.new.b c.put_all-pen.ensures
          c.fill.new.b c.write.new.b c.write-2.new.b c.write-3.new.b
          (λ i. omega (arith, c.slice_known-1.given i)) c.fill.ensures c.write.ensures c.write-2.ensures c.write-3.ensures;
      copied = c.copy.ensures;
    }
