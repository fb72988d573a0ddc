use Prim.Native.Nat.{◌+◌, ◌-◌, ◌≤◌}
use mathlib.Core.Path.{sym}
use lib.ListN.{length}
use lib.Seq.{length-take-le}
use native.Mathlib.Numerals.{unary_clauses}
use native.Mathlib.Omega.{arith}
use Rattle.index_write.proofs.Running.{going_start, going-lies, going-renews, going-few, going_before, going-puts, going-room, going-past, going_on, going_done}
use Rattle.index_write.proofs.run.Goals as goal
use Rattle.index_write.proofs.run.Goals.{After-renew-f}

pub loop-init : goal.loop-init
loop-init c =
    let a = c.args in
    simp unary_clauses (going_start a.ib.now a.c a.b.now a.buf.now a.high.now a.top.now c.requires)

pub entry_at-s-requires : goal.entry_at-s-requires
entry_at-s-requires c = going-lies c.loop.invariant (omega arith)

pub renew-f-requires : goal.renew-f-requires
renew-f-requires c =
    let g = c.loop.invariant in
    let s = c.entry_at-s in
    record { len_in_bounds = going-renews g (omega arith) s.result s.ensures.is; before = going_before g (omega arith) s.result s.ensures.is }

pub overflow_add-z : goal.overflow_add-z
overflow_add-z c = omega (arith, going-few c.loop.invariant (omega arith) c.entry_at-s.result c.entry_at-s.ensures.is)

-- the separator lies in the buffer
inside : (k : After-renew-f) → k.entry_at-s.result.front + k.entry_at-s.result.len ≤ length k.renew-f.new.buf
inside k =
    let g = k.loop.invariant in
    omega (arith, going-few g (omega arith) k.entry_at-s.result k.entry_at-s.ensures.is, g.held.whole, k.renew-f.auto.buf)

pub slice_bounds-put-end : goal.slice_bounds-put-end
slice_bounds-put-end c = inside (goal.at.slice_bounds-put-end c).After-renew-f

pub slice_bounds-put-end-in-loop : goal.slice_bounds-put-end-in-loop
slice_bounds-put-end-in-loop c =
    let s = c.entry_at-s.result in
    sym (length-take-le (s.front + s.len) c.renew-f.new.buf (inside (goal.at.slice_bounds-put-end-in-loop c).After-renew-f))

pub put-pen-requires : goal.put-pen-requires
put-pen-requires c =
    let g = c.loop.invariant in
    let s = c.entry_at-s in
    let r = c.renew-f in
    record {
      puts = going-puts g (omega arith) s.result s.ensures.is r.result r.ensures.is r.new.buf r.new.high r.ensures.renewed;
      room = going-room g (omega arith) s.result s.ensures.is r.result r.ensures.is r.new.buf r.new.high r.ensures.renewed;
    }

pub past-p-requires : goal.past-p-requires
past-p-requires c = going-past c.loop.invariant (omega arith) c.entry_at-s.result c.entry_at-s.ensures.is

pub loop-preserved : goal.loop-preserved
loop-preserved c =
    let s = c.entry_at-s in
    let r = c.renew-f in
    let p = c.put-pen in
    going_on c.loop.invariant (omega arith) s.result s.ensures.is r.result r.ensures.is r.new.buf r.new.high r.ensures.renewed p.result
    p.new.top p.new.b p.ensures.is p.ensures.top p.ensures.bytes c.past-p.result c.past-p.ensures (c.args.c.count - (c.loop.counter + 1)) (omega arith)

pub returns : goal.returns
returns c =
    let d = going_done c.loop.invariant (omega arith) in
    record { held = d.0; drawn = d.1 }
