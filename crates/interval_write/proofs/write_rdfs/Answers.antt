use native.Mathlib.Omega.{arith}
use Rattle.interval_write.proofs.Written.{start, same_size, room, step, all}
use Rattle.interval_write.proofs.write_rdfs.Goals as goal

pub loop-i-init : goal.loop-i-init
loop-i-init c = start c.args.ci.now c.args.end c.args.lens.now

pub overflow_cast-lens : goal.overflow_cast-lens
overflow_cast-lens c = omega (arith, c.shared_slice_known-in-loop-i-1.given c.loop-i.i)

pub put_group-at-requires : goal.put_group-at-requires
put_group-at-requires c =
    let a = c.args in
    let o = c.loop-i in
    let q = c.requires in
    let n = c.run_at-count in (
      room a.ci.now a.end a.lens.now o.ci o.at o.i o.invariant q.1 n.result n.ensures.run q.0,
      omega (arith, same_size a.ci.now a.end a.lens.now o.ci o.at o.i o.invariant q.1, o.invariant.place),
      omega (arith, c.shared_slice_known-in-loop-i-1.given o.i),
      omega arith,
    )

pub loop-i-preserved : goal.loop-i-preserved
loop-i-preserved c =
    let a = c.args in
    let o = c.loop-i in
    let q = c.requires in
    let n = c.run_at-count in
    let g = c.put_group-at in
    step a.ci.now a.end a.lens.now o.ci o.at o.i o.invariant q.1 n.result n.ensures.run g.result g.new.ci (omega arith) g.ensures.place g.ensures.bytes

pub shape_of-ci : goal.shape_of-ci
shape_of-ci c =
    let a = c.args in
    let o = c.loop-i in
    let q = c.requires in
    same_size a.ci.now a.end a.lens.now o.ci o.at o.i o.invariant q.1

pub returns : goal.returns
returns c =
    let a = c.args in
    let o = c.loop-i in
    let q = c.requires in
    record { place = rw (all a.ci.now a.end a.lens.now o.ci o.at o.i o.invariant q.1 (omega arith)) (o.invariant.place); bytes = rw (all a.ci.now a.end a.lens.now o.ci o.at o.i o.invariant q.1 (omega arith)) (o.invariant.bytes) }
