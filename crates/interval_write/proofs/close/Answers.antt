-- No loop. need-bytes: the need is the records' bytes, the bytes of their RDFs, and four. As it is at most the size, every place lies in the interval.
-- closed: RDFs, zeros and CIDF, each stored beside what is stored already, make of the bytes before them the writer's form of the records.
use native.Mathlib.Omega.{arith}
use Rattle.interval_write.proofs.Stores.{need-bytes, closed}
use Rattle.interval_write.proofs.close.Goals as goal

pub overflow_sub-end : goal.overflow_sub-end
overflow_sub-end c = omega (arith, need-bytes c.args.lens.now)

pub write_rdfs-left-requires : goal.write_rdfs-left-requires
write_rdfs-left-requires c = omega (arith, need-bytes c.args.lens.now)

pub fill-requires : goal.fill-requires
fill-requires c = omega (arith, need-bytes c.args.lens.now)

pub overflow_sub-left : goal.overflow_sub-left
overflow_sub-left c = omega (arith, need-bytes c.args.lens.now)

pub put_cidf-requires : goal.put_cidf-requires
put_cidf-requires c = omega (arith, need-bytes c.args.lens.now)

pub returns : goal.returns
returns c =
    let a = c.args in
    closed a.ci.now a.lens.now a.displacement c.write_rdfs-left.result (omega arith) (omega arith) (omega arith) c.write_rdfs-left.new.ci c.fill.new.b
    c.put_cidf.new.ci c.write_rdfs-left.ensures.bytes c.fill.ensures c.put_cidf.ensures
