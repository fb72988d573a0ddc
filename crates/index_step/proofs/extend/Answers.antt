-- No loop. More than eight characters are copied as they are (reach-long, part-is); of fewer, eight bytes (reach_few).
use mathlib.Core.Path.{◌∙◌}
use native.Mathlib.Omega.{arith}
use Rattle.fields.proofs.Splices.{part-is, length-mid}
use Rattle.index_step.proofs.Reaching.{reach-long, reach_few}
use Rattle.index_step.proofs.extend.Goals as goal

pub overflow_add-z : goal.overflow_add-z
overflow_add-z c =
    omega (arith, c.requires.1, reach-long c.args.len c.if-len-gt8.true)

pub slice_bounds-copy-end : goal.slice_bounds-copy-end
slice_bounds-copy-end c =
    omega (arith, c.requires.1, reach-long c.args.len c.if-len-gt8.true)

pub copy-requires : goal.copy-requires
copy-requires c =
    let a = c.args in
    let r = reach-long a.len c.if-len-gt8.true in
    rw (part-is a.ib.now a.at a.len) (omega (arith, c.requires.0, c.requires.1, r, length-mid a.ib.now a.at a.len (omega (arith, c.requires.1, r))))

pub returns-then-len-gt8 : goal.returns-then-len-gt8
returns-then-len-gt8 c =
    let a = c.args in
    rw (reach-long a.len c.if-len-gt8.true) (c.copy.ensures ∙ rw (part-is a.ib.now a.at a.len))

pub copy_eight-requires : goal.copy_eight-requires
copy_eight-requires c =
    let r = reach_few c.args.len c.if-len-gt8.false in
    (omega (arith, c.requires.0, r), omega (arith, c.requires.1, r))

pub returns : goal.returns
returns c =
    rw (reach_few c.args.len c.if-len-gt8.false) c.copy_eight.ensures
