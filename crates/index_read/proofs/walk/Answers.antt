-- No loop. Where a free number is wrong nothing more is asked; else the walk over the entries tells the rest, with the marks that the free numbers left.
use Rattle.std.specs.Prelude.{is_some}
use Rattle.index_read.proofs.Marking.{walked-wrong, walked_on}
use Rattle.index_read.proofs.walk.Goals as goal

pub returns-then-not-mark_free-clause-sound : goal.returns-then-not-mark_free-clause-sound
returns-then-not-mark_free-clause-sound c =
    let r = c.requires in
    rw r.begun.2 (walked-wrong c.args.by c.args.ib.now c.args.marks r.free.0 r.begun.0 r.begun.1 c.if-not-mark_free.ensures.sound)

pub returns-clause-sound : goal.returns-clause-sound
returns-clause-sound c =
    let x = c.mark_entries-m in
    let r = c.requires in
    walked_on c.args.by c.args.ib.now c.args.marks r.free.0 r.begun.0 r.begun.1 c.if-not-mark_free.ensures.sound c.mark_free.new.seen (c.mark_free.ensures.marks c.if-not-mark_free.false) (is_some x.result)
    x.ensures.sound
