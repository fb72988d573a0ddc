-- No loop. Each refusal is one condition of parses that fails (no_room, no_front, no-fit); parsed-on joins them where all hold.
-- The control information lies right of the edge, so L may be read; the entry only once all of it is known to lie there.
-- F and L are bytes, so their sum, and the sums with the edge, can't overflow.
use Rattle.index_read.proofs.piece_at.Lts
use Rattle.index_read.proofs.piece_at.Reads
use Rattle.index_read.proofs.piece_at.Tie
use mathlib.Core.Path.{◌≡◌}
use mathlib.Core.Logic.{inl, inr, ⊎_elim}
use native.Mathlib.Omega.{arith}
use Rattle.fields.specs.Choice.{pick}
use Rattle.index_read.proofs.Entry.{chosen, two-most, no_room, no_front, no-fit, parsed-on}
use Rattle.index_read.proofs.piece_at.Goals as goal

abbrev Joined1-state : Type 0
Joined1-state = Lts.Joined1 Tie.the-claims Reads.Pre Reads.Post Tie.handed_clauses

abbrev Joined3-state : Type 0
Joined3-state = Lts.Joined3 Tie.the-claims Reads.Pre Reads.Post Tie.handed_clauses

-- how many bytes the field takes, and what F may reach
field_is : (c : Joined1-state) → c.if-closes.field ≡ pick c.args.closes 2 0
field_is c = chosen _ _ 2 0 (⊎_elim (λ p. inl (p.if-closes.true, p.field-is)) (λ p. inr (p.if-closes.false, p.field-is)) c.if-closes.branch-raw)

most-is : (c : Joined3-state) → c.if-closes-2.most ≡ pick c.args.closes
    c.args.p.high c.args.p.len
most-is c = chosen _ _ _ _ (⊎_elim (λ p. inl (p.if-closes-2.true, p.most-is)) (λ p. inr (p.if-closes-2.false, p.most-is)) c.if-closes-2.branch-raw)

pub overflow_add-w-4 : goal.overflow_add-w-4
overflow_add-w-4 c =
    omega (arith, field_is c.before.before, two-most c.args.closes, c.requires.le_width.1)

pub overflow_add-by : goal.overflow_add-by
overflow_add-by c =
    omega (arith, field_is c.before.before.before, two-most c.args.closes, c.requires.le_width.1, c.requires.le_width.4)

pub returns-then-r-by : goal.returns-then-r-by
returns-then-r-by c =
    let a = c.args in
    let l = c.from-l in
    no_room a.ib.now a.p a.by a.closes c.requires.which l.result c.if-closes.field l.ensures (field_is c.before.before.before.before) c.if-r-by.true

pub returns-then-most-s : goal.returns-then-most-s
returns-then-most-s c =
    let a = c.args in
    let e = c.entry_at-s in
    no_front a.ib.now a.p a.by a.closes c.requires.which e.result e.ensures.is c.if-closes-2.most (most-is c.before.before.before) c.if-most-s.true

pub returns-then-by-s : goal.returns-then-by-s
returns-then-by-s c =
    let a = c.args in
    let e = c.entry_at-s in
    no-fit a.ib.now a.p a.by a.closes c.requires.which e.result e.ensures.is c.if-by-s.true

pub returns : goal.returns
returns c =
    let a = c.args in
    let e = c.entry_at-s in
    let l = c.from-l in
    parsed-on a.ib.now a.p a.by a.closes c.requires.which e.result e.ensures.is l.result c.if-closes.field c.if-closes-2.most l.ensures (field_is c.before.before.before.before.before.before.before.before.before.before.before)
    c.if-r-by.false (most-is c.before.before.before.before.before.before) c.if-most-s.false c.if-by-s.false
