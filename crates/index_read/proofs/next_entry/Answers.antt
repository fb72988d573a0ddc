-- No loop. Each of the two ways is a function; whether the entry closes its section is asked here for both. `high` stays where it does not.
use borrow.Author.Tests.{eq-eqb, ne_eqb}
use Rattle.index_read.proofs.next_entry.Goals as goal

pub next_top-requires : goal.next_top-requires
next_top-requires c =
    record { before = c.requires.before.0; which = eq-eqb _ _ c.if-p-by.true; tall = c.requires.tall }

pub next_met-requires : goal.next_met-requires
next_met-requires c = record { before = c.requires.before; which = ne_eqb _ _ c.if-p-by.false }

pub returns : goal.returns
returns c =
    let n = c.next_met.ensures in
    record { is = n.is c.args.high.now c.requires.tall; renewed = n.renewed c.args.high.now c.requires.tall }
