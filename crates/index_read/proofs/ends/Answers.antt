-- No loop. The first test that fails makes the answer false; after two that hold the last is the answer.
use borrow.Author.Tests.{eq-eqb, ne_eqb}
use Rattle.index_read.proofs.ends.Goals as goal

pub returns-then-p-by : goal.returns-then-p-by
returns-then-p-by c = simp (ne_eqb _ _ c.if-p-by.true)

pub returns-then-p-ne0 : goal.returns-then-p-ne0
returns-then-p-ne0 c = simp (eq-eqb _ _ c.if-p-by.false, ne_eqb _ _ c.if-p-ne0.true)

pub returns : goal.returns
returns c = simp (eq-eqb _ _ c.if-p-by.false, eq-eqb _ _ c.if-p-ne0.false, c.read.ensures.0)
