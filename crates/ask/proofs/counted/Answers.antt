-- No loop. The number, or 0 past the last.
use borrow.Author.Tests.{lt-ltb, le-ltb}
use Rattle.ask.proofs.counted.Goals as goal

pub returns-then-place-count : goal.returns-then-place-count
returns-then-place-count c = let a = c.args in rw (lt-ltb a.place a.count c.if-place-count.true)

pub returns : goal.returns
returns c = let a = c.args in rw (le-ltb a.place a.count c.if-place-count.false)
