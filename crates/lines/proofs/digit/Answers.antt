-- digit_of makes the same test, below 10 or not, so that each way out is one side of it. A nibble is below 16, so no sum passes a byte.
use borrow.Author.Tests.{lt-ltb, le-ltb}
use Rattle.lines.proofs.digit.Goals as goal

pub returns-then-nibble-lt10 : goal.returns-then-nibble-lt10
returns-then-nibble-lt10 c = simp (lt-ltb _ _ c.if-nibble-lt10.true)

pub returns : goal.returns
returns c = simp (le-ltb _ _ c.if-nibble-lt10.false)
