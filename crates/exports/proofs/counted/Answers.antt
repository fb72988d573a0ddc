-- No loop. One test, two ways out.
use Rattle.std.proofs.Common.{le-ltb, lt-ltb}
use Rattle.exports.proofs.counted.Goals as goal

pub returns-then-place-count : goal.returns-then-place-count
returns-then-place-count c = let a = c.args in rw (lt-ltb a.place a.count c.if-place-count.true)

pub returns : goal.returns
returns c = let a = c.args in rw (le-ltb a.place a.count c.if-place-count.false)
