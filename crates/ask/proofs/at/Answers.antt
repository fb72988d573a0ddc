-- No loop. The number that is there, or 0 past the last.
use lib.ListN.{get_or-eq_default}
use mathlib.Core.Path.{sym}
use Rattle.ask.proofs.at.Goals as goal

pub returns : goal.returns
returns c = let a = c.args in sym (get_or-eq_default a.numbers.now 0 c.if-i-numbers.false)
