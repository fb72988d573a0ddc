-- No loop. What the walk begins with is what walk_end gave.
use Rattle.exports.proofs.walks.belquita_walk.Goals as goal

pub returns-in_default : goal.returns-in_default
returns-in_default c =
    let w = c.walk_end in
    record { begun = w.result; begins = w.ensures.begins; is = w.ensures.is; sum = rw c.in_default.is }

pub returns : goal.returns
returns c =
    let w = c.walk_end in
    record { begun = w.result; begins = w.ensures.begins; is = w.ensures.is; sum = rw c.in-Ok.is c.added.ensures }
