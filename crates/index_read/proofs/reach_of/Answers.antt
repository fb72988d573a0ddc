-- No loop. The first character that is not the key's decides. There is none: the separator is not below the key (reach-ends). The key's is lower: neither is it
-- (reach-above). Else it is, and the reach goes past that character (reach_here).
use Rattle.index_read.proofs.reach_of.Lts
use Rattle.index_read.proofs.reach_of.Reads
use Rattle.index_read.proofs.reach_of.Tie
use Prim.Native.Nat.{ℕ}
use mathlib.Core.Path.{◌≡◌, ◌∙◌, ap}
use mathlib.Core.List.{List}
use lib.ListN.{length}
use Rattle.fields.specs.Bytes.{part}
use Rattle.fields.specs.Order.{common}
use Rattle.fields.proofs.Splices.{part-is}
use Rattle.index_read.proofs.Reaching.{reach-ends, reach-above, reach_here}
use Rattle.index_read.proofs.reach_of.Goals as goal

abbrev After-common_front-state : Type 0
After-common_front-state = Lts.After-common_front Tie.the-claims Reads.Pre Reads.Post

-- how many characters are those of the key
same-is : (c : After-common_front-state)
    → c.common_front-same.result ≡ common c.args.chars.now (part c.args.key.now c.args.front (length c.args.chars.now))
same-is c =
    let a = c.args in
    c.common_front-same.ensures.0 ∙ ap (λ (x : List ℕ). common a.chars.now x) (part-is a.key.now a.front (length a.chars.now))

pub returns-then-chars-same : goal.returns-then-chars-same
returns-then-chars-same c =
    let a = c.args in
    reach-ends a.key.now a.front a.chars.now c.requires c.common_front-same.result (same-is c.before.before) c.if-chars-same.true

pub returns-then-key-front : goal.returns-then-key-front
returns-then-key-front c =
    let a = c.args in
    reach-above a.key.now a.front a.chars.now c.requires c.common_front-same.result (same-is c.before.before.before.before.before) c.if-chars-same.false c.if-key-front.true

pub returns : goal.returns
returns c =
    let a = c.args in
    reach_here a.key.now a.front a.chars.now c.requires c.common_front-same.result (same-is c.before.before.before.before.before) c.if-chars-same.false c.if-key-front.false
