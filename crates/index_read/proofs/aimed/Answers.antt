-- No loop. Where no key is sought (aim-none), or the entry is no section's highest (aim-inner), it is 0. Of a section's highest whose F is at least the reach nothing is
-- read (aim_kept). Another is looked at (aim-look).
use Rattle.index_read.proofs.aimed.Lts
use Rattle.index_read.proofs.aimed.Reads
use Rattle.index_read.proofs.aimed.Tie
use Prim.Native.Nat.{◌+◌, ◌-◌, ◌<◌}
use mathlib.Core.Path.{◌≡◌, ◌∙◌}
use native.Mathlib.Omega.{arith}
use borrow.Author.Tests.{eq-eqb}
use Rattle.index_read.proofs.Reaching.{aim-none, aim-inner, aim_kept, aim-look}
use Rattle.index_read.proofs.aimed.Goals as goal

abbrev After-from-state : Type 0
After-from-state = Lts.After-from Tie.the-claims Reads.Pre Reads.Post Tie.handed_clauses

-- a key is sought
sought : (c : After-from-state) → 0 < c.args.reach
sought c = omega (arith, c.if-reach-eq0.false)

-- the entry is a section's highest
top : (c : After-from-state)
    → c.args.p.right - (c.args.by.width + 2) ≡ c.args.p.end
top c = omega (arith, c.if-c-p.false)

pub returns-then-reach-eq0 : goal.returns-then-reach-eq0
returns-then-reach-eq0 c =
    let a = c.args in
    aim-none a.ib.now a.p a.by a.key.now a.reach c.if-reach-eq0.true

pub returns-then-c-p : goal.returns-then-c-p
returns-then-c-p c =
    let a = c.args in
    aim-inner a.ib.now a.p a.by a.key.now a.reach c.if-c-p.true

pub returns-then-reach-from : goal.returns-then-reach-from
returns-then-reach-from c =
    let a = c.args in
    aim_kept a.ib.now a.p a.by a.key.now a.reach (sought c.before.before) (top c.before.before) c.from.result c.from.ensures c.if-reach-from.true

pub look-requires : goal.look-requires
look-requires c =
    record { le_width = (c.requires.0, c.requires.1, c.requires.2, c.requires.3, c.requires.4, c.requires.5 (sought c.before.before)); which = eq-eqb _ _ (top c.before.before) }

pub returns : goal.returns
returns c =
    let a = c.args in
    c.look.ensures
    ∙ aim-look a.ib.now a.p a.by a.key.now a.reach (sought c.before.before.before) (top c.before.before.before) c.from.result c.from.ensures c.if-reach-from.false
