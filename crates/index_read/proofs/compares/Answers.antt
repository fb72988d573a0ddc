-- Both bounds begin with the same F bytes, so what follows decides: m bytes of each, as many as the characters and the rest of the separator
-- before both have (least). Where those are the same, the bound rises exactly where that rest is longer (told, in Rising).
-- That law needs bytes, so that none is above X'FF', and that the separator before doesn't end with X'FF'.
use Rattle.index_read.proofs.compares.Lts
use Rattle.index_read.proofs.compares.Reads
use Rattle.index_read.proofs.compares.Tie
use Prim.Native.Nat.{◌-◌, ◌≤◌, ◌<◌}
use mathlib.Core.Path.{◌≡◌, refl}
use mathlib.Core.Bool.{false}
use mathlib.Core.Logic.{◌⊎◌, inl, inr, ⊎_elim}
use native.Mathlib.Omega.{arith}
use Rattle.index_read.proofs.Rising.{above-less, above_same, above-greater}
use Rattle.index_read.proofs.compares.Goals as goal

abbrev Joined1-state : Type 0
Joined1-state = Lts.Joined1 Tie.the-claims Reads.Pre Reads.Post

-- how many bytes are compared
least : (c : Joined1-state)
    → ((c.args.l < c.args.len - c.args.front) × (c.if-l-rest.m ≡ c.args.l))
    ⊎ ((c.args.len - c.args.front ≤ c.args.l)
    × (c.if-l-rest.m ≡ c.args.len - c.args.front))
least c = ⊎_elim (λ p. inl (p.if-l-rest.true, p.m-is)) (λ p. inr (p.if-l-rest.false, p.m-is)) c.if-l-rest.branch-raw

both-have : (c : Joined1-state) → (c.if-l-rest.m ≤ c.args.l) × (c.if-l-rest.m ≤ c.args.len - c.args.front)
both-have c = ⊎_elim (λ p. (omega (arith, p.0, p.1), omega (arith, p.0, p.1))) (λ p. (omega (arith, p.0, p.1), omega (arith, p.0, p.1))) (least c)

pub overflow_add-e : goal.overflow_add-e
overflow_add-e c = let p = c.requires in omega (arith, (both-have c.before.before).1, p.0, p.1)

pub overflow_add-z : goal.overflow_add-z
overflow_add-z c = omega (arith, (both-have c.before.before).0, c.requires.2)

pub slice_bounds-compare_bytes-end : goal.slice_bounds-compare_bytes-end
slice_bounds-compare_bytes-end c = let p = c.requires in omega (arith, (both-have c.before.before).1, p.0, p.1)

pub slice_bounds-compare_bytes-end-2 : goal.slice_bounds-compare_bytes-end-2
slice_bounds-compare_bytes-end-2 c = omega (arith, (both-have c.before.before.before).0, c.requires.2)

pub returns-in-Less : goal.returns-in-Less
returns-in-Less c = λ K k1 k2.
    let q = c.compare_bytes-o in
    let a = c.args in
    let p = c.requires in
    above-less a.buf.now a.ib.now a.front a.len a.at a.l p.0 p.1 p.2 p.3
    (λ i. omega (arith, c.shared_slice_known-1.given i)) (λ i. omega (arith, c.shared_slice_known-2-1.given i)) K k1 k2 false
    refl c.if-l-rest.m (least c.before.before.before.before.before.before) q.result q.ensures c.in-Less.is

pub returns-in-Equal : goal.returns-in-Equal
returns-in-Equal c = λ K k1 k2.
    let q = c.compare_bytes-o in
    let a = c.args in
    let p = c.requires in
    above_same a.buf.now a.ib.now a.front a.len a.at a.l p.0 p.1 p.2 p.3
    (λ i. omega (arith, c.shared_slice_known-1.given i)) (λ i. omega (arith, c.shared_slice_known-2-1.given i)) K k1 k2 false
    refl c.if-l-rest.m (least c.before.before.before.before.before.before) q.result q.ensures c.in-Equal.is

pub returns-in-Greater : goal.returns-in-Greater
returns-in-Greater c = λ K k1 k2.
    let q = c.compare_bytes-o in
    let a = c.args in
    let p = c.requires in
    above-greater a.buf.now a.ib.now a.front a.len a.at a.l p.0 p.1 p.2 p.3
    (λ i. omega (arith, c.shared_slice_known-1.given i)) (λ i. omega (arith, c.shared_slice_known-2-1.given i)) K k1 k2 false
    refl c.if-l-rest.m (least c.before.before.before.before.before.before) q.result q.ensures c.in-Greater.is
