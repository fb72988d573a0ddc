-- shut_by: the keys of a sound interval ascend, so none is above the bound exactly if the last is not. shut-empty: without records none is.
-- last-inside: the last key lies in the interval.
-- compared: the separator is below as many bytes of a key as it has exactly if its bound is below the key.
use Rattle.interval_read.proofs.closes.Lts
use Rattle.interval_read.proofs.closes.Reads
use Rattle.interval_read.proofs.closes.Tie
use Prim.Native.Nat.{◌+◌, ◌≤◌}
use mathlib.Core.Path.{◌≡◌, ◌∙◌, ap}
use mathlib.Core.Bool.{true, false}
use lib.ListN.{length}
use native.Mathlib.Omega.{arith}
use borrow.Author.Rules.{rules}
use Rattle.fields.specs.Order.{is_less, less}
use Rattle.fields.specs.Bytes.{part}
use Rattle.interval.specs.Bounds.{bound}
use Rattle.interval_read.proofs.Verdicts.{Told, shut-empty, compared, last-inside, shut_by}
use Rattle.interval_read.proofs.closes.Goals as goal

abbrev Start-state : Type 0
Start-state = Lts.Start Tie.the-claims Reads.Pre Reads.Post

abbrev Else1-state : Type 0
Else1-state = Lts.Else1 Tie.the-claims Reads.Pre Reads.Post

abbrev After-compare_bytes-state : Type 0
After-compare_bytes-state = Lts.After-compare_bytes Tie.the-claims Reads.Pre Reads.Post

-- what was asked: the interval is sound, and these are its numbers
told : (c : Start-state) → Told c.args.m c.args.ci.now c.args.count c.args.last
told c = record { stands = c.requires.0.3; many = c.requires.0.4; final = c.requires.0.5 }

-- the last key lies in the interval
last-in : (c : Else1-state) → c.args.last + c.args.m.offset + c.args.m.key ≤ length c.args.ci.now
last-in c =
    let a = c.args in
    last-inside a.m a.ci.now (omega arith) (omega arith) a.count a.last (told c.before.before.before) c.if-count-eq0.false

-- what the comparison says: how the bound stands to the last key
answered : (c : After-compare_bytes-state)
    → less (bound c.args.m.key c.args.high.now)
    (part c.args.ci.now (c.args.last + c.args.m.offset) c.args.m.key)
    ≡ is_less c.compare_bytes.result
answered c =
    let a = c.args in
    compared a.m.key a.ci.now a.high.now (a.last + a.m.offset) c.compare_bytes.result c.requires.1 (last-in c.before.before.before)
    (λ i. omega (arith, c.shared_slice_known-1.given i)) c.compare_bytes.ensures

pub returns-then-count-eq0 : goal.returns-then-count-eq0
returns-then-count-eq0 c =
    let a = c.args in
    shut-empty a.m a.ci.now (omega arith) (omega arith) a.count a.last (told c.before.before.before.before) (bound a.m.key a.high.now) c.if-count-eq0.true

pub overflow_add-from : goal.overflow_add-from
overflow_add-from c = omega (arith, last-in c.before.before)

pub overflow_add-to : goal.overflow_add-to
overflow_add-to c = omega (arith, last-in c.before.before, c.requires.1)

pub slice_bounds-compare_bytes-end : goal.slice_bounds-compare_bytes-end
slice_bounds-compare_bytes-end c =
    let z = last-in c.before.before in
    search rules

pub returns-in-Less : goal.returns-in-Less
returns-in-Less c =
    let a = c.args in
    shut_by a.m a.ci.now (omega arith) (omega arith) a.count a.last (told c.before.before.before.before.before.before.before.before) c.if-count-eq0.false (bound a.m.key a.high.now) true
    (answered c.before.before ∙ ap is_less c.in-Less.is)

pub returns-in-Equal : goal.returns-in-Equal
returns-in-Equal c =
    let a = c.args in
    shut_by a.m a.ci.now (omega arith) (omega arith) a.count a.last (told c.before.before.before.before.before.before.before.before) c.if-count-eq0.false (bound a.m.key a.high.now) false
    (answered c.before.before ∙ ap is_less c.in-Equal.is)

pub returns-in-Greater : goal.returns-in-Greater
returns-in-Greater c =
    let a = c.args in
    shut_by a.m a.ci.now (omega arith) (omega arith) a.count a.last (told c.before.before.before.before.before.before.before.before) c.if-count-eq0.false (bound a.m.key a.high.now) false
    (answered c.before.before ∙ ap is_less c.in-Greater.is)
