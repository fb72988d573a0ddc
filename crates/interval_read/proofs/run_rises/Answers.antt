-- run-first: before the first record there is no key, and the empty list is below every key, so the first key is passed without a comparison.
-- After a record the answer is that of rises. one-less splits the first record off the run, which keeps the places in the interval.
use mathlib.Core.Path.{◌∙◌, sym}
use native.Mathlib.Omega.{arith}
use borrow.Author.Tests.{eq-eqb, ne_eqb}
use Rattle.fields.proofs.Numbers.{one_less}
use Rattle.interval_read.proofs.Keys.{run-first}
use Rattle.interval_read.proofs.run_rises.Goals as goal

pub rises-requires : goal.rises-requires
rises-requires c =
    let a = c.args in
    let e = one_less a.keys.len a.keys.count (omega arith) in
    (omega (arith, c.requires.0), omega (arith, c.requires.0), omega (arith, c.requires.0), omega (arith, c.requires.0), omega (arith, c.requires.0))

pub returns-then-seen-eq0 : goal.returns-then-seen-eq0
returns-then-seen-eq0 c =
    let a = c.args in
    let e = one_less a.keys.len a.keys.count (omega arith) in
    c.rises.ensures ∙ rw (eq-eqb a.seen 0 c.if-seen-eq0.true) (sym (run-first a.key a.ci.now a.keys.at a.keys.len a.keys.count (omega arith) (omega arith) (omega arith)))

pub returns : goal.returns
returns c =
    let a = c.args in
    c.rises-2.ensures ∙ rw (ne_eqb a.seen 0 c.if-seen-eq0.false)
