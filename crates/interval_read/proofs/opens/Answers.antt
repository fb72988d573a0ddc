-- sound-told and unsound-told take the verdict of check apart; opens_not: an unsound interval does not open.
-- way-first: with no bound before, low counts as the empty list, which is below every key. way-empty: there is no record.
-- way_above and way-below: the keys ascend, so all are above the bound exactly if the first is. some-there: the first key lies in the interval.
-- compared: the separator is below as many bytes of a key as it has exactly if its bound is below the key.
use Prim.Native.Nat.{ℕ, ◌+◌, ◌≤◌}
use mathlib.Core.Path.{◌≡◌, ◌∙◌, sym, ap}
use mathlib.Core.List.{List, []}
use lib.ListN.{length}
use native.Mathlib.Omega.{arith}
use borrow.Author.Rules.{rules}
use Rattle.fields.specs.Choice.{pick}
use Rattle.fields.specs.Order.{is_less, less}
use Rattle.fields.specs.Bytes.{part}
use Rattle.fields.proofs.Answers.{not-less}
use Rattle.interval.specs.Bounds.{bound}
use Rattle.std.specs.Prelude.{Option, Some}
use Rattle.measures.specs.declared.Measures.{Measures}
use Rattle.interval_read.specs.Verdict.{verdict_of}
use Rattle.interval_read.specs.declared.Verdict.{Verdict}
use Rattle.interval_read.proofs.Verdicts.{Told, sound-told, unsound-told, opens_not, compared, way-first, way-empty, way_above, way-below, some-there}
use Rattle.interval_read.proofs.opens.Goals as goal
use Rattle.interval_read.proofs.opens.Goals.{Else-count-eq0, After-compare_bytes}

told : {m : Measures} {ci : List ℕ} {r : Option Verdict} {v : Verdict} → r ≡ verdict_of m ci → r ≡ Some v → Told m ci v.count v.last
told e w = sound-told _ _ _ (sym w ∙ e)

-- the first key lies in the interval
first-inside : (c : Else-count-eq0) → c.args.m.offset + c.args.m.key ≤ length c.args.ci.now
first-inside c =
    let a = c.args in
    (some-there a.m a.ci.now (omega arith) (omega arith) _ _ (told c.check.ensures c.in_ok-count.was) c.if-count-eq0.false).first-in

-- what the comparison says: how the bound stands to the first key
answered : (c : After-compare_bytes)
    → c.args.m.offset + c.args.m.key ≤ length c.args.ci.now
    → less (bound c.args.m.key c.args.low.now)
    (part c.args.ci.now c.args.m.offset c.args.m.key)
    ≡ is_less c.compare_bytes.result
answered c i =
    let a = c.args in
    compared a.m.key a.ci.now a.low.now a.m.offset c.compare_bytes.result (omega arith) i
    (λ j. omega (arith, c.type_inv.ci j)) c.compare_bytes.ensures

pub returns-in_err-count : goal.returns-in_err-count
returns-in_err-count c =
    let a = c.args in
    record {
      is = c.from_residual.ensures
          ∙ opens_not a.m (pick a.first [] (bound a.m.key a.low.now)) a.ci.now (unsound-told a.m a.ci.now (sym c.in_err-count.was ∙ c.check.ensures));
      inside = rw c.from_residual.ensures tt;
    }

pub returns-then-first : goal.returns-then-first
returns-then-first c =
    let a = c.args in
    let t = told c.check.ensures c.in_ok-count.was in record {
      is = way-first a.m a.ci.now (omega arith) (omega arith) c.in_ok-count.field-0.count c.in_ok-count.field-0.last t a.first (bound a.m.key a.low.now)
          c.if-first.true;
      inside = (t.stands, t.many, t.final);
    }

pub returns-then-count-eq0 : goal.returns-then-count-eq0
returns-then-count-eq0 c =
    let a = c.args in
    let t = told c.check.ensures c.in_ok-count.was in record {
      is = way-empty a.m a.ci.now (omega arith) (omega arith) c.in_ok-count.field-0.count c.in_ok-count.field-0.last t (pick a.first [] (bound a.m.key a.low.now))
          c.if-count-eq0.true;
      inside = (t.stands, t.many, t.final);
    }

pub slice_bounds-compare_bytes-end : goal.slice_bounds-compare_bytes-end
slice_bounds-compare_bytes-end c =
    let z = first-inside (goal.at.slice_bounds-compare_bytes-end c).Else-count-eq0 in
    search rules

pub returns-in_default : goal.returns-in_default
returns-in_default c =
    let a = c.args in record {
      is = way-below a.m a.ci.now (omega arith) (omega arith) c.in_ok-count.field-0.count c.in_ok-count.field-0.last (told c.check.ensures c.in_ok-count.was)
          c.if-count-eq0.false a.first (bound a.m.key a.low.now) c.if-first.false
          (answered (goal.at.returns-in_default c).After-compare_bytes (first-inside (goal.at.returns-in_default c).Else-count-eq0) ∙ not-less c.compare_bytes.result c.in_default.not-Less);
      inside = tt;
    }

pub returns : goal.returns
returns c =
    let a = c.args in
    let t = told c.check.ensures c.in_ok-count.was in record {
      is = way_above a.m a.ci.now (omega arith) (omega arith) c.in_ok-count.field-0.count c.in_ok-count.field-0.last t
          c.if-count-eq0.false a.first (bound a.m.key a.low.now) c.if-first.false
          (answered (goal.at.returns c).After-compare_bytes (first-inside (goal.at.returns c).Else-count-eq0) ∙ ap is_less c.in-Less.is);
      inside = (t.stands, t.many, t.final);
    }
