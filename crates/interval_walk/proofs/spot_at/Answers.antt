use Prim.Native.Nat.{ℕ, ◌+◌, ◌-◌, ◌*◌, ◌≤◌, ◌<◌}
use mathlib.Core.Path.{◌≡◌, ◌∙◌, sym, ap}
use lib.ListN.{length}
use native.Mathlib.Omega.{arith}
use native.Mathlib.Nat.{mul-le-mul_right}
use Rattle.std.specs.Prelude.{Some}
use Rattle.fields.specs.Choice.{pick}
use Rattle.interval.specs.Reading.{rdfs}
use Rattle.interval.proofs.Readable.{readable-rdfs, records-few}
use Rattle.rdf.specs.AidFront.{front_of, Small}
use Rattle.interval_find.proofs.Runs.{no-damage, passed_none, passed-all, passed-more, more-count, more_bytes, run_end, run_fits}
use Rattle.interval_walk.proofs.Seeking.{pick-then, pick-else, edge-inside, run-stands}
use Rattle.interval_walk.proofs.spot_at.Goals as goal
use Rattle.interval_walk.proofs.spot_at.Goals.{In-Some, Then-i-ordinal, Joined-forward, Joined-forward-2, then-forward, else-forward, then-forward-2, else-forward-2}

-- the run that was read
abbrev len_of : In-Some → ℕ
len_of k = k.in-Some.field-0.len

abbrev count_of : In-Some → ℕ
count_of k = k.in-Some.field-0.count

abbrev used-of : In-Some → ℕ
used-of k = k.in-Some.field-0.used

small : (k : In-Some) → Small k.loop-left.left (Some k.in-Some.field-0)
small k = rw k.in-Some.is at k.group_at.ensures.small

module _ (k : In-Some) where
  told : Some k.in-Some.field-0 ≡ front_of k.args.m.least k.args.m.most (rdfs k.args.ci.now k.rdfs_of-rdfs.result.at k.loop-left.left)
  told = sym k.in-Some.is ∙ k.group_at.ensures.is

  some : 0 < k.loop-left.left
  some = k.loop-left-test.true

  -- it ends in the interval, in bytes and in records
  ends : (k.loop-left.start + count_of k * len_of k + 4 ≤ length k.args.ci.now)
      × (k.loop-left.ordinal + count_of k + 4 ≤ length k.args.ci.now)
  ends =
      let i = k.loop-left.invariant in
      let p : ℕ = k.rdfs_of-rdfs.result.at in
      let l : ℕ = k.loop-left.left in (
        omega (arith, run_end k.args.m k.args.ci.now k.requires.0 p l i.0 some (len_of k) (count_of k) (used-of k) told (small k), i.2),
        omega (
          arith,
          run_fits k.args.m k.args.ci.now k.requires.0 p l i.0 some (len_of k) (count_of k) (used-of k) told (small k),
          records-few k.args.m k.args.ci.now k.requires.0,
          i.1,
        ),
      )

  -- the RDFs end in the interval
  edge : k.rdfs_of-rdfs.result.at + 3 * k.loop-left.left + 4 ≤ length k.args.ci.now
  edge =
      edge-inside k.args.m k.args.ci.now k.requires.0 k.rdfs_of-rdfs.result.at k.loop-left.left k.rdfs_of-rdfs.ensures.0 k.loop-left.invariant.4
      k.loop-left.invariant.0

pub rdfs_of-rdfs-requires : goal.rdfs_of-rdfs-requires
rdfs_of-rdfs-requires c = omega (arith, readable-rdfs c.args.m c.args.ci.now c.requires.0, c.requires.0.sized)

pub loop-left-init : goal.loop-left-init
loop-left-init c =
    let e = c.rdfs_of-rdfs.ensures in
    let n = passed_none c.args.m c.args.ci.now c.requires.0 c.rdfs_of-rdfs.result.at _ e.0 e.1 in
    (n.0, n.1, n.2, omega arith, omega (arith, e.1))

pub group_at-requires : goal.group_at-requires
group_at-requires c = (c.loop-left-test.true, c.loop-left.invariant.0.room)

pub unreachable-requires : goal.unreachable-requires
unreachable-requires c =
    no-damage c.args.m.least c.args.m.most c.args.ci.now c.rdfs_of-rdfs.result.at c.loop-left.left c.loop-left.invariant.0.formed
    c.loop-left-test.true
    (sym c.in_default.is ∙ c.group_at.ensures.is)

pub overflow_add-ordinal : goal.overflow_add-ordinal
overflow_add-ordinal c = omega (arith, (ends c).1, c.requires.0.small)

pub overflow_sub-j : goal.overflow_sub-j
overflow_sub-j c = omega (arith, c.loop-left.invariant.3)

-- what is known in the run that holds the ordinal
abbrev j-of : Then-i-ordinal → ℕ
j-of t = t.args.i - t.loop-left.ordinal

in-run : (t : Then-i-ordinal)
    → (j-of t < t.in-Some.field-0.count) × (j-of t * t.in-Some.field-0.len ≤ t.in-Some.field-0.count * t.in-Some.field-0.len)
in-run t =
    let h : j-of t < t.in-Some.field-0.count = omega (arith, t.if-i-ordinal.true, t.loop-left.invariant.3) in
    (h, mul-le-mul_right t.in-Some.field-0.len (omega (arith, h)))

-- how many records of the run are to come, and how many RDFs lie left of where it ends in the direction
ahead-told : (t : Joined-forward)
    → t.if-forward.ahead ≡ pick t.args.forward (t.in-Some.field-0.count - 1 - (t.args.i - t.loop-left.ordinal)) (t.args.i - t.loop-left.ordinal)
ahead-told t =
    elim t.if-forward.branch [
      | then-forward w ↦ pick-then _ _ _ _ w.if-forward.true w.ahead-is
      | else-forward w ↦ pick-else _ _ _ _ w.if-forward.false w.ahead-is
    ]

at_told : (t : Joined-forward-2) → t.if-forward-2.at ≡ pick t.args.forward (t.loop-left.left - t.in-Some.field-0.used) t.loop-left.left
at_told t =
    elim t.if-forward-2.branch [
      | then-forward-2 w ↦ pick-then _ _ _ _ w.if-forward-2.true w.at-is
      | else-forward-2 w ↦ pick-else _ _ _ _ w.if-forward-2.false w.at-is
    ]

at-few : (t : Joined-forward-2) → t.if-forward-2.at ≤ t.loop-left.left
at-few t =
    elim t.if-forward-2.branch [ then-forward-2 w ↦ omega (arith, w.at-is) | else-forward-2 w ↦ omega (arith, w.at-is) ]

pub overflow_add-result : goal.overflow_add-result
overflow_add-result c =
    let at = goal.at.overflow_add-result c in
    omega (arith, (in-run at.Then-i-ordinal).1, (ends at.In-Some).0, c.requires.0.small)

pub overflow_mul-result-then-i-ordinal : goal.overflow_mul-result-then-i-ordinal
overflow_mul-result-then-i-ordinal c =
    let at = goal.at.overflow_mul-result-then-i-ordinal c in
    omega (arith, at-few at.Joined-forward-2, edge at.In-Some, c.requires.0.small)

pub overflow_add-result-then-i-ordinal : goal.overflow_add-result-then-i-ordinal
overflow_add-result-then-i-ordinal c =
    let at = goal.at.overflow_add-result-then-i-ordinal c in
    omega (arith, at-few at.Joined-forward-2, edge at.In-Some, c.requires.0.small)

pub returns-then-i-ordinal : goal.returns-then-i-ordinal
returns-then-i-ordinal c =
    let v = c.loop-left.invariant in
    let at = goal.at.returns-then-i-ordinal c in
    let k = at.In-Some in
    let t = at.Then-i-ordinal in
    run-stands c.args.m c.args.ci.now c.requires.0 c.rdfs_of-rdfs.result.at c.loop-left.left c.rdfs_of-rdfs.ensures.0 v.4 v.0 (some k) (len_of k) (count_of k) (used-of k)
    (told k) (small k) (j-of t) (in-run t).0 c.args.i (c.loop-left.start + j-of t * len_of k) (omega (arith, v.1, v.3)) (omega (arith, v.2)) c.args.forward
    c.if-forward.ahead
    c.if-forward-2.at (ahead-told at.Joined-forward) (at_told at.Joined-forward-2)

pub overflow_add-start : goal.overflow_add-start
overflow_add-start c = omega (arith, (ends (goal.at.overflow_add-start c).In-Some).0, c.requires.0.small)

pub loop-left-preserved : goal.loop-left-preserved
loop-left-preserved c =
    let i = c.loop-left.invariant in
    let p : ℕ = c.rdfs_of-rdfs.result.at in
    let l : ℕ = c.loop-left.left in
    let k = (goal.at.loop-left-preserved c).In-Some in (
      passed-more c.args.m c.args.ci.now c.requires.0 p l i.0 (some k) (len_of k) (count_of k) (used-of k) (told k) (small k),
      more-count c.args.m c.args.ci.now c.requires.0 p l i.0 (some k) (len_of k) (count_of k) (used-of k) (told k) (small k)
          ∙ ap (λ (x : ℕ). x + count_of k) i.1,
      more_bytes c.args.m c.args.ci.now c.requires.0 p l i.0 (some k) (len_of k) (count_of k) (used-of k) (told k) (small k)
          ∙ ap (λ (x : ℕ). x + count_of k * len_of k) i.2,
      omega (arith, c.if-i-ordinal.false),
      omega (arith, i.4),
    )

pub unreachable-requires-2 : goal.unreachable-requires-2
unreachable-requires-2 c =
    let i = c.loop-left.invariant in
    let z : c.loop-left.left ≡ 0 = omega (arith, c.loop-left-test.false) in
    let n = passed-all c.args.m c.args.ci.now c.requires.0 c.rdfs_of-rdfs.result.at c.loop-left.left i.0 z in
    omega (arith, n.0, i.1, i.3, c.requires.1)
