use Prim.Native.Nat.{ℕ, ◌+◌, ◌-◌, ◌*◌, ◌^◌, ◌≤◌, ◌<◌}
use mathlib.Core.Path.{◌≡◌, ◌∙◌, sym, ap}
use lib.ListN.{length}
use native.Mathlib.Omega.{arith}
use Rattle.interval.specs.Reading.{records_in, rdfs}
use Rattle.interval.specs.declared.Found.TheVariants.{Gap}
use Rattle.interval.proofs.Readable.{readable-rdfs, readable-ascends, records-few}
use Rattle.std.specs.Prelude.{Some}
use Rattle.rdf.specs.AidFront.{front_of, Small}
use Rattle.interval_find.specs.AidRuns.{RunIn}
use Rattle.interval_find.specs.declared.Run.{Run}
use Rattle.interval_find.proofs.Placing.{gap-last}
use Rattle.interval_find.proofs.Runs.{no-damage, passed_none, passed-last, passed-more, more-count, more_bytes, run_end, run_fits, run_lies}
use Rattle.interval_find.proofs.Halving.{run-key-inside, run_small, run-below, run-same, run-above, find-ends}
use Rattle.interval_find.proofs.find.Goals as goal
use Rattle.interval_find.proofs.find.Goals.{In-Some}

-- the run that was read
abbrev len_of : In-Some → ℕ
len_of k = k.in-Some.field-0.len

abbrev count_of : In-Some → ℕ
count_of k = k.in-Some.field-0.count

abbrev used-of : In-Some → ℕ
used-of k = k.in-Some.field-0.used

abbrev run_of : In-Some → Run
run_of k = record { ordinal = k.loop-left.ordinal; start = k.loop-left.start; len = len_of k; last = count_of k - 1 }

small : (k : In-Some) → Small k.loop-left.left (Some k.in-Some.field-0)
small k = rw k.in-Some.is at k.group_at.ensures.small

module _ (k : In-Some) where
  told : Some k.in-Some.field-0
      ≡ front_of k.args.m.least k.args.m.most (rdfs k.args.ci.now k.rdfs_of-rdfs.result.at k.loop-left.left)
  told = sym k.in-Some.is ∙ k.group_at.ensures.is

  some : 0 < k.loop-left.left
  some = k.loop-left-test.true

  lies : RunIn k.args.ci.now (run_of k)
  lies =
      let i = k.loop-left.invariant in
      run_lies k.args.m k.args.ci.now k.requires.0 k.rdfs_of-rdfs.result.at k.loop-left.left i.0 some (len_of k) (count_of k) (used-of k) told (small k)
      k.loop-left.ordinal k.loop-left.start i.1 i.2

  -- no number is too large
  last-small : (k.loop-left.ordinal + (count_of k - 1) < 2 ^ 63) × (k.loop-left.start + (count_of k - 1) * len_of k < 2 ^ 63)
  last-small =
      run_small k.args.m k.args.ci.now k.args.key.now k.requires.0 (run_of k) lies (count_of k - 1) (omega arith)

  ends : (k.loop-left.ordinal + count_of k ≤ length (records_in k.args.ci.now))
      × (k.loop-left.start + count_of k * len_of k + 4 ≤ length k.args.ci.now)
  ends =
      let i = k.loop-left.invariant in
      let f = run_fits k.args.m k.args.ci.now k.requires.0 k.rdfs_of-rdfs.result.at k.loop-left.left i.0 some (len_of k) (count_of k) (used-of k) told
      (small k) in
      let e = run_end k.args.m k.args.ci.now k.requires.0 k.rdfs_of-rdfs.result.at k.loop-left.left i.0 some (len_of k) (count_of k) (used-of k) told
      (small k) in
      (omega (arith, f, i.1), omega (arith, e, i.2))

  many-small : length (records_in k.args.ci.now) < 2 ^ 63
  many-small = omega (arith, records-few k.args.m k.args.ci.now k.requires.0, k.requires.0.small)

pub rdfs_of-rdfs-requires : goal.rdfs_of-rdfs-requires
rdfs_of-rdfs-requires c =
    omega (arith, readable-rdfs c.args.m c.args.ci.now c.requires.0, c.requires.0.sized)

pub loop-left-init : goal.loop-left-init
loop-left-init c =
    let e = c.rdfs_of-rdfs.ensures in
    let n = passed_none c.args.m c.args.ci.now c.requires.0 c.rdfs_of-rdfs.result.at c.rdfs_of-rdfs.result.many e.0 e.1 in
    (n.0, n.1, n.2, omega arith)

pub group_at-requires : goal.group_at-requires
group_at-requires c = (c.loop-left-test.true, c.loop-left.invariant.0.room)

pub returns-in_default : goal.returns-in_default
returns-in_default c =
    absurd (no-damage c.args.m.least c.args.m.most c.args.ci.now c.rdfs_of-rdfs.result.at c.loop-left.left c.loop-left.invariant.0.formed
    c.loop-left-test.true
    (sym c.in_default.is ∙ c.group_at.ensures.is))

pub overflow_add-start : goal.overflow_add-start
overflow_add-start c = omega (arith, last-small (goal.at.overflow_add-start c).In-Some)

pub order_at-requires : goal.order_at-requires
order_at-requires c =
    (run-key-inside c.args.m c.args.ci.now c.args.key.now c.requires.0 (run_of (goal.at.order_at-requires c).In-Some) (lies (goal.at.order_at-requires c).In-Some) (count_of (goal.at.order_at-requires c).In-Some - 1) (omega arith), c.requires.1)

pub found-requires : goal.found-requires
found-requires c = last-small (goal.at.found-requires c).In-Some

pub returns-in-Equal : goal.returns-in-Equal
returns-in-Equal c =
    let told = find-ends c.args.m c.args.ci.now c.args.key.now c.requires.0 _
    (c.found.ensures ∙ run-same c.args.m c.args.ci.now c.args.key.now c.requires.0 (run_of (goal.at.returns-in-Equal c).In-Some) (lies (goal.at.returns-in-Equal c).In-Some) (count_of (goal.at.returns-in-Equal c).In-Some - 1) (omega arith) _ (sym c.order_at.ensures)
    c.in-Equal.is) in record { is = told.0; within = told.1 }

pub find_in-requires : goal.find_in-requires
find_in-requires c = (
  c.requires.0,
  c.requires.1,
  lies (goal.at.find_in-requires c).In-Some,
  record {
    before = c.loop-left.invariant.3;
    above = run-above c.args.m c.args.ci.now c.args.key.now c.requires.0 (run_of (goal.at.find_in-requires c).In-Some) (lies (goal.at.find_in-requires c).In-Some) (count_of (goal.at.find_in-requires c).In-Some - 1) (omega arith) _ (sym c.order_at.ensures)
        c.in-Greater.is;
  },
)

pub returns-in-Greater : goal.returns-in-Greater
returns-in-Greater c =
    let told = find-ends c.args.m c.args.ci.now c.args.key.now c.requires.0 _ c.find_in.ensures in record { is = told.0; within = told.1 }

pub overflow_add-ordinal : goal.overflow_add-ordinal
overflow_add-ordinal c = omega (arith, ends (goal.at.overflow_add-ordinal c).In-Some, many-small (goal.at.overflow_add-ordinal c).In-Some)

pub overflow_add-start-in-loop-left : goal.overflow_add-start-in-loop-left
overflow_add-start-in-loop-left c = omega (arith, ends (goal.at.overflow_add-start-in-loop-left c).In-Some, c.requires.0.small)

pub loop-left-preserved : goal.loop-left-preserved
loop-left-preserved c =
    let i = c.loop-left.invariant in
    let b = run-below c.args.m c.args.ci.now c.args.key.now c.requires.0 (run_of (goal.at.loop-left-preserved c).In-Some) (lies (goal.at.loop-left-preserved c).In-Some) (count_of (goal.at.loop-left-preserved c).In-Some - 1) (omega arith) _ (sym c.order_at.ensures)
    c.in-Less.is in
    let p : ℕ = c.rdfs_of-rdfs.result.at in
    let l : ℕ = c.loop-left.left in (
      passed-more c.args.m c.args.ci.now c.requires.0 p l i.0 (some (goal.at.loop-left-preserved c).In-Some) (len_of (goal.at.loop-left-preserved c).In-Some) (count_of (goal.at.loop-left-preserved c).In-Some) (used-of (goal.at.loop-left-preserved c).In-Some) (told (goal.at.loop-left-preserved c).In-Some) (small (goal.at.loop-left-preserved c).In-Some),
      more-count c.args.m c.args.ci.now c.requires.0 p l i.0 (some (goal.at.loop-left-preserved c).In-Some) (len_of (goal.at.loop-left-preserved c).In-Some) (count_of (goal.at.loop-left-preserved c).In-Some) (used-of (goal.at.loop-left-preserved c).In-Some) (told (goal.at.loop-left-preserved c).In-Some) (small (goal.at.loop-left-preserved c).In-Some) ∙ rw i.1,
      more_bytes c.args.m c.args.ci.now c.requires.0 p l i.0 (some (goal.at.loop-left-preserved c).In-Some) (len_of (goal.at.loop-left-preserved c).In-Some) (count_of (goal.at.loop-left-preserved c).In-Some) (used-of (goal.at.loop-left-preserved c).In-Some) (told (goal.at.loop-left-preserved c).In-Some) (small (goal.at.loop-left-preserved c).In-Some) ∙ rw i.2,
      omega (arith, b, small (goal.at.loop-left-preserved c).In-Some),
    )

pub returns : goal.returns
returns c =
    let i = c.loop-left.invariant in
    let z : c.loop-left.left ≡ 0 = omega (arith, c.loop-left-test.false) in
    let p : ℕ = c.rdfs_of-rdfs.result.at in
    let n = passed-last c.args.m c.args.ci.now c.requires.0 p c.loop-left.left i.0 z c.loop-left.ordinal c.loop-left.start i.1 i.2 in
    let g = gap-last c.args.m c.args.key.now (records_in c.args.ci.now) (readable-ascends c.args.m c.args.ci.now c.requires.0) c.loop-left.ordinal n.0 i.3 in
    let told = find-ends c.args.m c.args.ci.now c.args.key.now c.requires.0 _ (ap (Gap c.loop-left.ordinal) (sym n.1) ∙ g) in record { is = told.0; within = told.1 }
