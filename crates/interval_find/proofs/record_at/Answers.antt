use Prim.Native.Nat.{ℕ, ◌+◌, ◌*◌, ◌≤◌, ◌<◌}
use mathlib.Core.Path.{◌≡◌, ◌∙◌, sym, ap}
use mathlib.Core.List.{[]}
use lib.ListN.{length, get_or}
use native.Mathlib.Omega.{arith}
use Rattle.interval.specs.Reading.{rdfs, records_in}
use Rattle.interval.specs.Search.{start_of}
use Rattle.interval.proofs.Readable.{readable-rdfs}
use Rattle.std.specs.Prelude.{Some}
use Rattle.rdf.specs.AidFront.{front_of, Small}
use Rattle.rdf.proofs.Fronts.{front-within}
use Rattle.interval_find.proofs.Runs.{no-damage, Passed, passed_none, passed-all, passed-more, more_bytes, run-starts, each_long, run_end, run_fits}
use Rattle.interval_find.proofs.Starting.{none-behind, run-begins, run-between}
use Rattle.interval_find.proofs.record_at.Goals as goal
use Rattle.interval_find.proofs.record_at.Goals.{In_ok-len}

-- the run that was read
abbrev len_of : In_ok-len → ℕ
len_of k = k.in_ok-len.field-0.len

abbrev count_of : In_ok-len → ℕ
count_of k = k.in_ok-len.field-0.count

abbrev used-of : In_ok-len → ℕ
used-of k = k.in_ok-len.field-0.used

small : (k : In_ok-len) → Small k.loop-left.left (Some k.in_ok-len.field-0)
small k = rw k.in_ok-len.was at k.group_at.ensures.small

module _ (k : In_ok-len) where
  told : Some k.in_ok-len.field-0
      ≡ front_of k.args.m.least k.args.m.most (rdfs k.args.ci.now k.rdfs_of-rdfs.result.at
      k.loop-left.left)
  told = sym k.in_ok-len.was ∙ k.group_at.ensures.is

  some : 0 < k.loop-left.left
  some = k.loop-left-test.true

  long : 0 < len_of k
  long =
      omega (
        arith,
        front-within k.args.m.least k.args.m.most (rdfs k.args.ci.now k.rdfs_of-rdfs.result.at k.loop-left.left) (len_of k)
            (count_of k) (used-of k) told,
        k.requires.inside,
        k.requires.keyed,
      )

  ends : k.loop-left.start + count_of k * len_of k + 4 ≤ length k.args.ci.now
  ends =
      let i = k.loop-left.invariant in
      omega (
        arith,
        run_end k.args.m k.args.ci.now k.requires k.rdfs_of-rdfs.result.at k.loop-left.left i.0 some (len_of k) (count_of k)
            (used-of k) told (small k),
        i.1,
      )

pub rdfs_of-rdfs-requires : goal.rdfs_of-rdfs-requires
rdfs_of-rdfs-requires c =
    omega (arith, readable-rdfs c.args.m c.args.ci.now c.requires, c.requires.sized)

pub loop-left-init : goal.loop-left-init
loop-left-init c =
    let e = c.rdfs_of-rdfs.ensures in
    let n = passed_none c.args.m c.args.ci.now c.requires c.rdfs_of-rdfs.result.at c.rdfs_of-rdfs.result.many e.0 e.1 in
    (n.0, n.2, omega arith)

pub group_at-requires : goal.group_at-requires
group_at-requires c = (c.loop-left-test.true, c.loop-left.invariant.0.room)

pub returns-in_err-len : goal.returns-in_err-len
returns-in_err-len c =
    absurd (no-damage c.args.m.least c.args.m.most c.args.ci.now c.rdfs_of-rdfs.result.at c.loop-left.left c.loop-left.invariant.0.formed
    c.loop-left-test.true
    (sym c.in_err-len.was ∙ c.group_at.ensures.is))

pub overflow_add-end : goal.overflow_add-end
overflow_add-end c = omega (arith, ends (goal.at.overflow_add-end c).In_ok-len, c.requires.small)

pub overflow_sub-place : goal.overflow_sub-place
overflow_sub-place c = omega (arith, c.loop-left.invariant.2)

pub nonzero_rem-place : goal.nonzero_rem-place
nonzero_rem-place c = omega (arith, long (goal.at.nonzero_rem-place c).In_ok-len)

-- what is known of the run that the place lies in
module _ (k : In_ok-len) where
  abbrev g : Passed k.args.m k.args.ci.now k.rdfs_of-rdfs.result.at k.loop-left.left
  g = k.loop-left.invariant.0

  starts : (i : ℕ) → i ≤ count_of k
      → start_of (length g.done + i) (records_in k.args.ci.now) ≡ k.loop-left.start + i * len_of k
  starts i h =
      run-starts k.args.m k.args.ci.now k.requires k.rdfs_of-rdfs.result.at k.loop-left.left g (some k) (len_of k)
      (count_of k)
      (used-of k) (told k) (small k) i h ∙ ap (λ (x : ℕ). x + i * len_of k) k.loop-left.invariant.1

  longs : (i : ℕ) → i < count_of k → length (get_or (records_in k.args.ci.now) (length g.done + i) []) ≡ len_of k
  longs =
      each_long k.args.m k.args.ci.now k.requires k.rdfs_of-rdfs.result.at k.loop-left.left g (some k) (len_of k)
      (count_of k)
      (used-of k) (told k) (small k)

  fits : length g.done + count_of k ≤ length (records_in k.args.ci.now)
  fits =
      run_fits k.args.m k.args.ci.now k.requires k.rdfs_of-rdfs.result.at k.loop-left.left g (some k) (len_of k)
      (count_of k)
      (used-of k) (told k) (small k)

pub returns-then-place-start-ne0 : goal.returns-then-place-start-ne0
returns-then-place-start-ne0 c =
    record {
      is = run-between c.args.m c.args.ci.now c.requires c.args.place (length (g (goal.at.returns-then-place-start-ne0 c).In_ok-len).done) c.loop-left.start (len_of (goal.at.returns-then-place-start-ne0 c).In_ok-len) (count_of (goal.at.returns-then-place-start-ne0 c).In_ok-len)
          (fits (goal.at.returns-then-place-start-ne0 c).In_ok-len) (starts (goal.at.returns-then-place-start-ne0 c).In_ok-len) (longs (goal.at.returns-then-place-start-ne0 c).In_ok-len)
          (long (goal.at.returns-then-place-start-ne0 c).In_ok-len) c.loop-left.invariant.2 c.if-place-end.true c.if-place-start-ne0.true;
      ends = tt;
    }

pub returns-then-place-end : goal.returns-then-place-end
returns-then-place-end c =
    let told = run-begins c.args.m c.args.ci.now c.requires c.args.place (length (g (goal.at.returns-then-place-end c).In_ok-len).done) c.loop-left.start (len_of (goal.at.returns-then-place-end c).In_ok-len) (count_of (goal.at.returns-then-place-end c).In_ok-len)
    (fits (goal.at.returns-then-place-end c).In_ok-len) (starts (goal.at.returns-then-place-end c).In_ok-len) (longs (goal.at.returns-then-place-end c).In_ok-len)
    (long (goal.at.returns-then-place-end c).In_ok-len) c.loop-left.invariant.2 c.if-place-end.true c.if-place-start-ne0.false in record { is = told.0; ends = told.1 }

pub loop-left-preserved : goal.loop-left-preserved
loop-left-preserved c =
    let i = c.loop-left.invariant in
    let p : ℕ = c.rdfs_of-rdfs.result.at in
    let l : ℕ = c.loop-left.left in (
      passed-more c.args.m c.args.ci.now c.requires p l i.0 (some (goal.at.loop-left-preserved c).In_ok-len) (len_of (goal.at.loop-left-preserved c).In_ok-len) (count_of (goal.at.loop-left-preserved c).In_ok-len) (used-of (goal.at.loop-left-preserved c).In_ok-len) (told (goal.at.loop-left-preserved c).In_ok-len) (small (goal.at.loop-left-preserved c).In_ok-len),
      more_bytes c.args.m c.args.ci.now c.requires p l i.0 (some (goal.at.loop-left-preserved c).In_ok-len) (len_of (goal.at.loop-left-preserved c).In_ok-len) (count_of (goal.at.loop-left-preserved c).In_ok-len) (used-of (goal.at.loop-left-preserved c).In_ok-len) (told (goal.at.loop-left-preserved c).In_ok-len) (small (goal.at.loop-left-preserved c).In_ok-len) ∙ ap (λ (x : ℕ). x + count_of (goal.at.loop-left-preserved c).In_ok-len * len_of (goal.at.loop-left-preserved c).In_ok-len) i.1,
      omega (arith, c.if-place-end.false),
    )

pub returns : goal.returns
returns c =
    let i = c.loop-left.invariant in
    let z : c.loop-left.left ≡ 0 = omega (arith, c.loop-left-test.false) in
    let n = passed-all c.args.m c.args.ci.now c.requires c.rdfs_of-rdfs.result.at c.loop-left.left i.0 z in
    record { is = none-behind c.args.m c.args.ci.now c.requires c.args.place (omega (arith, n.1, i.1, i.2)); ends = tt }
