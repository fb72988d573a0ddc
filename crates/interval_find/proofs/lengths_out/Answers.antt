use Prim.Native.Nat.{ℕ, ◌≤◌, ◌+◌, ◌-◌}
use mathlib.Core.Path.{◌≡◌, ◌∙◌, sym, ap}
use lib.ListN.{length, take, drop, replicate}
use native.Mathlib.Omega.{arith}
use borrow.Author.Rules.{rules}
use Rattle.fields.specs.Bytes.{splice}
use Rattle.fields.proofs.Splices.{mid-splice, length-mid}
use Rattle.interval.proofs.Readable.{readable-rdfs, records-few}
use Rattle.rdf.specs.AidFront.{Small}
use Rattle.std.specs.Prelude.{Some}
use Rattle.interval_find.proofs.Runs.{no-damage, passed-count}
use Rattle.interval_find.proofs.Gather.{gather-start, gather-room, gather-turn, gather-end, gathered-length}
use Rattle.interval_find.proofs.lengths_out.Goals as goal
use Rattle.interval_find.proofs.lengths_out.Goals.{In-Some}

small : (k : In-Some) → Small k.loop-left.left (Some k.in-Some.field-0)
small k = rw k.in-Some.is at k.group_at.ensures.small

fits : (k : In-Some)
    → (k.loop-left.i + k.in-Some.field-0.count ≤ length k.loop-left.lens) × (k.loop-left.i + k.in-Some.field-0.count ≤ length k.args.lens.now)
fits k =
    let o = k.loop-left in
    gather-room k.args.m k.args.ci.now k.args.lens.now k.requires.0 k.rdfs_of-rdfs.result.at o.left o.lens o.i k.requires.1 o.invariant
    (omega arith) k.in-Some.field-0.len k.in-Some.field-0.count k.in-Some.field-0.used (sym k.in-Some.is ∙ k.group_at.ensures.is) (small k)

pub rdfs_of-rdfs-requires : goal.rdfs_of-rdfs-requires
rdfs_of-rdfs-requires c =
    omega (arith, readable-rdfs c.args.m c.args.ci.now c.requires.0, c.requires.0.sized)

pub loop-left-init : goal.loop-left-init
loop-left-init c =
    gather-start c.args.m c.args.ci.now c.args.lens.now c.requires.0 c.rdfs_of-rdfs.result.at c.rdfs_of-rdfs.result.many c.rdfs_of-rdfs.ensures.0 c.rdfs_of-rdfs.ensures.1

pub shape_of-lens-in_default : goal.shape_of-lens-in_default
shape_of-lens-in_default c =
    gathered-length c.args.m c.args.ci.now c.args.lens.now c.requires.0 c.rdfs_of-rdfs.result.at c.loop-left.left c.loop-left.lens c.loop-left.i c.requires.1 c.loop-left.invariant

pub returns-in_default : goal.returns-in_default
returns-in_default c =
    absurd (no-damage c.args.m.least c.args.m.most c.args.ci.now c.rdfs_of-rdfs.result.at c.loop-left.left c.loop-left.invariant.passed.formed (omega arith)
    (sym c.in_default.is ∙ c.group_at.ensures.is))

pub overflow_add-i : goal.overflow_add-i
overflow_add-i c = omega (arith, fits (goal.at.overflow_add-i c).In-Some)

pub loop-left-preserved : goal.loop-left-preserved
loop-left-preserved c =
    let o = c.loop-left in
    let k : ℕ = o.i + c.in-Some.field-0.count - o.i in
    let long : length (take k (drop o.i o.lens)) ≡ k = length-mid o.lens o.i k (omega (arith, fits (goal.at.loop-left-preserved c).In-Some)) in
    let fill = c.fill.ensures.after (λ y e. e) in
    gather-turn c.args.m c.args.ci.now c.args.lens.now c.requires.0 c.rdfs_of-rdfs.result.at o.left o.lens o.i c.requires.1 o.invariant
    (omega arith) c.in-Some.field-0.len c.in-Some.field-0.count c.in-Some.field-0.used (sym c.in-Some.is ∙ c.group_at.ensures.is) (small (goal.at.loop-left-preserved c).In-Some) _
    (mid-splice o.lens c.fill.new.self o.i k (c.fill.ensures.len ∙ long) ∙ ap (splice o.lens o.i) (fill ∙ ap (λ (n : ℕ). replicate n c.in-Some.field-0.len) long))

pub shape_of-lens : goal.shape_of-lens
shape_of-lens c =
    gathered-length c.args.m c.args.ci.now c.args.lens.now c.requires.0 c.rdfs_of-rdfs.result.at c.loop-left.left c.loop-left.lens c.loop-left.i c.requires.1 c.loop-left.invariant

pub returns : goal.returns
returns c =
    let told = gather-end c.args.m c.args.ci.now c.args.lens.now c.requires.0 c.rdfs_of-rdfs.result.at c.loop-left.left c.loop-left.lens c.loop-left.i c.requires.1
    c.loop-left.invariant (omega arith) in record { count = told.0; list = told.1 }

pub offset_bounds-lens-i : goal.offset_bounds-lens-i
offset_bounds-lens-i c =
    let a = c.args in
    let g = c.loop-left.invariant in
    omega (
      arith,
      passed-count a.m a.ci.now c.requires.0 c.rdfs_of-rdfs.result.at c.loop-left.left g.passed,
      g.count,
      records-few a.m a.ci.now c.requires.0,
      c.requires.0.small,
    )

pub slice_bounds-fill-end : goal.slice_bounds-fill-end
slice_bounds-fill-end c =
    let z = fits c in
    search rules
