-- No loop: the left key of each cut is copied into its half of the buffer, and both_halves says that the two halves are all of it.
use mathlib.Core.Path.{◌≡◌, ◌∙◌, sym}
use lib.ListN.{length}
use lib.Seq.{length-take-le}
use native.Mathlib.Omega.{arith}
use Rattle.change_plan.specs.AidEdited.{edited_records}
use Rattle.change_plan.specs.AidParts.{left_key_at}
use Rattle.change_plan.proofs.Pieces.{both_halves}
use Rattle.change_plan.proofs.Cutting.{one-told, two-told}
use Rattle.change_plan.proofs.cuts_out.Goals as goal
use Rattle.change_plan.proofs.cuts_out.Goals.{After-cut_out-n}

pub slice_bounds-cut_out-end-2 : goal.slice_bounds-cut_out-end-2
slice_bounds-cut_out-end-2 c =
    sym (length-take-le c.args.m.key c.args.keys.now (omega (arith, c.requires.2)))

pub cut_out-to-requires : goal.cut_out-to-requires
cut_out-to-requires c =
    (c.requires.0, c.requires.1.some, omega (arith, c.requires.1.order, c.requires.1.inside), length-take-le c.args.m.key c.args.keys.now (omega (arith, c.requires.2)))

-- the first key is as long as a key
long : (k : After-cut_out-n) → length k.cut_out-to.new.left ≡ k.args.m.key
long k = k.cut_out-to.auto.left ∙ length-take-le k.args.m.key k.args.keys.now (omega (arith, k.requires.2))

pub returns-then-parts-ne3 : goal.returns-then-parts-ne3
returns-then-parts-ne3 c =
    let a = c.args in
    let x = c.cut_out-to in
    let y = c.cut_out-n in
    let rs = edited_records a.m a.area.now a.site a.new.now in record {
      cuts = one-told a.m rs a.parts x.result y.result x.ensures.length.0 y.ensures.length.0 c.if-parts-ne3.true;
      keys = both_halves a.keys.now x.new.left y.new.left (left_key_at a.m rs a.parts.first) (left_key_at a.m rs a.parts.second) a.m.key
          (long (goal.at.returns-then-parts-ne3 c).After-cut_out-n) x.ensures.key y.ensures.key;
    }

pub returns : goal.returns
returns c =
    let a = c.args in
    let x = c.cut_out-to in
    let y = c.cut_out-n in
    let rs = edited_records a.m a.area.now a.site a.new.now in record {
      cuts = two-told a.m rs a.parts x.result y.result x.ensures.length.0 y.ensures.length.0 c.if-parts-ne3.false;
      keys = both_halves a.keys.now x.new.left y.new.left (left_key_at a.m rs a.parts.first) (left_key_at a.m rs a.parts.second) a.m.key
          (long (goal.at.returns c).After-cut_out-n) x.ensures.key y.ensures.key;
    }
