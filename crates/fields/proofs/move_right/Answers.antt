use Rattle.fields.proofs.move_right.Lts
use Rattle.fields.proofs.move_right.Reads
use Rattle.fields.proofs.move_right.Tie
use Prim.Native.Nat.{◌+◌, ◌-◌, ◌<◌}
use mathlib.Core.Path.{◌≡◌, refl, ◌∙◌, sym}
use lib.ListN.{length, take}
use lib.Seq.{length-take-le}
use native.Mathlib.Omega.{arith}
use Rattle.fields.proofs.Moves.{right-none, right-step}
use Rattle.fields.proofs.move_right.Goals as goal

abbrev After-min-state : Type 0
After-min-state = Lts.After-min Tie.the-claims Reads.Pre Reads.Post goal.the-invariant-loop-i goal.the-decreases-loop-i

abbrev After-copy-state : Type 0
After-copy-state = Lts.After-copy Tie.the-claims Reads.Pre Reads.Post goal.the-invariant-loop-i goal.the-decreases-loop-i

-- a block has a byte
some : (k : After-min-state) → 0 < k.min-k.result
some k =
    omega (arith, k.loop-i-test.true, k.min-k.ensures)

-- and the copy of it has room for it
long : (k : After-copy-state) → length k.copy.new.b ≡ 1024
long k = k.copy.auto.b ∙ k.loop-i.invariant.1

block-length : (k : After-copy-state) → length (take k.min-k.result k.copy.new.b) ≡ k.min-k.result
block-length k = length-take-le _ _ (omega (arith, long k, k.min-k.ensures))

pub loop-i-init : goal.loop-i-init
loop-i-init c = (omega arith, refl, refl, right-none c.args.b.now c.args.to c.args.from c.args.len)

pub slice_bounds-copy-end-in-loop-i-2 : goal.slice_bounds-copy-end-in-loop-i-2
slice_bounds-copy-end-in-loop-i-2 c = sym (block-length c.before.before.before)

pub copy-requires-in-loop-i : goal.copy-requires-in-loop-i
copy-requires-in-loop-i c =
    let o = c.loop-i.invariant in
    omega (arith, block-length c.before.before.before, c.min-k.ensures, o.0, o.2)

pub loop-i-smaller : goal.loop-i-smaller
loop-i-smaller c = omega (arith, some c.before.before.before.before.before.before.before.before.before.before)

pub loop-i-preserved : goal.loop-i-preserved
loop-i-preserved c =
    let a = c.args in (
      omega (arith, c.loop-i.invariant.0),
      long c.before.before.before.before.before.before.before,
      c.copy-in-loop-i.auto.b ∙ c.loop-i.invariant.2,
      right-step a.b.now a.to a.from a.len c.loop-i.b c.copy-in-loop-i.new.b c.loop-i.block c.copy.new.b
          c.loop-i.i (c.loop-i.i - c.min-k.result) c.min-k.result
          (omega arith) (omega arith) (omega (arith, c.min-k.ensures)) c.loop-i.invariant.0 c.loop-i.invariant.2 c.loop-i.invariant.3
          c.copy.ensures c.copy-in-loop-i.ensures,
    )

pub returns : goal.returns
returns c =
    let a = c.args in
    let z : c.loop-i.i ≡ 0 = omega arith in
    let t : a.to + 0 ≡ a.to = omega arith in
    let f : a.from + 0 ≡ a.from = omega arith in
    let l : a.len - 0 ≡ a.len = omega arith in
    c.loop-i.invariant.3 ∙ rw (z, t, f, l)
