use Prim.Native.Nat.{◌+◌, ◌-◌, ◌*◌, ◌<◌}
use mathlib.Core.Path.{◌≡◌, refl, ◌∙◌, ap}
use native.Mathlib.Omega.{arith}
use borrow.Author.Rules.{rules}
use Rattle.fields.specs.Bytes.{number}
use Rattle.measures.specs.Judgement.{width_for}
use Rattle.measures.proofs.Fine.{fits-small}
use Rattle.interval.proofs.Readable.{fits-checkable}
use Rattle.measures.proofs.Width.{width-most}
use Rattle.interval.specs.Role.{sound_free}
use Rattle.area.proofs.Places.{data-ends, data-small, length-lent, lent-data}
use Rattle.area_read.proofs.Lows.{looked, look-room, look-here, look-on}
use Rattle.area_read.proofs.free_worst.Goals as goal
use Rattle.area_read.proofs.free_worst.Goals.{After-read_pointer-k}

-- the number that was read
read : (c : After-read_pointer-k) → c.read_pointer-k.result ≡ number (width_for c.args.n) c.args.ib.now (24 + width_for c.args.n * c.loop-i.i)
read c = rw c.width_for-w.ensures at c.read_pointer-k.ensures.0

-- it is one of the area's
inside : (c : After-read_pointer-k) → c.read_pointer-k.result < c.args.n
inside c =
    let a = c.args in
    let o = c.loop-i in
    omega (arith, read c, look-here a.m a.n a.area.now a.ib.now (width_for a.n) a.free o.worst (24 + width_for a.n * o.i) (a.free - o.i) o.invariant (omega arith))

pub read_pointer-k-requires : goal.read_pointer-k-requires
read_pointer-k-requires c =
    let a = c.args in
    let o = c.loop-i in
    rw c.width_for-w.ensures (width-most a.n, look-room a.m a.n a.area.now a.ib.now (width_for a.n) a.free o.worst (24 + width_for a.n * o.i) (a.free - o.i) o.invariant (omega arith))

pub overflow_add-a : goal.overflow_add-a
overflow_add-a c = omega (arith, inside (goal.at.overflow_add-a c).After-read_pointer-k, c.requires.0.few)

pub overflow_mul-a : goal.overflow_mul-a
overflow_mul-a c =
    let a = c.args in
    omega (arith, data-small a.m a.n a.area.now c.requires.0 c.read_pointer-k.result (inside (goal.at.overflow_mul-a c).After-read_pointer-k))

pub overflow_add-e : goal.overflow_add-e
overflow_add-e c =
    let a = c.args in
    omega (arith, data-small a.m a.n a.area.now c.requires.0 c.read_pointer-k.result (inside (goal.at.overflow_add-e c).After-read_pointer-k), fits-small c.requires.0)

pub slice_bounds-free_sound-end : goal.slice_bounds-free_sound-end
slice_bounds-free_sound-end c =
    let a = c.args in
    let z = data-ends a.m a.n a.area.now c.requires.0 c.read_pointer-k.result (inside (goal.at.slice_bounds-free_sound-end c).After-read_pointer-k) in
    search rules

pub free_sound-requires : goal.free_sound-requires
free_sound-requires c =
    let a = c.args in
    let z = length-lent a.m a.n a.area.now c.requires.0 c.read_pointer-k.result (inside (goal.at.free_sound-requires c).After-read_pointer-k) in
    fits-checkable c.requires.0 _ z

pub loop-i-preserved : goal.loop-i-preserved
loop-i-preserved c =
    let a = c.args in
    let o = c.loop-i in
    let k = (goal.at.loop-i-preserved c).After-read_pointer-k in
    let at : 24 + width_for a.n * (o.i + 1) ≡ 24 + width_for a.n * o.i + width_for a.n = omega arith in
    let left : a.free - (o.i + 1) ≡ a.free - o.i - 1 = omega arith in
    rw (at, left)
    (look-on a.m a.n a.area.now a.ib.now (width_for a.n) a.free o.worst (24 + width_for a.n * o.i) (a.free - o.i) o.invariant (omega arith) (width_for a.n) c.read_pointer-k.result c.noted-worst.result c.free_sound.result refl (read k)
    (c.free_sound.ensures ∙ ap (sound_free a.m) (lent-data a.m a.n a.area.now c.requires.0 c.read_pointer-k.result (inside k))) c.noted-worst.ensures)

pub returns : goal.returns
returns c =
    let a = c.args in
    let o = c.loop-i in
    looked a.m a.n a.area.now a.ib.now (width_for a.n) a.free o.worst (24 + width_for a.n * o.i) (a.free - o.i) o.invariant (omega arith)
