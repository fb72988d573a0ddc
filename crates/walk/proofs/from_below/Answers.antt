-- No loop. In the interval that was sought the record at the place, or the one before it, is where the walk stands (below-here); where there is none the entries before
-- are looked at (below-past).
use Rattle.walk.proofs.from_below.Lts
use Rattle.walk.proofs.from_below.Reads
use Rattle.walk.proofs.from_below.Tie
use Prim.Native.Nat.{ℕ, ◌+◌, ◌-◌, ◌*◌, ◌≤◌, ◌<◌}
use mathlib.Core.Path.{◌≡◌, ◌∙◌}
use mathlib.Core.Bool.{false}
use mathlib.Core.List.{List}
use lib.ListN.{length, take, drop}
use native.Mathlib.Omega.{arith}
use borrow.Author.Rules.{rules}
use Rattle.measures.proofs.Fine.{fits-small, fits-large}
use Rattle.interval.specs.Reading.{Readable}
use Rattle.interval_walk.specs.declared.Spot.{Spot}
use Rattle.interval_walk.specs.AidSpots.{SpotOf}
use Rattle.interval_walk.proofs.Standing.{stands-inside}
use Rattle.area.specs.Content.{Content, data_in}
use Rattle.area.specs.Reading.{read_area, whole}
use Rattle.area.proofs.Places.{data-ends, data-small, lent-data, length-data}
use Rattle.area_find.proofs.Readables.{readable}
use Rattle.walk.specs.AidStands.{before, upto_found}
use Rattle.walk.proofs.Beginning.{sits-inside, sits-number, below-here, below-past, upto-at, upto-gap, stood-as}
use Rattle.walk.proofs.from_below.Goals as goal

abbrev Start-state : Type 0
Start-state = Lts.Start Tie.the-claims Reads.Pre Reads.Post

-- the interval that was sought lies in the area, and can be read
ends : (s : Start-state) → (s.args.sought.number + 1) * s.args.m.size + s.args.m.size ≤ length s.args.area.now
ends s = data-ends s.args.m s.args.n s.args.area.now s.requires.0 s.args.sought.number s.requires.2.within

reads : (s : Start-state) → Readable s.args.m (data_in s.args.m s.args.area.now s.args.sought.number)
reads s = readable s.args.m s.args.n s.args.area.now s.requires.0 s.requires.1 s.args.sought.number s.requires.2.within

-- a record of the bytes that were lent is one of the interval
abbrev lent_of : Start-state → List ℕ
lent_of s =
    take ((s.args.sought.number + 1) * s.args.m.size + s.args.m.size - (s.args.sought.number + 1) * s.args.m.size)
    (drop ((s.args.sought.number + 1) * s.args.m.size) s.args.area.now)

stands : (s : Start-state) (x : Spot) (i : ℕ) → SpotOf s.args.m (lent_of s) false x i → SpotOf s.args.m (data_in s.args.m s.args.area.now s.args.sought.number) false x i
stands s x i t = rw (lent-data s.args.m s.args.n s.args.area.now s.requires.0 s.args.sought.number s.requires.2.within) at t

inside : (s : Start-state) (x : Spot) (i : ℕ) → SpotOf s.args.m (lent_of s) false x i → (s.args.sought.number + 1) * s.args.m.size + x.start < 18446744073709551616
inside s x i t =
    let a = s.args in
    omega (
      arith,
      stands-inside a.m (data_in a.m a.area.now a.sought.number) (reads s) false x i (stands s x i t),
      length-data a.m a.n a.area.now s.requires.0 a.sought.number s.requires.2.within,
      ends s,
      s,
    )

pub overflow_mul-a : goal.overflow_mul-a
overflow_mul-a c =
    let a = c.args in
    omega (arith, data-small a.m a.n a.area.now c.requires.0 a.sought.number c.requires.2.within)

pub overflow_add-z : goal.overflow_add-z
overflow_add-z c =
    let a = c.args in
    omega (arith, data-small a.m a.n a.area.now c.requires.0 a.sought.number c.requires.2.within, fits-small c.requires.0)

pub slice_bounds-spot_at-end : goal.slice_bounds-spot_at-end
slice_bounds-spot_at-end c =
    let z = ends c.before.before.before in
    search rules

pub spot_at-requires : goal.spot_at-requires
spot_at-requires c =
    let a = c.args in
    let w = rw c.in-At.is at c.requires.2.place in
    rw (lent-data a.m a.n a.area.now c.requires.0 a.sought.number c.requires.2.within) (reads c.before.before.before.before, omega (arith, w.0))

pub placed-requires : goal.placed-requires
placed-requires c = inside c.before.before.before.before.before c.spot_at.result _ c.spot_at.ensures

pub behind-requires : goal.behind-requires
behind-requires c =
    (fits-large c.requires.0, omega (arith, c.requires.0.bytes))

pub returns-then-ordinal-eq0 : goal.returns-then-ordinal-eq0
returns-then-ordinal-eq0 c =
    let a = c.args in
    λ (d : Content) (w : read_area a.m a.n a.area.now ≡ whole d).
    stood-as a.m a.n a.area.now d false (before d.filled a.sought.entry + upto_found a.sought.found) _ c.behind.result c.behind.ensures
    (below-past a.m a.n a.area.now c.requires.0 d w a.sought.entry a.sought.number (sits-inside a.m a.n a.area.now d w a.sought c.requires.2)
    (sits-number a.m a.n a.area.now d w a.sought c.requires.2) (upto_found a.sought.found) (upto-gap a.sought c.in-Gap.ordinal c.in-Gap.start c.in-Gap.is ∙ c.if-ordinal-eq0.true))

pub slice_bounds-spot_at-end-in-Gap : goal.slice_bounds-spot_at-end-in-Gap
slice_bounds-spot_at-end-in-Gap c =
    let z = ends c.before.before.before.before in
    search rules

pub spot_at-requires-in-Gap : goal.spot_at-requires-in-Gap
spot_at-requires-in-Gap c =
    let a = c.args in
    let w = rw c.in-Gap.is at c.requires.2.place in
    rw (lent-data a.m a.n a.area.now c.requires.0 a.sought.number c.requires.2.within) (reads c.before.before.before.before.before, omega (arith, w.0, c.if-ordinal-eq0.false))

pub placed-requires-in-Gap : goal.placed-requires-in-Gap
placed-requires-in-Gap c = inside c.before.before.before.before.before.before c.spot_at-in-Gap.result _ c.spot_at-in-Gap.ensures

pub returns-in-At : goal.returns-in-At
returns-in-At c =
    let a = c.args in
    λ (d : Content) (w : read_area a.m a.n a.area.now ≡ whole d).
    stood-as a.m a.n a.area.now d false (before d.filled a.sought.entry + upto_found a.sought.found) _ c.placed.result c.placed.ensures
    (below-here a.m a.n a.area.now c.requires.0 d w a.sought.entry a.sought.number (sits-inside a.m a.n a.area.now d w a.sought c.requires.2)
    (sits-number a.m a.n a.area.now d w a.sought c.requires.2) c.in-At.ordinal c.spot_at.result (stands c.before.before.before.before.before.before c.spot_at.result c.in-At.ordinal c.spot_at.ensures)
    (upto_found a.sought.found) (upto-at a.sought c.in-At.ordinal c.in-At.start c.in-At.length c.in-At.is))

pub returns-else-ordinal-eq0 : goal.returns-else-ordinal-eq0
returns-else-ordinal-eq0 c =
    let a = c.args in
    let z : upto_found a.sought.found ≡ c.in-Gap.ordinal - 1 + 1 = upto-gap a.sought c.in-Gap.ordinal c.in-Gap.start c.in-Gap.is ∙ omega (arith, c.if-ordinal-eq0.false) in
    λ (d : Content) (w : read_area a.m a.n a.area.now ≡ whole d).
    stood-as a.m a.n a.area.now d false (before d.filled a.sought.entry + upto_found a.sought.found) _ c.placed-in-Gap.result c.placed-in-Gap.ensures
    (below-here a.m a.n a.area.now c.requires.0 d w a.sought.entry a.sought.number (sits-inside a.m a.n a.area.now d w a.sought c.requires.2)
    (sits-number a.m a.n a.area.now d w a.sought c.requires.2) (c.in-Gap.ordinal - 1) c.spot_at-in-Gap.result (stands c.before.before.before.before.before.before.before c.spot_at-in-Gap.result (c.in-Gap.ordinal - 1) c.spot_at-in-Gap.ensures)
    (upto_found a.sought.found) z)
