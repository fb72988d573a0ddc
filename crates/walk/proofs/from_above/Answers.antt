-- No loop. In the interval that was sought the first record from the place on (above_at, above-gap); it is where the walk stands (above-here), or there is none and the
-- entries after it are looked at (above-past).
use Prim.Native.Nat.{◌+◌, ◌*◌, ◌≤◌}
use mathlib.Core.Path.{◌≡◌, refl}
use mathlib.Core.Bool.{true}
use lib.ListN.{length}
use native.Mathlib.Omega.{arith}
use Rattle.std.specs.Prelude.{Some}
use Rattle.measures.proofs.Fine.{fits-large}
use Rattle.interval.specs.Reading.{Readable}
use Rattle.area.specs.Content.{Content, data_in}
use Rattle.area.specs.Reading.{read_area, whole}
use Rattle.area.proofs.Places.{data-ends, lent-data, length-data}
use Rattle.area_find.proofs.Readables.{readable}
use Rattle.walk.specs.AidStands.{before, from_found}
use Rattle.walk.proofs.Beginning.{sits-inside, sits-number, sits-few, above-here, above-past, Above, above_at, above-gap, above-inside, stood-as}
use Rattle.walk.proofs.from_above.Goals as goal
use Rattle.walk.proofs.from_above.Goals.{Start, Joined-found, in-At, in-Gap}

-- the interval that was sought lies in the area, and can be read
ends : (s : Start) → (s.args.sought.number + 1) * s.args.m.size + s.args.m.size ≤ length s.args.area.now
ends s = data-ends s.args.m s.args.n s.args.area.now s.requires.0 s.args.sought.number s.requires.2.within

reads : (s : Start) → Readable s.args.m (data_in s.args.m s.args.area.now s.args.sought.number)
reads s = readable s.args.m s.args.n s.args.area.now s.requires.0 s.requires.1 s.args.sought.number s.requires.2.within

-- the record from the place on
there : (j : Joined-found) → Above j.args.m j.args.n j.args.area.now j.args.sought j.requires.2 j.match-found.s j.match-found.s refl
there j =
    let a = j.args in
    let lent = lent-data a.m a.n a.area.now j.requires.0 a.sought.number j.requires.2.within in
    elim j.match-found.branch [
      | in-At x ↦ above_at a.m a.n a.area.now a.sought j.requires.2 (Some x.spot_at.result) j.match-found.s x.s-is x.in-At.ordinal x.in-At.start x.in-At.length x.in-At.is (rw lent at x.spot_at.ensures)
      | in-Gap x ↦ above-gap a.m a.n a.area.now a.sought j.requires.2 x.first_from-s.result j.match-found.s x.s-is x.in-Gap.ordinal x.in-Gap.start x.in-Gap.is (rw lent at x.first_from-s.ensures)
    ]

pub overflow_add-entry : goal.overflow_add-entry
overflow_add-entry c =
    let a = c.args in
    omega (arith, sits-few a.m a.n a.area.now c.requires.0 c.requires.1 a.sought c.requires.2)

pub spot_at-requires : goal.spot_at-requires
spot_at-requires c =
    let a = c.args in
    let w = rw c.in-At.is at c.requires.2.place in
    rw (lent-data a.m a.n a.area.now c.requires.0 a.sought.number c.requires.2.within) (reads (goal.at.spot_at-requires c).Start, omega (arith, w.0))

pub first_from-s-requires : goal.first_from-s-requires
first_from-s-requires c =
    let a = c.args in
    let w = rw c.in-Gap.is at c.requires.2.place in
    rw (lent-data a.m a.n a.area.now c.requires.0 a.sought.number c.requires.2.within) (reads (goal.at.first_from-s-requires c).Start, w.0)

pub placed-requires : goal.placed-requires
placed-requires c =
    let a = c.args in
    let s = (goal.at.placed-requires c).Start in
    omega (
      arith,
      above-inside a.m a.n a.area.now a.sought c.requires.2 c.match-found.s c.match-found.s refl (reads s) (there (goal.at.placed-requires c).Joined-found) c.in-Some.s c.in-Some.is,
      length-data a.m a.n a.area.now c.requires.0 a.sought.number c.requires.2.within,
      ends s,
      c.well_formed,
    )

pub returns-in-Some : goal.returns-in-Some
returns-in-Some c =
    let a = c.args in
    let t = there (goal.at.returns-in-Some c).Joined-found in
    λ (d : Content) (w : read_area a.m a.n a.area.now ≡ whole d).
    stood-as a.m a.n a.area.now d true (before d.filled a.sought.entry + from_found a.sought.found) _ c.placed.result c.placed.ensures
    (above-here a.m a.n a.area.now c.requires.0 d w a.sought.entry a.sought.number (sits-inside a.m a.n a.area.now d w a.sought c.requires.2)
    (sits-number a.m a.n a.area.now d w a.sought c.requires.2) (from_found a.sought.found) c.match-found.s t.0 t.1 c.edge_past-next.result
    c.edge_past-next.ensures c.in-Some.s c.in-Some.is)

pub overflow_add-entry-2 : goal.overflow_add-entry-2
overflow_add-entry-2 c =
    let a = c.args in
    omega (arith, sits-few a.m a.n a.area.now c.requires.0 c.requires.1 a.sought c.requires.2)

pub ahead-requires : goal.ahead-requires
ahead-requires c =
    (fits-large c.requires.0, omega (arith, c.requires.0.bytes))

pub returns : goal.returns
returns c =
    let a = c.args in
    let t = there (goal.at.returns c).Joined-found in
    λ (d : Content) (w : read_area a.m a.n a.area.now ≡ whole d).
    stood-as a.m a.n a.area.now d true (before d.filled a.sought.entry + from_found a.sought.found) _ c.ahead.result c.ahead.ensures
    (above-past a.m a.n a.area.now c.requires.0 d w a.sought.entry a.sought.number (sits-inside a.m a.n a.area.now d w a.sought c.requires.2)
    (sits-number a.m a.n a.area.now d w a.sought c.requires.2) (from_found a.sought.found) c.match-found.s t.0 t.1 c.edge_past-next.result
    c.edge_past-next.ensures c.in_default.is)
