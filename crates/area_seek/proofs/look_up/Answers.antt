-- No loop. The index record is judged and tells where the key leads (answer-led); an unsound one ends the search (way-unsound). What it tells lies within its limits
-- (spot-within): the number is that of a data interval, which lies in the area (data-ends), and both separators stand at the front of the buffers. The interval is
-- judged between them, which is its role (judged-by); an unsound one ends the search too (way-damaged), a sound one can be read (lent-readable) and is searched
-- (way-found, way-absent, record-inside).
use Rattle.area_seek.proofs.look_up.Lts
use Rattle.area_seek.proofs.look_up.Reads
use Rattle.area_seek.proofs.look_up.Tie
use Prim.Native.Nat.{◌+◌, ◌*◌, ◌≤◌, ◌<◌}
use mathlib.Core.Path.{◌≡◌, sym, ◌∙◌}
use mathlib.Core.Bool.{true}
use lib.ListN.{length, take, replicate}
use lib.Seq.{length-take-le}
use native.Mathlib.Omega.{arith}
use borrow.Author.Rules.{rules}
use borrow.Author.Tests.{not-true, not-false}
use Rattle.measures.proofs.Fine.{fits-small, fits-large}
use Rattle.interval.proofs.Readable.{fits-checkable}
use Rattle.index_read.proofs.Answers.{Led, answer-led, answer-not-led}
use Rattle.area.specs.Content.{index_in}
use Rattle.area.specs.Leads.{index_sound, entries_for, number_for, interval_for, sound_for}
use Rattle.area.proofs.Places.{data-ends, data-small, lent-data, length-lent, length-index}
use Rattle.area_seek.proofs.Seeking.{spot-within, index-stands, number_is, judged-by, way-unsound, way-damaged, lent-readable, way-found, way-absent, record-inside}
use Rattle.area_seek.proofs.look_up.Goals as goal

abbrev After-known_told-state : Type 0
After-known_told-state = Lts.Past-After-known_told Tie.the-claims Reads.Pre Reads.Post Tie.handed_clauses

abbrev After-sound_between-state : Type 0
After-sound_between-state = Lts.After-sound_between Tie.the-claims Reads.Pre Reads.Post Tie.handed_clauses

abbrev After-known_told2-state : Type 0
After-known_told2-state = Lts.Past-After-known_told2 Tie.the-claims Reads.Pre Reads.Post Tie.handed_clauses

-- where the key leads lies within its limits
within : (c : After-known_told-state)
    → (c.in-Some.spot.number < c.args.n)
    × (c.in-Some.spot.before ≤ length c.args.key.now)
    × (c.in-Some.spot.own ≤ length c.args.key.now)
within c =
    let x = c.seek in
    let a = c.args in
    spot-within a.n (length a.key.now) x.result c.in-Some.spot c.in-Some.is x.ensures.within

-- both separators fit into their buffers
low_fits : (c : After-known_told-state) → c.in-Some.spot.before ≤ length c.seek.new.before
low_fits c = let p = c.requires in omega (arith, (within c).1, p.1, p.0.key-most, c.seek.auto.before)

high_fits : (c : After-known_told-state) → c.in-Some.spot.own ≤ length c.seek.new.own
high_fits c = let p = c.requires in omega (arith, (within c).2, p.1, p.0.key-most, c.seek.auto.own)

low-long : (c : After-known_told-state)
    → length (take c.in-Some.spot.before c.seek.new.before) ≡ c.in-Some.spot.before
low-long c = length-take-le _ _ (low_fits c)

high-long : (c : After-known_told-state)
    → length (take c.in-Some.spot.own c.seek.new.own) ≡ c.in-Some.spot.own
high-long c = length-take-le _ _ (high_fits c)

-- what the index record told of the key
led : (c : After-known_told-state)
    → Led c.args.n (index_in c.args.m c.args.area.now) c.args.key.now c.in-Some.spot
    c.seek.new.before c.seek.new.own
led c =
    let x = c.seek in
    let a = c.args in
    answer-led a.n (index_in a.m a.area.now) a.key.now (replicate 255 0) (replicate 255 0) x.result x.new.before x.new.own x.ensures.is c.in-Some.spot c.in-Some.is

stands : (c : After-known_told-state) → index_sound c.args.m c.args.n c.args.area.now ≡ true
stands c =
    let x = c.seek in
    let a = c.args in
    index-stands a.m a.n a.area.now a.key.now c.in-Some.spot x.new.before x.new.own c.requires.1 (led c)

number : (c : After-known_told-state)
    → c.in-Some.spot.number
    ≡ number_for c.args.m c.args.n c.args.area.now c.args.key.now
number c =
    let x = c.seek in
    let a = c.args in
    number_is a.m a.n a.area.now a.key.now c.in-Some.spot x.new.before x.new.own c.requires.1 (led c)

-- whether the interval that was lent is sound in its role
judged : (c : After-sound_between-state)
    → c.sound_between.result
    ≡ sound_for c.args.m
    (entries_for c.args.m c.args.n c.args.area.now)
    c.args.key.now
    (interval_for c.args.m c.args.n c.args.area.now c.args.key.now)
judged c =
    let x = c.seek in
    let a = c.args in
    let p = c.in-Some.spot in
    judged-by a.m a.n a.area.now a.key.now p x.new.before x.new.own c.requires.1 (led c.before.before.before.before.before.before) _
    (lent-data a.m a.n a.area.now c.requires.0 p.number (within c.before.before.before.before.before.before).0) c.sound_between.result c.sound_between.ensures

pub slice_bounds-seek-end : goal.slice_bounds-seek-end
slice_bounds-seek-end c =
    let a = c.args in
    sym (length-index a.m a.n a.area.now c.requires.0)

pub seek-requires : goal.seek-requires
seek-requires c =
    let a = c.args in
    let z = length-index a.m a.n a.area.now c.requires.0 in
    let o = c.requires.0 in
    let k = c.requires.1 in
    record { in_bounds = (omega (arith, z, fits-large o), omega (arith, z, fits-small o), omega (arith, k, o.key-some), omega (arith, k, o.key-most), o.few); buffers = (omega arith, omega arith) }

pub returns-in_default : goal.returns-in_default
returns-in_default c =
    let x = c.seek in
    let a = c.args in record {
      is = way-unsound a.m a.n a.area.now a.key.now c.requires.1
          (answer-not-led a.n (index_in a.m a.area.now) a.key.now (replicate 255 0) (replicate 255 0) x.result x.new.before x.new.own
          x.ensures.is c.in_default.is);
      inside = tt;
    }

pub overflow_add-a : goal.overflow_add-a
overflow_add-a c = omega (arith, (within c.before.before).0, c.requires.0.few)

pub overflow_mul-a : goal.overflow_mul-a
overflow_mul-a c =
    let a = c.args in
    omega (arith, data-small a.m a.n a.area.now c.requires.0 c.in-Some.spot.number (within c.before.before).0)

pub overflow_add-e : goal.overflow_add-e
overflow_add-e c =
    let a = c.args in
    omega (arith, data-small a.m a.n a.area.now c.requires.0 c.in-Some.spot.number (within c.before.before).0, fits-small c.requires.0)

pub slice_bounds-sound_between-end : goal.slice_bounds-sound_between-end
slice_bounds-sound_between-end c =
    let a = c.args in
    let z = data-ends a.m a.n a.area.now c.requires.0 c.in-Some.spot.number (within c.before.before).0 in
    search rules

pub slice_bounds-before-end : goal.slice_bounds-before-end
slice_bounds-before-end c = low_fits c.before.before.before.before

pub slice_bounds-sound_between-end-2 : goal.slice_bounds-sound_between-end-2
slice_bounds-sound_between-end-2 c = sym (low-long c.before.before.before.before.before)

pub slice_bounds-own-end : goal.slice_bounds-own-end
slice_bounds-own-end c = high_fits c.before.before.before.before.before

pub slice_bounds-sound_between-end-3 : goal.slice_bounds-sound_between-end-3
slice_bounds-sound_between-end-3 c = sym (high-long c.before.before.before.before.before.before)

pub sound_between-requires : goal.sound_between-requires
sound_between-requires c =
    let a = c.args in
    let o = c.requires.0 in
    let w = within c.before.before.before.before.before.before in
    let z = length-lent a.m a.n a.area.now o c.in-Some.spot.number w.0 in
    (fits-checkable o _ z, omega (arith, low-long c.before.before.before.before.before.before, w.1, c.requires.1), omega (arith, high-long c.before.before.before.before.before.before, w.2, c.requires.1))

pub overflow_add-result : goal.overflow_add-result
overflow_add-result c = omega (arith, (within c.before.before.before.before.before.before.before.before.before).0, c.requires.0.few)

pub returns-then-not-sound_between : goal.returns-then-not-sound_between
returns-then-not-sound_between c =
    let a = c.args in
    record { is = way-damaged a.m a.n a.area.now a.key.now (stands c.before.before.before.before.before.before.before.before.before) c.in-Some.spot.number (number c.before.before.before.before.before.before.before.before.before) (sym (judged c.before.before.before) ∙ not-true _ c.if-not-sound_between.true-raw); inside = tt }

pub slice_bounds-find-end : goal.slice_bounds-find-end
slice_bounds-find-end c =
    let a = c.args in
    let z = data-ends a.m a.n a.area.now c.requires.0 c.in-Some.spot.number (within c.before.before.before.before.before.before.before.before).0 in
    search rules

pub find-requires : goal.find-requires
find-requires c =
    let a = c.args in
    let p = c.in-Some.spot in (
      lent-readable a.m a.n a.area.now a.key.now (stands c.before.before.before.before.before.before.before.before.before) p.number (number c.before.before.before.before.before.before.before.before.before) (sym (judged c.before.before.before) ∙ not-false _ c.if-not-sound_between.false-raw) _
          (lent-data a.m a.n a.area.now c.requires.0 p.number (within c.before.before.before.before.before.before.before.before.before).0) c.requires.0 (within c.before.before.before.before.before.before.before.before.before).0,
      c.requires.1,
    )

-- the record that was found ends within its interval, and so within the area
lies : (c : After-known_told2-state)
    → (c.in-At.start + c.in-At.length ≤ c.args.m.size)
    × ((c.in-Some.spot.number + 1) * c.args.m.size + c.in-At.start
    + c.in-At.length
    ≤ length c.args.area.now)
lies c =
    let a = c.args in
    let p = c.in-Some.spot in
    record-inside a.m a.n a.area.now a.key.now (stands c.before.before.before.before.before.before.before.before.before.before) p.number (number c.before.before.before.before.before.before.before.before.before.before) (sym (judged c.before.before.before.before) ∙ not-false _ c.if-not-sound_between.false-raw) _
    (lent-data a.m a.n a.area.now c.requires.0 p.number (within c.before.before.before.before.before.before.before.before.before.before).0) c.requires.0 (within c.before.before.before.before.before.before.before.before.before.before).0 c.find.result c.in-At.ordinal c.in-At.start c.in-At.length c.in-At.is
    c.find.ensures.within

pub overflow_add-result-in-At : goal.overflow_add-result-in-At
overflow_add-result-in-At c =
    let a = c.args in
    omega (arith, (lies c.before).0, data-small a.m a.n a.area.now c.requires.0 c.in-Some.spot.number (within c.before.before.before.before.before.before.before.before.before.before.before).0, fits-small c.requires.0)

pub returns-in-At : goal.returns-in-At
returns-in-At c =
    let a = c.args in
    let p = c.in-Some.spot in
    record {
      is = way-found a.m a.n a.area.now a.key.now (stands c.before.before.before.before.before.before.before.before.before.before.before) p.number (number c.before.before.before.before.before.before.before.before.before.before.before) (sym (judged c.before.before.before.before.before) ∙ not-false _ c.if-not-sound_between.false-raw) _
          (lent-data a.m a.n a.area.now c.requires.0 p.number (within c.before.before.before.before.before.before.before.before.before.before.before).0) c.find.result c.in-At.ordinal c.in-At.start c.in-At.length c.in-At.is c.find.ensures.is;
      inside = (lies c.before).1;
    }

pub returns-in-Gap : goal.returns-in-Gap
returns-in-Gap c =
    let a = c.args in
    let p = c.in-Some.spot in
    record {
      is = way-absent a.m a.n a.area.now a.key.now (stands c.before.before.before.before.before.before.before.before.before.before.before) p.number (number c.before.before.before.before.before.before.before.before.before.before.before) (sym (judged c.before.before.before.before.before) ∙ not-false _ c.if-not-sound_between.false-raw) _
          (lent-data a.m a.n a.area.now c.requires.0 p.number (within c.before.before.before.before.before.before.before.before.before.before.before).0) c.find.result c.in-Gap.ordinal c.in-Gap.start c.in-Gap.is c.find.ensures.is;
      inside = tt;
    }
