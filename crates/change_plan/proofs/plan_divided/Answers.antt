-- No loop. Each way out has a law in Planning: planned-none (too few intervals free), planned-room (the new index record has no room), planned-ready.
-- The separators lie where cuts_out says (cuts-lie, cuts-in), so that the index record can be sized; enough numbers are free to be taken.
use Rattle.change_plan.proofs.plan_divided.Lts
use Rattle.change_plan.proofs.plan_divided.Reads
use Rattle.change_plan.proofs.plan_divided.Tie
use Prim.Native.Nat.{ℕ, ◌-◌, ◌*◌, ◌<◌}
use mathlib.Core.Path.{◌≡◌, refl, ◌∙◌, sym, ap}
use mathlib.Core.List.{List, ◌++◌}
use lib.ListN.{length, take, drop, replicate, length-replicate, length-append}
use lib.Seq.{length-take-le, take_at}
use native.Mathlib.Omega.{arith}
use borrow.Author.Tests.{eq-eqb, ne_eqb}
use Rattle.measures.specs.Judgement.{width_for}
use Rattle.measures.proofs.Fine.{fits-large}
use Rattle.sections.specs.Form.{index_size}
use Rattle.index.specs.Divided.{cuts}
use Rattle.sections.specs.Divided.{new_meaning}
use Rattle.area.proofs.Places.{length-index}
use Rattle.area_find.specs.AidSought.{Whole}
use Rattle.change_plan.specs.AidEdited.{edited_records}
use Rattle.change_plan.specs.AidParts.{three_of, CutInside, left_key_at, separator_at}
use Rattle.change_plan.specs.AidPlanned.{EnoughFree}
use Rattle.change_plan.proofs.Seeing.{many-seen}
use Rattle.change_plan.proofs.Keys.{key-long}
use Rattle.change_plan.proofs.Planning.{planned-none, counted-enough, planned-room, planned-ready, named, unnamed, size-asks, size-told}
use Rattle.change_plan.proofs.plan_divided.Goals as goal

abbrev Start-state : Type 0
Start-state = Lts.Start Tie.the-claims Reads.Pre Reads.Post Tie.handed_clauses

abbrev After-cuts_out-state : Type 0
After-cuts_out-state = Lts.After-cuts_out Tie.the-claims Reads.Pre Reads.Post Tie.handed_clauses

abbrev After-size_divided-state : Type 0
After-size_divided-state = Lts.After-size_divided Tie.the-claims Reads.Pre Reads.Post Tie.handed_clauses

-- what is asked, in the records' own words
abbrev records : Start-state → List (List ℕ)
records s = edited_records s.args.m s.args.area.now s.args.site s.args.new.now

inside : (s : Start-state) → CutInside s.args.parts (length (records s))
inside s =
    let e = many-seen s.args.m s.args.area.now s.args.site s.args.new.now s.args.lens.now s.requires.1 in
    let i = s.requires.2 in
    record { two = i.two; three = i.three; some = i.some; one = i.one; order = i.order; inside = omega (arith, i.inside, e) }

whole : (s : Start-state) → Whole s.args.m s.args.n s.args.area.now
whole s = record { content = s.requires.0.content; reads = s.requires.0.reads }

key_of : (s : Start-state) (k : ℕ) → 0 < k → k < length s.args.lens.now → length (left_key_at s.args.m (records s) k) ≡ s.args.m.key
key_of s k h g = key-long s.args.m s.args.area.now s.args.site s.args.new.now s.args.lens.now s.requires.1 (k - 1) (omega (arith, h, g))

first_key : (s : Start-state) → length (left_key_at s.args.m (records s) s.args.parts.first) ≡ s.args.m.key
first_key s = key_of s s.args.parts.first s.requires.2.some (omega (arith, s.requires.2.order, s.requires.2.inside))

second_key : (s : Start-state) → length (left_key_at s.args.m (records s) s.args.parts.second) ≡ s.args.m.key
second_key s = key_of s s.args.parts.second (omega (arith, s.requires.2.some, s.requires.2.order)) s.requires.2.inside

-- so many intervals are free
enough : (k : After-cuts_out-state) → EnoughFree k.args.m k.args.n k.args.area.now (k.args.parts.many - 1)
enough k =
    counted-enough k.args.m k.args.n k.args.area.now k.args.site (records k.before.before.before.before.before.before.before.before.before) k.args.parts (inside k.before.before.before.before.before.before.before.before.before) k.free_count.result
    k.free_count.ensures (omega (arith, k.if-free_count-parts.false))

-- the keys, at the front of their buffer
abbrev told : After-cuts_out-state → List ℕ
told k = k.cuts_out-cuts.new.keys

abbrev two : After-cuts_out-state → ℕ
two k = 2 * k.args.m.key

told-long : (k : After-cuts_out-state) → length (told k) ≡ two k
told-long k =
    k.cuts_out-cuts.auto.keys
    ∙ length-take-le (two k) (replicate {A = ℕ} 510 0) (omega (arith, k.requires.1.key-most, length-replicate {A = ℕ} 510 0))

front : (k : After-cuts_out-state) (ys : List ℕ) → take (two k) (told k ++ ys) ≡ told k
front k ys = take_at (told k) ys (two k) (told-long k)

abbrev behind : After-cuts_out-state → List ℕ
behind k = drop (two k) (replicate {A = ℕ} 510 0)

-- the size of the new index record
abbrev needed : Start-state → ℕ
needed s =
    let a = s.args in
    index_size (width_for a.n) (new_meaning (width_for a.n) a.n (take a.m.size a.area.now) a.site.entry
    (cuts (three_of a.parts) (separator_at a.m (records s) a.parts.first) (separator_at a.m (records s) a.parts.second)))

sized : (k : After-size_divided-state) → k.size_divided-index.result ≡ needed k.before.before.before.before.before.before.before.before.before.before.before.before
sized k =
    let a = k.args in
    size-told a.m a.n a.area.now a.site.entry (records k.before.before.before.before.before.before.before.before.before.before.before.before) a.parts (inside k.before.before.before.before.before.before.before.before.before.before.before.before) k.requires.1.key-most (first_key k.before.before.before.before.before.before.before.before.before.before.before.before) (second_key k.before.before.before.before.before.before.before.before.before.before.before.before) k.cuts_out-cuts.result
    (take (two k.before.before.before) (told k.before.before.before ++ behind k.before.before.before)) k.cuts_out-cuts.ensures.cuts (front k.before.before.before (behind k.before.before.before) ∙ k.cuts_out-cuts.ensures.keys) (take a.m.size a.area.now) k.size_divided-index.result
    k.size_divided-index.ensures

pub free_count-requires : goal.free_count-requires
free_count-requires c =
    (c.requires.0.fits, whole c.before.before.before.before)

pub overflow_sub-parts : goal.overflow_sub-parts
overflow_sub-parts c =
    omega (arith, c.requires.2.two)

pub returns-then-free_count-parts : goal.returns-then-free_count-parts
returns-then-free_count-parts c =
    planned-none c.args.m c.args.n c.args.area.now c.args.site (records c.before.before.before.before.before.before.before) c.args.parts (inside c.before.before.before.before.before.before.before) c.free_count.result c.free_count.ensures c.if-free_count-parts.true

pub slice_bounds-cuts_out-end : goal.slice_bounds-cuts_out-end
slice_bounds-cuts_out-end c =
    sym (length-take-le (2 * c.args.m.key) (replicate {A = ℕ} 510 0) (omega (arith, c.requires.1.key-most, length-replicate {A = ℕ} 510 0)))

pub cuts_out-cuts-requires : goal.cuts_out-cuts-requires
cuts_out-cuts-requires c =
    (c.requires.1, c.requires.2, length-take-le (2 * c.args.m.key) (replicate {A = ℕ} 510 0) (omega (arith, c.requires.1.key-most, length-replicate {A = ℕ} 510 0)))

pub slice_bounds-size_divided-end : goal.slice_bounds-size_divided-end
slice_bounds-size_divided-end c =
    sym (length-index c.args.m c.args.n c.args.area.now c.requires.0.fits)

pub slice_bounds-keys-end-2 : goal.slice_bounds-keys-end-2
slice_bounds-keys-end-2 c =
    omega (arith, told-long c.before.before, length-append (told c.before.before) (behind c.before.before))

pub slice_bounds-size_divided-end-2 : goal.slice_bounds-size_divided-end-2
slice_bounds-size_divided-end-2 c =
    sym (ap length (front c.before.before.before (behind c.before.before.before)) ∙ told-long c.before.before.before)

pub size_divided-index-requires : goal.size_divided-index-requires
size_divided-index-requires c =
    let a = c.args in
    size-asks a.m a.n a.area.now a.site.entry (records c.before.before.before.before.before.before.before.before.before.before.before.before) a.parts (inside c.before.before.before.before.before.before.before.before.before.before.before.before) c.requires.1.key-most (first_key c.before.before.before.before.before.before.before.before.before.before.before.before) (second_key c.before.before.before.before.before.before.before.before.before.before.before.before) c.cuts_out-cuts.result
    (take (two c.before.before.before) (told c.before.before.before ++ behind c.before.before.before)) c.cuts_out-cuts.ensures.cuts (front c.before.before.before (behind c.before.before.before) ∙ c.cuts_out-cuts.ensures.keys) a.site.number c.requires.0 (enough c.before.before.before)

pub overflow_sub-size : goal.overflow_sub-size
overflow_sub-size c =
    omega (arith, fits-large c.requires.0.fits)

pub returns-then-size-index : goal.returns-then-size-index
returns-then-size-index c =
    let a = c.args in
    planned-room a.m a.n a.area.now a.site (records c.before.before.before.before.before.before.before.before.before.before.before.before.before.before) a.parts (inside c.before.before.before.before.before.before.before.before.before.before.before.before.before.before) (enough c.before.before.before.before.before) c.size_divided-index.result (sized c.before.before) c.if-size-index.true

pub taken_at-a-requires : goal.taken_at-a-requires
taken_at-a-requires c =
    (c.requires.0.fits, whole c.before.before.before.before.before.before.before.before.before.before.before.before.before.before, λ d r. omega (arith, enough c.before.before.before.before.before d r, c.requires.2.two))

pub taken_at-b-requires : goal.taken_at-b-requires
taken_at-b-requires c =
    (c.requires.0.fits, whole c.before.before.before.before.before.before.before.before.before.before.before.before.before.before.before.before.before, λ d r. omega (arith, enough c.before.before.before.before.before.before.before.before d r, c.if-parts-eq3.true))

pub returns-then-parts-eq3 : goal.returns-then-parts-eq3
returns-then-parts-eq3 c =
    let a = c.args in
    planned-ready a.m a.n a.area.now a.site (records c.before.before.before.before.before.before.before.before.before.before.before.before.before.before.before.before.before.before) a.parts (inside c.before.before.before.before.before.before.before.before.before.before.before.before.before.before.before.before.before.before) (enough c.before.before.before.before.before.before.before.before.before) c.size_divided-index.result (sized c.before.before.before.before.before.before) (omega (arith, c.if-size-index.false))
    c.taken_at-a.result c.taken_at-b.result c.taken_at-a.ensures (named (eq-eqb a.parts.many 3 c.if-parts-eq3.true) c.taken_at-b.ensures)

pub returns-else-parts-eq3 : goal.returns-else-parts-eq3
returns-else-parts-eq3 c =
    let a = c.args in
    planned-ready a.m a.n a.area.now a.site (records c.before.before.before.before.before.before.before.before.before.before.before.before.before.before.before.before.before) a.parts (inside c.before.before.before.before.before.before.before.before.before.before.before.before.before.before.before.before.before) (enough c.before.before.before.before.before.before.before.before) c.size_divided-index.result (sized c.before.before.before.before.before) (omega (arith, c.if-size-index.false))
    c.taken_at-a.result 0 c.taken_at-a.ensures (unnamed (ne_eqb a.parts.many 3 c.if-parts-eq3.false) refl)
