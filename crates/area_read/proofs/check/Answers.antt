-- No loop. An unsound index record is damage at place 0 (index-damaged). A sound one has free numbers below n only (frees), as free_worst asks.
-- The lowest unsound number over the free intervals, then over those in use, is the lowest of all (lowest-append).
-- Below n it is the damage (data-damaged). Else no interval in use is unsound (none-low), so that the records counted are all of them (intact).
use Rattle.area_read.proofs.check.Lts
use Rattle.area_read.proofs.check.Reads
use Rattle.area_read.proofs.check.Tie
use mathlib.Core.Path.{◌∙◌, sym}
use native.Mathlib.Omega.{arith}
use Rattle.measures.specs.Judgement.{width_for}
use Rattle.measures.proofs.Fine.{fits-small, fits-large}
use Rattle.index_read.proofs.Answers.{Judged, answer-sound, answer-unsound}
use Rattle.area.specs.Content.{index_in}
use Rattle.area.proofs.Places.{length-index}
use Rattle.area_read.proofs.Whole.{frees, index-damaged, data-damaged, intact}
use Rattle.area_read.proofs.check.Goals as goal

abbrev After-known_told-state : Type 0
After-known_told-state = Lts.Past-After-known_told Tie.the-claims Reads.Pre Reads.Post Tie.handed_clauses

told : (k : After-known_told-state)
    → Judged k.args.m.key k.args.n
    (index_in k.args.m k.args.area.now) k.in-Some.index.free
    k.in-Some.index.entries
told k =
    let a = k.args in
    answer-sound a.m.key a.n (index_in a.m a.area.now) k.in-Some.index
    (sym k.check.ensures ∙ k.in-Some.is)

pub slice_bounds-check-end : goal.slice_bounds-check-end
slice_bounds-check-end c =
    sym (length-index c.args.m c.args.n c.args.area.now c.requires)

pub check-requires : goal.check-requires
check-requires c =
    let z = length-index c.args.m c.args.n c.args.area.now c.requires in
    (omega (arith, z, fits-large c.requires), omega (arith, z, fits-small c.requires), c.requires.key-some, c.requires.key-most, c.requires.few)

pub returns-in_default : goal.returns-in_default
returns-in_default c =
    let a = c.args in
    index-damaged a.m a.n a.area.now (answer-unsound a.m.key a.n (index_in a.m a.area.now) (sym c.check.ensures ∙ c.in_default.is))

pub slice_bounds-free_worst-end : goal.slice_bounds-free_worst-end
slice_bounds-free_worst-end c =
    sym (length-index c.args.m c.args.n c.args.area.now c.requires)

pub free_worst-worst-requires : goal.free_worst-worst-requires
free_worst-worst-requires c =
    let f = frees (width_for c.args.n) c.args.m.key c.args.n (index_in c.args.m c.args.area.now) (told c.before).sound c.in-Some.index.free (told c.before).free-is in
    (c.requires, f.lie, f.small)

pub slice_bounds-used_worst-end : goal.slice_bounds-used_worst-end
slice_bounds-used_worst-end c =
    sym (length-index c.args.m c.args.n c.args.area.now c.requires)

pub used_worst-tally-requires : goal.used_worst-tally-requires
used_worst-tally-requires c =
    (c.requires, length-index c.args.m c.args.n c.args.area.now c.requires, (told c.before.before).sound, (told c.before.before).entries-is)

pub returns-then-tally-n : goal.returns-then-tally-n
returns-then-tally-n c =
    let a = c.args in
    let f = frees (width_for a.n) a.m.key a.n (index_in a.m a.area.now) (told c.before.before.before.before.before.before).sound c.in-Some.index.free (told c.before.before.before.before.before.before).free-is in
    let u = c.used_worst-tally in
    let w = rw f.are at c.free_worst-worst.ensures in
    let e = rw w at u.ensures.lowest in
    data-damaged a.m a.n a.area.now (told c.before.before.before.before.before.before).sound u.result.worst u.result.records e c.if-tally-n.true

pub returns : goal.returns
returns c =
    let a = c.args in
    let f = frees (width_for a.n) a.m.key a.n (index_in a.m a.area.now) (told c.before.before.before.before.before).sound c.in-Some.index.free (told c.before.before.before.before.before).free-is in
    let u = c.used_worst-tally in
    let w = rw f.are at c.free_worst-worst.ensures in
    let e = rw w at u.ensures.lowest in
    intact a.m a.n a.area.now (told c.before.before.before.before.before).sound u.result.worst u.result.records e c.if-tally-n.false u.ensures.counted c.in-Some.index.free (told c.before.before.before.before.before).free-is
