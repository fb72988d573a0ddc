-- No loop. A wrong entry tells nothing (look-bad). Of another the characters are held against the key behind F bytes (look-of); they lie in the record
-- (look-inside), and its separator is no longer than the key (look-fits).
use mathlib.Core.Path.{◌≡◌, sym, ◌∙◌}
use native.Mathlib.Omega.{arith}
use Rattle.index_read.specs.AidParsing.{parsed_of}
use Rattle.index_read.proofs.Reaching.{look-bad, look-of, look-inside, look-fits}
use Rattle.std.specs.Prelude.{Some}
use Rattle.index_read.proofs.look.Goals as goal
use Rattle.index_read.proofs.look.Goals.{In-Some}

-- what the entry that was taken apart says
parsed : (c : In-Some)
    → parsed_of c.args.ib.now c.args.p c.args.by ≡ Some c.in-Some.s
parsed c = sym c.piece_at.ensures ∙ c.in-Some.is

pub returns-in_default : goal.returns-in_default
returns-in_default c =
    let a = c.args in
    look-bad a.ib.now a.p a.by a.key.now a.reach (sym c.piece_at.ensures ∙ c.in_default.is)

pub overflow_add-z : goal.overflow_add-z
overflow_add-z c =
    let a = c.args in
    omega (arith, look-inside a.ib.now a.p a.by a.key.now a.reach c.in-Some.s (parsed (goal.at.overflow_add-z c).In-Some) c.requires.le_width.2)

pub slice_bounds-reach_of-end : goal.slice_bounds-reach_of-end
slice_bounds-reach_of-end c =
    let a = c.args in
    omega (arith, look-inside a.ib.now a.p a.by a.key.now a.reach c.in-Some.s (parsed (goal.at.slice_bounds-reach_of-end c).In-Some) c.requires.le_width.2)

pub reach_of-requires : goal.reach_of-requires
reach_of-requires c =
    let a = c.args in
    look-fits a.ib.now a.p a.by a.key.now a.reach c.in-Some.s (parsed (goal.at.reach_of-requires c).In-Some) c.requires.le_width.5

pub returns : goal.returns
returns c =
    let a = c.args in
    look-of a.ib.now a.p a.by a.key.now a.reach c.in-Some.s (parsed (goal.at.returns c).In-Some) c.reach_of.result c.reach_of.ensures
