-- lengths_out leaves the lengths of all records at the front of the buffer. Then one of four things: nothing; one is closed up; one is stored anew;
-- way is made for one, and it is stored. none-edited, gone-edited, changed-edited, come-edited: each leaves the edited lengths, and counts them.
use Prim.Native.Nat.{ℕ, ◌+◌, ◌≤◌, ◌<◌}
use mathlib.Core.Path.{◌≡◌, ◌∙◌, sym}
use mathlib.Core.List.{List, map}
use lib.ListN.{length, length-map}
use native.Mathlib.Omega.{arith}
use Rattle.interval.specs.Reading.{records_in}
use Rattle.interval_edit.proofs.Moves.{moved, none-edited, gone-edited, changed-edited, come-edited}
use Rattle.interval_edit.proofs.lengths.Goals as goal
use Rattle.interval_edit.proofs.lengths.Goals.{After-lengths_out-many}

-- the lengths that are told
abbrev old : After-lengths_out-many → List ℕ
old k = map length (records_in k.args.ci.now)

inside : (k : After-lengths_out-many) → k.args.site.ordinal + k.args.site.gone ≤ length (old k)
inside k = omega (arith, k.requires.inside, length-map (records_in k.args.ci.now) length)

room : (k : After-lengths_out-many) → length (old k) < length k.args.lens.now
room k = omega (arith, k.requires.room, length-map (records_in k.args.ci.now) length)

many : (k : After-lengths_out-many) → k.lengths_out-many.result ≡ length (old k)
many k = k.lengths_out-many.ensures.count ∙ sym (length-map (records_in k.args.ci.now) length)

pub returns-then-site-eq0 : goal.returns-then-site-eq0
returns-then-site-eq0 c =
    let a = c.args in
    let told = none-edited a.lens.now (old (goal.at.returns-then-site-eq0 c).After-lengths_out-many) (room (goal.at.returns-then-site-eq0 c).After-lengths_out-many) a.site.ordinal a.site.gone a.comes (inside (goal.at.returns-then-site-eq0 c).After-lengths_out-many) c.requires.few (omega arith) (omega arith)
    c.lengths_out-many.result (many (goal.at.returns-then-site-eq0 c).After-lengths_out-many) c.lengths_out-many.new.lens c.lengths_out-many.ensures.list in record { count = told.0; list = told.1 }

pub returns-then-comes-eq0 : goal.returns-then-comes-eq0
returns-then-comes-eq0 c =
    let a = c.args in
    let told = gone-edited a.lens.now (old (goal.at.returns-then-comes-eq0 c).After-lengths_out-many) (room (goal.at.returns-then-comes-eq0 c).After-lengths_out-many) a.site.ordinal a.site.gone a.comes (inside (goal.at.returns-then-comes-eq0 c).After-lengths_out-many) c.requires.few (omega arith) (omega arith)
    c.lengths_out-many.result (many (goal.at.returns-then-comes-eq0 c).After-lengths_out-many) c.lengths_out-many.new.lens c.copy_within.new.self c.lengths_out-many.ensures.list (c.copy_within.ensures.after ∙ moved _ _ _ _ (omega arith) (omega arith)) in record { count = told.0; list = told.1 }

pub returns-then-site-eq1 : goal.returns-then-site-eq1
returns-then-site-eq1 c =
    let a = c.args in
    let told = changed-edited a.lens.now (old (goal.at.returns-then-site-eq1 c).After-lengths_out-many) (room (goal.at.returns-then-site-eq1 c).After-lengths_out-many) a.site.ordinal a.site.gone a.comes (inside (goal.at.returns-then-site-eq1 c).After-lengths_out-many) c.requires.few (omega arith) (omega arith)
    c.lengths_out-many.result (many (goal.at.returns-then-site-eq1 c).After-lengths_out-many) c.lengths_out-many.new.lens c.lengths_out-many.ensures.list in record { count = told.0; list = told.1 }

pub returns : goal.returns
returns c =
    let a = c.args in
    let told = come-edited a.lens.now (old (goal.at.returns c).After-lengths_out-many) (room (goal.at.returns c).After-lengths_out-many) a.site.ordinal a.site.gone a.comes (inside (goal.at.returns c).After-lengths_out-many) c.requires.few (omega arith) (omega arith)
    c.lengths_out-many.result (many (goal.at.returns c).After-lengths_out-many) c.lengths_out-many.new.lens c.copy_within-2.new.self c.lengths_out-many.ensures.list (c.copy_within-2.ensures.after ∙ moved _ _ _ _ (omega arith) (omega arith)) in record { count = told.0; list = told.1 }
