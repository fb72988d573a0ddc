-- No loop. The index record's check tells whether it is sound (answer-sound, answer-unsound), and nothing else counts (wrong-sound, wrong-unsound).
use mathlib.Core.Path.{◌∙◌, sym}
use native.Mathlib.Omega.{arith}
use Rattle.measures.proofs.Fine.{fits-small, fits-large}
use Rattle.index_read.proofs.Answers.{answer-sound, answer-unsound}
use Rattle.area.specs.Content.{index_in}
use Rattle.area.proofs.Places.{length-index}
use Rattle.register.proofs.Reading.{wrong-sound, wrong-unsound}
use Rattle.register.proofs.wrong_length.Goals as goal

pub slice_bounds-check-end : goal.slice_bounds-check-end
slice_bounds-check-end c =
    sym (length-index c.args.m c.args.n c.args.area.now c.requires)

pub check-requires : goal.check-requires
check-requires c =
    let z = length-index c.args.m c.args.n c.args.area.now c.requires in
    (omega (arith, z, fits-large c.requires), omega (arith, z, fits-small c.requires), c.requires.key-some, c.requires.key-most, c.requires.few)

pub returns-in_default : goal.returns-in_default
returns-in_default c =
    let a = c.args in
    wrong-unsound a.m a.n a.area.now (answer-unsound a.m.key a.n (index_in a.m a.area.now) (sym c.check.ensures ∙ c.in_default.is))

pub returns : goal.returns
returns c =
    let a = c.args in
    wrong-sound a.m a.n a.area.now (answer-sound a.m.key a.n (index_in a.m a.area.now) _ (sym c.check.ensures ∙ c.in-Some.is)).sound
