-- stays, two and three are the ways out of division_of: rule 1 where they fit, rule 2 where best_cut gives a cut, rule 3 where it gives none.
-- What need_of answers for the room taken is the need of the lengths.
use native.Mathlib.Omega.{arith}
use Rattle.division.proofs.Turns.{stays, three, two}
use Rattle.division.proofs.divide.Goals as goal

pub returns-then-need_of-s : goal.returns-then-need_of-s
returns-then-need_of-s c =
    let a = c.args in
    stays a.s a.lens.now (omega (arith, c.need_of.ensures.means a.lens.now c.room_of-whole.ensures.is, c.if-need_of-s.true))

pub returns-in_default : goal.returns-in_default
returns-in_default c =
    let a = c.args in
    three a.s a.lens.now (omega (arith, c.need_of.ensures.means a.lens.now c.room_of-whole.ensures.is, c.if-need_of-s.false)) c.best_cut.result c.best_cut.ensures c.in_default.is

pub returns : goal.returns
returns c =
    let a = c.args in
    two a.s a.lens.now (omega (arith, c.need_of.ensures.means a.lens.now c.room_of-whole.ensures.is, c.if-need_of-s.false)) c.best_cut.result c.best_cut.ensures c.in-Some.cut c.in-Some.is
