-- Invariant (Sought): c is not past the number that is sought. While its square is less than the count, it is below that.
use Rattle.index_pen.proofs.Sectioning.{Sought}
use Rattle.index_pen.proofs.section_for.Given as goal

abbrev pub invariant-loop-c : goal.invariant-loop-c
invariant-loop-c l = Sought l.count l.c
