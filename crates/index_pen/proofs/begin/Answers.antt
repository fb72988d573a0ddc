-- No loop: what section_for and min say is what the pen is made of.
use Rattle.index_pen.proofs.begin.Goals as goal

pub returns : goal.returns
returns c = rw (c.min.ensures, c.section_for-most.ensures.0)
