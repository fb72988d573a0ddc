-- No loop. Four numbers, each by its place.
use Rattle.ask.proofs.numbers_in.Goals as goal

pub returns : goal.returns
returns c = cc
