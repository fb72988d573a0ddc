-- No loop. Seven numbers, each by its place.
use Rattle.ask.proofs.place_in.Goals as goal

pub returns : goal.returns
returns c = cc
