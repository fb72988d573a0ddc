-- No loop. The request's contract, told as one number; by check-small its values have room there.
use mathlib.Core.Path.{◌∙◌, sym, ap, subst}
use Rattle.requests.specs.Words.{word_of, Small}
use Rattle.requests.proofs.Bounded.{check-small}
use Rattle.scanner.proofs.belquita_check.Goals as goal

pub word-requires : goal.word-requires
word-requires c = subst Small (sym c.check.ensures) (check-small _ _)

pub returns : goal.returns
returns c = c.word.ensures ∙ ap word_of c.check.ensures
