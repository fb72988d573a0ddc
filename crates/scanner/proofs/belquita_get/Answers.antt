-- No loop. The request's contract, told as one number; by get-small its values have room there.
use mathlib.Core.Path.{◌∙◌, sym, ap, subst}
use Rattle.requests.specs.Words.{word_of, Small}
use Rattle.requests.proofs.Bounded.{get-small}
use Rattle.scanner.proofs.belquita_get.Goals as goal

pub word-requires : goal.word-requires
word-requires c = subst Small (sym c.get.ensures.answers) (get-small _ _ _ _)

pub returns : goal.returns
returns c =
    let g = c.get in
    record { word-is = c.word.ensures ∙ ap word_of g.ensures.answers; outputs = g.ensures.outputs }
