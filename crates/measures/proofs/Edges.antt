-- Measures on both sides of each edge: one table, one statement.
use mathlib.Core.Path.{◌≡◌, refl}
use mathlib.Core.Bool.{true}
use Rattle.measures.specs.Sizes.{any_below, permitted_size}
use Rattle.measures.specs.Judgement.{fine}
use Rattle.measures.specs.Edges.{area, lengths, edges}

pub both-sides : edges ≡ true
unfolding edges area lengths fine permitted_size any_below
both-sides = refl
