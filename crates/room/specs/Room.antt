-- How many bytes of a data interval records of given lengths take: document 01, 'Data interval'.
use Rattle.std.specs.Prelude.{ℕ, suc, ◌+◌, ◌*◌, Bool, List, [], ◌∷◌, ◌++◌, replicate, eqb, leb}
use Rattle.fields.specs.Choice.{pick}
use Rattle.fields.specs.Lists.{every, sum}

-- So many neighbours of one length that are described together.
pub record Group : Type 0 where
  pub len : ℕ
  pub count : ℕ

-- the lengths that some groups describe, and whether each group has a record
unfoldable pub described : List Group → List ℕ
described [] = []
described (g ∷ gs) = replicate g.count g.len ++ described gs

abbrev pub all_counted : List Group → Bool
all_counted gs = every (λ (g : Group). leb 1 g.count) gs

-- one RDF for a group of one, two for a run
unfoldable pub rdf_count : List Group → ℕ
rdf_count [] = 0
rdf_count (g ∷ gs) = pick (leb g.count 1) 1 2 + rdf_count gs

-- the writer's grouping: two or more neighbours of equal length make one run
unfoldable pub push : ℕ → List Group → List Group
push l [] = record { len = l; count = 1 } ∷ []
push l (g ∷ gs) =
    pick (eqb l g.len) (record { len = l; count = suc g.count } ∷ gs) (record { len = l; count = 1 } ∷ g ∷ gs)

unfoldable pub groups : List ℕ → List Group
groups [] = []
groups (l ∷ ls) = push l (groups ls)

-- records, RDFs of three bytes each, CIDF
unfoldable pub need : List ℕ → ℕ
need ls = sum ls + 3 * rdf_count (groups ls) + 4

unfoldable pub fits : ℕ → List ℕ → Bool
fits S ls = leb (need ls) S
