-- Records of an area by key and by address: document 01, 'The area we lend'. Said over its reading alone.
use Rattle.std.specs.Prelude.{ℕ, ◌+◌, ◌*◌, List, [], ◌∷◌, ◌++◌}
use Rattle.fields.specs.Choice.{pick}
use Rattle.fields.specs.Table.{same_list}
use Rattle.measures.specs.declared.Measures.{Measures}
use Rattle.interval.specs.Records.{key_of}
use Rattle.interval.specs.Search.{starting_at}
use Rattle.area.specs.Content.{Filled}

-- the records with that key: one or none, as keys strictly ascend
unfoldable pub with_key : Measures → List ℕ → List (List ℕ) → List (List ℕ)
with_key m key [] = []
with_key m key (r ∷ rs) = pick (same_list (key_of m r) key) (r ∷ with_key m key rs) (with_key m key rs)

-- the records that lie at an address: base + number × S + displacement in the interval
unfoldable pub lying_at : Measures → ℕ → ℕ → List Filled → List (List ℕ)
lying_at m base address [] = []
lying_at m base address (f ∷ fs) =
    starting_at address (base + f.num * m.size) f.records ++ lying_at m base address fs
