-- The parts that a change makes of an interval's records, and the separators at the cuts between them: document 01, 'Dividing an interval'.
use Rattle.std.specs.Prelude.{ℕ, zero, suc, ◌-◌, List, [], ◌∷◌, map, length, get_or, take}
use Rattle.fields.specs.Lists.{swap}
use Rattle.measures.specs.declared.Measures.{Measures}
use Rattle.division.specs.Division.{parts, pieces}
use Rattle.area.specs.Content.{Filled}

-- One change of one interval: `gone` records from the ordinal on make way for the fresh ones.
-- An insert has none gone and one fresh, an update one of each, an erase one gone and none fresh.
pub record Edit : Type 0 where
  pub entry : ℕ
  pub ordinal : ℕ
  pub gone : ℕ
  pub fresh : List (List ℕ)

-- the entry whose interval is changed
abbrev pub entry_at : List Filled → ℕ → Filled
entry_at filled i = get_or filled i (record { sep = []; num = 0; records = [] })

-- its records with the change made
abbrev pub edited : List Filled → Edit → List (List ℕ)
edited filled e = swap e.ordinal e.gone e.fresh (entry_at filled e.entry).records

-- and as they are divided; the changed record is the one at the ordinal
unfoldable pub divided : Measures → List Filled → Edit → List (List (List ℕ))
divided m filled e = pieces (parts m.size (map length (edited filled e)) e.ordinal) (edited filled e)

-- the rightmost k free numbers, the rightmost first
unfoldable pub taken : ℕ → List ℕ → List ℕ
taken zero free = []
taken (suc k) free = get_or free (length free - 1) 0 ∷ taken k (take (length free - 1) free)
