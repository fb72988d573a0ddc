-- What a change comes to: refusal 6, refusal 7, or the stores that make it: document 01, 'Dividing an interval' and 'What each number tells the depot'; document 02,
-- L5, for the index record's sections.
use Rattle.std.specs.Prelude.{ℕ, ◌+◌, ◌-◌, List, [], ◌∷◌, ◌++◌, length, ltb}
use Rattle.fields.specs.Choice.{pick, both}
use Rattle.measures.specs.declared.Measures.{Measures}
use Rattle.interval.specs.Layout.{form}
use Rattle.index.specs.Meaning.{Meaning}
use Rattle.index.specs.Divided.{divided_at}
use Rattle.index.specs.Cuts.{separators}
use Rattle.sections.specs.Form.{index_size, index_bytes}
use Rattle.area.specs.Content.{Content, meaning_of, width_in}
use Rattle.change.specs.Stores.{Store}
use Rattle.change.specs.Parts.{Edit, entry_at, divided, taken}

pub data Plan : Type 0 where
  no_interval : Plan
  no_room : Plan
  stores : List Store → Plan

-- the index record's meaning after the division
abbrev pub index_after : Measures → Content → Edit → Meaning
index_after m c e = divided_at (meaning_of c) e.entry (separators m (divided m c.filled e))

-- the later parts go into the intervals taken, in the order of the parts
unfoldable pub taken_stores : ℕ → List ℕ → List (List (List ℕ)) → List Store
taken_stores S (k ∷ ks) (p ∷ ps) = record { at = k + 1; bytes = form S p } ∷ taken_stores S ks ps
taken_stores S [] ps = []
taken_stores S (k ∷ ks) [] = []

-- the stores in their order: the intervals taken, the index record, the old interval with the first part. Where the records stay, the last alone.
abbrev pub stores_of : Measures → Content → Edit → List (List (List ℕ)) → List Store
stores_of m c e [] = []
stores_of m c e (p ∷ []) = record { at = (entry_at c.filled e.entry).num + 1; bytes = form m.size p } ∷ []
stores_of m c e (p ∷ q ∷ ps) =
    taken_stores m.size (taken (length (q ∷ ps)) c.free) (q ∷ ps)
    ++ (record { at = 0; bytes = index_bytes (width_in c) m.size (index_after m c e) }
    ∷ record { at = (entry_at c.filled e.entry).num + 1; bytes = form m.size p }
    ∷ [])

-- 6: the division needs more intervals, besides the old one, than are free. 7: it divides, and the index record would need more than S - 7 bytes.
unfoldable pub plan_of : Measures → Content → Edit → Plan
plan_of m c e =
    let parts = divided m c.filled e in
    pick (ltb (length c.free) (length parts - 1)) no_interval
    (pick (both (ltb 1 (length parts)) (ltb (m.size - 7) (index_size (width_in c) (index_after m c e)))) no_room (stores (stores_of m c e parts)))
