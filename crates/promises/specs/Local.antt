-- What a get by key looks at, and no more: document 02, L4. It judges the index record and the interval to which that leads the key; damage elsewhere does
-- not refuse it, so that it vouches for no other interval. `KeyHome`, `DamagedHome` and `FineHome` name no search.
use Rattle.std.specs.Prelude.{ℕ, ◌≡◌, true, false, List, [], ◌∷◌, ◌++◌, ◌↔◌, length}
use Rattle.fields.specs.Order.{less}
use Rattle.measures.specs.declared.Measures.{Measures}
use Rattle.index.specs.Bounds.{bound}
use Rattle.index.specs.Meaning.{Entry, Meaning, entry}
use Rattle.index.specs.Rules.{bound_before}
use Rattle.area.specs.Content.{index_in, data_in}
use Rattle.area.specs.Layout.{IndexInterval, UsedInterval}
use Rattle.area.specs.Leads.{index_sound, number_for}
use Rattle.promises.specs.Tables.{many, Absent, KeyedTooLong, DamagedIndex, DamagedThere, AbsentThere}
use Rattle.promises.specs.Tables.{TooLongThere}

-- Two areas that a get by this key meets alike: equally long, with the same index record, and with the same bytes in the interval that it leads the key to.
-- That interval counts only where the index record is sound and the key has the length of a key; else no data interval is looked at.
pub record SameFor (m : Measures) (area area' wanted : List ℕ) : Type 0 where
  pub long : length area' ≡ length area
  pub index : index_in m area' ≡ index_in m area
  pub there : index_sound m (many m area) area ≡ true → length wanted ≡ m.key
      → data_in m area' (number_for m (many m area) area wanted) ≡ data_in m area (number_for m (many m area) area wanted)

-- On a sound area the rows of a get by key speak of all records: neither place is damaged, none of the interval's records has the key exactly where none of
-- all records has it, and so for one that is too long.
pub record RowsWhole (m : Measures) (area wanted : List ℕ) : Type 0 where
  pub index : DamagedIndex m area → ⊥
  pub there : DamagedThere m area wanted → ⊥
  pub absent : AbsentThere m area wanted ↔ Absent m area wanted
  pub too_long : (out : List ℕ) → TooLongThere m area wanted out ↔ KeyedTooLong m area wanted out

-- The key has the length of a key and belongs to interval k: the index record is laid out with some meaning, one of its
-- entries is that of k, and the key is above the bound before that entry and at most the entry's own. Said by the
-- grammar of the index record alone: nothing is searched, and no data interval is looked at.
pub record KeyHome (m : Measures) (n : ℕ) (area wanted : List ℕ) (k : ℕ) : Type 0 where
  pub long : length wanted ≡ m.key
  pub meaning : Meaning
  pub index : IndexInterval m n meaning (index_in m area)
  pub pre : List Entry
  pub sep : List ℕ
  pub post : List Entry
  pub split : meaning.entries ≡ pre ++ (entry sep k ∷ post)
  pub after : less (bound_before m.key [] pre) wanted ≡ true
  pub within : less (bound m.key sep) wanted ≡ false

-- Interval k, to which the key belongs, is laid out in its role: as these records, between the entry's two bounds.
abbrev pub HomeLaid : (m : Measures) (n : ℕ) (area wanted : List ℕ) (k : ℕ) → KeyHome m n area wanted k
    → List (List ℕ) → Type 0
HomeLaid m n area wanted k h rs =
    UsedInterval m (bound_before m.key [] h.pre) (bound m.key h.sep) rs (data_in m area k)

-- The key belongs to interval k, but k is not laid out in its role: in no way as records between the two bounds.
-- Said by the grammars alone.
pub record DamagedHome (m : Measures) (n : ℕ) (area wanted : List ℕ) (k : ℕ) : Type 0 where
  pub home : KeyHome m n area wanted k
  pub unsound : (rs : List (List ℕ)) → HomeLaid m n area wanted k home rs → ⊥

-- The key belongs to an interval, and that is laid out in its role as the records rs. Beside fine measures this is all
-- that a get by key asks of an area (document 02, L4): every other interval may hold anything. Said by the grammars
-- alone.
pub record FineHome (m : Measures) (n : ℕ) (area wanted : List ℕ) (rs : List (List ℕ)) : Type 0 where
  pub interval : ℕ
  pub home : KeyHome m n area wanted interval
  pub laid : HomeLaid m n area wanted interval home rs
