-- Where a key leads in an area, by its index record alone: document 01, 'Index record'; document 02, L4. n is the number of data intervals.
use Rattle.std.specs.Prelude.{ℕ, Bool, List, [], take}
use Rattle.measures.specs.Judgement.{width_for}
use Rattle.measures.specs.declared.Measures.{Measures}
use Rattle.interval.specs.Role.{sound_used}
use Rattle.index.specs.Bounds.{bound}
use Rattle.index.specs.Meaning.{Entry}
use Rattle.index.specs.Rules.{bound_before}
use Rattle.index.specs.Search.{leads_to, entry_for}
use Rattle.sections.specs.Reading.{read_index, sound_index}
use Rattle.area.specs.Content.{index_in, data_in}

-- the index record is sound
abbrev pub index_sound : Measures → ℕ → List ℕ → Bool
index_sound m n area = sound_index (width_for n) m.key n [] [] (index_in m area)

-- its entries
abbrev pub entries_for : Measures → ℕ → List ℕ → List Entry
entries_for m n area = (read_index (width_for n) n (index_in m area)).entries

-- the number of the interval that a key leads to, and the interval
abbrev pub number_for : Measures → ℕ → List ℕ → List ℕ → ℕ
number_for m n area wanted = (entry_for wanted (entries_for m n area)).num

abbrev pub interval_for : Measures → ℕ → List ℕ → List ℕ → List ℕ
interval_for m n area wanted = data_in m area (number_for m n area wanted)

-- that interval is sound in its role: its form, each key above the bound before the entry and at most the entry's own
unfoldable pub sound_for : Measures → List Entry → List ℕ → List ℕ → Bool
sound_for m es wanted ci = sound_used m (bound_before m.key [] (take (leads_to wanted es) es)) (bound m.key (entry_for wanted es).sep) ci
