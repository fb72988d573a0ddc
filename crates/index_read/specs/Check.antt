-- What the check of an index record answers, alone and with a key to seek: document 01, 'Index record', and document 02, L4 and L5. K is the key's length, n the
-- number of data intervals.
use Rattle.std.specs.Prelude.{ℕ, ◌≤◌, ◌<◌, ◌≡◌, Bool, Option, Some, None, List, [], length, take}
use Rattle.fields.specs.Choice.{pick}
use Rattle.fields.specs.Bytes.{splice}
use Rattle.measures.specs.Judgement.{width_for}
use Rattle.index.specs.Meaning.{Entry, separator_before}
use Rattle.index.specs.Search.{leads_to, entry_for}
use Rattle.sections.specs.Reading.{read_index, sound_index}
use Rattle.index_read.specs.declared.Index.{Index}
use Rattle.index_read.specs.declared.Lead.{Lead}

-- how many free intervals and entries it reads as
abbrev pub counts_in : ℕ → ℕ → List ℕ → Index
counts_in w n ib = record { free = length (read_index w n ib).free; entries = length (read_index w n ib).entries }

-- these where it is sound. No bound lies before the first entry, and the last has an empty separator.
unfoldable pub index_by : ℕ → ℕ → ℕ → List ℕ → Option Index
index_by w K n ib = pick (sound_index w K n [] [] ib) (Some (counts_in w n ib)) None

-- with the width of a pointer that n intervals have
abbrev pub index_of : ℕ → ℕ → List ℕ → Option Index
index_of K n ib = index_by (width_for n) K n ib

-- ---- with a key

-- sound, where keys are as long as this one
abbrev pub sound_with : ℕ → List ℕ → List ℕ → Bool
sound_with n ib key = sound_index (width_for n) (length key) n [] [] ib

abbrev pub entries_in : ℕ → List ℕ → List Entry
entries_in n ib = (read_index (width_for n) n ib).entries

-- the separator before the entry that the key leads to, none before the first
abbrev pub low_for : ℕ → List ℕ → List ℕ → List ℕ
low_for n ib key = separator_before [] (take (leads_to key (entries_in n ib)) (entries_in n ib))

abbrev pub lead_of : ℕ → List ℕ → List ℕ → Lead
lead_of n ib key =
    record { ordinal = leads_to key (entries_in n ib); number = (entry_for key (entries_in n ib)).num; before = length (low_for n ib key); own = length (entry_for key (entries_in n ib)).sep }

-- where the key leads in a sound record
unfoldable pub sought_of : ℕ → List ℕ → List ℕ → Option Lead
sought_of n ib key = pick (sound_with n ib key) (Some (lead_of n ib key)) None

-- the answer, and the two separators at the front of the buffers, which stay where the record is unsound
pub record Seeks (n : ℕ) (ib key before own : List ℕ) (r : Option Lead) (before' own' : List ℕ) : Type 0 where
  pub answers : r ≡ sought_of n ib key
  pub low : before' ≡ pick (sound_with n ib key) (splice before 0 (low_for n ib key)) before
  pub high : own' ≡ pick (sound_with n ib key) (splice own 0 (entry_for key (entries_in n ib)).sep) own

-- what was found lies within its limits; K is the key's length
abbrev pub LeadWithin : ℕ → ℕ → Option Lead → Type 0
LeadWithin n K (Some s) = (s.number < n) × (s.before ≤ K) × (s.own ≤ K)
LeadWithin n K None = Unit {0}
