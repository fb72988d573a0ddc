-- Aids: what the search in an index record asks for and answers. `leads_to` of crate index is what is believed: document 01, 'Index record'.
use Rattle.std.specs.Prelude.{ℕ, ◌≤◌, ◌<◌, ◌≡◌, true, List, [], length, get_or}
use Rattle.measures.specs.Judgement.{width_for}
use Rattle.index.specs.Meaning.{numbers}
use Rattle.sections.specs.Reading.{read_index, sound_index}
use Rattle.index.specs.Search.{leads_to}
use Rattle.index_find.specs.declared.Located.{Located}

-- A sound index record of n intervals, and a key of its length.
pub record Searchable (ib : List ℕ) (n : ℕ) (key : List ℕ) : Type 0 where
  pub least : 31 ≤ length ib
  pub most : length ib ≤ 32768
  pub some : 1 ≤ length key
  pub short : length key ≤ 255
  pub sound : sound_index (width_for n) (length key) n [] [] ib ≡ true

-- The entry that the key leads to: its place, the number it names, and that there is one.
pub record Leads (ib : List ℕ) (n : ℕ) (key : List ℕ) (r : Located) : Type 0 where
  pub ordinal : r.ordinal ≡ leads_to key (read_index (width_for n) n ib).entries
  pub number : r.number ≡ get_or (numbers (read_index (width_for n) n ib).entries) (leads_to key (read_index (width_for n) n ib).entries) 0
  pub inside : r.ordinal < length (read_index (width_for n) n ib).entries
  pub within : r.number < n
