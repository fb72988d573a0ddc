-- Aids: what a search in a sound area answers. Contracts between crates cite them; the requests' contracts say what that means for the records, so
-- nothing here has to be believed.
use Rattle.std.specs.Prelude.{ℕ, ◌+◌, ◌-◌, ◌*◌, ◌/◌, ◌%◌, ◌≤◌, ◌<◌, ◌≡◌, Option, Some, None, List, length, get_or, ltb, leb}
use Rattle.fields.specs.Choice.{pick}
use Rattle.fields.specs.Bytes.{number}
use Rattle.measures.specs.Judgement.{width_for}
use Rattle.measures.specs.declared.Measures.{Measures}
use Rattle.interval.specs.Reading.{records_in, displacement}
use Rattle.interval.specs.Search.{place_of, Within, starting_at, started_of}
use Rattle.index.specs.Meaning.{numbers}
use Rattle.index.specs.Search.{leads_to}
use Rattle.sections.specs.Reading.{read_index}
use Rattle.area.specs.Content.{Content, index_in, data_in}
use Rattle.area.specs.Reading.{read_area, whole}
use Rattle.area_find.specs.declared.KeyPlace.{KeyPlace}
use Rattle.area.specs.Checked.{lies_at}
use Rattle.area.specs.declared.Lying.{Lying}

-- the area is sound, and this is what it holds
pub record Whole (m : Measures) (n : ℕ) (area : List ℕ) : Type 0 where
  pub content : Content
  pub reads : read_area m n area ≡ whole content

-- the entry that a key leads to, the number it names, and the key's place in that interval
pub record Sought (m : Measures) (n : ℕ) (area key : List ℕ) (r : KeyPlace) : Type 0 where
  pub entry : r.entry ≡ leads_to key (read_index (width_for n) n (index_in m area)).entries
  pub number : r.number ≡ get_or (numbers (read_index (width_for n) n (index_in m area)).entries) (leads_to key (read_index (width_for n) n (index_in m area)).entries) 0
  pub inside : r.entry < length (read_index (width_for n) n (index_in m area)).entries
  pub within : r.number < n
  pub found : r.found ≡ place_of m key (records_in (data_in m area r.number))
  pub place : Within (length (records_in (data_in m area r.number))) (displacement (data_in m area r.number)) r.found

abbrev pub lying_of : ℕ → Option ℕ → Option Lying
lying_of from (Some len) = lies_at from len
lying_of from None = None

-- the record at an address; base is that of the index record
unfoldable pub sought_at : Measures → ℕ → List ℕ → ℕ → Option Lying
sought_at m n area address =
    let base = number 4 (index_in m area) 4 in
    let k = (address - base) / m.size in
    let place = (address - base) % m.size in
    pick (ltb address base) None
    (pick (leb n k) None (lying_of ((k + 1) * m.size + place) (started_of (starting_at place 0 (records_in (data_in m area k))))))

-- it ends within the area
abbrev pub Inside : ℕ → Option Lying → Type 0
Inside bytes (Some l) = l.from + l.length ≤ bytes
Inside bytes None = Unit {0}
