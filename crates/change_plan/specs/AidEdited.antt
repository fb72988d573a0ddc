-- Aids: an edit of one interval, as the code is handed it. Nothing here has to be believed: the requests have no conditions.
use Rattle.std.specs.Prelude.{ℕ, ◌+◌, ◌*◌, ◌≤◌, ◌<◌, ◌≡◌, true, List, map, ◌⊎◌, length, take, drop}
use Rattle.fields.specs.Lists.{concat, swap}
use Rattle.measures.specs.Judgement.{Fits}
use Rattle.measures.specs.declared.Measures.{Measures}
use Rattle.interval.specs.Records.{all_within}
use Rattle.interval.specs.Reading.{records_in, Readable}
use Rattle.interval.specs.Search.{start_of}
use Rattle.interval_edit.specs.AidChanged.{fresh_in, Goes}
use Rattle.interval_edit.specs.declared.Site.{Site}
use Rattle.area.specs.Content.{Content, data_in}
use Rattle.area.specs.Reading.{whole, read_area}
use Rattle.change.specs.Parts.{Edit, entry_at}
use Rattle.change.specs.Fitting.{Fitting}

-- The edit at a site: the records that go make way for the fresh ones.
abbrev pub edit_at : Site → List (List ℕ) → Edit
edit_at site fresh = record { entry = site.entry; ordinal = site.ordinal; gone = site.gone; fresh = fresh }

-- An area that is lent with its content, and one of its entries.
pub record Entered (m : Measures) (n : ℕ) (area : List ℕ) (entry number : ℕ) : Type 0 where
  pub fits : Fits m n (length area)
  pub content : Content
  pub reads : read_area m n area ≡ whole content
  pub there : entry < length content.filled
  pub is : number ≡ (entry_at content.filled entry).num
  pub within : number < n

-- The edit fits, at most one record goes, and its bytes lie where the site says.
pub record Edits (m : Measures) (n : ℕ) (area : List ℕ) (site : Site) (fresh : List (List ℕ)) : Type 0 where
  pub entered : Entered m n area site.entry site.number
  pub fitting : Fitting m n area entered.content (edit_at site fresh)
  pub few : site.gone ≤ 1
  pub starts : site.start ≡ start_of site.ordinal (entry_at entered.content.filled site.entry).records
  pub takes : site.span ≡ length (concat (take site.gone (drop site.ordinal (entry_at entered.content.filled site.entry).records)))

-- the records of the site's interval with the edit made
abbrev pub edited_records : Measures → List ℕ → Site → List ℕ → List (List ℕ)
edited_records m area site new = swap site.ordinal site.gone (fresh_in new) (records_in (data_in m area site.number))

-- The edit fits, and these are the lengths that it leaves.
pub record Told (m : Measures) (n : ℕ) (area : List ℕ) (site : Site) (new lens : List ℕ) : Type 0 where
  pub edits : Edits m n area site (fresh_in new)
  pub lens-are : lens ≡ map length (edited_records m area site new)

-- What of it is seen in the interval alone: the interval lies in the area and can be read, the records that go are there, and each record that is left
-- has a key.
pub record Seen (m : Measures) (area : List ℕ) (site : Site) (new lens : List ℕ) : Type 0 where
  pub there : (site.number + 1) * m.size + m.size ≤ length area
  pub readable : Readable m (data_in m area site.number)
  pub goes : Goes (records_in (data_in m area site.number)) site.ordinal site.start site.gone site.span
  pub lens-are : lens ≡ map length (edited_records m area site new)
  pub fine : all_within m.least m.most lens ≡ true
  pub keyed : m.offset + m.key ≤ m.least
  pub key-most : m.key ≤ 255
  pub few : length lens ≤ 32768
  pub new-small : length new ≤ 32768
  pub area_small : length area < 4294967296

-- k bytes from place x on, of bytes in which `new` have come in place of the `span` from `start` on: they lie before those, or behind, or among them. There are
-- `long` bytes without the edit.
pub record Piece (start span new x k long : ℕ) : Type 0 where
  pub place : (x + k ≤ start) ⊎ ((start + new ≤ x) ⊎ ((start ≤ x) × (x + k ≤ start + new)))
  pub inside : start + span ≤ long
  pub ends : x + k + span ≤ long + new
