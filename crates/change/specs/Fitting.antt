-- What a change asks of the area and of the edit, so that its stores leave a sound area: document 01, 'Data interval' and 'Index record', the rules that
-- the changed interval must go on keeping.
use Rattle.std.specs.Prelude.{ℕ, ◌+◌, ◌≤◌, ◌<◌, ◌≡◌, true, List, [], length, take}
use Rattle.fields.specs.Bytes.{Octets}
use Rattle.fields.specs.Lists.{concat}
use Rattle.measures.specs.declared.Measures.{Measures}
use Rattle.interval.specs.Records.{keys_of, lengths_fine, ascending, above, up_to}
use Rattle.index.specs.Bounds.{bound}
use Rattle.index.specs.Rules.{bound_before}
use Rattle.area.specs.Content.{Filled, Content, entries_of}
use Rattle.area.specs.Reading.{whole, read_area}
use Rattle.area.specs.Layout.{Lent}
use Rattle.change.specs.Parts.{Edit, entry_at, edited}

-- the bound before the entry that is changed, [] where it is the first
abbrev pub low_of : Measures → List Filled → Edit → List ℕ
low_of m fs e = bound_before m.key [] (entries_of (take e.entry fs))

-- and the entry's own
abbrev pub high_of : Measures → List Filled → Edit → List ℕ
high_of m fs e = bound m.key (entry_at fs e.entry).sep

-- An edit that its interval can bear.
pub record Proper (m : Measures) (fs : List Filled) (e : Edit) : Type 0 where
  -- there is that entry
  pub entry : e.entry < length fs
  -- the records that go are among the entry's
  pub inside : e.ordinal + e.gone ≤ length (entry_at fs e.entry).records
  -- at most one record comes in: one for an insert or an update, none for an erase
  pub one : length e.fresh ≤ 1
  -- it is of bytes
  pub octets : Octets (concat e.fresh)
  -- its length is one that the measures allow
  pub lengths : lengths_fine m e.fresh ≡ true
  -- with the change made the keys strictly ascend
  pub ascend : ascending (keys_of m (edited fs e)) ≡ true
  -- they are above the bound before the entry
  pub after : above (low_of m fs e) (keys_of m (edited fs e)) ≡ true
  -- they are at most the entry's own bound
  pub within : up_to (high_of m fs e) (keys_of m (edited fs e)) ≡ true

-- Such an edit of an area that is lent, is sound and holds c: all that the laws of changes ask.
pub record Fitting (m : Measures) (n : ℕ) (area : List ℕ) (c : Content) (e : Edit) : Type 0 where
  pub lent : Lent m n area
  pub reads : read_area m n area ≡ whole c
  pub proper : Proper m c.filled e
