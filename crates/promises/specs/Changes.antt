-- What an accepted change did to an area: demand 3; document 01, 'Dividing an interval'. c is its content before, d after. Nothing here plans or stores.
use Rattle.std.specs.Prelude.{ℕ, ◌+◌, ◌*◌, ◌≤◌, ◌<◌, ◌≡◌, length, get_or, ◌⊎◌, ◌↔◌, Ok, Err}
use mathlib.Core.List.{List, [], ◌∷◌, ◌++◌, Memᴰ}
use Rattle.fields.specs.Bytes.{part}
use Rattle.measures.specs.declared.Measures.{Measures}
use Rattle.interval.specs.Layout.{form}
use Rattle.index.specs.Meaning.{numbers}
use Rattle.index.specs.Cuts.{separators}
use Rattle.sections.specs.Form.{index_bytes}
use Rattle.division.specs.Fewest.{Fewest}
use Rattle.area.specs.Content.{Filled, Content, records_of, entries_of, meaning_of, index_in, data_in, width_in}
use Rattle.requests.specs.Model.{Change, make_change}
use Rattle.requests.specs.Changing.{key_in}
use Rattle.requests.specs.Answers.{Answer}
use Rattle.change.specs.Written.{Ascend, numbers_of}
use Rattle.change.specs.declared.Written.{Written}
use Rattle.requests.specs.declared.Done.TheVariants.{Changed, Found, Intact}
use Rattle.requests.specs.declared.Refusal.TheVariants.{Outside, Damaged, WrongLength, Present, Absent, NoInterval, NoRoom, Short, NoRecord}
use Rattle.promises.specs.Entries.{records_by, seps_by}
use Rattle.promises.specs.Home.{Home}
use Rattle.promises.specs.Prescribed.{brought_by, PrescribedParts}

-- The entry to which the key belongs gave way to new ones, all others stayed. The new ones hold the old one's records with the change made, in order, and
-- there are as few of them as hold these, at least one.
pub record SpreadsFewest (m : Measures) (c d : Content) (ch : Change) : Type 0 where
  pub home : Home m c (key_in m ch)
  pub new : List Filled
  pub entries : d.filled ≡ home.pre ++ (new ++ home.post)
  pub makes : records_of new ≡ make_change m ch home.old.records
  pub fewest : Fewest m.size (records_of new) (length new)

-- The new entries hold the parts that the rules prescribe. Each but the last has the separator of the cut after it, the last that of the old one.
pub record CutPrescribed (m : Measures) (ch : Change) (old : Filled) (new : List Filled) : Type 0 where
  pub parts : PrescribedParts m.size (records_of new) (brought_by ch) (records_by new)
  pub cuts : seps_by new ≡ separators m (records_by new) ++ (old.sep ∷ [])

-- each of these entries' intervals has the writer's form of its records
abbrev pub AllForms : Measures → List ℕ → List Filled → Type 0
AllForms m area [] = Unit {0}
AllForms m area (f ∷ fs) = (data_in m area f.num ≡ form m.size f.records) × AllForms m area fs

-- last to first
abbrev pub reversed : List ℕ → List ℕ
reversed [] = []
reversed (k ∷ ks) = reversed ks ++ (k ∷ [])

-- Bytes were written only in the new entries' intervals and, exactly if there are several, in the index record: these are in the writer's form, and every
-- other interval is byte for byte as it was. The first new entry has the old one's interval, the later ones take free ones, the rightmost first; the header
-- bytes that are kept stayed.
pub record OnlyNamedWritten (m : Measures) (before after : List ℕ) (c d : Content) (old : Filled) (new : List Filled) : Type 0 where
  pub taken : List ℕ
  pub named : numbers (entries_of new) ≡ old.num ∷ taken
  pub free : c.free ≡ d.free ++ reversed taken
  pub written : AllForms m after new
  pub others : (k : ℕ) → (Memᴰ k (numbers (entries_of new)) → ⊥) → data_in m after k ≡ data_in m before k
  pub index_stays : length new ≡ 1 → index_in m after ≡ index_in m before
  pub index-written : 1 < length new → index_in m after ≡ index_bytes (width_in d) m.size (meaning_of d)
  pub kept : d.kept ≡ c.kept
  pub spare : d.spare ≡ c.spare

-- ---- what was written: document 02, L9

-- the buffer numbers that an answer carries: those of a done change, none with a refusal, a get or a check
abbrev pub told_written : Answer → List ℕ
told_written (Ok (Changed w)) = numbers_of w
told_written (Ok (Found length)) = []
told_written (Ok (Intact records free)) = []
told_written (Err (Damaged place)) = []
told_written (Err (Short needed)) = []
told_written (Err Outside) = []
told_written (Err WrongLength) = []
told_written (Err Present) = []
told_written (Err Absent) = []
told_written (Err NoInterval) = []
told_written (Err NoRoom) = []
told_written (Err NoRecord) = []

-- interval k of the buffer: 0 is the index record, i + 1 data interval i
abbrev pub unit_at : ℕ → List ℕ → ℕ → List ℕ
unit_at S area k = part area (k * S) S

-- Every interval of the buffer that the answer does not name is byte for byte as it was; so is one that lies past the area's end, where nothing is.
abbrev pub Framed : ℕ → List ℕ → List ℕ → Answer → Type 0
Framed S before after a = (k : ℕ) → (Memᴰ k (told_written a) → ⊥) → unit_at S after k ≡ unit_at S before k

-- Changed tells which intervals were written, ascending, four at the most, and how many: the index record exactly if the free list got shorter; a data interval
-- exactly if it is the one to which the key belongs, or was free and no longer is. Every other is as it was. Said over what the area was read as before (c) and
-- after (d); old is the number of the key's interval.
pub record WrittenTrue (m : Measures) (before after : List ℕ) (c d : Content) (a : Answer) (old : ℕ) : Type 0 where
  pub written : Written
  pub told : a ≡ Ok (Changed written)
  pub many : written.count ≡ length (numbers_of written)
  pub most : written.count ≤ 4
  pub padded : (i : ℕ) → written.count ≤ i → get_or (written.first ∷ written.second ∷ written.third ∷ written.fourth ∷ []) i 0 ≡ 0
  pub ascends : Ascend (numbers_of written)
  pub index : Memᴰ 0 (numbers_of written) ↔ (length d.free < length c.free)
  pub intervals : (i : ℕ) → Memᴰ (i + 1) (numbers_of written) ↔ ((i ≡ old) ⊎ (Memᴰ i c.free × (Memᴰ i d.free → ⊥)))
  pub others : Framed m.size before after a
