-- When each request is refused, as one table for each: document 01, 'What each number tells the depot'. A number and its condition, in the order in
-- which they are looked at. The conditions speak of the measures, of what the area is read as, of lengths, of keys and addresses of its records, and of
-- how few intervals hold records; of no plan, and of no search in an interval. Those of a get by key speak of the index record and of the interval to which it
-- leads the key, and of no other: document 02, L4.
use Rattle.std.specs.Prelude.{ℕ, ◌*◌, ◌+◌, ◌-◌, ◌<◌, ◌≡◌, false, List, [], ◌∷◌, ◌++◌, ◌⊎◌, length}
use Rattle.measures.specs.Judgement.{Fits, count_of}
use Rattle.measures.specs.declared.Measures.{Measures}
use Rattle.interval.specs.Records.{key_of}
use Rattle.interval.specs.Reading.{records_in}
use Rattle.index.specs.Cuts.{separators}
use Rattle.division.specs.Fewest.{Fewest}
use Rattle.area.specs.Content.{Content, records_of, base_of, width_in}
use Rattle.area.specs.Reading.{damaged, whole, read_area}
use Rattle.area.specs.Leads.{index_sound, entries_for, interval_for, sound_for}
use Rattle.requests.specs.Model.{Change, insert, update, erase, make_change}
use Rattle.requests.specs.Finding.{Keyed, Lies}
use Rattle.requests.specs.Changing.{key_in}
use Rattle.requests.specs.Allowed.{Request, check, get, get_at, changes}
use Rattle.promises.specs.Entries.{seps_by, entries_need}
use Rattle.promises.specs.Home.{LengthFine, Home}
use Rattle.promises.specs.Prescribed.{brought_by, PrescribedParts}

-- ---- tables

-- numbers with their conditions, in order
pub data Table : Type 1 where
  done : Table
  row : ℕ → Type 0 → Table → Table

-- The number k is that of the first row whose condition holds, and 0 if none holds: a row's condition holds and k is its number, or it does not hold and
-- the later rows decide.
abbrev pub First : Table → ℕ → Type 0
First done k = k ≡ 0
First (row number condition later) k = (condition × (k ≡ number)) ⊎ ((condition → ⊥) × First later k)

-- ---- conditions

module _ (m : Measures) (area : List ℕ) where
  -- how many data intervals the area has
  abbrev pub many : ℕ
  many = count_of m.size (length area)

  -- 1: the measures or the area's length are outside the limits, however many data intervals were meant
  abbrev pub OutsideLimits : Type 0
  OutsideLimits = (n : ℕ) → Fits m n (length area) → ⊥

  -- 2: the area is damaged at some place
  abbrev pub DamagedSomewhere : Type 0
  DamagedSomewhere = (place : ℕ) × (read_area m many area ≡ damaged place)

  -- the area is read as a content of which this is so
  abbrev pub Holding : (Content → Type 0) → Type 0
  Holding P = (c : Content) × (read_area m many area ≡ whole c) × P c

  -- 4 and 5: some record has the key, none has it
  abbrev pub Present : List ℕ → Type 0
  Present wanted = Holding (λ (c : Content). (r : List ℕ) × Keyed m wanted (records_of c.filled) r)

  abbrev pub Absent : List ℕ → Type 0
  Absent wanted = Holding (λ (c : Content). (r : List ℕ) → Keyed m wanted (records_of c.filled) r → ⊥)

  -- 9: no record lies at the address
  abbrev pub Nowhere : ℕ → Type 0
  Nowhere address = Holding (λ (c : Content). (r : List ℕ) → Lies m (base_of c) address c.filled r → ⊥)

  -- 8: the record is longer than the output; by key it is said here of all records, as it is on a sound area (`rows_whole`)
  abbrev pub KeyedTooLong : List ℕ → List ℕ → Type 0
  KeyedTooLong wanted out =
      Holding (λ (c : Content). (r : List ℕ) × Keyed m wanted (records_of c.filled) r × (length out < length r))

  abbrev pub LyingTooLong : ℕ → List ℕ → Type 0
  LyingTooLong address out =
      Holding (λ (c : Content). (r : List ℕ) × Lies m (base_of c) address c.filled r × (length out < length r))

  -- ---- of a get by key

  -- 2: the index record is unsound
  abbrev pub DamagedIndex : Type 0
  DamagedIndex = index_sound m many area ≡ false

  -- 2: the interval that the key leads to is unsound in its role
  abbrev pub DamagedThere : List ℕ → Type 0
  DamagedThere wanted = sound_for m (entries_for m many area) wanted (interval_for m many area wanted) ≡ false

  -- the records of that interval
  abbrev pub records_there : List ℕ → List (List ℕ)
  records_there wanted = records_in (interval_for m many area wanted)

  -- 5: none of them has the key
  abbrev pub AbsentThere : List ℕ → Type 0
  AbsentThere wanted = (r : List ℕ) → Keyed m wanted (records_there wanted) r → ⊥

  -- 8: one of them has it, and is longer than the output
  abbrev pub TooLongThere : List ℕ → List ℕ → Type 0
  TooLongThere wanted out = (r : List ℕ) × Keyed m wanted (records_there wanted) r × (length out < length r)

-- the records of the key's interval with the change made
abbrev pub changed : (m : Measures) (c : Content) (ch : Change) → Home m c (key_in m ch) → List (List ℕ)
changed m c ch h = make_change m ch h.old.records

-- The bytes of an index record that names parts in place of the interval's entry: 24, the free numbers that are left, and the entries, at the cuts with the
-- separators of the cuts; among them two bytes for each section of the record after the division, in that record's own sections, counted out, never estimated
-- (document 02, L5).
abbrev pub index_needs : (m : Measures) (c : Content) (key : List ℕ) → Home m c key → List (List (List ℕ)) → ℕ
index_needs m c key h parts =
    24 + width_in c * (length c.free - (length parts - 1))
    + entries_need (width_in c) (seps_by h.pre ++ ((separators m parts ++ (h.old.sep ∷ [])) ++ seps_by h.post))

module _ (m : Measures) (ch : Change) where
  -- there is a fewest number of intervals that hold the key's interval's records with the change made, and it is more, besides that interval, than are free
  abbrev pub Crowded : Content → Type 0
  Crowded c = (h : Home m c (key_in m ch)) × (k : ℕ) × Fewest m.size (changed m c ch h) k × (length c.free < k - 1)

  -- it is more than one, and the index record that names the prescribed parts would need more than size - 7 bytes
  abbrev pub Roomless : Content → Type 0
  Roomless c =
      (h : Home m c (key_in m ch))
      × (k : ℕ)
      × Fewest m.size (changed m c ch h) k
      × (1 < k)
      × (parts : List (List (List ℕ)))
      × PrescribedParts m.size (changed m c ch h) (brought_by ch) parts
      × (m.size - 7 < index_needs m c (key_in m ch) h parts)

module _ (m : Measures) (area : List ℕ) (ch : Change) where
  -- 6: want of an interval
  abbrev pub WantOfInterval : Type 0
  WantOfInterval = Holding m area (Crowded m ch)

  -- 7: want of room in the index record
  abbrev pub WantOfRoom : Type 0
  WantOfRoom = Holding m area (Roomless m ch)

-- ---- the six tables

module _ (m : Measures) (area : List ℕ) where
  abbrev outside : Type 0
  outside = OutsideLimits m area

  abbrev damage : Type 0
  damage = DamagedSomewhere m area

  abbrev pub check_table : Table
  check_table = row 1 outside (row 2 damage done)

  abbrev pub get_table : List ℕ → List ℕ → Table
  get_table wanted out =
      row 1 outside
      (row 2 (DamagedIndex m area)
      (row 3 (length wanted ≡ m.key → ⊥)
      (row 2 (DamagedThere m area wanted)
      (row 5 (AbsentThere m area wanted) (row 8 (TooLongThere m area wanted out) done)))))

  abbrev pub get_at_table : ℕ → List ℕ → Table
  get_at_table address out =
      row 1 outside (row 2 damage (row 9 (Nowhere m area address) (row 8 (LyingTooLong m area address out) done)))

  abbrev length_wrong : Change → Type 0
  length_wrong ch = LengthFine m ch → ⊥

  abbrev pub change_table : Change → Table
  change_table (insert r) =
      row 1 outside
      (row 2 damage
      (row 3 (length_wrong (insert r))
      (row 4 (Present m area (key_of m r))
      (row 6 (WantOfInterval m area (insert r)) (row 7 (WantOfRoom m area (insert r)) done)))))
  change_table (update r) =
      row 1 outside
      (row 2 damage
      (row 3 (length_wrong (update r))
      (row 5 (Absent m area (key_of m r))
      (row 6 (WantOfInterval m area (update r)) (row 7 (WantOfRoom m area (update r)) done)))))
  change_table (erase wanted) =
      row 1 outside (row 2 damage (row 3 (length_wrong (erase wanted)) (row 5 (Absent m area wanted) done)))

  -- the table of each request
  abbrev pub table_for : Request → Table
  table_for check = check_table
  table_for (get wanted out) = get_table wanted out
  table_for (get_at address out) = get_at_table address out
  table_for (changes ch) = change_table ch
