-- Aids: where the writer's passes stand, and what they put. `new_meaning`, `index_size` and `index_bytes` of crate sections are what is believed: document 02, L5, and
-- document 01, 'Dividing an interval'.
use Rattle.std.specs.Prelude.{ℕ, ◌+◌, ◌-◌, ◌*◌, ◌≤◌, ◌<◌, ◌≡◌, Bool, true, Option, Some, None, is_some, List, [], ◌∷◌, length, take}
use Rattle.fields.specs.Choice.{pick}
use Rattle.fields.specs.Bytes.{part}
use Rattle.index.specs.Bounds.{cut_separator}
use Rattle.index.specs.Meaning.{Entry, entry}
use Rattle.index.specs.Reading.{unused_at, free_count}
use Rattle.index.specs.Divided.{cuts}
use Rattle.sections.specs.Parts.{parts_size}
use Rattle.index_step.specs.declared.PassPlace.{PassPlace}
use Rattle.index_step.specs.declared.Step.{Step}
use Rattle.index_step.specs.AidStep.{joined_of}
use Rattle.index_step.specs.AidEntries.{Here, here_after, entries_here, readable, Held}
use Rattle.index_pen.specs.declared.Pen.{Pen}
use Rattle.index_pen.specs.AidPen.{pen_on, bytes_on}
use Rattle.index_pen.specs.AidStream.{Reached, part_next, reached_next, parts_by}
use Rattle.index_pen.specs.AidHeld.{Kept, Penned}
use Rattle.index_write.specs.declared.Cursor.{Cursor}
use Rattle.index_write.specs.declared.Cut.{Cut}
use Rattle.index_write.specs.declared.Cuts.{Cuts}
use Rattle.index_write.specs.declared.Division.{Division}
use Rattle.index_write.specs.declared.LastCut.{LastCut}

-- ---- one cut, one entry

-- so many first bytes of the left key are the separator of the cut
abbrev pub CutAt : List ℕ → List ℕ → ℕ → Type 0
CutAt left right r = (r ≡ length (cut_separator left right)) × (take r left ≡ cut_separator left right) × (r ≤ length left)

-- the separator of an entry, if the buffers begin with what F may refer to
abbrev pub renewed_by : List ℕ → Step → List ℕ → List ℕ → List ℕ
renewed_by ib s buf high = joined_of s.front (pick s.closes high buf) ib s.at s.len

-- ---- the cuts

-- the separator that a cut's place tells; none where there is no cut
abbrev pub cut_in : Cut → List ℕ → List ℕ
cut_in c bytes = part bytes c.from (c.to - c.from)

abbrev pub told_in : Option Cut → List ℕ → List ℕ
told_in None bytes = []
told_in (Some c) bytes = cut_in c bytes

abbrev pub first_cut : Cuts → List ℕ → List ℕ
first_cut c bytes = cut_in c.first bytes

abbrev pub second_cut : Cuts → List ℕ → List ℕ
second_cut c bytes = told_in c.second bytes

-- whether there are two, which make three parts
abbrev pub three_in : Cuts → Bool
three_in c = is_some c.second

abbrev pub cuts_in : Cuts → List ℕ → List (List ℕ)
cuts_in c bytes = cuts (three_in c) (first_cut c bytes) (second_cut c bytes)

-- the last one
abbrev pub last_from : Cut → Option Cut → LastCut
last_from one None = record { cut = one; count = 1 }
last_from one (Some two) = record { cut = two; count = 2 }

abbrev pub last_of : Cuts → LastCut
last_of c = last_from c.first c.second

-- they lie in the bytes, and are short
pub record CutLies (c : Cut) (bytes : List ℕ) : Type 0 where
  pub order : c.from ≤ c.to
  pub inside : c.to ≤ length bytes
  pub short : c.to ≤ c.from + 255

pub record CutsLie (c : Cuts) (bytes : List ℕ) : Type 0 where
  pub first : CutLies c.first bytes
  pub second : (s : Cut) → c.second ≡ Some s → CutLies s bytes

-- the entries that they make, but for the last
abbrev pub cut_entries : Division → List ℕ → List Entry
cut_entries d bytes =
    entry (first_cut d.cuts bytes) d.number ∷ pick (three_in d.cuts) (entry (second_cut d.cuts bytes) d.taken ∷ []) []

-- the free numbers lie where the displacement says
abbrev pub FreeLie : ℕ → List ℕ → Type 0
FreeLie w ib = (24 + w * free_count w ib ≡ unused_at ib) × (unused_at ib ≤ length ib)

-- ---- the new record as far as it has been made

pub record Draft : Type 0 where
  pub pen : Pen
  pub bytes : List ℕ
  pub reached : Reached

-- one entry more, and some
abbrev pub draft_put : Draft → Entry → Draft
draft_put x e =
    record {
      pen = pen_on (length x.bytes - 7) x.pen (part_next x.reached e);
      bytes = bytes_on x.bytes x.pen (part_next x.reached e);
      reached = reached_next x.pen.most x.reached e;
    }

unfoldable pub draft_all : Draft → List Entry → Draft
draft_all x [] = x
draft_all x (e ∷ es) = draft_all (draft_put x e) es

-- by what the code has: the record's bytes, the pen, a buffer that begins with the highest of the section before, and the separator before
abbrev pub draft_of : List ℕ → Pen → List ℕ → List ℕ → Draft
draft_of b pen top ref = record { pen = pen; bytes = b; reached = record { left = pen.left; rest = pen.rest; high = take pen.high top; ref = ref } }

-- the code has it so
pub record Drawn (x : Draft) (b : List ℕ) (pen : Pen) (top : List ℕ) : Type 0 where
  pub pen-is : pen ≡ x.pen
  pub bytes-are : b ≡ x.bytes
  pub kept : Kept pen top x.reached
  pub penned : Penned b pen
  pub few : pen.width ≤ 4
  pub some : 1 ≤ pen.most
  pub going : 1 ≤ pen.rest → 1 ≤ pen.left

-- these entries can be put: so many are to come, the size can grow, and they have room where they are stored
pub record Puttable (x : Draft) (es : List Entry) : Type 0 where
  pub more : length es ≤ x.pen.rest
  pub small : x.pen.size + 300 * (length es + 1) < 18446744073709551616
  pub room : 7 < length x.bytes → x.pen.size + parts_size x.pen.width (parts_by x.pen.most x.reached es) + 7 < length x.bytes

-- ---- where a pass stands

-- before which old entry, by what the code has
abbrev pub here_of : PassPlace → List ℕ → List ℕ → Here
here_of p buf high = record { right = p.right; end = p.end; high = take p.high high; ref = take p.len buf }

-- the next old entries
abbrev pub entries_next : List ℕ → Cursor → List ℕ → List ℕ → List Entry
entries_next ib c buf high = entries_here c.pen.width ib (here_of c.place buf high) c.count

-- the new record before them
abbrev pub draft_here : Cursor → List ℕ → List ℕ → List ℕ → Draft
draft_here c b buf top = draft_of b c.pen top (take c.place.len buf)

pub record CursorStands (ib : List ℕ) (c : Cursor) (b buf high top : List ℕ) : Type 0 where
  pub held : Held (here_of c.place buf high) c.place buf high
  pub inside : c.place.right + 7 ≤ length ib
  pub reads : readable c.pen.width ib (here_of c.place buf high) c.count ≡ true
  pub drawn : Drawn (draft_here c b buf top) b c.pen top
  pub fitting : Puttable (draft_here c b buf top) (entries_next ib c buf high)

-- past them
pub record Ran (ib : List ℕ) (c : Cursor) (b buf high top : List ℕ) (r : Cursor) (b' buf' high' top' : List ℕ) : Type 0 where
  pub held : Held (here_after c.pen.width ib (here_of c.place buf high) c.count) r.place buf' high'
  pub drawn : Drawn (draft_all (draft_here c b buf top) (entries_next ib c buf high)) b' r.pen top'

-- the parts of an entry but for the last can be put
pub record Cuttable (b : List ℕ) (pen : Pen) (top prev bytes : List ℕ) (d : Division) : Type 0 where
  pub lie : CutsLie d.cuts bytes
  pub drawn : Drawn (draft_of b pen top prev) b pen top
  pub fitting : Puttable (draft_of b pen top prev) (cut_entries d bytes)
