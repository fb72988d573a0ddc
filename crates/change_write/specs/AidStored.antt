-- Aids: what laying and storing records within an area, or within one interval of it, ask of their callers.
use Rattle.std.specs.Prelude.{ℕ, ◌+◌, ◌-◌, ◌*◌, ◌≤◌, ◌<◌, ◌≡◌, true, List, [], ◌∷◌, ◌⊎◌, length, take, drop}
use Rattle.fields.specs.Choice.{pick}
use Rattle.fields.specs.Bytes.{part, splice}
use Rattle.fields.specs.Lists.{sum, swap}
use Rattle.measures.specs.Judgement.{width_for}
use Rattle.measures.specs.declared.Measures.{Measures}
use Rattle.room.specs.Room.{need}
use Rattle.interval.specs.Layout.{form}
use Rattle.interval.specs.Reading.{cut, Readable}
use Rattle.index.specs.Meaning.{Meaning}
use Rattle.sections.specs.Form.{index_size, index_bytes}
use Rattle.index.specs.Divided.{cuts}
use Rattle.sections.specs.Divided.{new_meaning}
use Rattle.interval_edit.specs.declared.Site.{Site}
use Rattle.area.specs.Content.{data_in}
use Rattle.change_plan.specs.AidEdited.{Entered, edited_records, Seen}
use Rattle.change_plan.specs.AidParts.{stretch, parts_at, three_of, CutInside, separator_at}
use Rattle.change_plan.specs.AidPlanned.{EnoughFree}
use Rattle.change_plan.specs.declared.Spread.{Spread}
use Rattle.change_write.specs.declared.Span.{Span}
use Rattle.change_write.specs.declared.Stretch.{Stretch}

-- Bytes of the edited records can be laid from place `at` on. Those before the edit and behind it lie within `room` bytes from `base` on; the span holds all that
-- come in, or none of them; it goes to another place than they are read from, or to that very place from its first byte on.
pub record Layable (long at base : ℕ) (site : Site) (new : ℕ) (s : Span) : Type 0 where
  pub room : ℕ
  pub order : s.from ≤ s.to
  pub pieces : (s.to ≤ site.start) ⊎ ((site.start + new ≤ s.from) ⊎ ((s.from ≤ site.start) × (site.start + new ≤ s.to)))
  pub inside : site.start + site.span ≤ room
  pub ends : s.to + site.span ≤ room + new
  pub there : base + room ≤ long
  pub fits : at + (s.to - s.from) ≤ long
  pub apart : ((at ≡ base) × (s.from ≡ 0)) ⊎ ((at + (s.to - s.from) ≤ base) ⊎ (base + room ≤ at))
  pub new-small : new ≤ 32768
  pub small : long < 4294967296

-- the buffer with these bytes of the edited records laid there
abbrev pub laid_at : List ℕ → ℕ → ℕ → Site → List ℕ → Span → List ℕ
laid_at b at base site new s =
    splice b at (part (swap site.start site.span new (drop base b)) s.from (s.to - s.from))

-- An interval can be written anew with records of these lengths: they fit it, and the bytes that they take, with the
-- edit made, can be laid from its first byte on.
pub record Rewritable (long : ℕ) (site : Site) (new : ℕ) (lens : List ℕ) : Type 0 where
  pub lays : Layable long 0 0 site new record { from = 0; to = sum lens }
  pub fits : need lens ≤ long
  pub small : long ≤ 32768
  pub few : length lens ≤ 32768

-- the writer's form of what these lengths cut out of the interval's bytes with the edit made
abbrev pub rewritten : List ℕ → Site → List ℕ → List ℕ → List ℕ
rewritten ci site new lens = form (length ci) (cut (take (sum lens) (swap site.start site.span new ci)) lens)

-- the area with the first of the edited records stored in their own interval
abbrev pub own_stored : Measures → List ℕ → Site → List ℕ → ℕ → List ℕ
own_stored m area site new last =
    splice area ((site.number + 1) * m.size) (form m.size (take last (edited_records m area site new)))

-- Some of the records of these lengths can be stored: they fit an interval of the area, which is not number `own`.
pub record Storable (size long own : ℕ) (lens : List ℕ) (s : Stretch) : Type 0 where
  pub order : s.first ≤ s.last
  pub inside : s.last ≤ length lens
  pub fits : need (stretch s.first s.last lens) ≤ size
  pub small : size ≤ 32768
  pub there : s.place * size + size ≤ long
  pub apart : s.place ≡ own + 1 → ⊥

-- the area with these of the edited records stored there
abbrev pub stored_at : Measures → List ℕ → Site → List ℕ → Stretch → List ℕ
stored_at m area site new s = splice area (s.place * m.size) (form m.size (stretch s.first s.last (edited_records m area site new)))

-- Data interval k lies in the area and can be read, and its records have bytes.
pub record Countable (m : Measures) (area : List ℕ) (k : ℕ) : Type 0 where
  pub there : (k + 1) * m.size + m.size ≤ length area
  pub readable : Readable m (data_in m area k)
  pub some : 1 ≤ m.least
  pub small : length area < 4294967296

-- each of these lists of lengths fits an interval
abbrev pub AllFit : ℕ → List (List ℕ) → Type 0
AllFit size [] = Unit {0}
AllFit size (ls ∷ lss) = (need ls ≤ size) × AllFit size lss

-- The parts fit, and the later ones go to intervals of the area that are not the old one.
pub record Takes (m : Measures) (area new lens : List ℕ) (s : Spread) : Type 0 where
  pub seen : Seen m area s.site new lens
  pub cut : CutInside s.parts (length lens)
  pub fit : AllFit m.size (parts_at (three_of s.parts) s.parts.first s.parts.second lens)
  pub small : m.size ≤ 32768
  pub a-there : (s.a + 1) * m.size + m.size ≤ length area
  pub a-other : s.a ≡ s.site.number → ⊥
  pub b_there : three_of s.parts ≡ true → (s.b + 1) * m.size + m.size ≤ length area
  pub b-other : three_of s.parts ≡ true → s.b ≡ s.site.number → ⊥

-- the area with the later parts stored
abbrev pub taken_left : ℕ → List ℕ → Spread → List (List ℕ) → List ℕ
taken_left S area s rs =
    pick (three_of s.parts)
    (splice (splice area ((s.a + 1) * S) (form S (stretch s.parts.first s.parts.second rs))) ((s.b + 1) * S) (form S (drop s.parts.second rs)))
    (splice area ((s.a + 1) * S) (form S (drop s.parts.first rs)))

-- the index record's new meaning
abbrev pub index_left : Measures → ℕ → List ℕ → Spread → List (List ℕ) → Meaning
index_left m n area s rs =
    new_meaning (width_for n) n (take m.size area) s.site.entry
    (cuts (three_of s.parts) (separator_at m rs s.parts.first) (separator_at m rs s.parts.second))

-- Besides, the area is lent with its content, enough intervals are free, and the new index record has room.
pub record Parted (m : Measures) (n : ℕ) (area new lens : List ℕ) (s : Spread) : Type 0 where
  pub takes : Takes m area new lens s
  pub entered : Entered m n area s.site.entry s.site.number
  pub enough : EnoughFree m n area (s.parts.many - 1)
  pub room : index_size (width_for n) (index_left m n area s (edited_records m area s.site new)) ≤ m.size - 7

-- the area with the later parts, the index record and the first part stored
abbrev pub parts_left : Measures → ℕ → List ℕ → Spread → List (List ℕ) → List ℕ
parts_left m n area s rs =
    splice (splice (taken_left m.size area s rs) 0 (index_bytes (width_for n) m.size (index_left m n area s rs))) ((s.site.number + 1) * m.size)
    (form m.size (take s.parts.first rs))
