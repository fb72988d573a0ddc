-- Aids: what the pen holds. Contracts of those who write with it cite them.
use Rattle.std.specs.Prelude.{ℕ, ◌+◌, ◌-◌, ◌≤◌, ◌<◌, ◌≡◌, List, length, take}
use Rattle.fields.specs.Bytes.{splice}
use Rattle.sections.specs.Parts.{Part, parts_size, sections_in}
use Rattle.sections.specs.Layout.{ahead}
use Rattle.index_pen.specs.declared.Pen.{Pen}
use Rattle.index_pen.specs.AidStream.{Reached, parts_bytes_by, open_out, lead_out}

-- the pen stands where the writer does; a buffer begins with the highest of the section before
pub record Kept (pen : Pen) (top : List ℕ) (s : Reached) : Type 0 where
  pub left : pen.left ≡ s.left
  pub rest : pen.rest ≡ s.rest
  pub high : take pen.high top ≡ s.high
  pub tall : length s.high ≡ pen.high
  pub short : pen.high ≤ 255
  pub whole : 255 ≤ length top

-- What it has stored, if it stores: the bytes of some parts, the last section's field still zero; and where it says that the first highest, the last field and the last
-- highest lie. `edge` is where entries end, b0 are the bytes before the first of them.
pub record Holds (w edge : ℕ) (b0 : List ℕ) (ps : List Part) (pen : Pen) (b : List ℕ) : Type 0 where
  pub ends : edge ≡ length b0 - 7
  pub some : 0 < edge
  pub width : pen.width ≡ w
  pub size : pen.size ≡ parts_size w ps
  pub room : parts_size w ps ≤ edge
  pub bytes : b ≡ splice b0 (edge - parts_size w ps) (parts_bytes_by w 0 ps)
  pub none : sections_in ps ≡ 0 → pen.first ≡ 0
  pub first : 1 ≤ sections_in ps → pen.first + ahead w ps ≡ edge
  pub field : 1 ≤ sections_in ps → pen.field ≡ edge - parts_size w ps + open_out w ps
  pub last : 1 ≤ sections_in ps → pen.last ≡ edge - parts_size w ps + lead_out w ps

-- in a record that is not too long, some parts are stored
pub record Penned (b : List ℕ) (pen : Pen) : Type 0 where
  pub before : List ℕ
  pub parts : List Part
  pub holds : 7 < length b → Holds pen.width (length b - 7) before parts pen b
  pub short : 7 < length b → length b ≤ 32768
