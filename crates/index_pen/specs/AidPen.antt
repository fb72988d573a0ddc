-- Aids: what the pen does with one entry, and with entries one after another. `packed_all` and `parts_bytes` of crate sections are what is believed: document 02, L5.
use Rattle.std.specs.Prelude.{ℕ, ◌+◌, ◌-◌, ◌≤◌, ◌<◌, min, ◌≡◌, Bool, List, length, take, drop, eqb, ltb}
use Rattle.fields.specs.Choice.{pick}
use Rattle.fields.specs.Bytes.{splice, digits}
use Rattle.fields.specs.Order.{common}
use Rattle.index.specs.Pieces.{Piece, piece_size}
use Rattle.index.specs.Layout.{piece_bytes}
use Rattle.sections.specs.Parts.{Part, part_size}
use Rattle.sections.specs.Form.{section_for}
use Rattle.index_pen.specs.declared.Pen.{Pen}

-- before the first of so many entries
abbrev pub pen_begun : ℕ → ℕ → Pen
pen_begun w count =
    record {
      width = w;
      most = section_for count;
      left = min (section_for count) count;
      rest = count;
      high = 0;
      size = 0;
      first = 0;
      field = 0;
      last = 0;
    }

-- an entry with this F, these characters and this number is stored so that it ends at place r
abbrev pub piece_stored : ℕ → List ℕ → ℕ → ℕ → List ℕ → ℕ → List ℕ
piece_stored w b r front chars number = splice b (r - (w + 2 + length chars)) (piece_bytes w (record { front = front; chars = chars; num = number }))

-- ---- a section's highest that was stored: its field, and that of the one before

abbrev pub pen_linked : ℕ → Pen → ℕ → Pen
pen_linked edge pen at =
    record {
      width = pen.width;
      most = pen.most;
      left = pen.left;
      rest = pen.rest;
      high = pen.high;
      size = pen.size;
      first = pick (eqb pen.first 0) at pen.first;
      field = edge - pen.size;
      last = at;
    }

abbrev pub bytes_linked : List ℕ → Pen → ℕ → List ℕ
bytes_linked b pen at =
    let zeroed = splice b (length b - 7 - pen.size) (digits 2 0) in
    pick (eqb pen.first 0) zeroed (splice zeroed pen.field (digits 2 (pen.last - at)))

-- the fields have their places
pub record Linkable (b : List ℕ) (pen : Pen) (at : ℕ) : Type 0 where
  pub room : pen.size + 7 ≤ length b
  pub field : (pen.first ≡ 0 → ⊥) → pen.field + 2 ≤ length b
  pub before : (pen.first ≡ 0 → ⊥) → at ≤ pen.last
  pub near : (pen.first ≡ 0 → ⊥) → pen.last < 65536
  pub some : 2 ≤ pen.size

-- ---- one entry

-- an entry with this F
abbrev pub part_after : Bool → ℕ → List ℕ → ℕ → Part
part_after closes front sep number = record { piece = record { front = front; chars = drop front sep; num = number }; closes = closes }

-- it closes its section where it is the last to come there; then F is counted against the highest of the section before
abbrev pub part_at : Pen → List ℕ → ℕ → List ℕ → ℕ → Part
part_at pen top front sep number = part_after (eqb pen.left 1) (pick (eqb pen.left 1) (common (take pen.high top) sep) front) sep number

-- how the pen moves past it
abbrev pub pen_moved : Pen → Part → Pen
pen_moved pen p =
    record {
      width = pen.width;
      most = pen.most;
      left = pick p.closes (min pen.most (pen.rest - 1)) (pen.left - 1);
      rest = pen.rest - 1;
      high = pick p.closes (p.piece.front + length p.piece.chars) pen.high;
      size = pen.size + part_size pen.width p;
      first = pen.first;
      field = pen.field;
      last = pen.last;
    }

-- where the entry's control information lies, if entries end at `edge`
abbrev pub control_at : ℕ → Pen → ℕ
control_at edge pen = edge - pen.size - (pen.width + 2)

-- the pen after it; where no entry can end, in bytes that have no record, it is counted only
abbrev pub pen_on : ℕ → Pen → Part → Pen
pen_on edge pen p = pick (ltb 0 edge) (pick p.closes (pen_linked edge (pen_moved pen p) (control_at edge pen)) (pen_moved pen p)) (pen_moved pen p)

-- the buffer with the highest of the section before
abbrev pub top_on : Pen → List ℕ → List ℕ → List ℕ
top_on pen sep top = pick (eqb pen.left 1) (splice top 0 sep) top

-- the record's bytes
abbrev pub piece_put : List ℕ → Pen → Piece → List ℕ
piece_put b pen p = splice b (length b - 7 - pen.size - piece_size pen.width p) (piece_bytes pen.width p)

abbrev pub bytes_on : List ℕ → Pen → Part → List ℕ
bytes_on b pen p =
    pick (ltb 0 (length b - 7)) (pick p.closes (bytes_linked (piece_put b pen p.piece) (pen_moved pen p) (control_at (length b - 7) pen)) (piece_put b pen p.piece)) b

-- What an entry asks: a pointer of at most four bytes, a separator that one byte can tell, a size that can grow; if it is stored, room for it, and, where some
-- section is closed, that its field and its highest lie where the pen says.
pub record Puts (b : List ℕ) (pen : Pen) (sep : List ℕ) (p : Part) : Type 0 where
  pub few : pen.width ≤ 4
  pub short : length sep ≤ 255
  pub more : 1 ≤ pen.rest
  pub small : pen.size + 300 < 18446744073709551616
  pub room : 7 < length b → pen.size + part_size pen.width p + 7 ≤ length b
  pub field : 7 < length b → (pen.first ≡ 0 → ⊥) → pen.field + 2 ≤ length b
  pub before : 7 < length b → (pen.first ≡ 0 → ⊥) → length b - 7 ≤ pen.last + pen.size
  pub near : 7 < length b → (pen.first ≡ 0 → ⊥) → pen.last < 65536
