-- Aids: a pass over entries of an index record, one after another, as they are read: document 02, L5. w is the width of a pointer.
use Rattle.std.specs.Prelude.{ℕ, zero, suc, ◌+◌, ◌-◌, ◌≤◌, ◌≡◌, Bool, true, List, [], ◌∷◌, length, take, eqb, leb}
use Rattle.fields.specs.Choice.{pick, both}
use Rattle.fields.specs.Bytes.{number}
use Rattle.index.specs.Meaning.{Entry, entry}
use Rattle.index.specs.Reading.{section_at, piece_at}
use Rattle.sections.specs.Parts.{Part, against, sep_of, high_after, part_size}
use Rattle.index_step.specs.declared.PassPlace.{PassPlace}

-- Before an entry: it ends at place `right`, the control information of its section's highest lies at `end`; the highest of the section before, and the
-- separator before.
pub record Here : Type 0 where
  pub right : ℕ
  pub end : ℕ
  pub high : List ℕ
  pub ref : List ℕ

-- before the first entry
abbrev pub here_first : List ℕ → Here
here_first ib = record { right = length ib - 7; end = section_at ib; high = []; ref = [] }

-- the entry, its separator, and all of it
abbrev pub part_here : ℕ → List ℕ → Here → Part
part_here w ib h = record { piece = piece_at w ib h.right; closes = eqb (h.right - (w + 2)) h.end }

abbrev pub sep_here : ℕ → List ℕ → Here → List ℕ
sep_here w ib h = sep_of h.high h.ref (part_here w ib h)

abbrev pub entry_here : ℕ → List ℕ → Here → Entry
entry_here w ib h = entry (sep_here w ib h) (part_here w ib h).piece.num

-- before the next one
abbrev pub here_next : ℕ → List ℕ → Here → Here
here_next w ib h =
    record {
      right = h.right - part_size w (part_here w ib h);
      end = pick (part_here w ib h).closes (h.end - number 2 ib (h.right - part_size w (part_here w ib h))) h.end;
      high = high_after h.high h.ref (part_here w ib h);
      ref = sep_here w ib h;
    }

-- k entries later, and those k entries
unfoldable pub here_after : ℕ → List ℕ → Here → ℕ → Here
here_after w ib h zero = h
here_after w ib h (suc k) = here_after w ib (here_next w ib h) k

unfoldable pub entries_here : ℕ → List ℕ → Here → ℕ → List Entry
entries_here w ib h zero = []
entries_here w ib h (suc k) = entry_here w ib h ∷ entries_here w ib (here_next w ib h) k

-- k entries can be read: each lies in the record, its F is legal, its separator is short
abbrev pub lies_here : ℕ → List ℕ → Here → Bool
lies_here w ib h =
    both (leb (part_size w (part_here w ib h)) h.right)
    (both (leb (part_here w ib h).piece.front (length (against h.high h.ref (part_here w ib h)))) (leb (length (sep_here w ib h)) 255))

unfoldable pub readable : ℕ → List ℕ → Here → ℕ → Bool
readable w ib h zero = true
readable w ib h (suc k) = both (lies_here w ib h) (readable w ib (here_next w ib h) k)

-- A pass stands there: its place says where, and two buffers begin with the separator before and with the highest of the section before.
pub record Held (h : Here) (p : PassPlace) (buf high : List ℕ) : Type 0 where
  pub right : p.right ≡ h.right
  pub end : p.end ≡ h.end
  pub ref : take p.len buf ≡ h.ref
  pub top : take p.high high ≡ h.high
  pub long : length h.ref ≡ p.len
  pub tall : length h.high ≡ p.high
  pub short : p.len ≤ 255
  pub low : p.high ≤ 255
  pub whole : 263 ≤ length buf
  pub whole' : 263 ≤ length high
