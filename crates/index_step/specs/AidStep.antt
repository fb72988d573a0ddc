-- Aids: one entry as code takes it apart, and where a pass stands; `parts_at` of crate sections is what is believed: document 02, L5. w is the width of a pointer.
use Rattle.std.specs.Prelude.{ℕ, ◌+◌, ◌-◌, ◌≤◌, ◌≡◌, List, ◌++◌, length, get_or, take, eqb, ltb}
use Rattle.fields.specs.Choice.{pick}
use Rattle.fields.specs.Bytes.{number, part, splice}
use Rattle.index.specs.Reading.{section_at, length_at}
use Rattle.index_step.specs.declared.Step.{Step}
use Rattle.index_step.specs.declared.PassPlace.{PassPlace}

-- before the first entry
abbrev pub place_start : List ℕ → PassPlace
place_start ib = record { right = length ib - 7; end = section_at ib; len = 0; high = 0 }

-- F of the entry that ends at place r
abbrev pub front_at : ℕ → List ℕ → ℕ → ℕ
front_at w ib r = get_or ib (r - (w + 2)) 0

-- where its characters begin
abbrev pub chars_at : ℕ → List ℕ → ℕ → ℕ
chars_at w ib r = r - (w + 2 + length_at w ib r)

-- the entry; `end` is where the control information of its section's highest lies
abbrev pub step_at : ℕ → List ℕ → ℕ → ℕ → Step
step_at w ib r end =
    record { front = front_at w ib r; len = length_at w ib r; at = chars_at w ib r; number = number w ib (r - w); closes = eqb (r - (w + 2)) end }

-- where a pass stands past it
abbrev pub place_past : List ℕ → Step → PassPlace → PassPlace
place_past ib s p =
    pick s.closes (record { right = s.at - 2; end = p.end - number 2 ib (s.at - 2); len = s.front + s.len; high = s.front + s.len })
    (record { right = s.at; end = p.end; len = s.front + s.len; high = p.high })

-- an entry ends at place r, within the record
abbrev pub EntryEnds : ℕ → List ℕ → ℕ → Type 0
EntryEnds w ib r = (w ≤ 4) × (r ≤ length ib) × (w + 2 + length_at w ib r ≤ r)

-- the separator that F bytes of the one before, which buf begins with, and the characters at a place make
abbrev pub joined_of : ℕ → List ℕ → List ℕ → ℕ → ℕ → List ℕ
joined_of front buf ib at len = take front buf ++ part ib at len

-- how many bytes are copied for so many characters: eight at least
abbrev pub reach : ℕ → ℕ
reach l = pick (ltb 8 l) l 8

-- a buffer after an entry's characters were copied into it
abbrev pub extended_by : List ℕ → Step → List ℕ → List ℕ
extended_by ib s b = splice b s.front (part ib s.at (reach s.len))

-- a buffer after a separator of l bytes, with which another begins, was copied to its front
abbrev pub copied_from : List ℕ → ℕ → List ℕ → List ℕ
copied_from other l b = splice b 0 (part other 0 (reach l))

-- both buffers after an entry: the separator's own, and that of the highest of the section before
abbrev pub Renewed : List ℕ → Step → List ℕ → List ℕ → List ℕ → List ℕ → Type 0
Renewed ib s buf high buf' high' =
    (buf' ≡ pick s.closes (copied_from (extended_by ib s high) (s.front + s.len) buf) (extended_by ib s buf)) × (high' ≡ pick s.closes (extended_by ib s high) high)
