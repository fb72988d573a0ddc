-- Document 01's starred cases, S = 512, as one table of what the definitions give beside what the document says. Those of the index record are amended by
-- document 02, L5: a field before each section's highest, whose F is counted against the highest of the section before.
use Prim.Native.Nat.{ℕ, ◌-◌}
use mathlib.Core.Path.{◌≡◌, refl}
use mathlib.Core.Bool.{Bool, true}
use mathlib.Core.List.{List, [], ◌∷◌, map}
use lib.ListN.{length, drop, replicate}
use lib.Dec.{eqb}
use Rattle.fields.specs.Choice.{both}
use Rattle.fields.specs.Bytes.{number, digits}
use Rattle.fields.specs.Order.{common, order_of}
use Rattle.fields.specs.Table.{all, same_list}
use Rattle.fields.specs.Lists.{sum, concat, swap}
use Rattle.room.specs.Room.{rdf_count, push, groups, need, fits}
use Rattle.interval.specs.Layout.{group_bytes, groups_bytes, layout, form}
use Rattle.interval.specs.Reading.{unused_field}
use Rattle.index.specs.Bounds.{cut_separator}
use Rattle.index.specs.Meaning.{Entry, entry}
use Rattle.index.specs.Layout.{piece_bytes, free_bytes, trailer}
use Rattle.index.specs.Search.{leads_to}
use Rattle.sections.specs.Parts.{Part, parts_size, sections_in}
use Rattle.sections.specs.Layout.{ahead, part_bytes, parts_bytes, last_long, header, layout as index_layout}
use Rattle.sections.specs.Form.{root_from, packed_in, packed_all, index_size, index_bytes}
use Rattle.sections.proofs.Vectors.{meaning, has}
use Rattle.division.specs.Division.{difference, fitting, better, best_to, best_cut, by_cut, division_of, counts, parts}

-- records of these lengths, of any content
abbrev records : List ℕ → List (List ℕ)
records ls = map (λ (l : ℕ). replicate {A = ℕ} l 1) ls

-- in the writer's form they end in these bytes
abbrev ends_in : List ℕ → List ℕ → Bool
ends_in ls e = same_list (drop (512 - length e) (form 512 (records ls))) e

-- with the change made they stay, and so much space is unused
abbrev stays_with : List ℕ → ℕ → Bool
stays_with ls u = both (same_list (parts 512 ls 0) (length ls ∷ [])) (eqb (unused_field (form 512 (records ls))) u)

-- with the change made at a place they are divided into parts of so many records
abbrev divides : List ℕ → ℕ → List ℕ → Bool
divides ls at cs = same_list (parts 512 ls at) cs

abbrev inserted : List ℕ → ℕ → ℕ → List ℕ
inserted ls at l = swap at 0 (l ∷ []) ls

abbrev updated : List ℕ → ℕ → ℕ → List ℕ
updated ls at l = swap at 1 (l ∷ []) ls

abbrev cut : List ℕ
cut = cut_separator (0xC1 ∷ 0xF1 ∷ 0xF2 ∷ 0xF3 ∷ []) (0xC2 ∷ 0xF0 ∷ 0xF0 ∷ 0xF0 ∷ [])

abbrev nested : List Entry
nested = entry (0x41 ∷ 0x42 ∷ []) 0 ∷ entry (0x41 ∷ []) 1 ∷ entry [] 2 ∷ []

abbrev fronted : List Entry
fronted = entry (0x41 ∷ []) 0 ∷ entry (0x42 ∷ 0x43 ∷ []) 1 ∷ entry (0x42 ∷ []) 2 ∷ entry [] 3 ∷ []

-- F and L of each entry
abbrev compressed : List Part → List ℕ
compressed [] = []
compressed (p ∷ ps) = p.piece.front ∷ length p.piece.chars ∷ compressed ps

pub table : Bool
table =
    all
    (ends_in [] (0x00 ∷ 0x00 ∷ 0x01 ∷ 0xFC ∷ [])
    ∷ ends_in (100 ∷ []) (0x00 ∷ 0x00 ∷ 0x64 ∷ 0x00 ∷ 0x64 ∷ 0x01 ∷ 0x95 ∷ [])
    ∷ ends_in (100 ∷ 100 ∷ 100 ∷ []) (0x08 ∷ 0x00 ∷ 0x03 ∷ 0x40 ∷ 0x00 ∷ 0x64 ∷ 0x01 ∷ 0x2C ∷ 0x00 ∷ 0xCA ∷ [])
    ∷ ends_in (100 ∷ 100 ∷ 80 ∷ []) (0x00 ∷ 0x00 ∷ 0x50 ∷ 0x08 ∷ 0x00 ∷ 0x02 ∷ 0x40 ∷ 0x00 ∷ 0x64 ∷ 0x01 ∷ 0x18 ∷ 0x00 ∷ 0xDB ∷ [])
    ∷ ends_in (505 ∷ []) (0x00 ∷ 0x01 ∷ 0xF9 ∷ 0x01 ∷ 0xF9 ∷ 0x00 ∷ 0x00 ∷ [])
    -- four of 100, then 99 or 101 at the end, or 93 in the middle
    ∷ stays_with (inserted (replicate 4 100) 4 99) 0
    ∷ divides (inserted (replicate 4 100) 4 101) 4 (3 ∷ 2 ∷ [])
    ∷ stays_with (inserted (replicate 4 100) 2 93) 0
    -- five of 99, the third updated to 97 or 98
    ∷ stays_with (updated (replicate 5 99) 2 97) 0
    ∷ divides (updated (replicate 5 99) 2 98) 2 (2 ∷ 3 ∷ [])
    -- 400 between 250 and 240, and before both
    ∷ divides (inserted (250 ∷ 240 ∷ []) 1 400) 1 (1 ∷ 1 ∷ 1 ∷ [])
    ∷ divides (inserted (250 ∷ 240 ∷ []) 0 400) 0 (1 ∷ 2 ∷ [])
    -- two intervals, the second free; and after a cut: one section, whose field is zero
    ∷ has (meaning (1 ∷ []) (entry [] 0 ∷ [])) 18 (0x00 ∷ 0x19 ∷ 0x01 ∷ 0xF6 ∷ 0x01 ∷ 0xF6 ∷ 0x01 ∷ [])
    ∷ has (meaning (1 ∷ []) (entry [] 0 ∷ [])) 500 (0x00 ∷ 0x00 ∷ [])
    ∷ has (meaning [] (entry cut 0 ∷ entry [] 1 ∷ [])) 18 (0x00 ∷ 0x18 ∷ 0x01 ∷ 0xF2 ∷ 0x01 ∷ 0xF2 ∷ [])
    ∷ has (meaning [] (entry cut 0 ∷ entry [] 1 ∷ [])) 496 (0x00 ∷ 0x00 ∷ [])
    ∷ has (meaning [] (entry cut 0 ∷ entry [] 1 ∷ [])) 498 (0x00 ∷ 0x00 ∷ 0x01 ∷ 0xC1 ∷ 0x00 ∷ 0x01 ∷ 0x00 ∷ [])
    -- separators 41 42, 41 and none, in sections of 2 and 1: F and L of each, the header's fields, the entries, and where three keys go
    ∷ same_list (compressed (packed_all nested)) (0 ∷ 2 ∷ 0 ∷ 1 ∷ 0 ∷ 0 ∷ [])
    ∷ has (meaning [] nested) 18 (0x00 ∷ 0x18 ∷ 0x01 ∷ 0xEB ∷ 0x01 ∷ 0xF1 ∷ [])
    ∷ has (meaning [] nested) 489 (0x00 ∷ 0x00 ∷ 0x00 ∷ 0x00 ∷ 0x02 ∷ 0x00 ∷ 0x06 ∷ 0x41 ∷ 0x00 ∷ 0x01 ∷ 0x01 ∷ 0x41 ∷ 0x42 ∷ 0x00 ∷ 0x02 ∷ 0x00 ∷ [])
    ∷ eqb (leads_to (0x41 ∷ 0x42 ∷ 0x99 ∷ 0x99 ∷ []) nested) 0
    ∷ eqb (leads_to (0x41 ∷ 0x43 ∷ 0x00 ∷ 0x00 ∷ []) nested) 1
    ∷ eqb (leads_to (0x42 ∷ 0x00 ∷ 0x00 ∷ 0x00 ∷ []) nested) 2
    -- separators 41, 42 43, 42 and none, in two sections of 2: the third has F = 1 and L = 0, and is not the last
    ∷ same_list (compressed (packed_all fronted)) (0 ∷ 1 ∷ 0 ∷ 2 ∷ 1 ∷ 0 ∷ 0 ∷ 0 ∷ [])
    ∷ has (meaning [] fronted) 18 (0x00 ∷ 0x18 ∷ 0x01 ∷ 0xE8 ∷ 0x01 ∷ 0xF2 ∷ [])
    ∷ has (meaning [] fronted) 486 (0x00 ∷ 0x00 ∷ 0x00 ∷ 0x00 ∷ 0x03 ∷ 0x01 ∷ 0x00 ∷ 0x02 ∷ 0x00 ∷ 0x0A ∷ 0x42 ∷ 0x43 ∷ 0x00 ∷ 0x02 ∷ 0x01 ∷ 0x41 ∷ 0x00 ∷ 0x01 ∷ 0x00 ∷ [])
    ∷ [])

-- every case comes out as document 01 has it, with document 02's amendments
pub cases : table ≡ true
unfolding table number digits order_of common sum rdf_count push groups need fits concat group_bytes groups_bytes layout form cut_separator parts_size sections_in
    ahead piece_bytes part_bytes parts_bytes last_long free_bytes header trailer root_from packed_in index_size index_bytes index_layout leads_to difference fitting
    better best_to best_cut by_cut division_of counts parts swap
cases = refl
