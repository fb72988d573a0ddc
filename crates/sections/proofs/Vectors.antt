-- Worked examples of the index record in sections, as one table under one statement about the definitions: document 01's own, amended, and document 02's.
use Prim.Native.Nat.{ℕ, zero, suc, ◌+◌, ◌-◌}
use mathlib.Core.Path.{◌≡◌, refl}
use mathlib.Core.Bool.{Bool, true, false}
use mathlib.Core.List.{List, [], ◌∷◌, ◌++◌}
use lib.ListN.{length, replicate}
use lib.Dec.{eqb}
use Rattle.fields.specs.Choice.{no}
use Rattle.fields.specs.Table.{all, same_list}
use Rattle.fields.specs.Bytes.{part, number, digits, splice}
use Rattle.fields.specs.Order.{order_of, common}
use Rattle.fields.specs.Lists.{every}
use Rattle.index.specs.Bounds.{bound, separator}
use Rattle.index.specs.Meaning.{Entry, Meaning, count, once, named_once, entry}
use Rattle.index.specs.Rules.{rises, closed, keeps_rules}
use Rattle.index.specs.Layout.{piece_bytes, free_bytes, trailer}
use Rattle.index.specs.Form.{pack}
use Rattle.index.specs.Reading.{numbers_at, frame}
use Rattle.sections.specs.Parts.{Part, spell_all, fronts_in, parts_size, sections_in, ends_closed}
use Rattle.sections.specs.Layout.{ahead, part_bytes, parts_bytes, last_long, header, layout}
use Rattle.sections.specs.Form.{root_from, section_for, packed_in, index_size, index_bytes}
use Rattle.sections.specs.Reading.{parts_at, parts_in, read_index, fields_true, places, sound_index}

abbrev pub meaning : List ℕ → List Entry → Meaning
meaning fs es = record { kept = replicate 12 0; spare = 0; free = fs; entries = es }

-- the bytes of the writer's form from place p on, with pointers of w bytes and intervals of S
abbrev has_in : ℕ → ℕ → Meaning → ℕ → List ℕ → Bool
has_in w S m p xs = same_list (part (index_bytes w S m) p (length xs)) xs

abbrev pub has : Meaning → ℕ → List ℕ → Bool
has m p xs = has_in 1 512 m p xs

-- the writer's form is sound for keys of K bytes and n intervals
abbrev sound : ℕ → ℕ → Meaning → Bool
sound K n m = sound_index 1 K n [] [] (index_bytes 1 512 m)

abbrev one : Meaning
one = meaning (1 ∷ []) (entry [] 0 ∷ [])

abbrev two : Meaning
two = meaning [] (entry (0xC1 ∷ []) 0 ∷ entry [] 1 ∷ [])

abbrev three : Meaning
three = meaning [] (entry (0x41 ∷ 0x42 ∷ []) 0 ∷ entry (0x41 ∷ []) 1 ∷ entry [] 2 ∷ [])

abbrev four : Meaning
four = meaning [] (entry (0x41 ∷ []) 0 ∷ entry (0x42 ∷ 0x43 ∷ []) 1 ∷ entry (0x42 ∷ []) 2 ∷ entry [] 3 ∷ [])

abbrev five : Meaning
five = meaning (7 ∷ 6 ∷ 5 ∷ []) (entry (0xF1 ∷ 0xF2 ∷ 0xF3 ∷ 0xF4 ∷ []) 0 ∷ entry (0xF1 ∷ 0xF2 ∷ 0xF3 ∷ 0xF5 ∷ 0xF6 ∷ []) 3 ∷ entry (0xF1 ∷ 0xF2 ∷ 0xF3 ∷ 0xF5 ∷ []) 1 ∷ entry (0xF1 ∷ 0xF2 ∷ 0xF4 ∷ 0xF0 ∷ 0xF1 ∷ []) 4 ∷ entry [] 2 ∷ [])

abbrev ten : Meaning
ten = meaning (11 ∷ 10 ∷ []) (entry (0xF1 ∷ 0xF2 ∷ 0xF3 ∷ 0xF4 ∷ []) 0 ∷ entry (0xF1 ∷ 0xF2 ∷ 0xF3 ∷ 0xF5 ∷ 0xF6 ∷ []) 1 ∷ entry (0xF1 ∷ 0xF2 ∷ 0xF3 ∷ 0xF5 ∷ []) 2 ∷ entry (0xF1 ∷ 0xF2 ∷ 0xF4 ∷ 0xF0 ∷ 0xF1 ∷ []) 3 ∷ entry (0xF1 ∷ 0xF2 ∷ 0xF4 ∷ []) 4 ∷ entry (0xF1 ∷ 0xF3 ∷ 0xF4 ∷ []) 5 ∷ entry (0xF1 ∷ 0xF3 ∷ 0xF5 ∷ 0xF7 ∷ []) 6 ∷ entry (0xF1 ∷ 0xF3 ∷ []) 7 ∷ entry (0xF2 ∷ []) 8 ∷ entry [] 9 ∷ [])

-- the numbers from 5 on, the highest first: so many are free where five are in use
abbrev rest : ℕ → List ℕ
rest zero = []
rest (suc k) = (k + 5) ∷ rest k

-- the five entries among 300 intervals, so with pointers of two bytes
abbrev wide : Meaning
wide = meaning (rest 295) five.entries

-- separators that differ in their last byte only
abbrev alike : ℕ → List ℕ
alike x = replicate 240 0x41 ++ (x ∷ [])

abbrev near : Meaning
near = meaning [] (entry (alike 1) 0 ∷ entry (alike 2) 1 ∷ entry (alike 3) 2 ∷ entry [] 3 ∷ [])

-- in sections of 1 and 3, where the writer makes two of 2
abbrev uneven : List Part
uneven =
    record { piece = pack [] (alike 1) 0; closes = true }
    ∷ record { piece = pack (alike 1) (alike 2) 1; closes = false }
    ∷ record { piece = pack (alike 2) (alike 3) 2; closes = false }
    ∷ record { piece = pack (alike 1) [] 3; closes = true }
    ∷ []

-- three entries in a single section
abbrev single : List Part
single =
    record { piece = pack [] (0x41 ∷ 0x42 ∷ []) 0; closes = false }
    ∷ record { piece = pack (0x41 ∷ 0x42 ∷ []) (0x41 ∷ []) 1; closes = false }
    ∷ record { piece = pack [] [] 2; closes = true }
    ∷ []

-- c by the number of entries
abbrev roots : List ℕ
roots = section_for 1 ∷ section_for 2 ∷ section_for 3 ∷ section_for 4 ∷ section_for 5 ∷ section_for 9 ∷ section_for 10 ∷ section_for 13 ∷ section_for 100 ∷ section_for 200 ∷ []

pub table : Bool
table =
    all
    (same_list roots (1 ∷ 2 ∷ 2 ∷ 2 ∷ 3 ∷ 3 ∷ 4 ∷ 4 ∷ 10 ∷ 15 ∷ [])
    ∷ has one 18 (0x00 ∷ 0x19 ∷ 0x01 ∷ 0xF6 ∷ 0x01 ∷ 0xF6 ∷ 0x01 ∷ [])
    ∷ has one 500 (0x00 ∷ 0x00 ∷ 0x00 ∷ 0x00 ∷ 0x00 ∷ [])
    ∷ sound 4 2 one
    ∷ has two 18 (0x00 ∷ 0x18 ∷ 0x01 ∷ 0xF2 ∷ 0x01 ∷ 0xF2 ∷ [])
    ∷ has two 496 (0x00 ∷ 0x00 ∷ 0x00 ∷ 0x00 ∷ 0x01 ∷ 0xC1 ∷ 0x00 ∷ 0x01 ∷ 0x00 ∷ [])
    ∷ sound 4 2 two
    ∷ has three 18 (0x00 ∷ 0x18 ∷ 0x01 ∷ 0xEB ∷ 0x01 ∷ 0xF1 ∷ [])
    ∷ has three 489 (0x00 ∷ 0x00 ∷ 0x00 ∷ 0x00 ∷ 0x02 ∷ 0x00 ∷ 0x06 ∷ 0x41 ∷ 0x00 ∷ 0x01 ∷ 0x01 ∷ 0x41 ∷ 0x42 ∷ 0x00 ∷ 0x02 ∷ 0x00 ∷ [])
    ∷ sound 4 3 three
    ∷ has four 18 (0x00 ∷ 0x18 ∷ 0x01 ∷ 0xE8 ∷ 0x01 ∷ 0xF2 ∷ [])
    ∷ has four 486 (0x00 ∷ 0x00 ∷ 0x00 ∷ 0x00 ∷ 0x03 ∷ 0x01 ∷ 0x00 ∷ 0x02 ∷ 0x00 ∷ 0x0A ∷ 0x42 ∷ 0x43 ∷ 0x00 ∷ 0x02 ∷ 0x01 ∷ 0x41 ∷ 0x00 ∷ 0x01 ∷ 0x00 ∷ [])
    ∷ sound 4 4 four
    ∷ eqb (index_size 1 five) 59
    ∷ has five 18 (0x00 ∷ 0x1B ∷ 0x01 ∷ 0xDB ∷ 0x01 ∷ 0xEA ∷ 0x07 ∷ 0x06 ∷ 0x05 ∷ [])
    ∷ has five 473 (0x00 ∷ 0x00 ∷ 0x00 ∷ 0x00 ∷ 0x02 ∷ 0xF4 ∷ 0xF0 ∷ 0xF1 ∷ 0x02 ∷ 0x03 ∷ 0x04 ∷ 0x00 ∷ 0x0F ∷ 0xF1 ∷ 0xF2 ∷ 0xF3 ∷ 0xF5 ∷ 0x00 ∷ 0x04 ∷ 0x01 ∷ 0xF5 ∷ 0xF6 ∷ 0x03 ∷ 0x02 ∷ 0x03 ∷ 0xF1 ∷ 0xF2 ∷ 0xF3 ∷ 0xF4 ∷ 0x00 ∷ 0x04 ∷ 0x00 ∷ [])
    ∷ sound 5 8 five
    ∷ eqb (index_size 1 ten) 79
    ∷ has ten 18 (0x00 ∷ 0x1A ∷ 0x01 ∷ 0xC6 ∷ 0x01 ∷ 0xE7 ∷ 0x0B ∷ 0x0A ∷ [])
    ∷ has ten 452 (0x00 ∷ 0x00 ∷ 0x00 ∷ 0x00 ∷ 0x09 ∷ 0xF2 ∷ 0x00 ∷ 0x01 ∷ 0x08 ∷ 0x00 ∷ 0x0A ∷ 0xF3 ∷ 0x01 ∷ 0x01 ∷ 0x07 ∷ 0xF5 ∷ 0xF7 ∷ 0x02 ∷ 0x02 ∷ 0x06 ∷ 0xF3 ∷ 0xF4 ∷ 0x01 ∷ 0x02 ∷ 0x05 ∷ 0x03 ∷ 0x00 ∷ 0x04 ∷ 0x00 ∷ 0x17 ∷ 0xF1 ∷ 0xF2 ∷ 0xF4 ∷ 0xF0 ∷ 0xF1 ∷ 0x00 ∷ 0x05 ∷ 0x03 ∷ 0x04 ∷ 0x00 ∷ 0x02 ∷ 0xF5 ∷ 0xF6 ∷ 0x03 ∷ 0x02 ∷ 0x01 ∷ 0xF1 ∷ 0xF2 ∷ 0xF3 ∷ 0xF4 ∷ 0x00 ∷ 0x04 ∷ 0x00 ∷ [])
    ∷ sound 5 12 ten
    ∷ has_in 2 1024 wide 20 (0x03 ∷ 0xD6 ∷ 0x03 ∷ 0xE7 ∷ [])
    ∷ has_in 2 1024 wide 980 (0x00 ∷ 0x00 ∷ 0x00 ∷ 0x00 ∷ 0x00 ∷ 0x02 ∷ 0xF4 ∷ 0xF0 ∷ 0xF1 ∷ 0x02 ∷ 0x03 ∷ 0x00 ∷ 0x04 ∷ 0x00 ∷ 0x11 ∷ 0xF1 ∷ 0xF2 ∷ 0xF3 ∷ 0xF5 ∷ 0x00 ∷ 0x04 ∷ 0x00 ∷ 0x01 ∷ 0xF5 ∷ 0xF6 ∷ 0x03 ∷ 0x02 ∷ 0x00 ∷ 0x03 ∷ 0xF1 ∷ 0xF2 ∷ 0xF3 ∷ 0xF4 ∷ 0x00 ∷ 0x04 ∷ 0x00 ∷ 0x00 ∷ [])
    ∷ sound_index 2 5 300 [] [] (index_bytes 2 1024 wide)
    -- another legal spread may take fewer bytes than the writer's: 283 of 505, where the writer's would take 523
    ∷ eqb (index_size 1 near) 523
    ∷ eqb (24 + parts_size 1 uneven) 283
    ∷ sound_index 1 255 4 [] [] (layout 1 near (replicate (505 - 283) 0) uneven)
    -- a single section has two entries at most
    ∷ no (sound_index 1 4 3 [] [] (layout 1 three (replicate (505 - (24 + parts_size 1 single)) 0) single))
    -- a chain that ends too early, one that does not end, one that leads into an entry
    ∷ no (sound_index 1 5 8 [] [] (splice (index_bytes 1 512 five) 484 (0 ∷ 0 ∷ [])))
    ∷ no (sound_index 1 5 8 [] [] (splice (index_bytes 1 512 five) 473 (0 ∷ 5 ∷ [])))
    ∷ no (sound_index 1 5 8 [] [] (splice (index_bytes 1 512 five) 484 (0 ∷ 14 ∷ [])))
    ∷ [])

pub vectors : table ≡ true
unfolding number digits splice order_of common every bound separator count once named_once rises closed keeps_rules numbers_at frame piece_bytes free_bytes trailer
    spell_all fronts_in parts_size sections_in ends_closed ahead part_bytes parts_bytes last_long header layout root_from packed_in index_size index_bytes parts_at parts_in read_index fields_true
    places sound_index table
vectors = refl
