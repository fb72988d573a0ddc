-- Records in the old form, worked out: what it called sound, what is sound now, and that with one entry or two the bytes are the new ones.
use Prim.Native.Nat.{ℕ, ◌-◌}
use mathlib.Core.Path.{◌≡◌, refl}
use mathlib.Core.Bool.{Bool, true}
use mathlib.Core.List.{List, [], ◌∷◌}
use lib.ListN.{replicate}
use Rattle.fields.specs.Choice.{no}
use Rattle.fields.specs.Table.{all, same_list}
use Rattle.fields.specs.Bytes.{part, number, digits}
use Rattle.fields.specs.Order.{order_of, common}
use Rattle.fields.specs.Lists.{every}
use Rattle.index.specs.Bounds.{bound, separator}
use Rattle.index.specs.Meaning.{Entry, Meaning, count, once, named_once, entry}
use Rattle.index.specs.Rules.{rises, closed, keeps_rules}
use Rattle.index.specs.Pieces.{Piece}
use Rattle.index.specs.Layout.{piece_bytes, free_bytes, trailer}
use Rattle.index.specs.Form.{pack}
use Rattle.index.specs.Reading.{numbers_at, frame}
use Rattle.sections.specs.Parts.{spell_all, fronts_in, parts_size, sections_in, ends_closed}
use Rattle.sections.specs.Layout as new-layout
use Rattle.sections.specs.Form.{root_from, packed_in, index_size, index_bytes}
use Rattle.sections.specs.Reading as new
use Rattle.index_old.specs.Pieces.{spell, fronts_fit, pieces_size, last_chars}
use Rattle.index_old.specs.Layout.{pieces_bytes, record_length, header, layout}
use Rattle.index_old.specs.Reading.{pieces_at, pieces_in, read_index, places, sound_index}

abbrev meaning : List ℕ → List Entry → Meaning
meaning fs es = record { kept = replicate 12 0; spare = 0; free = fs; entries = es }

-- entries with the longest F, each against the one before it
abbrev pieces : List ℕ → List Entry → List Piece
pieces ref [] = []
pieces ref (e ∷ es) = pack ref e.sep e.num ∷ pieces e.sep es

-- the old form of a meaning with these bytes of unused space, and with so many zeros that it has 512 bytes
abbrev with : List ℕ → Meaning → List ℕ
with unused m = layout 1 m unused (pieces [] m.entries)

abbrev written : Meaning → List ℕ
written m = with (replicate (505 - record_length 1 m [] (pieces [] m.entries)) 0) m

-- sound as it was, and as it is, for keys of four bytes and n intervals
abbrev before : ℕ → List ℕ → Bool
before n ib = sound_index 1 4 n [] [] ib

abbrev now : ℕ → List ℕ → Bool
now n ib = new.sound_index 1 4 n [] [] ib

abbrev one : Meaning
one = meaning (1 ∷ []) (entry [] 0 ∷ [])

abbrev two : Meaning
two = meaning [] (entry (0xC1 ∷ []) 0 ∷ entry [] 1 ∷ [])

abbrev three : Meaning
three = meaning [] (entry (0x41 ∷ 0x42 ∷ []) 0 ∷ entry (0x41 ∷ []) 1 ∷ entry [] 2 ∷ [])

pub table : Bool
table =
    all
    -- document 01's bytes of its three examples
    (same_list (part (written one) 18 7) (0x00 ∷ 0x19 ∷ 0x01 ∷ 0xF6 ∷ 0x01 ∷ 0xF6 ∷ 0x01 ∷ [])
    ∷ same_list (part (written two) 18 6) (0x00 ∷ 0x18 ∷ 0x01 ∷ 0xF2 ∷ 0x01 ∷ 0xF2 ∷ [])
    ∷ same_list (part (written two) 498 14) (0x00 ∷ 0x00 ∷ 0x01 ∷ 0xC1 ∷ 0x00 ∷ 0x01 ∷ 0x00 ∷ 0x00 ∷ 0x01 ∷ 0xF9 ∷ 0x01 ∷ 0xF9 ∷ 0x00 ∷ 0x00 ∷ [])
    ∷ same_list (part (written three) 494 11) (0x00 ∷ 0x00 ∷ 0x02 ∷ 0x01 ∷ 0x00 ∷ 0x01 ∷ 0x41 ∷ 0x42 ∷ 0x00 ∷ 0x02 ∷ 0x00 ∷ [])
    ∷ before 2 (written one)
    ∷ before 2 (written two)
    ∷ before 3 (written three)
    -- with one entry or two they are the new bytes, with three they are unsound
    ∷ same_list (written one) (index_bytes 1 512 one)
    ∷ same_list (written two) (index_bytes 1 512 two)
    ∷ now 2 (written one)
    ∷ now 2 (written two)
    ∷ no (now 3 (written three))
    -- two entries: two zeros are enough; one byte of unused space, or a last byte that isn't zero, or the one before it
    ∷ now 2 (with (7 ∷ 0 ∷ 0 ∷ []) two)
    ∷ before 2 (with (0 ∷ []) two)
    ∷ no (now 2 (with (0 ∷ []) two))
    ∷ before 2 (with (0 ∷ 0 ∷ 7 ∷ []) two)
    ∷ no (now 2 (with (0 ∷ 0 ∷ 7 ∷ []) two))
    ∷ no (now 2 (with (0 ∷ 7 ∷ 0 ∷ []) two))
    ∷ [])

pub vectors : table ≡ true
unfolding table number digits order_of common every bound separator count once named_once rises closed keeps_rules piece_bytes free_bytes trailer numbers_at frame spell
    fronts_fit pieces_size last_chars pieces_bytes header layout pieces_at pieces_in read_index places sound_index spell_all fronts_in parts_size sections_in ends_closed new-layout.ahead
    new-layout.part_bytes new-layout.parts_bytes new-layout.last_long new-layout.header new-layout.layout root_from packed_in index_size index_bytes new.parts_at new.parts_in new.read_index
    new.fields_true new.places new.sound_index
vectors = refl
