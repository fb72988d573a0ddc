-- Worked examples of separators, entries and divisions, as one table under one statement about the definitions. The bytes of whole records stand in `sections`.
use Prim.Native.Nat.{ℕ}
use mathlib.Core.Path.{◌≡◌, refl}
use mathlib.Core.Bool.{Bool, true}
use mathlib.Core.List.{List, [], ◌∷◌, ◌++◌}
use lib.ListN.{length, replicate}
use lib.Dec.{eqb}
use Rattle.fields.specs.Choice.{no}
use Rattle.fields.specs.Table.{all, same_list}
use Rattle.fields.specs.Bytes.{number, digits}
use Rattle.fields.specs.Order.{order_of, common}
use Rattle.fields.specs.Lists.{every, swap}
use Rattle.index.specs.Bounds.{bound, separator, cut_separator}
use Rattle.index.specs.Meaning.{Entry, Meaning, count, once, named_once, entry}
use Rattle.index.specs.Rules.{rises, closed, keeps_rules}
use Rattle.index.specs.Pieces.{Piece, spelt}
use Rattle.index.specs.Layout.{piece_bytes, free_bytes, trailer}
use Rattle.index.specs.Form.{pack}
use Rattle.index.specs.Reading.{free_count, numbers_at, piece_at, frame}
use Rattle.index.specs.Search.{leads_to}
use Rattle.index.specs.Divided.{parts_of, divided_at}

abbrev meaning : List ℕ → List Entry → Meaning
meaning fs es = record { kept = replicate 12 0; spare = 0; free = fs; entries = es }

-- document 01's cut: between C1F1F2F3 and C2F0F0F0
abbrev cut : List ℕ
cut = cut_separator (0xC1 ∷ 0xF1 ∷ 0xF2 ∷ 0xF3 ∷ []) (0xC2 ∷ 0xF0 ∷ 0xF0 ∷ 0xF0 ∷ [])

-- n = 2: one entry to 0, 1 free; and after the cut
abbrev one : Meaning
one = meaning (1 ∷ []) (entry [] 0 ∷ [])

abbrev two : Meaning
two = divided_at one 0 (cut ∷ [])

-- separators 41 42, 41, empty
abbrev third : Meaning
third = meaning [] (entry (0x41 ∷ 0x42 ∷ []) 0 ∷ entry (0x41 ∷ []) 1 ∷ entry [] 2 ∷ [])

-- the second of three entries, cut at 43 and 44 01, with 6, 3, 5 free: its parts are 1, 5 and 3
abbrev parted : Meaning
parted =
    divided_at (meaning (6 ∷ 3 ∷ 5 ∷ []) (entry (0x41 ∷ 0x42 ∷ []) 0 ∷ entry (0x44 ∷ 0x55 ∷ []) 1 ∷ entry [] 2 ∷ [])) 1
    ((0x43 ∷ []) ∷ (0x44 ∷ 0x01 ∷ []) ∷ [])

-- F, L and the characters of an entry
abbrev told : Piece → List ℕ
told p = p.front ∷ length p.chars ∷ p.chars

-- bytes of which those from 18 on say that the free numbers end at 28; two free numbers follow, 258 and 3, and the entry 42 43 with F 1 to 7, all of width 2
abbrev some : List ℕ
some = replicate 18 0 ++ (0 ∷ 28 ∷ 0 ∷ 0 ∷ 0 ∷ 0 ∷ (free_bytes 2 (258 ∷ 3 ∷ []) ++ piece_bytes 2 (record { front = 1; chars = 0x42 ∷ 0x43 ∷ []; num = 7 })))

-- a record of 31 bytes that holds nothing: the header's fixed values, RDF and CIDF, for pointers of w bytes
abbrev bare : ℕ → ℕ → List ℕ
bare control indicator = 0 ∷ 24 ∷ control ∷ indicator ∷ (replicate 12 0 ++ (1 ∷ 0 ∷ 0 ∷ 24 ∷ 0 ∷ 24 ∷ 0 ∷ 24 ∷ trailer 24))

pub table : Bool
table =
    all
    (same_list cut (0xC1 ∷ [])
    -- a separator has at most K bytes, of which the last is not X'FF'; its bound is filled up with X'FF'
    ∷ separator 4 (0xC1 ∷ 0xFE ∷ [])
    ∷ separator 4 []
    ∷ no (separator 4 (0xC1 ∷ 0xFF ∷ []))
    ∷ no (separator 1 (0xC1 ∷ 0xFE ∷ []))
    ∷ same_list (bound 4 cut) (0xC1 ∷ 0xFF ∷ 0xFF ∷ 0xFF ∷ [])
    -- what an entry is compressed to against the one before it, or against none
    ∷ same_list (told (pack [] (0x41 ∷ 0x42 ∷ []) 0)) (0 ∷ 2 ∷ 0x41 ∷ 0x42 ∷ [])
    ∷ same_list (told (pack (0x41 ∷ 0x42 ∷ []) (0x41 ∷ []) 1)) (1 ∷ 0 ∷ [])
    ∷ same_list (told (pack (0x41 ∷ 0x42 ∷ []) (0x41 ∷ 0x43 ∷ 0x44 ∷ []) 1)) (1 ∷ 2 ∷ 0x43 ∷ 0x44 ∷ [])
    ∷ same_list (piece_bytes 2 (pack (0x41 ∷ 0x42 ∷ []) (0x41 ∷ 0x43 ∷ []) 258)) (0x43 ∷ 1 ∷ 1 ∷ 1 ∷ 2 ∷ [])
    -- free numbers and an entry where they lie
    ∷ eqb (free_count 2 some) 2
    ∷ same_list (numbers_at 2 some 24 2) (258 ∷ 3 ∷ [])
    ∷ same_list (told (piece_at 2 some 34)) (1 ∷ 2 ∷ 0x42 ∷ 0x43 ∷ [])
    ∷ eqb (piece_at 2 some 34).num 7
    ∷ same_list (spelt (0x41 ∷ 0x44 ∷ []) (piece_at 2 some 34)) (0x41 ∷ 0x42 ∷ 0x43 ∷ [])
    -- the fixed values for one byte, two and three
    ∷ frame 1 (bare 3 1)
    ∷ frame 2 (bare 4 3)
    ∷ frame 3 (bare 5 7)
    ∷ no (frame 2 (bare 4 2))
    -- the rules, for keys of four bytes, and where keys lead
    ∷ keeps_rules 512 4 2 [] [] one
    ∷ keeps_rules 512 4 2 [] [] two
    ∷ keeps_rules 512 4 3 [] [] third
    ∷ no (keeps_rules 512 4 3 [] [] (meaning [] (entry (0x41 ∷ []) 0 ∷ entry (0x41 ∷ 0x42 ∷ []) 1 ∷ entry [] 2 ∷ [])))
    ∷ eqb (leads_to (0x41 ∷ 0x42 ∷ 0x99 ∷ 0x99 ∷ []) third.entries) 0
    ∷ eqb (leads_to (0x41 ∷ 0x43 ∷ 0x00 ∷ 0x00 ∷ []) third.entries) 1
    ∷ eqb (leads_to (0x42 ∷ 0x00 ∷ 0x00 ∷ 0x00 ∷ []) third.entries) 2
    ∷ [])

-- The definitions give what document 01 gives; and after a division each part has its number and its separator.
pub vectors : (table ≡ true)
    × (two ≡ meaning [] (entry (0xC1 ∷ []) 0 ∷ entry [] 1 ∷ []))
    × (parted ≡ meaning (6 ∷ []) (entry (0x41 ∷ 0x42 ∷ []) 0 ∷ entry (0x43 ∷ []) 1 ∷ entry (0x44 ∷ 0x01 ∷ []) 5 ∷ entry (0x44 ∷ 0x55 ∷ []) 3 ∷ entry [] 2 ∷ []))
unfolding table number digits order_of common every swap bound separator cut_separator count once named_once rises closed keeps_rules piece_bytes free_bytes trailer numbers_at
    frame leads_to parts_of divided_at
vectors = (refl, refl, refl)
