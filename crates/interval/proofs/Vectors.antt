-- Worked examples as one table under one statement: document 01, 'Registers on both sides of each edge', S = 512; and small intervals for the reader.
use Prim.Native.Nat.{ℕ, ◌-◌}
use mathlib.Core.Path.{◌≡◌, refl}
use mathlib.Core.Bool.{Bool, true}
use mathlib.Core.List.{List, [], ◌∷◌, ◌++◌, map}
use lib.ListN.{length, drop, replicate}
use lib.Dec.{eqb}
use Rattle.fields.specs.Table.{same_list, same_lists, all}
use Rattle.fields.specs.Choice.{both, no}
use Rattle.fields.specs.Bytes.{number, digits}
use Rattle.fields.specs.Order.{order_of}
use Rattle.fields.specs.Lists.{sum, concat}
use Rattle.measures.specs.Judgement.{measures}
use Rattle.measures.specs.declared.Measures.{Measures}
use Rattle.room.specs.Room.{rdf_count, push, groups, need}
use Rattle.interval.specs.Records.{ascend_from, ascending}
use Rattle.interval.specs.Layout.{group_bytes, groups_bytes, layout, form}
use Rattle.interval.specs.Reading.{rdfs, rdfs_in, well_formed, lengths, cut, records_in, form_sound, sound}

-- keys of one byte at the front, records of 1 to 505 bytes
abbrev usual : Measures
usual = measures 512 0 1 505

-- records of these lengths end in these bytes in the writer's form, and are read back from it
abbrev ends_in : List ℕ → List ℕ → Bool
ends_in ls e =
    let rs = map (λ (l : ℕ). replicate {A = ℕ} l 1) ls in
    let b = form 512 rs in
    both (eqb (length b) 512) (both (same_list (drop (512 - length e) b) e) (both (form_sound usual b) (same_lists (records_in b) rs)))

-- these bytes are sound and read as these records
abbrev reads_as : List ℕ → List (List ℕ) → Bool
reads_as b rs = both (sound usual b) (same_lists (records_in b) rs)

abbrev unsound : List ℕ → Bool
unsound b = no (form_sound usual b)

abbrev r1 : List ℕ
r1 = 0x01 ∷ 0x02 ∷ 0x03 ∷ []

abbrev r2 : List ℕ
r2 = 0x02 ∷ 0x02 ∷ 0x03 ∷ []

abbrev r3 : List ℕ
r3 = 0x03 ∷ 0x02 ∷ []

pub table : Bool
table =
    all
    (ends_in [] (0x00 ∷ 0x00 ∷ 0x01 ∷ 0xFC ∷ [])
    ∷ ends_in (100 ∷ []) (0x00 ∷ 0x00 ∷ 0x64 ∷ 0x00 ∷ 0x64 ∷ 0x01 ∷ 0x95 ∷ [])
    ∷ ends_in (100 ∷ 100 ∷ 100 ∷ []) (0x08 ∷ 0x00 ∷ 0x03 ∷ 0x40 ∷ 0x00 ∷ 0x64 ∷ 0x01 ∷ 0x2C ∷ 0x00 ∷ 0xCA ∷ [])
    ∷ ends_in (100 ∷ 100 ∷ 80 ∷ []) (0x00 ∷ 0x00 ∷ 0x50 ∷ 0x08 ∷ 0x00 ∷ 0x02 ∷ 0x40 ∷ 0x00 ∷ 0x64 ∷ 0x01 ∷ 0x18 ∷ 0x00 ∷ 0xDB ∷ [])
    ∷ ends_in (505 ∷ []) (0x00 ∷ 0x01 ∷ 0xF9 ∷ 0x01 ∷ 0xF9 ∷ 0x00 ∷ 0x00 ∷ [])
    -- two equal lengths as two singles, and as a run; bytes in the unused space; RDFs run right to left
    ∷ reads_as (r1 ++ (r2 ++ (0x00 ∷ 0x00 ∷ 0x03 ∷ 0x00 ∷ 0x00 ∷ 0x03 ∷ 0x00 ∷ 0x06 ∷ 0x00 ∷ 0x00 ∷ []))) (r1 ∷ r2 ∷ [])
    ∷ reads_as (r1 ++ (r2 ++ (0x55 ∷ 0x08 ∷ 0x00 ∷ 0x02 ∷ 0x40 ∷ 0x00 ∷ 0x03 ∷ 0x00 ∷ 0x06 ∷ 0x00 ∷ 0x01 ∷ []))) (r1 ∷ r2 ∷ [])
    ∷ reads_as (r2 ++ (r3 ++ (0x00 ∷ 0x00 ∷ 0x02 ∷ 0x00 ∷ 0x00 ∷ 0x03 ∷ 0x00 ∷ 0x05 ∷ 0x00 ∷ 0x00 ∷ []))) (r2 ∷ r3 ∷ [])
    -- X'40' leftmost, its X'08' beyond, in the unused space; and with no record
    ∷ unsound (r1 ++ (r2 ++ (0x08 ∷ 0x00 ∷ 0x02 ∷ 0x40 ∷ 0x00 ∷ 0x03 ∷ 0x00 ∷ 0x06 ∷ 0x00 ∷ 0x03 ∷ [])))
    ∷ unsound (0x08 ∷ 0x00 ∷ 0x02 ∷ 0x40 ∷ 0x00 ∷ 0x03 ∷ 0x00 ∷ 0x00 ∷ 0x00 ∷ 0x03 ∷ [])
    -- a run of one; X'08' alone; X'40' left of X'08'; a reserved control byte; a record of no byte, which is a CIDF of four zeros too
    ∷ unsound (r1 ++ (0x08 ∷ 0x00 ∷ 0x01 ∷ 0x40 ∷ 0x00 ∷ 0x03 ∷ 0x00 ∷ 0x03 ∷ 0x00 ∷ 0x00 ∷ []))
    ∷ unsound (r1 ++ (0x08 ∷ 0x00 ∷ 0x03 ∷ 0x00 ∷ 0x03 ∷ 0x00 ∷ 0x00 ∷ []))
    ∷ unsound (r1 ++ (r2 ++ (0x40 ∷ 0x00 ∷ 0x03 ∷ 0x08 ∷ 0x00 ∷ 0x02 ∷ 0x00 ∷ 0x06 ∷ 0x00 ∷ 0x00 ∷ [])))
    ∷ unsound (r1 ++ (0x01 ∷ 0x00 ∷ 0x03 ∷ 0x00 ∷ 0x03 ∷ 0x00 ∷ 0x00 ∷ []))
    ∷ unsound (0x00 ∷ 0x00 ∷ 0x00 ∷ 0x00 ∷ 0x00 ∷ 0x00 ∷ 0x00 ∷ [])
    -- a key twice, and keys that descend
    ∷ no (sound usual (r1 ++ (r1 ++ (0x08 ∷ 0x00 ∷ 0x02 ∷ 0x40 ∷ 0x00 ∷ 0x03 ∷ 0x00 ∷ 0x06 ∷ 0x00 ∷ 0x00 ∷ []))))
    ∷ no (sound usual (r2 ++ (r1 ++ (0x08 ∷ 0x00 ∷ 0x02 ∷ 0x40 ∷ 0x00 ∷ 0x03 ∷ 0x00 ∷ 0x06 ∷ 0x00 ∷ 0x00 ∷ []))))
    -- the busy flag; lengths that do not add up to the displacement; a byte too many before the RDFs
    ∷ unsound (r1 ++ (0x00 ∷ 0x00 ∷ 0x03 ∷ 0x00 ∷ 0x03 ∷ 0x80 ∷ 0x00 ∷ []))
    ∷ unsound (r1 ++ (0x00 ∷ 0x00 ∷ 0x02 ∷ 0x00 ∷ 0x03 ∷ 0x00 ∷ 0x00 ∷ []))
    ∷ unsound (r1 ++ (0x00 ∷ 0x00 ∷ 0x00 ∷ 0x03 ∷ 0x00 ∷ 0x03 ∷ 0x00 ∷ 0x00 ∷ []))
    ∷ [])

-- document 01's starred endings, and what a reader takes and refuses
pub vectors : table ≡ true
unfolding table number digits order_of sum rdf_count push groups need concat ascend_from ascending group_bytes groups_bytes layout form rdfs rdfs_in well_formed lengths cut records_in form_sound sound
vectors = refl
