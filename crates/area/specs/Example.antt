-- A small area, written out: two data intervals of 512 bytes, two records in interval 0, interval 1 free. Document 01 has no such area; it is
-- the one that 'there is a sound area' is shown by, and on which the wrong registers are tried.
use Rattle.std.specs.Prelude.{ℕ, List, [], ◌∷◌, ◌++◌, replicate}
use Rattle.measures.specs.Judgement.{measures, width_for}
use Rattle.measures.specs.declared.Measures.{Measures}
use Rattle.interval.specs.Layout.{form}
use Rattle.sections.specs.Form.{index_bytes}
use Rattle.area.specs.Content.{Content, meaning_of}

-- size 512, key of 8 bytes at the front, records of at most 60 bytes
abbrev pub depot : Measures
depot = measures 512 0 8 60

-- A0000001HK and A0000002KOSHER
abbrev pub first : List ℕ
first = 0x41 ∷ 0x30 ∷ 0x30 ∷ 0x30 ∷ 0x30 ∷ 0x30 ∷ 0x30 ∷ 0x31 ∷ 0x48 ∷ 0x4B ∷ []

abbrev pub second : List ℕ
second = 0x41 ∷ 0x30 ∷ 0x30 ∷ 0x30 ∷ 0x30 ∷ 0x30 ∷ 0x30 ∷ 0x32 ∷ 0x4B ∷ 0x4F ∷ 0x53 ∷ 0x48 ∷ 0x45 ∷ 0x52 ∷ []

-- both under the one entry, interval 1 free
abbrev pub held : Content
held =
    record {
      kept = replicate 12 0;
      spare = 0;
      free = 1 ∷ [];
      filled = record { sep = []; num = 0; records = first ∷ second ∷ [] } ∷ [];
    }

-- the writer's bytes of each interval, one after another
unfoldable pub bytes : List ℕ
bytes = index_bytes (width_for 2) 512 (meaning_of held) ++ (form 512 (first ∷ second ∷ []) ++ form 512 [])

-- the same with the two data intervals exchanged, so that the free one holds the records
unfoldable pub exchanged : List ℕ
exchanged = index_bytes (width_for 2) 512 (meaning_of held) ++ (form 512 [] ++ form 512 (first ∷ second ∷ []))
