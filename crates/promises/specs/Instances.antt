-- Areas written out, on both sides of want of an interval and of want of room, and the one on which a shorter record needs more room.
use Rattle.std.specs.Prelude.{ℕ, zero, suc, ◌-◌, List, [], ◌∷◌, ◌++◌, map, replicate}
use Rattle.fields.specs.Lists.{concat}
use Rattle.measures.specs.Judgement.{measures}
use Rattle.measures.specs.declared.Measures.{Measures}
use Rattle.interval.specs.Layout.{form}
use Rattle.sections.specs.Form.{index_bytes}
use Rattle.area.specs.Content.{Content, meaning_of, width_in}

-- ---- one interval in use

-- a key of eight bytes, A000000 and one byte more, and dots up to the length
abbrev pub certificate : ℕ → ℕ → List ℕ
certificate last long = 0x41 ∷ (replicate 6 0x30 ++ (last ∷ replicate (long - 8) 0x2E))

-- so many of them, their keys one after another
abbrev pub certificates : ℕ → ℕ → ℕ → List (List ℕ)
certificates zero last long = []
certificates (suc k) last long = certificate last long ∷ certificates k (suc last) long

-- all records in interval 0, and these intervals free
abbrev pub alone : List ℕ → List (List ℕ) → Content
alone free rs = record { kept = replicate 12 0; spare = 0; free = free; filled = record { sep = []; num = 0; records = rs } ∷ [] }

-- the index record, then the data intervals, each as the writer forms it
abbrev pub laid : Content → List (List (List ℕ)) → List ℕ
laid c intervals = index_bytes (width_in c) 512 (meaning_of c) ++ concat (map (form 512) intervals)

-- eight certificates of 60 bytes: a ninth needs a second interval
abbrev pub eight : List (List ℕ)
eight = certificates 8 0x31 60

abbrev pub ninth : List ℕ
ninth = certificate 0x39 60

-- none is free
abbrev pub crowded : List ℕ
crowded = laid (alone [] eight) (eight ∷ [])

-- one is free, which is just enough
abbrev pub roomy : List ℕ
roomy = laid (alone (1 ∷ []) eight) (eight ∷ [] ∷ [])

-- ten certificates of 50 bytes leave two bytes of the interval; with the third one byte shorter there are five RDFs for two, and they need six too many
abbrev pub ten : List (List ℕ)
ten = certificates 10 0x31 50

abbrev pub shorter : List ℕ
shorter = certificate 0x33 49

abbrev pub even : List ℕ
even = laid (alone (1 ∷ []) ten) (ten ∷ [] ∷ [])

-- ---- two intervals in use, one free, and an index record that is nearly full

-- keys of 240 bytes, which are the whole record
abbrev pub all_key : Measures
all_key = measures 512 0 240 240

abbrev pub low : List ℕ
low = replicate 240 0x41

-- they differ in the 236th byte, so that a cut between two of them has a separator of 236
abbrev pub high : ℕ → List ℕ
high x = replicate 235 0x43 ++ (x ∷ replicate 4 0x43)

abbrev pub between : ℕ → Content
between long =
    record {
      kept = replicate 12 0;
      spare = 0;
      free = 2 ∷ [];
      filled = record { sep = replicate long 0x42; num = 0; records = low ∷ [] } ∷ record { sep = []; num = 1; records = high 0x31 ∷ high 0x33 ∷ [] } ∷ [];
    }

-- After the division: 24 bytes, three entries of 3, two separators, and two sections, where there was one, with a field of 2 each. That is 505 if the first
-- separator has 232, which is all that there is.
abbrev pub brimful : List ℕ
brimful = laid (between 232) ((low ∷ []) ∷ (high 0x31 ∷ high 0x33 ∷ []) ∷ [] ∷ [])

-- and 506 if it has one more
abbrev pub overfull : List ℕ
overfull = laid (between 233) ((low ∷ []) ∷ (high 0x31 ∷ high 0x33 ∷ []) ∷ [] ∷ [])
