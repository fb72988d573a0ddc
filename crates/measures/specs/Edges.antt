-- Measures on both sides of each edge of refusal 1, as one table: document 01, 'The area we lend'.
use Rattle.std.specs.Prelude.{ℕ, ◌+◌, ◌-◌, ◌*◌, Bool, [], ◌∷◌}
use Rattle.fields.specs.Table.{all}
use Rattle.fields.specs.Choice.{no}
use Rattle.measures.specs.Judgement.{fine, measures}

-- an area of n data intervals, key of 8 bytes at the front, records up to the most
unfoldable pub area : ℕ → ℕ → ℕ → Bool
area size most n = fine (measures size 0 8 most) (size * (n + 1))

-- one data interval of 512 bytes, key of 8 bytes at the offset, records from the least to the most
unfoldable pub lengths : ℕ → ℕ → ℕ → Bool
lengths offset least most = fine (record { size = 512; offset = offset; key = 8; least = least; most = most }) 1024

-- largest numbers of a request
abbrev largest : ℕ
largest = 18446744073709551615

unfoldable pub edges : Bool
edges =
    all
    (area 512 505 2
    ∷ no (area 512 506 2)
    ∷ area 8192 60 1
    ∷ no (area 8704 60 1)
    ∷ area 10240 60 1
    ∷ no (area 9216 60 1)
    ∷ area 32768 32761 1
    ∷ no (area 32768 32762 1)
    ∷ no (area 34816 60 1)
    ∷ no (area 0 60 1)
    ∷ no (area 256 60 1)
    ∷ no (area 512 60 0)
    ∷ area 512 60 1
    ∷ area 512 60 256
    ∷ area 512 60 257
    ∷ area 512 60 4096
    ∷ no (area 512 60 4097)
    ∷ area 32768 60 4096
    ∷ no (area 32768 60 4097)
    ∷ no (fine (measures 512 0 8 60) 1025)
    ∷ no (fine (measures 512 0 8 60) 1535)
    ∷ no (fine (measures 512 0 0 60) 1024)
    ∷ fine (measures 512 0 1 60) 1024
    ∷ fine (measures 512 0 255 505) 1024
    ∷ no (fine (measures 512 0 256 505) 1024)
    ∷ fine (measures 512 52 8 60) 1024
    ∷ no (fine (measures 512 53 8 60) 1024)
    ∷ no (fine (measures 512 largest 8 60) 1024)
    ∷ no (fine (measures 512 (largest - 7) 8 60) 1024)
    ∷ no (fine (measures 512 0 8 largest) 1024)
    ∷ no (fine (measures largest 0 8 60) 1024)
    ∷ no (fine (measures 512 0 8 60) largest)
    ∷ lengths 0 8 60
    ∷ no (lengths 0 7 60)
    ∷ lengths 4 12 60
    ∷ no (lengths 4 11 60)
    ∷ no (lengths (largest - 7) 12 60)
    ∷ lengths 0 60 60
    ∷ no (lengths 0 61 60)
    ∷ lengths 0 505 505
    ∷ no (lengths 0 506 505)
    ∷ no (lengths 0 largest 60)
    ∷ [])
