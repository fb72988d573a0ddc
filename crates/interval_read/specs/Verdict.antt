-- The verdict on a data interval: document 01, 'Data interval'.
use Rattle.std.specs.Prelude.{ℕ, ◌+◌, Option, Some, None, List, [], ◌∷◌, map, length}
use Rattle.fields.specs.Choice.{pick}
use Rattle.measures.specs.declared.Measures.{Measures}
use Rattle.interval.specs.Reading.{displacement, rdfs_many, records_in, sound}
use Rattle.interval_read.specs.declared.Verdict.{Verdict}

-- where the last of records of these lengths begins: after all the others; 0 where there is none
unfoldable pub last_start : List ℕ → ℕ
last_start [] = 0
last_start (l ∷ []) = 0
last_start (l ∷ k ∷ ls) = l + last_start (k ∷ ls)

abbrev pub verdict : ℕ → ℕ → ℕ → ℕ → Verdict
verdict count bytes rdfs last = record { count = count; bytes = bytes; rdfs = rdfs; last = last }

-- of a sound interval the number of records, their bytes, the number of RDFs, the start of the last record; of another one nothing
unfoldable pub verdict_of : Measures → List ℕ → Option Verdict
verdict_of m ci =
    pick (sound m ci)
    (Some (verdict (length (records_in ci)) (displacement ci) (rdfs_many ci) (last_start (map length (records_in ci)))))
    None
