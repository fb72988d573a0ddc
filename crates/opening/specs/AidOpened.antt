-- An aid: what an area is opened as, with the numbers that the code hands on.
use Rattle.std.specs.Prelude.{List, ℕ, Option, Some, None, Result, Ok, Err, length}
use Rattle.measures.specs.Judgement.{judged_of}
use Rattle.measures.specs.declared.Measures.{Measures}
use Rattle.measures.specs.declared.Judged.{Judged}
use Rattle.area.specs.Content.{records_of}
use Rattle.area.specs.Reading.{Reading, damaged, whole, read_area}
use Rattle.requests.specs.declared.Refusal.TheVariants.{Outside, Damaged}
use Rattle.opening.specs.declared.Whole.{Whole}
use Rattle.requests.specs.declared.Refusal.{Refusal}

abbrev pub Opened : Type 0
Opened = Result Whole Refusal

-- a sound area, with its measures and the number of its data intervals, its records and its free intervals
abbrev pub opened : Measures → ℕ → ℕ → ℕ → Opened
opened m n records free = Ok (record { measures = m; count = n; records = records; free = free })

abbrev pub opened_read : Measures → ℕ → Reading → Opened
opened_read m n (damaged place) = Err (Damaged place)
opened_read m n (whole c) = opened m n (length (records_of c.filled)) (length c.free)

abbrev pub opened_judged : Option Judged → List ℕ → Opened
opened_judged None area = Err Outside
opened_judged (Some j) area = opened_read j.measures j.count (read_area j.measures j.count area)

abbrev pub opened_of : Measures → List ℕ → Opened
opened_of m area = opened_judged (judged_of m (length area)) area
