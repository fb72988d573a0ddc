-- When a data interval is sound in its role: document 01, 'Index record', the two rules that count against the data interval.
use Rattle.std.specs.Prelude.{ℕ, Bool, List, length, eqb}
use Rattle.fields.specs.Choice.{both}
use Rattle.measures.specs.declared.Measures.{Measures}
use Rattle.interval.specs.Records.{keys_of, above, up_to}
use Rattle.interval.specs.Reading.{records_in, sound}

-- a free interval is sound and empty
unfoldable pub sound_free : Measures → List ℕ → Bool
sound_free m ci = both (sound m ci) (eqb (length (records_in ci)) 0)

-- an interval in use is sound, each key above the bound before and at most its own; low is empty where there is no bound before
unfoldable pub sound_used : Measures → List ℕ → List ℕ → List ℕ → Bool
sound_used m low high ci =
    both (sound m ci) (both (above low (keys_of m (records_in ci))) (up_to high (keys_of m (records_in ci))))
