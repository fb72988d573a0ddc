-- Aids: an interval judged by itself and against the bound before. `sound_used` of crate interval is what is believed of it.
use Rattle.std.specs.Prelude.{ℕ, ◌≤◌, ◌+◌, ◌≡◌, true, Option, Some, None, List, map, length}
use Rattle.fields.specs.Choice.{pick, both}
use Rattle.measures.specs.declared.Measures.{Measures}
use Rattle.interval.specs.Records.{keys_of, above}
use Rattle.interval.specs.Reading.{records_in, sound}
use Rattle.interval_read.specs.Verdict.{last_start}
use Rattle.interval_read.specs.declared.Opened.{Opened}

abbrev pub opened : ℕ → ℕ → Opened
opened count last = record { count = count; last = last }

unfoldable pub opened_of : Measures → List ℕ → List ℕ → Option Opened
opened_of m low ci =
    pick (both (sound m ci) (above low (keys_of m (records_in ci))))
    (Some (opened (length (records_in ci)) (last_start (map length (records_in ci)))))
    None

-- what is told of an interval that opens well: it is sound, and these are its numbers
abbrev pub Inside : Measures → List ℕ → Option Opened → Type 0
Inside m ci (Some o) =
    (sound m ci ≡ true) × (o.count ≡ length (records_in ci)) × (o.last ≡ last_start (map length (records_in ci)))
Inside m ci None = Unit {0}

-- what the judgement by an interval's own bound asks: it is sound, and its count and the start of its last record are known
abbrev pub Closable : Measures → List ℕ → ℕ → ℕ → Type 0
Closable m ci count last =
    (length ci ≤ 32768) × (1 ≤ m.key) × (m.offset + m.key ≤ m.least) × (sound m ci ≡ true)
    × (count ≡ length (records_in ci)) × (last ≡ last_start (map length (records_in ci)))
