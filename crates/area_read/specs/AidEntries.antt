-- Aids to the check of an area, entry by entry. Contracts of this crate's inner functions cite them.
use Rattle.std.specs.Prelude.{ℕ, ◌≡◌, true, Option, Some, None, List, [], length}
use Rattle.measures.specs.Judgement.{Fits, width_for}
use Rattle.measures.specs.declared.Measures.{Measures}
use Rattle.interval.specs.Records.{keys_of, up_to}
use Rattle.interval.specs.Reading.{records_in}
use Rattle.interval_read.specs.declared.Opened.{Opened}
use Rattle.index.specs.Meaning.{Entry}
use Rattle.sections.specs.Reading.{read_index, sound_index}
use Rattle.area.specs.Content.{fill, records_of}
use Rattle.area.specs.Soundness.{unsound_used}
use Rattle.fields.specs.Choice.{pick}

-- an aid: an interval that opened well is judged by its own bound; its records are counted where it is sound in its role
abbrev pub Closed : Measures → List ℕ → List ℕ → Option Opened → Option ℕ → Type 0
Closed m ci high (Some o) r = r ≡ pick (up_to high (keys_of m (records_in ci))) (Some (length (records_in ci))) None
Closed m ci high None r = r ≡ None

-- an aid: records counted, where every interval was sound
abbrev pub Counted : Measures → List ℕ → List ℕ → List Entry → ℕ → Type 0
Counted m area low es records = unsound_used m area low es ≡ [] → records ≡ length (records_of (fill m area es))

-- an aid: an area that was judged, its index record sound, and how many entries that has
abbrev pub EntriesSound : Measures → ℕ → List ℕ → List ℕ → ℕ → Type 0
EntriesSound m n area ib entries =
    Fits m n (length area) × (length ib ≡ m.size) × (sound_index (width_for n) m.key n [] [] ib ≡ true)
    × (entries ≡ length (read_index (width_for n) n ib).entries)
