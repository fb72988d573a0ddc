-- Aids: what the search for a key answers that judges only what it reads. `get_of` of crate requests is what is believed: document 02, L4.
use Rattle.std.specs.Prelude.{ℕ, ◌+◌, ◌*◌, ◌≤◌, List, Option, Some, None, Result, Ok, Err}
use Rattle.fields.specs.Choice.{pick}
use Rattle.measures.specs.declared.Measures.{Measures}
use Rattle.interval.specs.Reading.{records_in}
use Rattle.interval.specs.Search.{place_of}
use Rattle.interval.specs.declared.Found.{Found}
use Rattle.interval.specs.declared.Found.TheVariants.{At, Gap}
use Rattle.area.specs.Leads.{index_sound, entries_for, number_for, interval_for, sound_for}
use Rattle.area.specs.Checked.{damaged_at, lies_at}
use Rattle.area.specs.declared.Lying.{Lying}
use Rattle.area.specs.declared.Damage.{Damage}

-- a place in an interval that begins at byte a of the area
abbrev pub looked_at : ℕ → Found → Result (Option Lying) Damage
looked_at a (At i start len) = Ok (lies_at (a + start) len)
looked_at a (Gap i start) = Ok None

-- the index record first, then the key's interval, then the key's place in it
unfoldable pub looked_of : Measures → ℕ → List ℕ → List ℕ → Result (Option Lying) Damage
looked_of m n area key =
    pick (index_sound m n area)
    (pick (sound_for m (entries_for m n area) key (interval_for m n area key))
    (looked_at ((number_for m n area key + 1) * m.size) (place_of m key (records_in (interval_for m n area key))))
    (damaged_at (number_for m n area key + 1)))
    (damaged_at 0)

-- a record that was found lies in the area
abbrev pub Inside : ℕ → Result (Option Lying) Damage → Type 0
Inside bytes (Ok (Some l)) = l.from + l.length ≤ bytes
Inside bytes (Ok None) = Unit {0}
Inside bytes (Err damage) = Unit {0}
