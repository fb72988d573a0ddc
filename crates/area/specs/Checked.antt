-- What the check of an area tells of its reading: document 01, 'What each number tells the depot', numbers 0 and 2.
use Rattle.std.specs.Prelude.{ℕ, Option, Some, Result, Ok, Err, length}
use Rattle.area.specs.Content.{records_of}
use Rattle.area.specs.Reading.{Reading, damaged, whole}
use Rattle.area.specs.declared.Intact.{Intact}
use Rattle.area.specs.declared.Damage.{Damage}
use Rattle.area.specs.declared.Lying.{Lying}

-- a sound area by its records and free intervals, a damaged one by the place; a record by its place and length
abbrev pub sound_with : ℕ → ℕ → Result Intact Damage
sound_with records free = Ok (record { records = records; free = free })

abbrev pub damaged_at : {A : Type 0} → ℕ → Result A Damage
damaged_at place = Err (record { place = place })

abbrev pub lies_at : ℕ → ℕ → Option Lying
lies_at from length = Some (record { from = from; length = length })

-- how many records and free intervals, or the place of the damage
abbrev pub checked_of : Reading → Result Intact Damage
checked_of (damaged place) = damaged_at place
checked_of (whole c) = sound_with (length (records_of c.filled)) (length c.free)
