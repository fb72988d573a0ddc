-- A walker and the one at the next place, as values: document 02, L1.
use Rattle.std.specs.Prelude.{ℕ, Bool, List}
use Rattle.std.specs.Borrow.{Bor}
use Rattle.walk.specs.declared.Place.{Place}
use Rattle.walk.specs.AidSteps.{next_of}
use Rattle.walker.specs.declared.Walker.{Walker}

abbrev pub walker_at : Bor (List ℕ) → ℕ → Bool → Place → Walker
walker_at area size forward place = record { area = area; size = size; forward = forward; place = place }

-- the same area, at the next place
abbrev pub walker_next : Walker → Walker
walker_next w = walker_at w.area w.size w.forward (next_of w.area.now w.size w.forward w.place)
