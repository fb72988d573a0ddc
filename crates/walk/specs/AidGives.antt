-- Aids: that a walk stands where it should in a sound area. `walk_of` of crate requests says which records come: document 02, L1.
use Rattle.std.specs.Prelude.{ℕ, ◌≤◌, ◌<◌, ◌≡◌, Bool, List, [], length, get_or, Result, Ok, Err}
use Rattle.requests.specs.Walks.{Item, Walk, refused_with, giving}
use Rattle.walk.specs.AidSteps.{steps_from, record_of}
use Rattle.walk.specs.declared.Place.{Place}
use Rattle.requests.specs.declared.Refusal.{Refusal}

-- The steps from a place give these items: the k-th place is that of the k-th item and its record is that item's bytes, and from their number on it is the end.
pub record Gives (area : List ℕ) (size : ℕ) (forward : Bool) (items : List Item) (p : Place) : Type 0 where
  pub there : (k : ℕ) → k < length items
      → ((steps_from k area size forward p).start ≡ (get_or items k (record { start = 0; bytes = [] })).start)
      × (record_of area (steps_from k area size forward p) ≡ (get_or items k (record { start = 0; bytes = [] })).bytes)
      × (0 < (steps_from k area size forward p).length)
  pub ends : (k : ℕ) → length items ≤ k → ((steps_from k area size forward p).length ≡ 0) × (record_of area (steps_from k area size forward p) ≡ [])

-- a place, or a refusal
abbrev pub Begun : Type 0
Begun = Result Place Refusal

-- what a walk begins with: the refusal, or a place from which the steps give its records
abbrev pub Begins : List ℕ → ℕ → Bool → Walk → Begun → Type 0
Begins area size forward (refused_with a) r = r ≡ Err a
Begins area size forward (giving items) r = (p : Place) × (r ≡ Ok p) × Gives area size forward items p
