-- Walks as a program in C reads them: document 02, L1. What a walk gives is `walk_from_of` and `walk_end_of` of crate requests, what a step does `next_of` of crate walk.
use Rattle.std.specs.Prelude.{◌≡◌, ℕ, zero, suc, ◌+◌, ◌%◌, ◌^◌, Bool, List, length, slice_index, Ok, Err}
use Rattle.measures.specs.declared.Measures.{Measures}
use Rattle.requests.specs.Answers.{number_of, values_of}
use Rattle.requests.specs.Walks.{walk_from_of, walk_end_of}
use Rattle.requests.specs.declared.Refusal.{Refusal}
use Rattle.opening.specs.AidOpened.{opened_of}
use Rattle.walk.specs.AidSteps.{next_of, record_of}
use Rattle.walk.specs.AidGives.{Begins, Begun}
use Rattle.walk.specs.AidStands.{BeginsAt, ended_by}
use Rattle.walk.specs.declared.Place.{Place}

-- a place by its seven numbers
abbrev pub place : ℕ → ℕ → ℕ → ℕ → ℕ → ℕ → ℕ → Place
place entry start long left at right end = record { entry = entry; start = start; length = long; left = left; at = at; right = right; end = end }

-- the number of a refusal, and its value where that of an entry stands
abbrev pub Denies : Refusal → ℕ → Place → Type 0
Denies a r p = (r ≡ number_of (Err a)) × (p ≡ place (slice_index (values_of (Err a)) 0) 0 0 0 0 0 0)

-- 0 and the place, or a refusal
abbrev pub Tells : Begun → ℕ → Place → Type 0
Tells (Ok q) r p = (r ≡ 0) × (p ≡ q)
Tells (Err a) r p = Denies a r p

-- what a walk from bytes begins with, told
pub record Starts (m : Measures) (area : List ℕ) (forward : Bool) (given : List ℕ) (r : ℕ) (p : Place) : Type 0 where
  pub begun : Begun
  pub begins : Begins area m.size forward (walk_from_of m area forward given) begun
  pub there : BeginsAt m area forward given begun
  pub tells : Tells begun r p

-- and what one from an end does
pub record Opens (m : Measures) (area : List ℕ) (forward : Bool) (r : ℕ) (p : Place) : Type 0 where
  pub begun : Begun
  pub begins : Begins area m.size forward (walk_end_of m area forward) begun
  pub is : begun ≡ ended_by area forward (opened_of m area)
  pub tells : Tells begun r p

-- a step from one place to another, and the length of the record there
pub record Steps (area : List ℕ) (size : ℕ) (forward : Bool) (p q : Place) (r : ℕ) : Type 0 where
  pub next : q ≡ next_of area size forward p
  pub long : r ≡ length (record_of area q)

-- the lengths of the records of so many steps from a place on, added up
unfoldable pub lengths_from : ℕ → List ℕ → ℕ → Bool → Place → ℕ
lengths_from zero area size forward p = 0
lengths_from (suc k) area size forward p = length (record_of area p) + lengths_from k area size forward (next_of area size forward p)

-- of as many steps as the area has bytes, in 64 bits; nothing of a walk that was refused
abbrev pub all_of : List ℕ → ℕ → Bool → Begun → ℕ
all_of area size forward (Ok p) = lengths_from (length area) area size forward p % 2 ^ 64
all_of area size forward (Err a) = 0

-- a whole walk from an end, added up
pub record Adds (m : Measures) (area : List ℕ) (forward : Bool) (r : ℕ) : Type 0 where
  pub begun : Begun
  pub begins : Begins area m.size forward (walk_end_of m area forward) begun
  pub is : begun ≡ ended_by area forward (opened_of m area)
  pub sum : r ≡ all_of area m.size forward begun
