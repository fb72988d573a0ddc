-- Which line is printed for which record, and how many there are: document 02, L1.
use Rattle.std.specs.Prelude.{ℕ, ◌-◌, ◌≤◌, ◌≡◌, true, List, [], length, get_or}
use Rattle.measures.specs.Judgement.{measures}
use Rattle.measures.specs.declared.Measures.{Measures}
use Rattle.requests.specs.Walks.{Item, Walk, refused_with, giving, walk_end_of}
use Rattle.walk.specs.AidGives.{Gives}
use Rattle.walk.specs.declared.Place.{Place}

-- what a walk gives: nothing where it is refused
abbrev pub given_by : Walk → List Item
given_by (refused_with a) = []
given_by (giving items) = items

-- how the depot's areas are measured: intervals of 512 bytes, keys of 8 bytes at the front of records of at most 60
abbrev pub depot : Measures
depot = measures 512 0 8 60

-- the walk from the low end of such an area
unfoldable pub list_of : List ℕ → List Item
list_of area = given_by (walk_end_of depot area true)

-- r is the n-th record of the list, counted from 1
pub record Line (area : List ℕ) (n : ℕ) (r : List ℕ) : Type 0 where
  pub some : 1 ≤ n
  pub there : n ≤ length (list_of area)
  pub is : r ≡ (get_or (list_of area) (n - 1) (record { start = 0; bytes = [] })).bytes

-- so many records the list has
abbrev pub Closing : List ℕ → ℕ → Type 0
Closing area n = n ≡ length (list_of area)

-- from this place the steps give the list
abbrev pub Lists : List ℕ → Place → Type 0
Lists area p = Gives area 512 true (list_of area) p
