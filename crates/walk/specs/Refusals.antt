-- When a walk is refused, as a table for each way to begin: document 02, L1. The conditions speak of the measures, of what the area is read as, of how many bytes are
-- given and of the keys of its records; of no search.
use Rattle.std.specs.Prelude.{ℕ, ◌<◌, ◌≡◌, Bool, false, ◌⊎◌, length, Ok, Err}
use mathlib.Core.List.{List, [], Memᴰ}
use Rattle.measures.specs.declared.Measures.{Measures}
use Rattle.area.specs.Content.{Content}
use Rattle.requests.specs.Answers.{number_of, values_of}
use Rattle.requests.specs.Walks.{Item, items_of, beyond}
use Rattle.promises.specs.Tables.{Table, done, row, OutsideLimits, DamagedSomewhere, Holding}
use Rattle.walk.specs.AidGives.{Begun}

-- the number that a walk begins with: 0 at a place
abbrev pub number_in : Begun → ℕ
number_in (Ok p) = 0
number_in (Err refusal) = number_of (Err refusal)

-- and what comes with it: with 2 the place of the damage, with every other number nothing
abbrev pub values_in : Begun → List ℕ
values_in (Ok p) = []
values_in (Err refusal) = values_of (Err refusal)

module _ (m : Measures) (area : List ℕ) where
  -- 3: no bytes are given, or more than a key has
  abbrev pub WrongBytes : List ℕ → Type 0
  WrongBytes given = (length given ≡ 0) ⊎ (m.key < length given)

  -- 5: no record lies at or beyond the bytes in the direction
  abbrev pub NothingBeyond : Bool → List ℕ → Type 0
  NothingBeyond forward given =
      Holding m area
      (λ (c : Content). (i : Item) → Memᴰ i (items_of m c.filled) → beyond m forward given i ≡ false)

  -- from the bytes of a key: 1, 2, 3, 5
  abbrev pub from_table : Bool → List ℕ → Table
  from_table forward given =
      row 1 (OutsideLimits m area)
      (row 2 (DamagedSomewhere m area) (row 3 (WrongBytes given) (row 5 (NothingBeyond forward given) done)))

  -- from an end: 1, 2
  abbrev pub end_table : Table
  end_table = row 1 (OutsideLimits m area) (row 2 (DamagedSomewhere m area) done)
