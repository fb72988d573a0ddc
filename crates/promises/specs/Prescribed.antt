-- The parts into which the rules divide records, said of the records themselves: document 01, 'Dividing an interval'. Nothing here computes a division.
use Rattle.std.specs.Prelude.{ℕ, ◌≡◌, List, [], ◌∷◌, ◌++◌, map, length, take, drop}
use Rattle.division.specs.Division.{Prescribed}
use Rattle.division.specs.declared.Division.{Division}
use Rattle.division.specs.declared.Division.TheVariants.{Stays, Two, Three}
use Rattle.requests.specs.Model.{Change, insert, update, erase}

-- the record that a change brings; an erase brings none and never divides
abbrev pub brought_by : Change → List ℕ
brought_by (insert r) = r
brought_by (update r) = r
brought_by (erase wanted) = []

-- These are the parts of a division: all the records; those up to the cut and those from it on; those before the changed one, it alone, those after.
abbrev pub PartsOf : Division → List (List ℕ) → List ℕ → List (List (List ℕ)) → Type 0
PartsOf Stays rs changed parts = parts ≡ rs ∷ []
PartsOf (Two c) rs changed parts = parts ≡ take c rs ∷ drop c rs ∷ []
PartsOf Three rs changed parts =
    (before : List (List ℕ)) × (after : List (List ℕ)) × (rs ≡ before ++ (changed ∷ after)) × (parts ≡ before ∷ (changed ∷ []) ∷ after ∷ [])

-- the parts of the division that the rules prescribe
pub record PrescribedParts (S : ℕ) (rs : List (List ℕ)) (changed : List ℕ) (parts : List (List (List ℕ))) : Type 0 where
  pub division : Division
  pub rules : Prescribed S (map length rs) division
  pub are : PartsOf division rs changed parts
