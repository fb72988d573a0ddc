-- Worked cases at both doors, on five bytes that are no register: what is not served, what is refused, and the kinds
-- that judge nothing.
use Prim.Native.Nat.{ℕ}
use mathlib.Core.Path.{◌≡◌, refl}
use mathlib.Core.List.{List, [], ◌∷◌, ◌++◌}
use Rattle.fields.specs.Bytes.{splice}
use Rattle.measures.specs.Sizes.{any_below, permitted_size}
use Rattle.measures.specs.Judgement.{fine, judged_of}
use Rattle.requests.specs.Reading.{check_of, get_of, get_at_of}
use Rattle.requests.specs.Changing.{change_of}
use Rattle.requests.specs.Walks.{walk_from_of}
use Rattle.walk.specs.AidSteps.{next_of}
use Rattle.ask.specs.Asking.{Question, question, left, read_of, ask_of}

-- the area, the second one, what is given, the output, and nine values
abbrev area : List ℕ
area = 10 ∷ 11 ∷ 12 ∷ 13 ∷ 14 ∷ []

abbrev second : List ℕ
second = 20 ∷ []

abbrev out : List ℕ
out = 30 ∷ 31 ∷ 32 ∷ []

abbrev with : List ℕ → Question
with ns = question ns area second (40 ∷ []) out

abbrev nine : List ℕ
nine = 1 ∷ 2 ∷ 3 ∷ 4 ∷ 5 ∷ 6 ∷ 7 ∷ 8 ∷ 9 ∷ []

-- four measures
abbrev four : List ℕ
four = 512 ∷ 0 ∷ 8 ∷ 100 ∷ []

-- not served at either door
abbrev Not : ℕ → List ℕ → List ℕ → Type 0
Not kind ns values = (ask_of kind (with ns) values ≡ left 255 area second out values) × (read_of kind (with ns) values ≡ left 255 area second out values)

-- a number, the output and eight values at both doors; the ninth value stays, and so do the areas
abbrev Both : ℕ → List ℕ → ℕ → List ℕ → List ℕ → Type 0
Both kind ns r after vs =
    (ask_of kind (with ns) nine ≡ left r area second after (vs ++ 9 ∷ [])) × (read_of kind (with ns) nine ≡ left r area second after (vs ++ 9 ∷ []))

-- a change that is refused with 1, and not served at the door that reads
abbrev Refused : ℕ → List ℕ → Type 0
Refused kind ns =
    (ask_of kind (with ns) nine ≡ left 1 area second out (0 ∷ 0 ∷ 0 ∷ 0 ∷ 0 ∷ 0 ∷ 0 ∷ 0 ∷ 9 ∷ []))
    × (read_of kind (with ns) nine ≡ left 255 area second out nine)

abbrev none : List ℕ
none = 0 ∷ 0 ∷ 0 ∷ 0 ∷ 0 ∷ 0 ∷ 0 ∷ 0 ∷ []

pub vectors :
    Not 0 four nine
    × Not 11 four nine
    × Not 18446744073709551615 four nine
    × Not 1 (512 ∷ 0 ∷ 8 ∷ []) nine
    × Not 1 four (1 ∷ 2 ∷ 3 ∷ 4 ∷ 5 ∷ 6 ∷ 7 ∷ [])
    × Not 3 four nine
    × Not 7 (four ++ 2 ∷ []) nine
    × Not 8 (four ++ 18446744073709551615 ∷ []) nine
    × Not 9 (four ++ 1 ∷ 0 ∷ 0 ∷ 2 ∷ 1 ∷ 0 ∷ 0 ∷ []) nine
    × Not 10 (four ++ 0 ∷ 1 ∷ 3 ∷ 0 ∷ 0 ∷ 0 ∷ []) nine
    -- five bytes have no measures
    × Both 1 four 1 out none
    × Both 2 (four ++ 5 ∷ []) 1 out none
    × Both 3 (four ++ 5 ∷ []) 1 out none
    × Refused 4 four
    × Refused 5 four
    × Refused 6 four
    × Both 7 (four ++ 1 ∷ []) 1 out none
    × Both 8 (four ++ 0 ∷ []) 1 out none
    -- a step in a run, up and down; from the end there is none
    × Both 9 (four ++ 1 ∷ 0 ∷ 0 ∷ 2 ∷ 1 ∷ 0 ∷ 0 ∷ 0 ∷ []) 0 out (0 ∷ 2 ∷ 2 ∷ 0 ∷ 0 ∷ 0 ∷ 0 ∷ 0 ∷ [])
    × Both 9 (four ++ 0 ∷ 0 ∷ 3 ∷ 2 ∷ 1 ∷ 0 ∷ 0 ∷ 0 ∷ []) 0 out (0 ∷ 1 ∷ 2 ∷ 0 ∷ 0 ∷ 0 ∷ 0 ∷ 0 ∷ [])
    × Both 9 (four ++ 1 ∷ 0 ∷ 0 ∷ 0 ∷ 0 ∷ 0 ∷ 0 ∷ 0 ∷ []) 0 out none
    -- a record of two bytes, one that the output is too short for, none at the end, none past the area
    × Both 10 (four ++ 0 ∷ 1 ∷ 2 ∷ 0 ∷ 0 ∷ 0 ∷ 0 ∷ []) 0 (11 ∷ 12 ∷ 32 ∷ []) (2 ∷ 0 ∷ 0 ∷ 0 ∷ 0 ∷ 0 ∷ 0 ∷ 0 ∷ [])
    × Both 10 (four ++ 0 ∷ 1 ∷ 4 ∷ 0 ∷ 0 ∷ 0 ∷ 0 ∷ []) 8 out (4 ∷ 0 ∷ 0 ∷ 0 ∷ 0 ∷ 0 ∷ 0 ∷ 0 ∷ [])
    × Both 10 (four ++ 0 ∷ 0 ∷ 0 ∷ 0 ∷ 0 ∷ 0 ∷ 0 ∷ []) 0 out none
    × Both 10 (four ++ 0 ∷ 4 ∷ 2 ∷ 0 ∷ 0 ∷ 0 ∷ 0 ∷ []) 0 out none
unfolding splice any_below permitted_size fine judged_of check_of get_of get_at_of change_of walk_from_of next_of
vectors = (
  (refl, refl),
  (refl, refl),
  (refl, refl),
  (refl, refl),
  (refl, refl),
  (refl, refl),
  (refl, refl),
  (refl, refl),
  (refl, refl),
  (refl, refl),
  (refl, refl),
  (refl, refl),
  (refl, refl),
  (refl, refl),
  (refl, refl),
  (refl, refl),
  (refl, refl),
  (refl, refl),
  (refl, refl),
  (refl, refl),
  (refl, refl),
  (refl, refl),
  (refl, refl),
  (refl, refl),
  (refl, refl),
)
