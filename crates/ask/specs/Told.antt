-- An answer as a number and eight values: document 01, 'What each number tells the depot'.
use Rattle.std.specs.Prelude.{ℕ, List, [], ◌∷◌, get_or, Ok, Err}
use Rattle.requests.specs.Answers.{number_of, values_of, Answer}
use Rattle.walk.specs.declared.Place.{Place}
use Rattle.walk.specs.AidGives.{Begun}
use Rattle.ask.specs.declared.Told.{Told}

abbrev pub eight : ℕ → ℕ → ℕ → ℕ → ℕ → ℕ → ℕ → ℕ → ℕ → Told
eight n a b c d e f g h =
    record {
      number = n;
      first = a;
      second = b;
      third = c;
      fourth = d;
      fifth = e;
      sixth = f;
      seventh = g;
      eighth = h;
    }

-- the values in their order, 0 where there are fewer
abbrev pub eight_of : ℕ → List ℕ → Told
eight_of n vs =
    eight n (get_or vs 0 0) (get_or vs 1 0) (get_or vs 2 0) (get_or vs 3 0)
    (get_or vs 4 0) (get_or vs 5 0) (get_or vs 6 0) (get_or vs 7 0)

abbrev pub told_of : Answer → Told
told_of a = eight_of (number_of a) (values_of a)

-- where a walk stands
abbrev pub place_told : Place → Told
place_told p = eight 0 p.entry p.start p.length p.left p.at p.right p.end 0

-- a walk that was begun: its place, or the refusal
abbrev pub begun_told : Begun → Told
begun_told (Ok p) = place_told p
begun_told (Err refusal) = told_of (Err refusal)

abbrev pub listed : Told → List ℕ
listed t =
    t.first ∷ t.second ∷ t.third ∷ t.fourth ∷ t.fifth ∷ t.sixth ∷ t.seventh ∷ t.eighth ∷ []
