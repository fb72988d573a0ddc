-- A refusal leaves everything as it was: demand 1; document 01, 'How far each statement must reach'. Said of any result that a request's contract allows.
use Rattle.std.specs.Prelude.{ℕ, ◌≡◌, List}
use Rattle.measures.specs.declared.Measures.{Measures}
use Rattle.requests.specs.Answers.{Answer, number_of}
use Rattle.requests.specs.Reading.{get_of, get_at_of, Gives}
use Rattle.requests.specs.Changing.{insert_of, update_of, erase_of, Makes}

-- the answer's number is not 0
abbrev pub Refusal : Answer → Type 0
Refusal a = number_of a ≡ 0 → ⊥

-- Whatever the measures, the area and what is asked: a refused change has changed no byte of the area, a refused get none of the output.
-- (A get and a check are lent no area to change.)
pub record RefusedHarmless (m : Measures) (area : List ℕ) : Type 0 where
  pub insert : (r : List ℕ) (a : Answer) (after : List ℕ) → Makes (insert_of m area r) a after → Refusal a → after ≡ area
  pub update : (r : List ℕ) (a : Answer) (after : List ℕ) → Makes (update_of m area r) a after → Refusal a → after ≡ area
  pub erase : (wanted : List ℕ) (a : Answer) (after : List ℕ)
      → Makes (erase_of m area wanted) a after → Refusal a → after ≡ area
  pub get : (wanted out : List ℕ) (a : Answer) (after : List ℕ)
      → Gives (get_of m area wanted out) a after → Refusal a → after ≡ out
  pub get-at : (address : ℕ) (out : List ℕ) (a : Answer) (after : List ℕ)
      → Gives (get_at_of m area address out) a after → Refusal a → after ≡ out
