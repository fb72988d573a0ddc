-- Aids: what a change that was carried out is answered with, and what a request comes to in a sound area.
use Rattle.std.specs.Prelude.{ℕ, ◌≡◌, List, Result, Ok, Err}
use Rattle.measures.specs.declared.Measures.{Measures}
use Rattle.area.specs.Content.{Content}
use Rattle.area.specs.Reading.{read_area, whole}
use Rattle.change.specs.declared.Full.{Full}
use Rattle.change.specs.declared.Full.TheVariants as full
use Rattle.change.specs.declared.Written.{Written}
use Rattle.requests.specs.Reading.{Given, Gives}
use Rattle.requests.specs.Changing.{Outcome, Makes}
use Rattle.requests.specs.Answers.{Answer}
use Rattle.requests.specs.declared.Done.TheVariants.{Changed}
use Rattle.requests.specs.declared.Refusal.TheVariants.{NoInterval, NoRoom}

abbrev pub answer_for : Result Written Full → Answer
answer_for (Ok w) = Ok (Changed w)
answer_for (Err full.NoInterval) = Err NoInterval
answer_for (Err full.NoRoom) = Err NoRoom

-- what a get gives, and what a change comes to, is said of the content that the area reads as: there is one at most
abbrev pub GivesIn : Measures → ℕ → List ℕ → (Content → Given) → Answer → List ℕ → Type 0
GivesIn m n area given r output = (c : Content) → read_area m n area ≡ whole c → Gives (given c) r output

abbrev pub MakesIn : Measures → ℕ → List ℕ → (Content → Outcome) → Answer → List ℕ → Type 0
MakesIn m n area outcome r after = (c : Content) → read_area m n area ≡ whole c → Makes (outcome c) r after
