-- Request lines served one after another on one area, each with a result that its contract allows, and the requests of the register that they stand
-- for: document 01, 'The depot program'.
use Rattle.std.specs.Prelude.{ℕ, ◌≡◌, List, [], ◌∷◌, ◌++◌, Some, None, Option}
use Rattle.fields.specs.Bytes.{Octets}
use Rattle.requests.specs.Model.{Change}
use Rattle.requests.specs.Model as model
use Rattle.requests.specs.Answers.{Answer}
use Rattle.promises.specs.Trace.{Step}
use Rattle.requests.specs.Allowed as asked
use Rattle.lines.specs.Lines.{Command, command_of, bad, get, insert, update, erase, served_of, Serves}

-- one line: its bytes, the output that is lent, and what comes back
pub record Turn : Type 0 where
  pub bytes : List ℕ
  pub lent : List ℕ
  pub line : Option Answer
  pub area : List ℕ
  pub output : List ℕ

-- each line is served on the area that the one before left
abbrev pub Day : List ℕ → List Turn → Type 0
Day area [] = Unit {0}
Day area (t ∷ ts) = Octets t.bytes × Serves (served_of area t.bytes t.lent) t.line t.area t.output × Day t.area ts

-- the area after the last line
abbrev pub evening : List ℕ → List Turn → List ℕ
evening area [] = area
evening area (t ∷ ts) = evening t.area ts

-- some lines lead from an area to another: what a program says that serves lines it does not know beforehand
pub record Leads (before after : List ℕ) : Type 0 where
  pub turns : List Turn
  pub day : Day before turns
  pub leaves : after ≡ evening before turns

abbrev pub changing : Change → Answer → Turn → Step
changing ch a t = record { request = asked.changes ch; answer = a; area = t.area; output = t.output }

-- the request of the register that a line stands for; a bad line stands for none
abbrev pub step_for : Command → Option Answer → Turn → List Step
step_for bad l t = []
step_for (get key) None t = []
step_for (get key) (Some a) t = record { request = asked.get key t.lent; answer = a; area = t.area; output = t.output } ∷ []
step_for (insert r) None t = []
step_for (insert r) (Some a) t = changing (model.insert r) a t ∷ []
step_for (update r) None t = []
step_for (update r) (Some a) t = changing (model.update r) a t ∷ []
step_for (erase key) None t = []
step_for (erase key) (Some a) t = changing (model.erase key) a t ∷ []

abbrev pub steps_of : List Turn → List Step
steps_of [] = []
steps_of (t ∷ ts) = step_for (command_of t.bytes) t.line t ++ steps_of ts
