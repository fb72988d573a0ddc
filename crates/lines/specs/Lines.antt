-- A request line of 64 bytes, what it asks for, and what serving it comes to at the depot's measures: document 01, 'The depot program'.
use Rattle.std.specs.Prelude.{ℕ, ◌≡◌, List, length, get_or, eqb, leb, Some, None, Option}
use Rattle.fields.specs.Choice.{pick, both}
use Rattle.fields.specs.Bytes.{part}
use Rattle.area.specs.Example.{depot}
use Rattle.requests.specs.Answers.{Answer, number_of}
use Rattle.requests.specs.Reading.{Given, get_of}
use Rattle.requests.specs.Changing.{Outcome, insert_of, update_of, erase_of}

-- the request as data: the bytes are a key or a record
pub data Command : Type 0 where
  bad : Command
  get : List ℕ → Command
  insert : List ℕ → Command
  update : List ℕ → Command
  erase : List ℕ → Command

-- the letters G, I, U and E in ASCII, capitals only
abbrev pub by_letter : ℕ → List ℕ → Command
by_letter letter bytes =
    pick (eqb letter 71) (get bytes) (pick (eqb letter 73) (insert bytes) (pick (eqb letter 85) (update bytes) (pick (eqb letter 69) (erase bytes) bad)))

-- letter, length, bytes: 62 bytes are left for them in a line of 64
unfoldable pub command_of : List ℕ → Command
command_of line =
    pick (both (eqb (length line) 64) (leb (get_or line 1 0) 62)) (by_letter (get_or line 0 0) (part line 2 (get_or line 1 0))) bad

-- what a line comes to, with the area and the output afterwards
pub record Served : Type 0 where
  pub line : Option Answer
  pub area : List ℕ
  pub output : List ℕ

-- a get leaves the area
abbrev pub after_get : List ℕ → Given → Served
after_get area g = record { line = Some g.answer; area = area; output = g.output }

-- a change leaves the output
abbrev pub after_change : List ℕ → Outcome → Served
after_change out o = record { line = Some o.answer; area = o.area; output = out }

-- the register's own meanings at the depot's S 512, offset 0, K 8, M 60; a bad line leaves everything
abbrev pub serve : Command → List ℕ → List ℕ → Served
serve bad area out = record { line = None; area = area; output = out }
serve (get key) area out = after_get area (get_of depot area key out)
serve (insert r) area out = after_change out (insert_of depot area r)
serve (update r) area out = after_change out (update_of depot area r)
serve (erase key) area out = after_change out (erase_of depot area key)

unfoldable pub served_of : List ℕ → List ℕ → List ℕ → Served
served_of area request out = serve (command_of request) area out

-- the contract of a line served: what it comes to, the whole area and the whole output at exit
pub record Serves (served : Served) (line : Option Answer) (area output : List ℕ) : Type 0 where
  pub tells : line ≡ served.line
  pub leaves : area ≡ served.area
  pub outputs : output ≡ served.output

-- ten is no number of the register's: it stands for a line that asks nothing
abbrev pub line_number : Option Answer → ℕ
line_number None = 10
line_number (Some answer) = number_of answer
