-- What each request, asked through the door, answers and leaves: its number, both areas, the output and the values.
use Rattle.std.specs.Prelude.{ℕ, ◌+◌, Bool, List, [], ◌∷◌, length, get_or, eqb, Err, Option, Some, None}
use Rattle.fields.specs.Bytes.{splice}
use Rattle.measures.specs.Judgement.{asked}
use Rattle.measures.specs.declared.Measures.{Measures}
use Rattle.measures.specs.declared.Numbers.{Numbers}
use Rattle.requests.specs.Reading.{Given, hand_out, check_of, get_of, get_at_of}
use Rattle.requests.specs.Changing.{Outcome, insert_of, update_of, erase_of}
use Rattle.requests.specs.declared.Refusal.TheVariants.{Absent}
use Rattle.opening.specs.AidOpened.{opened_of}
use Rattle.walk.specs.AidSteps.{next_of, record_of}
use Rattle.walk.specs.AidStands.{ended_by, begun_from}
use Rattle.walk.specs.declared.Place.{Place}
use Rattle.ask.specs.declared.Told.{Told}
use Rattle.ask.specs.declared.ReadKind.{ReadKind}
use Rattle.ask.specs.declared.ReadKind.TheVariants.{Check, Get, GetAt, WalkFrom, WalkEnd, Step, Record}
use Rattle.ask.specs.declared.ChangeKind.{ChangeKind}
use Rattle.ask.specs.declared.ChangeKind.TheVariants.{Insert, Update, Erase}
use Rattle.ask.specs.declared.Asked.{Asked}
use Rattle.ask.specs.declared.Asked.TheVariants.{Reads, Changes}
use Rattle.ask.specs.Told.{told_of, place_told, begun_told, listed}
use Rattle.ask.specs.Kinds.{asked_of}

-- ---- what is asked with

pub record Question : Type 0 where
  pub numbers : List ℕ
  pub area : List ℕ
  pub second : List ℕ
  pub given : List ℕ
  pub out : List ℕ

abbrev pub question : List ℕ → List ℕ → List ℕ → List ℕ → List ℕ → Question
question numbers area second given out =
    record { numbers = numbers; area = area; second = second; given = given; out = out }

-- the number at a place, 0 past the last
abbrev pub number_at : Question → ℕ → ℕ
number_at q i = get_or q.numbers i 0

abbrev pub numbers_in : List ℕ → Numbers
numbers_in ns = record { size = get_or ns 0 0; offset = get_or ns 1 0; key = get_or ns 2 0; most = get_or ns 3 0 }

abbrev pub measures_in : Question → Measures
measures_in q = asked (numbers_in q.numbers)

-- a direction: 1 is upwards
abbrev pub upwards : Question → Bool
upwards q = eqb (number_at q 4) 1

-- a walk's place: seven numbers from one on
abbrev pub place_from : List ℕ → ℕ → Place
place_from ns i =
    record {
      entry = get_or ns i 0;
      start = get_or ns (i + 1) 0;
      length = get_or ns (i + 2) 0;
      left = get_or ns (i + 3) 0;
      at = get_or ns (i + 4) 0;
      right = get_or ns (i + 5) 0;
      end = get_or ns (i + 6) 0;
    }

-- the record at a place, handed out as a get does it: at the end, and at a place that does not lie in the area, 0 bytes
abbrev pub record_given : List ℕ → Place → List ℕ → Given
record_given area p out = hand_out (Err Absent) (record_of area p ∷ []) out

-- ---- what a request makes

pub record Made : Type 0 where
  pub told : Told
  pub area : List ℕ
  pub second : List ℕ
  pub out : List ℕ

abbrev pub made : Told → List ℕ → List ℕ → List ℕ → Made
made t area second out = record { told = t; area = area; second = second; out = out }

-- one that only tells leaves all three; one that gives, the areas; one that changes, the second area and the output
abbrev pub telling : Told → Question → Made
telling t q = made t q.area q.second q.out

abbrev pub giving : Given → Question → Made
giving g q = made (told_of g.answer) q.area q.second g.output

abbrev pub changing : Outcome → Question → Made
changing o q = made (told_of o.answer) o.area q.second q.out

abbrev pub read_made : ReadKind → Question → Made
read_made Check q = telling (told_of (check_of (measures_in q) q.area)) q
read_made Get q = giving (get_of (measures_in q) q.area q.given q.out) q
read_made GetAt q = giving (get_at_of (measures_in q) q.area (number_at q 4) q.out) q
read_made WalkFrom q = telling (begun_told (begun_from (measures_in q) q.area (upwards q) q.given)) q
read_made WalkEnd q = telling (begun_told (ended_by q.area (upwards q) (opened_of (measures_in q) q.area))) q
read_made Step q = telling (place_told (next_of q.area (number_at q 0) (upwards q) (place_from q.numbers 5))) q
read_made Record q = giving (record_given q.area (place_from q.numbers 4) q.out) q

abbrev pub change_made : ChangeKind → Question → Made
change_made Insert q = changing (insert_of (measures_in q) q.area q.given) q
change_made Update q = changing (update_of (measures_in q) q.area q.given) q
change_made Erase q = changing (erase_of (measures_in q) q.area q.given) q

-- ---- what a door leaves

pub record Left : Type 0 where
  pub number : ℕ
  pub area : List ℕ
  pub second : List ℕ
  pub out : List ℕ
  pub values : List ℕ

abbrev pub left : ℕ → List ℕ → List ℕ → List ℕ → List ℕ → Left
left r area second out values = record { number = r; area = area; second = second; out = out; values = values }

-- not served: a number that no document uses, and all as it was
abbrev pub not_served : Question → List ℕ → Left
not_served q values = left 255 q.area q.second q.out values

-- served: the request's number, its eight values at the front, and the rest as it makes it
abbrev pub served : Made → List ℕ → Left
served m values = left m.told.number m.area m.second m.out (splice values 0 (listed m.told))

-- the door for requests that only read
abbrev pub read_asked : Option Asked → Question → List ℕ → Left
read_asked (Some (Reads k)) q values = served (read_made k q) values
read_asked (Some (Changes k)) q values = not_served q values
read_asked None q values = not_served q values

abbrev pub read_of : ℕ → Question → List ℕ → Left
read_of kind q values = read_asked (asked_of kind q.numbers (length values)) q values

-- the door for every request
abbrev pub ask_asked : Option Asked → Question → List ℕ → Left
ask_asked (Some (Reads k)) q values = served (read_made k q) values
ask_asked (Some (Changes k)) q values = served (change_made k q) values
ask_asked None q values = not_served q values

abbrev pub ask_of : ℕ → Question → List ℕ → Left
ask_of kind q values = ask_asked (asked_of kind q.numbers (length values)) q values
