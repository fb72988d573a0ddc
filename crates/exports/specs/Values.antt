-- An answer as a program in C reads it, a number and up to five values: document 01, 'What each number tells the depot'; document 02, L9.
use Rattle.std.specs.Prelude.{◌≡◌, ℕ, Option, Some, None, List, length, slice_index}
use Rattle.measures.specs.Judgement.{measures}
use Rattle.interval.specs.Reading.{records_in}
use Rattle.interval.specs.Search.{place_of}
use Rattle.interval.specs.declared.Found.{Found}
use Rattle.interval.specs.declared.Found.TheVariants.{At, Gap}
use Rattle.index_read.specs.declared.Index.{Index}
use Rattle.requests.specs.Answers.{number_of, values_of, Answer}
use Rattle.requests.specs.Reading as reading
use Rattle.requests.specs.Changing.{Outcome}
use Rattle.exports.specs.declared.Values.{Values}

-- a number and two values
abbrev pub values : ℕ → ℕ → ℕ → Values
values number first second = record { number = number; first = first; second = second; third = 0; fourth = 0; fifth = 0 }

-- the number, and the values in their order, 0 where there are fewer
abbrev pub values_told : Answer → Values
values_told a =
    let vs = values_of a in
    record { number = number_of a; first = slice_index vs 0; second = slice_index vs 1; third = slice_index vs 2; fourth = slice_index vs 3; fifth = slice_index vs 4 }

-- what a check leaves: its number and both values
pub record Told (a : Answer) (r first second : ℕ) : Type 0 where
  pub number : r ≡ number_of a
  pub first-is : first ≡ slice_index (values_of a) 0
  pub second_is : second ≡ slice_index (values_of a) 1

-- what a get leaves: its number, its value, the whole output
pub record Given (g : reading.Given) (r value : ℕ) (output : List ℕ) : Type 0 where
  pub number : r ≡ number_of g.answer
  pub value-is : value ≡ slice_index (values_of g.answer) 0
  pub outputs : output ≡ g.output

-- what a change leaves: its number, how many intervals it wrote, their buffer numbers, 0 where there are fewer, and the whole area
pub record Made (o : Outcome) (r value first second third fourth : ℕ) (area : List ℕ) : Type 0 where
  pub number : r ≡ number_of o.answer
  pub value-is : value ≡ slice_index (values_of o.answer) 0
  pub first-is : first ≡ slice_index (values_of o.answer) 1
  pub second_is : second ≡ slice_index (values_of o.answer) 2
  pub third-is : third ≡ slice_index (values_of o.answer) 3
  pub fourth-is : fourth ≡ slice_index (values_of o.answer) 4
  pub leaves : area ≡ o.area

-- a key's place: 1 for a record, 0 for a gap, with the ordinal and the start
abbrev pub place_told : Found → Values
place_told (At i start len) = values 1 i start
place_told (Gap i start) = values 0 i start

-- that of a key among the records of an interval
abbrev pub place_in : List ℕ → ℕ → ℕ → ℕ → List ℕ → Values
place_in ci offset key most wanted = place_told (place_of (measures (length ci) offset key most) wanted (records_in ci))

-- a record's verdict: 1 with its free numbers and entries, or 0
abbrev pub index_told : Option Index → Values
index_told (Some i) = values 1 i.free i.entries
index_told None = values 0 0 0
