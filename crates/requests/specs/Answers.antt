-- Document 01's number for each kind of answer, and the values that come back with it: 'What each number tells the depot'.
use Rattle.std.specs.Prelude.{ℕ, List, [], ◌∷◌, Result, Ok, Err}
use Rattle.change.specs.Written.{numbers_of}
use Rattle.requests.specs.declared.Done.{Done}
use Rattle.requests.specs.declared.Refusal.{Refusal}
use Rattle.requests.specs.declared.Done.TheVariants.{Changed, Found, Intact}
use Rattle.requests.specs.declared.Refusal.TheVariants.{Outside, Damaged, WrongLength, Present, Absent, NoInterval, NoRoom, Short, NoRecord}

-- what every request answers: what it tells, or why it is refused
abbrev pub Answer : Type 0
Answer = Result Done Refusal

abbrev pub number_of : Answer → ℕ
number_of (Ok (Changed w)) = 0
number_of (Ok (Found length)) = 0
number_of (Ok (Intact records free)) = 0
number_of (Err Outside) = 1
number_of (Err (Damaged place)) = 2
number_of (Err WrongLength) = 3
number_of (Err Present) = 4
number_of (Err Absent) = 5
number_of (Err NoInterval) = 6
number_of (Err NoRoom) = 7
number_of (Err (Short needed)) = 8
number_of (Err NoRecord) = 9

-- how many intervals were written, and their buffer numbers; the record's length; records and free intervals; the place; the length needed; nothing with the other refusals
abbrev pub values_of : Answer → List ℕ
values_of (Ok (Changed w)) = w.count ∷ numbers_of w
values_of (Ok (Found length)) = length ∷ []
values_of (Ok (Intact records free)) = records ∷ free ∷ []
values_of (Err Outside) = []
values_of (Err (Damaged place)) = place ∷ []
values_of (Err WrongLength) = []
values_of (Err Present) = []
values_of (Err Absent) = []
values_of (Err NoInterval) = []
values_of (Err NoRoom) = []
values_of (Err (Short needed)) = needed ∷ []
values_of (Err NoRecord) = []
