-- An answer as one number, for programs in C: document 02, L4.
use Rattle.std.specs.Prelude.{ℕ, ◌+◌, ◌*◌, ◌/◌, ◌%◌, ◌≤◌, ◌<◌, ◌≡◌, Ok, Err}
use Rattle.measures.specs.Judgement.{limit}
use Rattle.requests.specs.Answers.{number_of}
use Rattle.requests.specs.Answers.{Answer}
use Rattle.requests.specs.declared.Done.TheVariants.{Changed, Found, Intact}
use Rattle.requests.specs.declared.Refusal.TheVariants.{Outside, Damaged, WrongLength, Present, Absent, NoInterval, NoRoom, Short, NoRecord}

-- the value that is at most 4,096: the place of damage, or how many intervals are free
abbrev pub small_of : Answer → ℕ
small_of (Ok (Changed w)) = 0
small_of (Ok (Found length)) = 0
small_of (Ok (Intact records free)) = free
small_of (Err (Damaged place)) = place
small_of (Err (Short needed)) = 0
small_of (Err Outside) = 0
small_of (Err WrongLength) = 0
small_of (Err Present) = 0
small_of (Err Absent) = 0
small_of (Err NoInterval) = 0
small_of (Err NoRoom) = 0
small_of (Err NoRecord) = 0

-- the one that may be more: a record's length, the length needed, or how many records there are
abbrev pub large_of : Answer → ℕ
large_of (Ok (Changed w)) = 0
large_of (Ok (Found length)) = length
large_of (Ok (Intact records free)) = records
large_of (Err (Damaged place)) = 0
large_of (Err (Short needed)) = needed
large_of (Err Outside) = 0
large_of (Err WrongLength) = 0
large_of (Err Present) = 0
large_of (Err Absent) = 0
large_of (Err NoInterval) = 0
large_of (Err NoRoom) = 0
large_of (Err NoRecord) = 0

-- the number in the lowest byte, the small value in the two after it, the large one above them
unfoldable pub word_of : Answer → ℕ
word_of a = number_of a + 256 * small_of a + 16777216 * large_of a

-- A word taken apart again: its lowest byte is the answer's number, the next two are the small value, what lies above them is the large one.
pub record Apart (word : ℕ) (a : Answer) : Type 0 where
  pub number : word % 256 ≡ number_of a
  pub small : word / 256 % 65536 ≡ small_of a
  pub large : word / 16777216 ≡ large_of a

-- An answer whose values have room in the word. 2 ^ 27 is 4,096 × 32,768, so that the word stays below 2 ^ 51. All answers of a check and of a get by key
-- are such (proofs/Bounded.antt, check-small, get-small).
pub record Small (a : Answer) : Type 0 where
  pub few : small_of a ≤ limit
  pub many : large_of a < 134217728
