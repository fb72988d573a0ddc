-- A word can be taken apart again.
use Rattle.std.specs.Prelude.{Ok, Err}
use Prim.Native.Nat.{◌<◌}
use native.Mathlib.Omega.{arith}
use Rattle.requests.specs.Answers.{number_of}
use Rattle.requests.specs.Words.{small_of, word_of, Apart}
use Rattle.requests.specs.Answers.{Answer}
use Rattle.requests.specs.declared.Done.TheVariants.{Changed, Found, Intact}
use Rattle.requests.specs.declared.Refusal.TheVariants.{Outside, Damaged, WrongLength, Present, Absent, NoInterval, NoRoom, Short, NoRecord}

pub number_small : (a : Answer) → number_of a < 256
number_small (Ok (Changed w)) = omega arith
number_small (Ok (Found length)) = omega arith
number_small (Ok (Intact records free)) = omega arith
number_small (Err (Damaged place)) = omega arith
number_small (Err (Short needed)) = omega arith
number_small (Err Outside) = omega arith
number_small (Err WrongLength) = omega arith
number_small (Err Present) = omega arith
number_small (Err Absent) = omega arith
number_small (Err NoInterval) = omega arith
number_small (Err NoRoom) = omega arith
number_small (Err NoRecord) = omega arith

-- its lowest byte is the number, the next two the small value, what lies above them the large one
pub word-apart : (a : Answer) → small_of a < 65536 → Apart (word_of a) a
unfolding word_of
word-apart a h = let n = number_small a in record { number = omega arith; small = omega arith; large = omega arith }
