-- What a get leaves for a program in C: document 02, L4.
use Rattle.std.specs.Prelude.{ℕ, ◌/◌, ◌%◌, ◌≤◌, ◌<◌, ◌≡◌, List, ◌++◌, length, drop}
use Rattle.requests.specs.Reading.{Given}
use Rattle.requests.specs.Words.{word_of}

-- its answer as one number, and the whole output
pub record GivesWord (g : Given) (word : ℕ) (output : List ℕ) : Type 0 where
  pub word-is : word ≡ word_of g.answer
  pub outputs : output ≡ g.output

-- What a get has found, as that program reads it from the word, whose lowest byte is the number and whose fourth and
-- later bytes are a length, and from the output. Where the output is long enough for a wanted record: 0, its length,
-- the record at the output's front, and the output as it was behind it. Where it is too short: 8, the length needed,
-- and the output as it was. Where there is no wanted record: 5, and the output as it was. And each of them only then.
pub record FindsWord (Wanted : List ℕ → Type 0) (lent : List ℕ) (word : ℕ) (output : List ℕ) : Type 0 where
  pub found : (r : List ℕ) → Wanted r → length r ≤ length lent
      → (word % 256 ≡ 0) × (word / 16777216 ≡ length r) × (output ≡ r ++ drop (length r) lent)
  pub short : (r : List ℕ) → Wanted r → length lent < length r
      → (word % 256 ≡ 8) × (word / 16777216 ≡ length r) × (output ≡ lent)
  pub absent : ((r : List ℕ) → Wanted r → ⊥) → (word % 256 ≡ 5) × (output ≡ lent)
  pub found-only : word % 256 ≡ 0 → (r : List ℕ) × Wanted r × (length r ≤ length lent)
  pub short-only : word % 256 ≡ 8 → (r : List ℕ) × Wanted r × (length lent < length r)
  pub absent-only : word % 256 ≡ 5 → (r : List ℕ) → Wanted r → ⊥
