-- What it is to find a record by its key or by its address: document 01, 'What each number tells the depot'. Said over the reading, without a search.
use Rattle.std.specs.Prelude.{ℕ, ◌+◌, ◌*◌, ◌≤◌, ◌<◌, ◌≡◌, length, get_or, drop, Ok, Err}
use mathlib.Core.List.{List, [], ◌++◌, Memᴰ}
use Rattle.measures.specs.declared.Measures.{Measures}
use Rattle.interval.specs.Records.{key_of}
use Rattle.interval.specs.Search.{start_of}
use Rattle.area.specs.Content.{Filled}
use Rattle.requests.specs.Reading.{Given, refused}
use Rattle.requests.specs.Answers.{Answer}
use Rattle.requests.specs.declared.Done.TheVariants.{Found}
use Rattle.requests.specs.declared.Refusal.TheVariants.{Short}

-- r is one of the records and has the key
pub record Keyed (m : Measures) (key : List ℕ) (rs : List (List ℕ)) (r : List ℕ) : Type 0 where
  pub among : Memᴰ r rs
  pub has : key_of m r ≡ key

-- r is a record of an entry's interval, and its first byte has the address: base + number × S + displacement
pub record Lies (m : Measures) (base address : ℕ) (fs : List Filled) (r : List ℕ) : Type 0 where
  pub entry : Filled
  pub among : Memᴰ entry fs
  pub ordinal : ℕ
  pub inside : ordinal < length entry.records
  pub there : get_or entry.records ordinal [] ≡ r
  pub lies : address ≡ base + entry.num * m.size + start_of ordinal entry.records

-- What a get gives, exactly: a wanted record that the output is long enough for is handed out at its front, and the output stays behind it; where the output is
-- too short the length needed is told; where there is no wanted record that is told. And each of these answers only then. Refusals leave the output.
pub record Finds (Wanted : List ℕ → Type 0) (none : Answer) (out : List ℕ) (g : Given) : Type 0 where
  pub found : (r : List ℕ) → Wanted r → length r ≤ length out → g ≡ record { answer = (Ok (Found (length r))); output = r ++ drop (length r) out }
  pub short : (r : List ℕ) → Wanted r → length out < length r → g ≡ refused (Err (Short (length r))) out
  pub absent : ((r : List ℕ) → Wanted r → ⊥) → g ≡ refused none out
  pub found-only : (l : ℕ) → g.answer ≡ (Ok (Found l)) → (r : List ℕ) × Wanted r × (l ≡ length r) × (length r ≤ length out)
  pub short-only : (l : ℕ) → g.answer ≡ (Err (Short l)) → (r : List ℕ) × Wanted r × (l ≡ length r) × (length out < length r)
  pub absent-only : g.answer ≡ none → (r : List ℕ) → Wanted r → ⊥
