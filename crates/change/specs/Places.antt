-- Which intervals a change stores, what it leaves there, how many it writes and by which numbers it tells them: document 01, 'Dividing an interval' and 'What
-- each number tells the depot', number 0; document 02, L9.
use Rattle.std.specs.Prelude.{ℕ, ◌+◌, ◌-◌, ◌*◌, ◌≤◌, ◌<◌, ◌≡◌, ◌⊎◌, ◌↔◌, length, ltb}
use mathlib.Core.List.{List, [], ◌∷◌, ◌++◌, Memᴰ, map}
use Rattle.fields.specs.Choice.{pick}
use Rattle.fields.specs.Bytes.{part}
use Rattle.measures.specs.declared.Measures.{Measures}
use Rattle.interval.specs.Layout.{form}
use Rattle.area.specs.Content.{Content, data_in}
use Rattle.change.specs.Stores.{Store}
use Rattle.change.specs.Written.{stored_numbers, written_of, numbers_of}
use Rattle.change.specs.Parts.{entry_at, taken}

-- ---- stores

-- the places in the buffer that are stored
abbrev pub places_of : List Store → List ℕ
places_of ss = map (λ (s : Store). s.at) ss

-- no number of the list stands in it twice
abbrev pub Distinct : List ℕ → Type 0
Distinct [] = Unit {0}
Distinct (k ∷ ks) = (Memᴰ k ks → ⊥) × Distinct ks

-- each of these stores lies in the area; S is the size of an interval
abbrev pub AllThere : ℕ → List ℕ → List Store → Type 0
AllThere S area [] = Unit {0}
AllThere S area (s ∷ ss) = (part area (s.at * S) S ≡ s.bytes) × AllThere S area ss

-- each of these data intervals holds its part in the writer's form
abbrev pub AllWritten : Measures → List ℕ → List ℕ → List (List (List ℕ)) → Type 0
AllWritten m area [] [] = Unit {0}
AllWritten m area [] (p ∷ ps) = ⊥
AllWritten m area (k ∷ ks) [] = ⊥
AllWritten m area (k ∷ ks) (p ∷ ps) = (data_in m area k ≡ form m.size p) × AllWritten m area ks ps

-- ---- the places that a change names

-- the place in the buffer of each of these data intervals
abbrev pub nexts : List ℕ → List ℕ
nexts ks = map (λ (k : ℕ). k + 1) ks

-- The old interval; and where there are several parts, those taken and the index record besides. i is the entry, counted from 0.
abbrev pub named_for : Content → ℕ → ℕ → List ℕ
named_for c i parts =
    pick (ltb 1 parts) (nexts (taken (parts - 1) c.free) ++ (0 ∷ ((entry_at c.filled i).num + 1) ∷ [])) (((entry_at c.filled i).num + 1) ∷ [])

-- Stores between an area before and an area after. They name these places, each one of the intervals 0 to n and none twice; each store is there
-- afterwards, and every interval that is not among them is byte for byte as it was.
pub record OnlyNamed (S n : ℕ) (before : List ℕ) (ss : List Store) (after places : List ℕ) : Type 0 where
  pub named : places_of ss ≡ places
  pub inside : (j : ℕ) → Memᴰ j places → j ≤ n
  pub apart : Distinct places
  pub there : AllThere S after ss
  pub others : (j : ℕ) → (Memᴰ j places → ⊥) → part after (j * S) S ≡ part before (j * S) S

-- How many intervals are written for so many parts, and how many are free before and after. One part: the old interval alone. Several: one each, and
-- the index record. Each part but the first takes a free interval.
pub record Counted (parts written before after : ℕ) : Type 0 where
  pub some : 1 ≤ parts
  pub few : parts ≤ 3
  pub stays : parts ≡ 1 → written ≡ 1
  pub divides : 1 < parts → written ≡ 2 + (parts - 1)
  pub free : after + (parts - 1) ≡ before

-- The buffer numbers of stores: as many as the stores, four at the most, so that an answer carries them all. The index record is among them exactly if fewer
-- intervals are free after than before; a data interval exactly if it is the old one, or was free and no longer is.
pub record Numbered (old : ℕ) (before after : List ℕ) (ss : List Store) : Type 0 where
  pub many : length (stored_numbers ss) ≡ length ss
  pub most : length (stored_numbers ss) ≤ 4
  pub carried : numbers_of (written_of ss) ≡ stored_numbers ss
  pub index : Memᴰ 0 (stored_numbers ss) ↔ (length after < length before)
  pub intervals : (i : ℕ) → Memᴰ (i + 1) (stored_numbers ss) ↔ ((i ≡ old) ⊎ (Memᴰ i before × (Memᴰ i after → ⊥)))
