-- The role of each data interval, and where an area is damaged, said by the grammars alone: document 01, number 2.
use Rattle.std.specs.Prelude.{ℕ, ◌<◌, ◌≡◌}
use mathlib.Core.List.{List, [], ◌∷◌, ◌++◌, Memᴰ}
use Rattle.measures.specs.declared.Measures.{Measures}
use Rattle.index.specs.Bounds.{bound}
use Rattle.index.specs.Meaning.{Entry, Meaning}
use Rattle.index.specs.Rules.{bound_before}
use Rattle.area.specs.Content.{index_in, data_in}
use Rattle.area.specs.Layout.{IndexInterval, FreeInterval, UsedInterval}

-- the role of interval k: it is among the free numbers, or an entry with this separator names it
pub data Role (ix : Meaning) (k : ℕ) : Type 0 where
  free : Memᴰ k ix.free → Role ix k
  used : (pre : List Entry) (sep : List ℕ) (post : List Entry) → ix.entries ≡ pre ++ (record { sep = sep; num = k } ∷ post) → Role ix k

-- its bytes are laid out as the role asks
abbrev pub InRole : Measures → (ix : Meaning) (k : ℕ) → Role ix k → List ℕ → Type 0
InRole m ix k (free i) ci = FreeInterval m ci
InRole m ix k (used pre sep post e) ci =
    (rs : List (List ℕ)) × UsedInterval m (bound_before m.key [] pre) (bound m.key sep) rs ci

-- interval k is the lowest that is not laid out in its role, though the index record is sound
pub record DamagedAt (m : Measures) (n : ℕ) (area : List ℕ) (k : ℕ) : Type 0 where
  pub meaning : Meaning
  pub index : IndexInterval m n meaning (index_in m area)
  pub inside : k < n
  pub role : Role meaning k
  pub unsound : InRole m meaning k role (data_in m area k) → ⊥
  pub lower : (j : ℕ) → j < k → (r : Role meaning j) → InRole m meaning j r (data_in m area j)
