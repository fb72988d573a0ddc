-- Where a key leads: document 01, 'Index record'.
use Rattle.std.specs.Prelude.{ℕ, suc, ◌≡◌, true, false, List, [], ◌∷◌, ◌++◌, length, take, get_or}
use Rattle.fields.specs.Choice.{pick}
use Rattle.fields.specs.Order.{less}
use Rattle.index.specs.Meaning.{Entry, entry}
use Rattle.index.specs.Bounds.{bound}
use Rattle.index.specs.Rules.{bound_before}

-- the entry, counted from 0, that is the first not to lie below the key, where only as many bytes of the key count as the separator has
unfoldable pub leads_to : List ℕ → List Entry → ℕ
leads_to key [] = 0
leads_to key (e ∷ es) = pick (less e.sep (take (length e.sep) key)) (suc (leads_to key es)) 0

-- that entry
abbrev pub entry_for : List ℕ → List Entry → Entry
entry_for key es = get_or es (leads_to key es) (entry [] 0)

-- The entry at place i holds the key's range: the bound before it is below the key, and its own is not.
pub record Belongs (K : ℕ) (low key : List ℕ) (es : List Entry) (i : ℕ) : Type 0 where
  pub pre : List Entry
  pub entry : Entry
  pub post : List Entry
  pub split : es ≡ pre ++ (entry ∷ post)
  pub place : length pre ≡ i
  pub beyond : less (bound_before K low pre) key ≡ true
  pub within : less (bound K entry.sep) key ≡ false
