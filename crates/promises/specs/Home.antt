-- What a change is about: the length that it must have, and the interval to which its key belongs: document 01, 'Index record'. Nothing here searches.
use Rattle.std.specs.Prelude.{ℕ, ◌≡◌, true, false, List, [], ◌∷◌, ◌++◌, length}
use Rattle.fields.specs.Order.{less}
use Rattle.measures.specs.declared.Measures.{Measures}
use Rattle.interval.specs.Records.{within}
use Rattle.index.specs.Bounds.{bound}
use Rattle.index.specs.Rules.{bound_before}
use Rattle.area.specs.Content.{Filled, Content, entries_of}
use Rattle.requests.specs.Model.{Change, insert, update, erase}

-- a record has a length that the measures allow, a key that of a key
abbrev pub LengthFine : Measures → Change → Type 0
LengthFine m (insert r) = within m.least m.most (length r) ≡ true
LengthFine m (update r) = within m.least m.most (length r) ≡ true
LengthFine m (erase wanted) = length wanted ≡ m.key

-- the entry to which a key belongs, between those before and those after it: the key is above the bound before and at most the entry's own
pub record Home (m : Measures) (c : Content) (key : List ℕ) : Type 0 where
  pub pre : List Filled
  pub old : Filled
  pub post : List Filled
  pub split : c.filled ≡ pre ++ (old ∷ post)
  pub after : less (bound_before m.key [] (entries_of pre)) key ≡ true
  pub within : less (bound m.key old.sep) key ≡ false
