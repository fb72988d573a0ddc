-- Records, their keys and their lengths: document 01, 'The area we lend' and 'Data interval'.
use Rattle.std.specs.Prelude.{ℕ, ◌≡◌, Bool, true, List, [], ◌∷◌, map, length, leb}
use Rattle.fields.specs.Choice.{both, no}
use Rattle.fields.specs.Bytes.{part}
use Rattle.fields.specs.Order.{less}
use Rattle.fields.specs.Lists.{every, concat}
use Rattle.measures.specs.declared.Measures.{Measures}

-- a record's key: its bytes at the offset
abbrev pub key_of : Measures → List ℕ → List ℕ
key_of m r = part r m.offset m.key

-- a length is from the least to the most
abbrev pub within : ℕ → ℕ → ℕ → Bool
within least most l = both (leb least l) (leb l most)

-- and so are all of some lengths
abbrev pub all_within : ℕ → ℕ → List ℕ → Bool
all_within least most ls = every (within least most) ls

-- keys strictly ascend, the first above low; low is empty where there is no bound before (the empty list is below every key)
unfoldable pub ascend_from : List ℕ → List (List ℕ) → Bool
ascend_from low [] = true
ascend_from low (k ∷ ks) = both (less low k) (ascend_from k ks)

-- keys strictly ascend
unfoldable pub ascending : List (List ℕ) → Bool
ascending [] = true
ascending (k ∷ ks) = ascend_from k ks

-- every key is above the bound before
abbrev pub above : List ℕ → List (List ℕ) → Bool
above low ks = every (less low) ks

-- every key is at most the bound
abbrev pub up_to : List ℕ → List (List ℕ) → Bool
up_to high ks = every (λ (k : List ℕ). no (less high k)) ks

-- the keys of records
abbrev pub keys_of : Measures → List (List ℕ) → List (List ℕ)
keys_of m rs = map (key_of m) rs

-- every record's length is one that the measures allow
abbrev pub lengths_fine : Measures → List (List ℕ) → Bool
lengths_fine m rs = all_within m.least m.most (map length rs)

-- These bytes, and these lengths, are those of the records, one after another.
pub record Flat (bytes lens : List ℕ) (rs : List (List ℕ)) : Type 0 where
  pub bytes-are : bytes ≡ concat rs
  pub lens-are : lens ≡ map length rs
