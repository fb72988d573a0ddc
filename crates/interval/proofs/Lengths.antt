-- The first of the records that are cut apart, the limits of lengths, and how long a key is.
use Prim.Native.Nat.{ℕ, ◌+◌, ◌≤◌, zero, suc, ◌<◌}
use mathlib.Core.Path.{◌≡◌, refl}
use mathlib.Core.Bool.{true}
use mathlib.Core.List.{List, ◌∷◌, [], ◌++◌, map}
use lib.ListN.{length, take, drop, get_or}
use lib.Seq.{drop-drop}
use lib.Dec.{leb}
use native.Mathlib.Omega.{arith}
use borrow.Author.Tests.{leb-true}
use Rattle.fields.specs.Lists.{every}
use Rattle.fields.proofs.Choices.{both-split}
use Rattle.fields.proofs.Splices.{length-mid}
use Rattle.fields.proofs.Lists.{every-apart, every-join}
use Rattle.measures.specs.declared.Measures.{Measures}
use Rattle.interval.specs.Records.{within, all_within, key_of, lengths_fine}
use Rattle.interval.specs.Reading.{cut}

-- the records from a place on: the first, and those after it
pub cut-cons : (ci : List ℕ) (at l : ℕ) (ls : List ℕ) → cut (drop at ci) (l ∷ ls) ≡ take l (drop at ci) ∷ cut (drop (at + l) ci) ls
unfolding cut
cut-cons ci at l ls = rw drop-drop

-- limits of the first length, and of the others
module _ (least most l : ℕ) (ls : List ℕ) (h : all_within least most (l ∷ ls) ≡ true) where
  pub within_low : least ≤ l
  unfolding every
  within_low = leb-true least l (both-split (leb least l) (leb l most) (both-split (within least most l) (all_within least most ls) h).0).0

  pub within-high : l ≤ most
  unfolding every
  within-high = leb-true l most (both-split (leb least l) (leb l most) (both-split (within least most l) (all_within least most ls) h).0).1

  pub within-rest : all_within least most ls ≡ true
  unfolding every
  within-rest = (both-split (within least most l) (all_within least most ls) h).1

-- lengths of two lists
pub within-append : (least most : ℕ) (xs ys : List ℕ) → all_within least most (xs ++ ys) ≡ true → (all_within least most xs ≡ true) × (all_within least most ys ≡ true)
within-append least most xs ys h = every-apart (within least most) xs ys h

pub within-join : (least most : ℕ) (xs ys : List ℕ) → all_within least most xs ≡ true → all_within least most ys ≡ true → all_within least most (xs ++ ys) ≡ true
within-join least most xs ys h k = every-join (within least most) xs ys h k

-- Each of some records whose lengths the measures allow has at least the least.
pub fine-at : (least most i : ℕ) (rs : List (List ℕ)) → all_within least most (map length rs) ≡ true → i < length rs → least ≤ length (get_or rs i [])
fine-at least most i [] a h = absurd (omega arith)
fine-at least most zero (r ∷ rs) a h = within_low least most (length r) (map length rs) a
fine-at least most (suc i) (r ∷ rs) a h = fine-at least most i rs (within-rest least most (length r) (map length rs) a) (omega arith)

-- no record has a wrong length where there is none
pub none-fine : (m : Measures) → lengths_fine m [] ≡ true
unfolding every
none-fine m = refl

-- the key of a record that is long enough has the key's length
pub key-long : (m : Measures) (r : List ℕ) → m.offset + m.key ≤ length r → length (key_of m r) ≡ m.key
key-long m r h = length-mid r m.offset m.key h
