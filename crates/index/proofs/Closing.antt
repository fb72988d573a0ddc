-- The last entry: only it may have an empty separator. And what it is that separators are bytes.
use Prim.Native.Nat.{ℕ}
use mathlib.Core.Path.{◌≡◌, refl, ◌∙◌, sym}
use mathlib.Core.Bool.{true, false}
use mathlib.Core.List.{List, [], ◌∷◌, ◌++◌}
use Rattle.fields.specs.Bytes.{Octets}
use Rattle.fields.specs.Order.{less}
use Rattle.fields.proofs.Choices.{false-true}
use Rattle.index.specs.Bounds.{empty, bound}
use Rattle.index.specs.Meaning.{Entry}
use Rattle.index.specs.Rules.{rises}
use Rattle.index.proofs.Bounds.{octets-bound, length-bound, empty-highest}
use Rattle.index.proofs.Keeping.{separator-short, rises-apart}

first-not-empty : (K : ℕ) (low : List ℕ) (e f : Entry) (es : List Entry) → Octets f.sep → rises K low (e ∷ f ∷ es) ≡ true → empty e.sep ≡ false
first-not-empty K low e f es o r = go e.sep refl
  where
    go : (s : List ℕ) → e.sep ≡ s → empty s ≡ false
    go (x ∷ xs) q = refl
    go [] q =
        let a = rises-apart K low e (f ∷ es) r in
        let b = rises-apart K (bound K e.sep) f es a.2 in
        let l : less (bound K []) (bound K f.sep) ≡ true = rw q at b.1 in
        absurd (false-true (sym (empty-highest K (bound K f.sep) (length-bound K f.sep (separator-short K f.sep b.0)) (octets-bound K f.sep o)) ∙ l))

-- An entry that isn't the last has a separator that isn't empty: no bound is above that of an empty one.
pub only-last-empty : (K : ℕ) (low : List ℕ) (pre : List Entry) (e f : Entry) (post : List Entry) → Octets f.sep
    → rises K low (pre ++ (e ∷ f ∷ post)) ≡ true → empty e.sep ≡ false
only-last-empty K low [] e f post o r = first-not-empty K low e f post o r
only-last-empty K low (x ∷ pre) e f post o r = only-last-empty K (bound K x.sep) pre e f post o (rises-apart K low x (pre ++ (e ∷ f ∷ post)) r).2

-- The separators are bytes.
abbrev pub SeparatorsOctets : List Entry → Type 0
SeparatorsOctets [] = Unit {0}
SeparatorsOctets (e ∷ es) = Octets e.sep × SeparatorsOctets es
