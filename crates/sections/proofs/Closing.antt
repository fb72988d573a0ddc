-- In a sound index record only the last entry may have an empty separator.
use Prim.Native.Nat.{ℕ}
use mathlib.Core.Path.{◌≡◌}
use mathlib.Core.Bool.{true, false}
use mathlib.Core.List.{List, [], ◌∷◌, ◌++◌}
use lib.ListN.{length}
use Rattle.fields.specs.Bytes.{Octets}
use Rattle.index.specs.Bounds.{empty}
use Rattle.index.specs.Meaning.{Entry}
use Rattle.index.specs.Rules.{rises}
use Rattle.index.proofs.Keeping.{rules-apart}
use Rattle.index.proofs.Closing.{SeparatorsOctets, only-last-empty}
use Rattle.sections.specs.Reading.{read_index, sound_index}
use Rattle.sections.proofs.Octets.{read-octets}
use Rattle.sections.proofs.Sounding.{sound-apart}

octets-second : (pre : List Entry) (e f : Entry) (post : List Entry) → SeparatorsOctets (pre ++ (e ∷ f ∷ post)) → Octets f.sep
octets-second [] e f post o = o.1.0
octets-second (x ∷ pre) e f post o = octets-second pre e f post o.1

pub sound-only-last-empty : (w K n : ℕ) (low end ib : List ℕ) (pre : List Entry) (e f : Entry) (post : List Entry) → Octets ib
    → sound_index w K n low end ib ≡ true → (read_index w n ib).entries ≡ pre ++ (e ∷ f ∷ post) → empty e.sep ≡ false
sound-only-last-empty w K n low end ib pre e f post o s q =
    let r : rises K low (read_index w n ib).entries ≡ true = (rules-apart (length ib) K n low end (read_index w n ib) (sound-apart w K n low end ib s).rules).rising in
    only-last-empty K low pre e f post (octets-second pre e f post (rw q at (read-octets w n ib o))) (rw q at r)
