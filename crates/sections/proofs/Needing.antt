-- The bytes counted out over the separators are those that the writer's entries take.
use Prim.Native.Nat.{ℕ, ◌+◌, ◌-◌}
use mathlib.Core.Path.{◌≡◌, refl}
use mathlib.Core.Bool.{Bool, true, false}
use mathlib.Core.List.{List, [], ◌∷◌, map}
use lib.ListN.{length, length-drop, length-map}
use lib.Dec.{leb}
use native.Mathlib.Omega.{arith}
use Rattle.fields.specs.Choice.{pick}
use Rattle.fields.specs.Order.{common}
use Rattle.index.specs.Meaning.{Entry}
use Rattle.index.specs.Pieces.{piece_size}
use Rattle.index.specs.Form.{pack}
use Rattle.sections.specs.Parts.{parts_size}
use Rattle.sections.specs.Form.{section_for, packed_in, packed_all}
use Rattle.sections.specs.Need.{entry_need, sections_need, all_need}

abbrev pub seps_in : List Entry → List (List ℕ)
seps_in es = map (λ (e : Entry). e.sep) es

pack-need : (w : ℕ) (ref sep : List ℕ) (num : ℕ) → piece_size w (pack ref sep num) ≡ entry_need w ref sep
pack-need w ref sep num = omega (arith, length-drop (common ref sep) sep)

pub packed-need : (w c left : ℕ) (high ref : List ℕ) (es : List Entry) → parts_size w (packed_in c left high ref es) ≡ sections_need w c left high ref (seps_in es)
unfolding packed_in parts_size
packed-need w c left high ref [] = refl
packed-need w c left high ref (e ∷ []) = omega (arith, pack-need w high e.sep e.num)
packed-need w c left high ref (e ∷ f ∷ es) =
    go (leb left 1) (packed-need w c c e.sep e.sep (f ∷ es)) (packed-need w c (left - 1) high e.sep (f ∷ es))
  where
    go : (t : Bool) → parts_size w (packed_in c c e.sep e.sep (f ∷ es)) ≡ sections_need w c c e.sep e.sep (seps_in (f ∷ es))
        → parts_size w (packed_in c (left - 1) high e.sep (f ∷ es)) ≡ sections_need w c (left - 1) high e.sep (seps_in (f ∷ es))
        → parts_size w
        (pick t (record { piece = pack high e.sep e.num; closes = true } ∷ packed_in c c e.sep e.sep (f ∷ es))
        (record { piece = pack ref e.sep e.num; closes = false } ∷ packed_in c (left - 1) high e.sep (f ∷ es)))
        ≡ pick t (entry_need w high e.sep + 2 + sections_need w c c e.sep e.sep (seps_in (f ∷ es)))
        (entry_need w ref e.sep + sections_need w c (left - 1) high e.sep (seps_in (f ∷ es)))
    go true i j = omega (arith, i, pack-need w high e.sep e.num)
    go false i j = omega (arith, j, pack-need w ref e.sep e.num)

pub all-need : (w : ℕ) (es : List Entry) → parts_size w (packed_all es) ≡ all_need w (seps_in es)
all-need w es = rw (length-map es (λ (e : Entry). e.sep)) (packed-need w (section_for (length es)) (section_for (length es)) [] [] es)
