-- How many bytes parts and a whole layout with sections take.
use Prim.Native.Nat.{ℕ, ◌+◌}
use mathlib.Core.Path.{◌≡◌, refl, ◌∙◌}
use mathlib.Core.Bool.{Bool, true, false}
use mathlib.Core.List.{List, [], ◌∷◌}
use lib.ListN.{length, length-append}
use native.Mathlib.Omega.{arith}
use Rattle.fields.specs.Choice.{pick}
use Rattle.fields.specs.Bytes.{digits}
use Rattle.fields.proofs.Numbers.{length_digits}
use Rattle.index.specs.Meaning.{Meaning}
use Rattle.index.specs.Layout.{piece_bytes, unused_place, trailer}
use Rattle.index.proofs.Compressing.{length-piece_bytes, length-free_bytes}
use Rattle.sections.specs.Parts.{Part, spell_all, sep_of, high_after, part_size, parts_size}
use Rattle.sections.specs.Layout.{field_of, part_bytes, parts_bytes, last_place, record_length, section_place, header, layout}

-- ---- parts

pub length-part_bytes : (w : ℕ) (p : Part) (ps : List Part) → length (part_bytes w p ps) ≡ part_size w p
unfolding part_bytes
length-part_bytes w p ps =
    length-append (pick p.closes (digits 2 (field_of w p ps)) []) (piece_bytes w p.piece)
    ∙ omega (arith, go p.closes (field_of w p ps), length-piece_bytes w p.piece)
  where
    go : (t : Bool) (x : ℕ) → length (pick t (digits 2 x) []) ≡ pick t 2 0
    go true x = length_digits 2 x
    go false x = refl

pub length-parts_bytes : (w : ℕ) (ps : List Part) → length (parts_bytes w ps) ≡ parts_size w ps
unfolding parts_bytes parts_size
length-parts_bytes w [] = refl
length-parts_bytes w (p ∷ ps) =
    omega (arith, length-append (parts_bytes w ps) (part_bytes w p ps), length-parts_bytes w ps, length-part_bytes w p ps)

pub length-spell_all : (high ref : List ℕ) (ps : List Part) → length (spell_all high ref ps) ≡ length ps
unfolding spell_all
length-spell_all high ref [] = refl
length-spell_all high ref (p ∷ ps) = rw (length-spell_all (high_after high ref p) (sep_of high ref p) ps)

-- ---- the whole record

pub length-header : (w : ℕ) (m : Meaning) (R u e f : ℕ) → length m.kept ≡ 12 → length (header w m R u e f) ≡ 24
unfolding header
length-header w m R u e f kept12 = simp (length-append, length_digits) (omega (arith, kept12))

pub length-trailer : (R : ℕ) → length (trailer R) ≡ 7
unfolding trailer
length-trailer R = simp (length-append, length_digits)

-- The bytes laid are the record and the seven of RDF and CIDF.
pub length-layout : (w : ℕ) (m : Meaning) (unused : List ℕ) (ps : List Part) → length m.kept ≡ 12
    → length (layout w m unused ps) ≡ record_length w m unused ps + 7
unfolding layout
length-layout w m unused ps kept12 =
    let R : ℕ = record_length w m unused ps in
    let h = length-header w m R (unused_place w m) (last_place w m unused ps) (section_place w m unused ps) kept12 in
    simp length-append
    (omega (arith, h, length-free_bytes w m.free, length-parts_bytes w ps, length-trailer R))
