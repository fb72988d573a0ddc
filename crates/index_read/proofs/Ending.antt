-- The last entry of a record in sections, and whether there is more than one section: what the fields and the two displacements tell.
use Prim.Native.Nat.{ℕ, ◌+◌, ◌-◌, ◌≤◌, ◌<◌}
use mathlib.Core.Path.{◌≡◌, refl, ◌∙◌, sym, ap}
use mathlib.Core.Bool.{Bool, true, false}
use mathlib.Core.List.{List, [], ◌∷◌}
use lib.ListN.{length, take, length-append}
use lib.Dec.{eqb, leb}
use native.Mathlib.Omega.{arith}
use borrow.Author.Tests.{eqb-true, leb-true, leb-false, le-leb}
use Rattle.fields.specs.Choice.{pick}
use Rattle.fields.specs.Bytes.{number}
use Rattle.fields.proofs.Choices.{false-true, both-split, same-means}
use Rattle.index.specs.Rules.{closed}
use Rattle.index.specs.Pieces.{piece_size}
use Rattle.sections.specs.Parts.{Part, against, sep_of, high_after, spell_all, part_size, parts_size, sections_in, ends_closed, spread_fine}
use Rattle.sections.specs.Layout.{ahead, field_of, last_long}
use Rattle.sections.specs.Reading.{fields_true}
use Rattle.sections.proofs.Laying.{closed_some}

-- An empty separator has no characters.
pub closed-long : (high ref : List ℕ) (ps : List Part) → closed [] (spell_all high ref ps) ≡ true → last_long ps ≡ 0
unfolding closed spell_all last_long
closed-long high ref [] h = refl
closed-long high ref (p ∷ []) h =
    let e : sep_of high ref p ≡ [] = same-means (sep_of high ref p) [] h in
    omega (arith, ap length e, length-append (take p.piece.front (against high ref p)) p.piece.chars)
closed-long high ref (p ∷ q ∷ ps) h = closed-long (high_after high ref p) (sep_of high ref p) (q ∷ ps) h

-- The last section's field is zero.
pub last-field : (w : ℕ) (ib : List ℕ) (r : ℕ) (ps : List Part) → ends_closed ps ≡ true → fields_true w ib r ps ≡ true → number 2 ib (r - parts_size w ps) ≡ 0
unfolding ends_closed fields_true parts_size sections_in
last-field w ib r [] h f = absurd (false-true h)
last-field w ib r (p ∷ []) h f =
    let s = both-split (pick p.closes (eqb (number 2 ib (r - part_size w p)) 0) true) true f in
    let z : eqb (number 2 ib (r - part_size w p)) 0 ≡ true = ap (λ (u : Bool). pick u (eqb (number 2 ib (r - part_size w p)) 0) true) (sym h) ∙ s.0 in
    let a : r - (part_size w p + 0) ≡ r - part_size w p = omega arith in
    rw a (eqb-true _ _ z)
last-field w ib r (p ∷ q ∷ ps) h f =
    let s = both-split (pick p.closes (eqb (number 2 ib (r - part_size w p)) (field_of w p (q ∷ ps))) true) (fields_true w ib (r - part_size w p) (q ∷ ps)) f in
    let a : r - (part_size w p + parts_size w (q ∷ ps)) ≡ r - part_size w p - parts_size w (q ∷ ps) = omega arith in
    rw a (last-field w ib (r - part_size w p) (q ∷ ps) h s.1)

-- ---- a single section

-- Of so many sections the first one's highest has its control information so far left of the right edge, the last entry has so many characters, and all takes so
-- many bytes: then the first one's highest is the last entry exactly where there is a single section.
record Spread (sections first chars size : ℕ) : Type 0 where
  alone : sections ≤ 1 → first + chars + 2 ≡ size
  more : 1 < sections → first + chars + 2 < size

last-most : (w : ℕ) (p : Part) (ps : List Part) → last_long (p ∷ ps) + (w + 2) ≤ parts_size w (p ∷ ps)
unfolding last_long parts_size
last-most w p [] = omega arith
last-most w p (q ∷ ps) = omega (arith, last-most w q ps)

spread-next : (w : ℕ) (p : Part) (S A C Z : ℕ) → 1 ≤ S → C + (w + 2) ≤ Z → Spread S A C Z → (t : Bool)
    → Spread (pick t 1 0 + S) (pick t (w + 2) (piece_size w p.piece + A)) C (piece_size w p.piece + pick t 2 0 + Z)
spread-next w p S A C Z some most s true = record { alone = λ (h : 1 + S ≤ 1). absurd (omega (arith, some)); more = λ (h : 1 < 1 + S). omega (arith, most) }
spread-next w p S A C Z some most s false =
    record {
      alone = λ (h : 0 + S ≤ 1).
          let e : A + C + 2 ≡ Z = s.alone (omega arith) in
          omega (arith, e);
      more = λ (h : 1 < 0 + S).
          let e : A + C + 2 < Z = s.more (omega arith) in
          omega (arith, e);
    }

spread : (w : ℕ) (ps : List Part) → ends_closed ps ≡ true → Spread (sections_in ps) (ahead w ps) (last_long ps) (parts_size w ps)
unfolding ends_closed sections_in ahead last_long parts_size
spread w [] h = absurd (false-true h)
spread w (p ∷ []) h = rw h (record { alone = λ (z : 1 + 0 ≤ 1). omega arith; more = λ (z : 1 < 1 + 0). absurd (omega arith) })
spread w (p ∷ q ∷ ps) h =
    spread-next w p (sections_in (q ∷ ps)) (ahead w (q ∷ ps)) (last_long (q ∷ ps)) (parts_size w (q ∷ ps)) (closed_some (q ∷ ps) h) (last-most w q ps) (spread w (q ∷ ps) h) p.closes

pub spread-apart : (w : ℕ) (ps : List Part) → ends_closed ps ≡ true → spread_fine ps ≡ true → ahead w ps + last_long ps + 2 ≡ parts_size w ps → length ps ≤ 2
spread-apart w ps h = go (leb (sections_in ps) 1) refl
  where
    go : (t : Bool) → leb (sections_in ps) 1 ≡ t → pick t (leb (length ps) 2) true ≡ true → ahead w ps + last_long ps + 2 ≡ parts_size w ps → length ps ≤ 2
    go true e f z = leb-true (length ps) 2 f
    go false e f z = absurd (omega (arith, (spread w ps h).more (leb-false (sections_in ps) 1 e), z))

pub spread-joined : (w : ℕ) (ps : List Part) → ends_closed ps ≡ true → (ahead w ps + last_long ps + 2 ≡ parts_size w ps → length ps ≤ 2) → spread_fine ps ≡ true
spread-joined w ps h few = go (leb (sections_in ps) 1) refl
  where
    go : (t : Bool) → leb (sections_in ps) 1 ≡ t → pick t (leb (length ps) 2) true ≡ true
    go true e = le-leb (length ps) 2 (few ((spread w ps h).alone (leb-true (sections_in ps) 1 e)))
    go false e = refl
