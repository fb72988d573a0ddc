-- The writer's parts, one entry after another: a section has c entries, or as many as are left.
use Prim.Native.Nat.{ℕ, suc, ◌-◌, ◌≤◌, ◌<◌, min}
use mathlib.Core.Path.{◌≡◌, refl, ap}
use mathlib.Core.Bool.{Bool, true, false}
use mathlib.Core.List.{List, [], ◌∷◌, ◌++◌}
use lib.ListN.{length}
use lib.Dec.{eqb, leb}
use native.Mathlib.Omega.{arith}
use borrow.Author.Tests.{leb-true, leb-false, eq-eqb, ne_eqb}
use Rattle.fields.specs.Choice.{pick}
use Rattle.index.specs.Meaning.{Entry}
use Rattle.index.specs.Form.{pack}
use Rattle.sections.specs.Parts.{Part}
use Rattle.sections.specs.Form.{section_for, packed_in, packed_all}
use Rattle.sections.proofs.Roots.{root-some}
use Rattle.index_pen.specs.AidStream.{Reached, part_next, reached_next, parts_by, reached_after}

-- where a writer stands that has entries of length k to come
abbrev pub standing : ℕ → List ℕ → List ℕ → ℕ → Reached
standing left high ref k = record { left = min left k; rest = k; high = high; ref = ref }

-- One after another they are the writer's parts.
pub packed-by : (c left : ℕ) (high ref : List ℕ) (es : List Entry) → 1 ≤ c → 1 ≤ left → packed_in c left high ref es ≡ parts_by c (standing left high ref (length es)) es
unfolding packed_in parts_by
packed-by c left high ref [] h l = refl
packed-by c left high ref (e ∷ []) h l = let q : eqb (min left 1) 1 ≡ true = eq-eqb (min left 1) 1 (omega arith) in rw q
packed-by c left high ref (e ∷ f ∷ es) h l =
    go (leb left 1) refl (packed-by c c e.sep e.sep (f ∷ es) h h) (packed-by c (left - 1) high e.sep (f ∷ es) h)
  where
    k : ℕ
    k = length (f ∷ es)

    go : (t : Bool) → leb left 1 ≡ t
        → packed_in c c e.sep e.sep (f ∷ es) ≡ parts_by c (standing c e.sep e.sep (length (f ∷ es))) (f ∷ es)
        → (1 ≤ left - 1 → packed_in c (left - 1) high e.sep (f ∷ es) ≡ parts_by c (standing (left - 1) high e.sep (length (f ∷ es))) (f ∷ es))
        → pick t (record { piece = pack high e.sep e.num; closes = true } ∷ packed_in c c e.sep e.sep (f ∷ es))
        (record { piece = pack ref e.sep e.num; closes = false } ∷ packed_in c (left - 1) high e.sep (f ∷ es))
        ≡ part_next (standing left high ref (suc (length (f ∷ es)))) e ∷ parts_by c (reached_next c (standing left high ref (suc (length (f ∷ es)))) e) (f ∷ es)
    go true q i j =
        let m : eqb (min left (suc (length (f ∷ es)))) 1 ≡ true = eq-eqb (min left (suc (length (f ∷ es)))) 1 (omega (arith, leb-true left 1 q, l)) in
        let z : suc (length (f ∷ es)) - 1 ≡ length (f ∷ es) = omega arith in
        rw (m, z, i)
    go false q i j =
        let g : 1 < left = leb-false left 1 q in
        let m : eqb (min left (suc (length (f ∷ es)))) 1 ≡ false = ne_eqb (min left (suc (length (f ∷ es)))) 1 (λ (u : min left (suc (length (f ∷ es))) ≡ 1). omega (arith, u, g)) in
        let z : suc (length (f ∷ es)) - 1 ≡ length (f ∷ es) = omega arith in
        let y : min left (suc (length (f ∷ es))) - 1 ≡ min (left - 1) (length (f ∷ es)) = omega arith in
        rw (m, z, y, j (omega arith))

pub packed-drawn : (es : List Entry) → packed_all es ≡ parts_by (section_for (length es)) (standing (section_for (length es)) [] [] (length es)) es
packed-drawn es = packed-by (section_for (length es)) (section_for (length es)) [] [] es (root-some (length es)) (root-some (length es))

-- Two lots are one.
pub drawn-append : (c : ℕ) (s : Reached) (es fs : List Entry) → parts_by c s (es ++ fs) ≡ parts_by c s es ++ parts_by c (reached_after c s es) fs
unfolding parts_by reached_after
drawn-append c s [] fs = refl
drawn-append c s (e ∷ es) fs = ap (λ (ps : List Part). part_next s e ∷ ps) (drawn-append c (reached_next c s e) es fs)

pub reached-append : (c : ℕ) (s : Reached) (es fs : List Entry) → reached_after c s (es ++ fs) ≡ reached_after c (reached_after c s es) fs
unfolding reached_after
reached-append c s [] fs = refl
reached-append c s (e ∷ es) fs = reached-append c (reached_next c s e) es fs
