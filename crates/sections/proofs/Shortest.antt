-- No legal choice of F gives fewer bytes than the longest F, the sections being the same.
use Prim.Native.Nat.{ℕ, zero, suc, ◌-◌, ◌≤◌}
use mathlib.Core.Path.{◌≡◌, refl, ap}
use mathlib.Core.Bool.{Bool, true, false}
use mathlib.Core.List.{List, [], ◌∷◌, ◌++◌, map}
use lib.ListN.{length, take, length-append, length-drop}
use lib.Seq.{length-take-le}
use lib.Dec.{leb}
use native.Mathlib.Omega.{arith}
use borrow.Author.Tests.{leb-true, eq-eqb}
use Rattle.fields.specs.Choice.{pick}
use Rattle.fields.specs.Order.{common}
use Rattle.fields.proofs.Choices.{both-split, false-true}
use Rattle.index.specs.Meaning.{Entry, Meaning}
use Rattle.index.specs.Pieces.{Piece, spelt, piece_size}
use Rattle.index.specs.Form.{pack}
use Rattle.sections.specs.Parts.{Part, against, sep_of, high_after, spell_all, fronts_in, parts_size}
use Rattle.sections.specs.Layout.{LaidOut}
use Rattle.sections.specs.Form.{section_for, packed_in, packed_all, index_size}
use Rattle.sections.proofs.Sizes.{length-layout}
use Rattle.sections.proofs.Forming.{top, inner}

-- which entries close a section
abbrev pub closings : List Part → List Bool
closings ps = map (λ (p : Part). p.closes) ps

-- what begins with the first f bytes of ref has at least f bytes in common with it
pub common-front : (f : ℕ) (ref xs : List ℕ) → f ≤ length ref → f ≤ common ref (take f ref ++ xs)
unfolding common
common-front zero ref xs h = omega arith
common-front (suc f) [] xs h = absurd (omega arith)
common-front (suc f) (x ∷ ref) xs h = rw (eq-eqb x x refl) (omega (arith, common-front f ref xs (omega arith)))

pub piece-shortest : (w : ℕ) (ref : List ℕ) (p : Piece) (num : ℕ) → p.front ≤ length ref → piece_size w (pack ref (spelt ref p) num) ≤ piece_size w p
piece-shortest w ref p num h =
    omega (
      arith,
      common-front p.front ref p.chars h,
      length-append (take p.front ref) p.chars,
      length-take-le p.front ref h,
      length-drop (common ref (spelt ref p)) (spelt ref p),
    )

-- The same parts in the same sections, each with its longest F.
unfoldable pub repacked : List ℕ → List ℕ → List Part → List Part
repacked high ref [] = []
repacked high ref (p ∷ ps) =
    record { piece = pack (against high ref p) (sep_of high ref p) p.piece.num; closes = p.closes }
    ∷ repacked (high_after high ref p) (sep_of high ref p) ps

pub repacked-shortest : (w : ℕ) (high ref : List ℕ) (ps : List Part) → fronts_in high ref ps ≡ true → parts_size w (repacked high ref ps) ≤ parts_size w ps
unfolding fronts_in repacked parts_size
repacked-shortest w high ref [] h = omega arith
repacked-shortest w high ref (p ∷ ps) h =
    let s = both-split (leb p.piece.front (length (against high ref p))) (fronts_in (high_after high ref p) (sep_of high ref p) ps) h in
    omega (
      arith,
      piece-shortest w (against high ref p) p.piece p.piece.num (leb-true p.piece.front (length (against high ref p)) s.0),
      repacked-shortest w (high_after high ref p) (sep_of high ref p) ps s.1,
    )

-- Parts in the writer's sections are, each with its longest F, the writer's parts for what they spell.
abbrev Same : List ℕ → List ℕ → List Part → Type 0
Same high ref ps =
    (c left : ℕ) → closings ps ≡ closings (packed_in c left high ref (spell_all high ref ps)) → packed_in c left high ref (spell_all high ref ps) ≡ repacked high ref ps

one_same : (high ref : List ℕ) (x : Piece) (b : Bool) → Same high ref (record { piece = x; closes = b } ∷ [])
unfolding packed_in spell_all repacked
one_same high ref x true c left q = refl
one_same high ref x false c left q = absurd (false-true (cc q))

abbrev spelt-by : List ℕ → Piece → Entry
spelt-by ref x = record { sep = spelt ref x; num = x.num }

more_same : (high ref : List ℕ) (x : Piece) (b : Bool) (p : Part) (ps : List Part) → ((h r : List ℕ) → Same h r (p ∷ ps))
    → Same high ref (record { piece = x; closes = b } ∷ p ∷ ps)
unfolding packed_in spell_all repacked
more_same high ref x true p ps i c left q = go (leb left 1) q
  where
    go : (t : Bool)
        → true ∷ closings (p ∷ ps)
        ≡ closings
        (pick t (top high (spelt-by high x) ∷ packed_in c c (spelt high x) (spelt high x) (spell_all (spelt high x) (spelt high x) (p ∷ ps)))
        (inner ref (spelt-by high x) ∷ packed_in c (left - 1) high (spelt high x) (spell_all (spelt high x) (spelt high x) (p ∷ ps))))
        → pick t (top high (spelt-by high x) ∷ packed_in c c (spelt high x) (spelt high x) (spell_all (spelt high x) (spelt high x) (p ∷ ps)))
        (inner ref (spelt-by high x) ∷ packed_in c (left - 1) high (spelt high x) (spell_all (spelt high x) (spelt high x) (p ∷ ps)))
        ≡ top high (spelt-by high x) ∷ repacked (spelt high x) (spelt high x) (p ∷ ps)
    go true q = ap (λ (z : List Part). top high (spelt-by high x) ∷ z) (i (spelt high x) (spelt high x) c c (cc q))
    go false q = let z : false ≡ true = cc q in absurd (false-true z)
more_same high ref x false p ps i c left q = go (leb left 1) q
  where
    go : (t : Bool)
        → false ∷ closings (p ∷ ps)
        ≡ closings
        (pick t (top high (spelt-by ref x) ∷ packed_in c c (spelt ref x) (spelt ref x) (spell_all high (spelt ref x) (p ∷ ps)))
        (inner ref (spelt-by ref x) ∷ packed_in c (left - 1) high (spelt ref x) (spell_all high (spelt ref x) (p ∷ ps))))
        → pick t (top high (spelt-by ref x) ∷ packed_in c c (spelt ref x) (spelt ref x) (spell_all high (spelt ref x) (p ∷ ps)))
        (inner ref (spelt-by ref x) ∷ packed_in c (left - 1) high (spelt ref x) (spell_all high (spelt ref x) (p ∷ ps)))
        ≡ inner ref (spelt-by ref x) ∷ repacked high (spelt ref x) (p ∷ ps)
    go true q = let z : false ≡ true = cc q in absurd (false-true z)
    go false q = ap (λ (z : List Part). inner ref (spelt-by ref x) ∷ z) (i high (spelt ref x) c (left - 1) (cc q))

same-repacked : (high ref : List ℕ) (ps : List Part) → Same high ref ps
same-repacked high ref [] c left q = unfold packed_in spell_all repacked in refl
same-repacked high ref (p ∷ []) c left q = one_same high ref p.piece p.closes c left q
same-repacked high ref (p ∷ r ∷ ps) c left q =
    more_same high ref p.piece p.closes r ps (λ (h k : List ℕ). same-repacked h k (r ∷ ps)) c left q

-- The writer's parts take no more bytes than any legal ones in the same sections that spell the same entries.
pub packed-shortest : (w c left : ℕ) (high ref : List ℕ) (es : List Entry) (ps : List Part) → fronts_in high ref ps ≡ true
    → closings ps ≡ closings (packed_in c left high ref es) → spell_all high ref ps ≡ es → parts_size w (packed_in c left high ref es) ≤ parts_size w ps
packed-shortest w c left high ref es ps fits same spells =
    let q : closings ps ≡ closings (packed_in c left high ref (spell_all high ref ps)) = rw (← spells) at same in
    let e : packed_in c left high ref es ≡ repacked high ref ps = rw spells at (same-repacked high ref ps c left q) in
    rw e (repacked-shortest w high ref ps fits)

-- What is laid out in S bytes in the writer's sections, with whatever F, has room in the writer's form too.
pub laid-fits : (w S : ℕ) (m : Meaning) (ib : List ℕ) (laid : LaidOut w S m ib) → closings laid.parts ≡ closings (packed_all m.entries)
    → index_size w m ≤ S - 7
unfolding index_size
laid-fits w S m ib laid same =
    let c : ℕ = section_for (length m.entries) in
    let k : parts_size w (packed_all m.entries) ≤ parts_size w laid.parts =
    packed-shortest w c c [] [] m.entries laid.parts laid.fits same laid.spells in
    omega (arith, laid.size, ap length laid.bytes, length-layout w m laid.unused laid.parts laid.twelve)
