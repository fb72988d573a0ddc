-- Entries in the old form as one section, of which the last entry is the highest: what it takes, where its highest lies, and that it is what is read.
use Prim.Native.Nat.{ℕ, suc, ◌+◌, ◌-◌, ◌≤◌}
use mathlib.Core.Path.{◌≡◌, refl, ◌∙◌, ap, subst}
use mathlib.Core.Bool.{true, false}
use mathlib.Core.List.{List, [], ◌∷◌, ◌++◌}
use lib.ListN.{length, take, length-append}
use lib.Seq.{length-take-le}
use lib.Dec.{leb, eqb}
use native.Mathlib.Omega.{arith}
use borrow.Author.Tests.{eq-eqb, ne_eqb, le-leb, leb-true}
use Rattle.fields.specs.Choice.{both}
use Rattle.fields.specs.Bytes.{number}
use Rattle.fields.proofs.Choices.{both_true, both-split, both-join, same-means}
use Rattle.index.specs.Meaning.{entry}
use Rattle.index.specs.Rules.{closed}
use Rattle.index.specs.Pieces.{Piece, spelt, piece_size}
use Rattle.index.specs.Reading.{piece_at}
use Rattle.sections.specs.Parts.{Part, spell_all, fronts_in, parts_size, sections_in, ends_closed}
use Rattle.sections.specs.Layout.{ahead, last_long}
use Rattle.sections.specs.Reading.{parts_at, fields_true}
use Rattle.sections.proofs.Laying.{parts-cons}
use Rattle.index_old.specs.Pieces.{spell, fronts_fit, pieces_size, last_chars}
use Rattle.index_old.specs.Reading.{pieces_at}
use Rattle.index_old.specs.Section.{last_only}

-- ---- how much, and where

pub only-length : (ps : List Piece) → length (last_only ps) ≡ length ps
unfolding last_only
only-length [] = refl
only-length (p ∷ []) = refl
only-length (p ∷ q ∷ ps) = ap suc (only-length (q ∷ ps))

pub only-sections : (ps : List Piece) → sections_in (last_only ps) ≤ 1
unfolding last_only sections_in
only-sections [] = omega arith
only-sections (p ∷ []) = omega arith
only-sections (p ∷ q ∷ ps) = omega (arith, only-sections (q ∷ ps))

pub only-size : (w : ℕ) (ps : List Piece) → 1 ≤ length ps → parts_size w (last_only ps) ≡ pieces_size w ps + 2
unfolding last_only parts_size pieces_size
only-size w [] h = absurd (omega arith)
only-size w (p ∷ []) h = omega arith
only-size w (p ∷ q ∷ ps) h = omega (arith, only-size w (q ∷ ps) (omega arith))

pub only-last : (ps : List Piece) → last_long (last_only ps) ≡ length (last_chars ps)
unfolding last_only last_long last_chars
only-last [] = refl
only-last (p ∷ []) = refl
only-last (p ∷ q ∷ []) = refl
only-last (p ∷ q ∷ x ∷ ps) = only-last (q ∷ x ∷ ps)

pub only-ahead : (w : ℕ) (ps : List Piece) → ahead w (last_only ps) + length (last_chars ps) ≡ pieces_size w ps
unfolding last_only ahead last_chars pieces_size
only-ahead w [] = refl
only-ahead w (p ∷ []) = omega arith
only-ahead w (p ∷ q ∷ ps) = omega (arith, only-ahead w (q ∷ ps))

pub only-closed : (ps : List Piece) → 1 ≤ length ps → ends_closed (last_only ps) ≡ true
unfolding last_only ends_closed
only-closed [] h = absurd (omega arith)
only-closed (p ∷ []) h = refl
only-closed (p ∷ q ∷ []) h = refl
only-closed (p ∷ q ∷ x ∷ ps) h = only-closed (q ∷ x ∷ ps) (omega arith)

-- the section's field is the one of the last entry
pub only-fields : (w : ℕ) (ib : List ℕ) (ps : List Piece) (r : ℕ) → 1 ≤ length ps
    → fields_true w ib r (last_only ps) ≡ eqb (number 2 ib (r - (pieces_size w ps + 2))) 0
unfolding last_only fields_true pieces_size sections_in
only-fields w ib [] r h = absurd (omega arith)
only-fields w ib (p ∷ []) r h = let z : r - (piece_size w p + 2) ≡ r - (piece_size w p + 0 + 2) = omega arith in rw z (both_true _)
only-fields w ib (p ∷ q ∷ ps) r h =
    let z : r - (piece_size w p + 0) - (pieces_size w (q ∷ ps) + 2) ≡ r - (piece_size w p + pieces_size w (q ∷ ps) + 2) = omega arith in
    only-fields w ib (q ∷ ps) (r - (piece_size w p + 0)) (omega arith) ∙ rw z

-- ---- what is read

last-short : (w : ℕ) (ps : List Piece) → 1 ≤ length ps → length (last_chars ps) + (w + 2) ≤ pieces_size w ps
unfolding last_chars pieces_size
last-short w [] h = absurd (omega arith)
last-short w (p ∷ []) h = omega arith
last-short w (p ∷ q ∷ ps) h = omega (arith, last-short w (q ∷ ps) (omega arith))

first_piece : (w : ℕ) (ib : List ℕ) (p : Piece) (ps : List Piece) (r : ℕ) → pieces_at w ib r (suc (length ps)) ≡ p ∷ ps
    → (piece_at w ib r ≡ p) × (pieces_at w ib (r - piece_size w p) (length ps) ≡ ps)
unfolding pieces_at
first_piece w ib p ps r q =
    let a : piece_at w ib r ≡ p = cc in
    let z : pieces_at w ib (r - piece_size w (piece_at w ib r)) (length ps) ≡ ps = cc in
    (a, subst (λ (y : Piece). pieces_at w ib (r - piece_size w y) (length ps) ≡ ps) a z)

parts-open : (w : ℕ) (ib : List ℕ) (r end e : ℕ) (p : Piece) → piece_at w ib r ≡ p → eqb (r - (w + 2)) end ≡ false
    → parts_at w ib r end (suc e) ≡ record { piece = p; closes = false } ∷ parts_at w ib (r - (piece_size w p + 0)) end e
parts-open w ib r end e p q c = parts-cons w ib r end e (record { piece = p; closes = false }) q c

-- Entries that the old reading takes one after another, the last of which has its control information where the header says the section entry is.
pub only-read : (w : ℕ) (ib : List ℕ) (ps : List Piece) (r end : ℕ) → pieces_at w ib r (length ps) ≡ ps → pieces_size w ps ≤ r
    → end + pieces_size w ps ≡ r + length (last_chars ps) → parts_at w ib r end (length ps) ≡ last_only ps
unfolding parts_at last_only pieces_size last_chars
only-read w ib [] r end q h e = refl
only-read w ib (p ∷ []) r end q h e =
    let c : eqb (r - (w + 2)) end ≡ true = eq-eqb (r - (w + 2)) end (omega arith) in
    rw ((first_piece w ib p [] r q).0, c)
only-read w ib (p ∷ x ∷ ps) r end q h e =
    let f = first_piece w ib p (x ∷ ps) r q in
    let c : eqb (r - (w + 2)) end ≡ false = ne_eqb (r - (w + 2)) end (λ (u : r - (w + 2) ≡ end). omega (arith, u, last-short w (x ∷ ps) (omega arith))) in
    let i = only-read w ib (x ∷ ps) (r - piece_size w p) end f.1 (omega (arith, h)) (omega (arith, e, h)) in
    let z : r - (piece_size w p + 0) ≡ r - piece_size w p = omega arith in
    parts-open w ib r end (length (x ∷ ps)) p f.0 c ∙ ap (λ (zs : List Part). record { piece = p; closes = false } ∷ zs) (rw z i)

-- ---- one entry or two

none-long : (xs : List ℕ) → length xs ≡ 0 → xs ≡ []
none-long [] k = refl
none-long (x ∷ xs) k = absurd (omega arith)

-- an empty separator takes over nothing
empty-front : (ref : List ℕ) (q : Piece) → q.front ≤ length ref → spelt ref q ≡ [] → (q.front ≡ 0) × (q.chars ≡ [])
empty-front ref q h e =
    let l : length (take q.front ref ++ q.chars) ≡ 0 = ap length e in
    let a : length (take q.front ref) ≡ q.front = length-take-le q.front ref h in
    (omega (arith, length-append (take q.front ref) q.chars), none-long q.chars (omega (arith, length-append (take q.front ref) q.chars)))

-- Where the last separator is empty, one entry or two spell the same as one section: whatever the last is compressed against, it takes over nothing.
pub few-same : (ps : List Piece) → length ps ≤ 2 → fronts_fit [] ps ≡ true → closed [] (spell [] ps) ≡ true
    → (fronts_in [] [] (last_only ps) ≡ true) × (spell_all [] [] (last_only ps) ≡ spell [] ps)
unfolding fronts_fit fronts_in spell_all spell last_only closed
few-same [] h f c = (refl, refl)
few-same (p ∷ []) h f c = (f, refl)
few-same (p ∷ q ∷ []) h f c =
    let f1 = both-split (leb p.front 0) (both (leb q.front (length (spelt [] p))) true) f in
    let f2 = both-split (leb q.front (length (spelt [] p))) true f1.1 in
    let z = empty-front (spelt [] p) q (leb-true _ _ f2.0) (same-means _ [] c) in
    let g : both (leb p.front 0) (both (leb q.front 0) true) ≡ true =
    both-join (leb p.front 0) (both (leb q.front 0) true) f1.0 (both-join (leb q.front 0) true (le-leb q.front 0 (omega (arith, z.0))) refl) in
    let e : spelt [] q ≡ spelt (spelt [] p) q = rw (z.0, z.1) in
    (g, ap (λ (x : List ℕ). entry (spelt [] p) p.num ∷ entry x q.num ∷ []) e)
few-same (p ∷ q ∷ x ∷ ps) h f c = absurd (omega arith)
