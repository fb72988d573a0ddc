-- Bytes taken apart from the left: the entries in sections that are read lie there, each section's highest with its field before it.
use Prim.Native.Nat.{ℕ, zero, suc, ◌+◌, ◌-◌, ◌≤◌, ◌<◌}
use mathlib.Core.Path.{◌≡◌, refl, ◌∙◌, sym}
use mathlib.Core.Bool.{Bool, true, false}
use mathlib.Core.List.{List, [], ◌++◌, append_assoc}
use lib.ListN.{length, get_or, drop, length-take}
use lib.Dec.{eqb}
use native.Mathlib.Omega.{arith}
use borrow.Author.Tests.{eqb-true, lt-ltb}
use Rattle.fields.specs.Choice.{pick}
use Rattle.fields.specs.Bytes.{Octets, number, digits}
use Rattle.fields.specs.Lists.{every}
use Rattle.fields.proofs.Choices.{both-split}
use Rattle.index.specs.Pieces.{Piece, one_byte_each, piece_size}
use Rattle.index.specs.Layout.{piece_bytes}
use Rattle.index.specs.Reading.{numbers_at, length_at, piece_at, free_count}
use Rattle.index.proofs.Apart.{field_at, piece-at}
use Rattle.sections.specs.Parts.{Part, spell_all, part_size, parts_size}
use Rattle.sections.specs.Layout.{field_of, part_bytes, parts_bytes, pieces_of}
use Rattle.sections.specs.Reading.{parts_at, parts_in, read_index, fields_true}

-- the entry that ends at place r, whether it closes a section or not
abbrev pub part_of : ℕ → List ℕ → ℕ → Bool → Part
part_of w b r c = record { piece = piece_at w b r; closes = c }

-- whether the one read there closes the section that is open, and where the control information of the open section's highest lies past it
abbrev pub closes_at : ℕ → ℕ → ℕ → Bool
closes_at w r end = eqb (r - (w + 2)) end

abbrev pub end_past : ℕ → List ℕ → ℕ → ℕ → ℕ
end_past w b r end = pick (closes_at w r end) (end - number 2 b (r - part_size w (part_of w b r (closes_at w r end)))) end

pub length-parts_at : (w : ℕ) (b : List ℕ) (r end k : ℕ) → length (parts_at w b r end k) ≡ k
unfolding parts_at
length-parts_at w b r end zero = refl
length-parts_at w b r end (suc k) =
    rw (length-parts_at w b (r - part_size w (part_of w b r (closes_at w r end))) (end_past w b r end) k)

-- what the reading takes for free numbers, and for entries
pub free-are : (w n : ℕ) (ib : List ℕ) → (read_index w n ib).free ≡ numbers_at w ib 24 (free_count w ib)
unfolding read_index
free-are w n ib = refl

pub entries-are : (w n : ℕ) (ib : List ℕ) → (read_index w n ib).entries ≡ spell_all [] [] (parts_in w n ib)
unfolding read_index
entries-are w n ib = refl

-- the entry that is read as ending at r, and the field before it where it closes a section and the field is true
pub part-read : (w : ℕ) (b : List ℕ) (r : ℕ) (c : Bool) (ps : List Part) (t : List ℕ) → Octets b → r ≤ length b → part_size w (part_of w b r c) ≤ r
    → pick c (eqb (number 2 b (r - part_size w (part_of w b r c))) (field_of w (part_of w b r c) ps)) true ≡ true → drop r b ≡ t
    → drop (r - part_size w (part_of w b r c)) b ≡ part_bytes w (part_of w b r c) ps ++ t
unfolding part_bytes
part-read w b r true ps t o h k g q =
    let p : Piece = piece_at w b r in
    let z : ℕ = r - piece_size w p in
    let d : drop z b ≡ piece_bytes w p ++ t = piece-at w b r t o h (omega arith) q in
    let x : ℕ = field_of w (part_of w b r true) ps in
    field_at 2 b (r - (piece_size w p + 2)) z x (piece_bytes w p ++ t) o (omega arith) (omega arith) (eqb-true _ _ g) d
    ∙ sym (append_assoc (digits 2 x) (piece_bytes w p) t)
part-read w b r false ps t o h k g q =
    let p : Piece = piece_at w b r in
    let e : r - (piece_size w p + 0) ≡ r - piece_size w p = omega arith in
    rw e (piece-at w b r t o h (omega arith) q)

-- all entries that are read as ending at r
pub parts-at : (w : ℕ) (b : List ℕ) (r end e : ℕ) (t : List ℕ) → Octets b → r ≤ length b → parts_size w (parts_at w b r end e) ≤ r
    → fields_true w b r (parts_at w b r end e) ≡ true → drop r b ≡ t
    → drop (r - parts_size w (parts_at w b r end e)) b ≡ parts_bytes w (parts_at w b r end e) ++ t
unfolding parts_bytes parts_size parts_at fields_true
parts-at w b r end zero t o h k g q = let d : r - 0 ≡ r = omega arith in rw d q
parts-at w b r end (suc e) t o h k g q =
    let c : Bool = closes_at w r end in
    let p : Part = part_of w b r c in
    let z : ℕ = r - part_size w p in
    let ps : List Part = parts_at w b z (end_past w b r end) e in
    let s = both-split (pick c (eqb (number 2 b z) (field_of w p ps)) true) (fields_true w b z ps) g in
    let i : drop z b ≡ part_bytes w p ps ++ t = part-read w b r c ps t o h (omega arith) s.0 q in
    let j : drop (z - parts_size w ps) b ≡ parts_bytes w ps ++ (part_bytes w p ps ++ t) =
    parts-at w b z (end_past w b r end) e (part_bytes w p ps ++ t) o (omega arith) (omega arith) s.1 i in
    let x : r - (part_size w p + parts_size w ps) ≡ z - parts_size w ps = omega arith in
    rw x (j ∙ sym (append_assoc (parts_bytes w ps) (part_bytes w p ps) t))

-- F and L of what is read are bytes
pub small-parts : (w : ℕ) (b : List ℕ) (r end e : ℕ) → Octets b → one_byte_each (pieces_of (parts_at w b r end e)) ≡ true
unfolding every parts_at
small-parts w b r end zero o = refl
small-parts w b r end (suc e) o =
    let n : ℕ = length_at w b r in
    let f : get_or b (r - (w + 2)) 0 < 256 = o (r - (w + 2)) in
    let l : length (piece_at w b r).chars < 256 = omega (arith, o (r - (w + 1)), length-take n (drop (r - (w + 2 + n)) b)) in
    rw (lt-ltb _ _ f, lt-ltb _ _ l, small-parts w b (r - part_size w (part_of w b r (closes_at w r end))) (end_past w b r end) e o)
