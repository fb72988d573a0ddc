-- An index record in sections is bytes: what is read from bytes means bytes, and what the writer makes of that is bytes again.
use Prim.Native.Nat.{ℕ, zero, suc, ◌+◌, ◌-◌, ◌^◌, ◌≤◌, ◌<◌}
use mathlib.Core.Path.{◌≡◌}
use mathlib.Core.Bool.{Bool, true, false}
use mathlib.Core.List.{List, [], ◌∷◌, ◌++◌}
use lib.ListN.{length, take, replicate}
use lib.Dec.{leb, ltb}
use native.Mathlib.Omega.{arith}
use borrow.Author.Tests.{ltb-true}
use Rattle.fields.specs.Choice.{pick, both}
use Rattle.fields.specs.Bytes.{Octets, digits}
use Rattle.fields.specs.Order.{common}
use Rattle.fields.specs.Lists.{every}
use Rattle.fields.proofs.Choices.{both-split}
use Rattle.fields.proofs.Octets.{octets-nil, octets-cons, octets-append, octets-take, octets-drop, octets-part, octets-replicate, octets-digits}
use Rattle.index.specs.Meaning.{Entry, Meaning}
use Rattle.index.specs.Rules.{rises}
use Rattle.index.specs.Pieces.{Piece, one_byte_each}
use Rattle.index.specs.Layout.{piece_bytes, free_bytes, unused_place, trailer}
use Rattle.index.specs.Reading.{section_at, free_count, length_at}
use Rattle.index.proofs.Closing.{SeparatorsOctets}
use Rattle.sections.specs.Parts.{Part, against, sep_of, high_after, spell_all, part_size}
use Rattle.sections.specs.Layout.{field_of, part_bytes, parts_bytes, last_place, record_length, section_place, header, layout, pieces_of}
use Rattle.sections.specs.Form.{section_for, packed_in, packed_all, index_size, index_bytes}
use Rattle.sections.specs.Reading.{parts_at, parts_in, read_index}
use Rattle.sections.proofs.Apart.{part_of, closes_at, end_past}
use Rattle.sections.proofs.Forming.{top, inner, rises-short, all_small}

-- ---- what is read

octets-pick : (t : Bool) (xs ys : List ℕ) → Octets xs → Octets ys → Octets (pick t xs ys)
octets-pick true xs ys o p = o
octets-pick false xs ys o p = p

spell-octets : (w : ℕ) (b : List ℕ) (r end e : ℕ) (high ref : List ℕ) → Octets b → Octets high → Octets ref
    → SeparatorsOctets (spell_all high ref (parts_at w b r end e))
unfolding spell_all parts_at
spell-octets w b r end zero high ref o h q = tt
spell-octets w b r end (suc e) high ref o h q =
    let p : Part = part_of w b r (closes_at w r end) in
    let x : Piece = p.piece in
    let a : List ℕ = against high ref p in
    let s : Octets (sep_of high ref p) =
    octets-append (take x.front a) x.chars (octets-take x.front a (octets-pick p.closes high ref h q))
    (octets-part b (r - (w + 2 + length_at w b r)) (length_at w b r) o) in (
      s,
      spell-octets w b (r - part_size w p) (end_past w b r end) e (high_after high ref p) (sep_of high ref p) o (octets-pick p.closes (sep_of high ref p) high s h) s,
    )

-- The separators that are read from bytes are bytes.
pub read-octets : (w n : ℕ) (ib : List ℕ) → Octets ib → SeparatorsOctets (read_index w n ib).entries
unfolding read_index parts_in
read-octets w n ib o = spell-octets w ib (length ib - 7) (section_at ib) (n - free_count w ib) [] [] o octets-nil octets-nil

-- What an index record keeps and its separators are bytes.
pub record MeansBytes (m : Meaning) : Type 0 where
  pub kept : Octets m.kept
  pub spare : m.spare < 256
  pub sep-bytes : SeparatorsOctets m.entries

-- So it is of what is read from bytes.
pub read-bytes : (w n : ℕ) (ib : List ℕ) → Octets ib → MeansBytes (read_index w n ib)
unfolding read_index
read-bytes w n ib o = record { kept = octets-part ib 4 12 o; spare = o 17; sep-bytes = read-octets w n ib o }

-- ---- what is laid out

-- The characters of entries are bytes.
abbrev pub CharsOctets : List Part → Type 0
CharsOctets [] = Unit {0}
CharsOctets (p ∷ ps) = Octets p.piece.chars × CharsOctets ps

octets-piece : (w : ℕ) (p : Piece) → p.front < 256 → length p.chars < 256 → Octets p.chars → Octets (piece_bytes w p)
unfolding piece_bytes
octets-piece w p f l o =
    octets-append p.chars (p.front ∷ length p.chars ∷ digits w p.num) o
    (octets-cons p.front (length p.chars ∷ digits w p.num) f (octets-cons (length p.chars) (digits w p.num) l (octets-digits w p.num)))

-- Entries whose F, L and characters are bytes, with their fields.
pub octets-parts : (w : ℕ) (ps : List Part) → one_byte_each (pieces_of ps) ≡ true → CharsOctets ps → Octets (parts_bytes w ps)
unfolding parts_bytes part_bytes every
octets-parts w [] h o = octets-nil
octets-parts w (p ∷ ps) h o =
    let x : Piece = p.piece in
    let a = both-split (both (ltb x.front 256) (ltb (length x.chars) 256)) (one_byte_each (pieces_of ps)) h in
    let b = both-split (ltb x.front 256) (ltb (length x.chars) 256) a.0 in
    let f : List ℕ = pick p.closes (digits 2 (field_of w p ps)) [] in
    octets-append (parts_bytes w ps) (f ++ piece_bytes w x) (octets-parts w ps a.1 o.1)
    (octets-append f (piece_bytes w x) (octets-pick p.closes (digits 2 (field_of w p ps)) [] (octets-digits 2 (field_of w p ps)) octets-nil)
    (octets-piece w x (ltb-true x.front 256 b.0) (ltb-true (length x.chars) 256 b.1) o.0))

octets-free : (w : ℕ) (xs : List ℕ) → Octets (free_bytes w xs)
unfolding free_bytes
octets-free w [] = octets-nil
octets-free w (x ∷ xs) = octets-append (digits w x) (free_bytes w xs) (octets-digits w x) (octets-free w xs)

-- the pointer indicator is a byte
indicator-small : (w : ℕ) → w ≤ 4 → 2 ^ w - 1 < 256
indicator-small zero h = omega arith
indicator-small (suc zero) h = omega arith
indicator-small (suc (suc zero)) h = omega arith
indicator-small (suc (suc (suc zero))) h = omega arith
indicator-small (suc (suc (suc (suc zero)))) h = omega arith
indicator-small (suc (suc (suc (suc (suc w))))) h = absurd (omega arith)

octets-header : (w : ℕ) (m : Meaning) (R u e f : ℕ) → w ≤ 4 → Octets m.kept → m.spare < 256 → Octets (header w m R u e f)
unfolding header
octets-header w m R u e f few o h =
    let d : List ℕ = digits 2 u ++ (digits 2 e ++ digits 2 f) in
    let t : Octets d = octets-append (digits 2 u) (digits 2 e ++ digits 2 f) (octets-digits 2 u) (octets-append (digits 2 e) (digits 2 f) (octets-digits 2 e) (octets-digits 2 f)) in
    octets-append (digits 2 R) ((w + 2) ∷ (2 ^ w - 1) ∷ (m.kept ++ (1 ∷ m.spare ∷ d))) (octets-digits 2 R)
    (octets-cons (w + 2) ((2 ^ w - 1) ∷ (m.kept ++ (1 ∷ m.spare ∷ d))) (omega arith)
    (octets-cons (2 ^ w - 1) (m.kept ++ (1 ∷ m.spare ∷ d)) (indicator-small w few)
    (octets-append m.kept (1 ∷ m.spare ∷ d) o (octets-cons 1 (m.spare ∷ d) (omega arith) (octets-cons m.spare d h t)))))

octets-trailer : (R : ℕ) → Octets (trailer R)
unfolding trailer
octets-trailer R =
    octets-cons 0 (digits 2 R ++ (digits 2 R ++ digits 2 0)) (omega arith)
    (octets-append (digits 2 R) (digits 2 R ++ digits 2 0) (octets-digits 2 R) (octets-append (digits 2 R) (digits 2 0) (octets-digits 2 R) (octets-digits 2 0)))

-- A layout of bytes is bytes, in any sections.
pub octets-layout : (w : ℕ) (m : Meaning) (unused : List ℕ) (ps : List Part) → w ≤ 4 → MeansBytes m → Octets unused → one_byte_each (pieces_of ps) ≡ true
    → CharsOctets ps → Octets (layout w m unused ps)
unfolding layout
octets-layout w m unused ps few b o small chars =
    let R : ℕ = record_length w m unused ps in
    let x : List ℕ = parts_bytes w ps in
    octets-append (header w m R (unused_place w m) (last_place w m unused ps) (section_place w m unused ps)) (free_bytes w m.free ++ (unused ++ (x ++ trailer R)))
    (octets-header w m R (unused_place w m) (last_place w m unused ps) (section_place w m unused ps) few b.kept b.spare)
    (octets-append (free_bytes w m.free) (unused ++ (x ++ trailer R)) (octets-free w m.free)
    (octets-append unused (x ++ trailer R) o (octets-append x (trailer R) (octets-parts w ps small chars) (octets-trailer R))))

-- ---- what the writer makes

pub packed-octets : (c left : ℕ) (high ref : List ℕ) (es : List Entry) → SeparatorsOctets es → CharsOctets (packed_in c left high ref es)
unfolding packed_in
packed-octets c left high ref [] o = tt
packed-octets c left high ref (e ∷ []) o = (octets-drop (common high e.sep) e.sep o.0, tt)
packed-octets c left high ref (e ∷ f ∷ es) o =
    go (leb left 1) (packed-octets c c e.sep e.sep (f ∷ es) o.1) (packed-octets c (left - 1) high e.sep (f ∷ es) o.1)
  where
    go : (t : Bool) → CharsOctets (packed_in c c e.sep e.sep (f ∷ es)) → CharsOctets (packed_in c (left - 1) high e.sep (f ∷ es))
        → CharsOctets (pick t (top high e ∷ packed_in c c e.sep e.sep (f ∷ es)) (inner ref e ∷ packed_in c (left - 1) high e.sep (f ∷ es)))
    go true i j = (octets-drop (common high e.sep) e.sep o.0, i)
    go false i j = (octets-drop (common ref e.sep) e.sep o.0, j)

-- The writer's index record is bytes where its meaning is of bytes.
pub index-octets : (w S K : ℕ) (low : List ℕ) (m : Meaning) → w ≤ 4 → K ≤ 255 → rises K low m.entries ≡ true → MeansBytes m → Octets (index_bytes w S m)
unfolding index_bytes
index-octets w S K low m few h r b =
    let c : ℕ = section_for (length m.entries) in
    octets-layout w m (replicate (S - 7 - index_size w m) 0) (packed_all m.entries) few b (octets-replicate (S - 7 - index_size w m) 0 (omega arith))
    (all_small m.entries (rises-short K low m.entries h r)) (packed-octets c c [] [] m.entries b.sep-bytes)
