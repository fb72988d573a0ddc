-- Bytes of entries put left of one another: the field of the last section's highest is told when the next one is put.
use Prim.Native.Nat.{ℕ, zero, suc, ◌+◌, ◌≤◌}
use mathlib.Core.Path.{◌≡◌, refl, ◌∙◌, sym, ap}
use mathlib.Core.Bool.{Bool, true, false}
use mathlib.Core.List.{List, [], ◌∷◌, ◌++◌, append_assoc, append-nil}
use lib.ListN.{length, length-append}
use lib.Dec.{eqb}
use native.Mathlib.Omega.{arith}
use borrow.Author.Tests.{eq-eqb, ne_eqb}
use Rattle.fields.specs.Choice.{pick}
use Rattle.fields.specs.Bytes.{digits, splice}
use Rattle.fields.proofs.Choices.{false-true}
use Rattle.fields.proofs.Numbers.{length_digits}
use Rattle.index.specs.Pieces.{piece_size}
use Rattle.index.specs.Layout.{piece_bytes}
use Rattle.sections.specs.Parts.{Part, part_size, parts_size, sections_in, ends_closed}
use Rattle.sections.specs.Layout.{ahead, last_long, part_bytes, parts_bytes}
use Rattle.index.proofs.Compressing.{length-piece_bytes}
use Rattle.sections.proofs.Laying.{closed_some}
use Rattle.index_pen.specs.AidStream.{field_by, parts_bytes_by, open_out, lead_out}
use Rattle.index_pen.proofs.Splicing.{splice-left, splice-right, splice-over}

-- Their sizes add up.
pub size-append : (w : ℕ) (ps qs : List Part) → parts_size w (ps ++ qs) ≡ parts_size w ps + parts_size w qs
unfolding parts_size
size-append w [] qs = omega arith
size-append w (p ∷ ps) qs = omega (arith, size-append w ps qs)

pub sections-append : (ps qs : List Part) → sections_in (ps ++ qs) ≡ sections_in ps + sections_in qs
unfolding sections_in
sections-append [] qs = omega arith
sections-append (p ∷ ps) qs = omega (arith, sections-append ps qs)

-- where no section closes among the first, the next one's highest lies past them all; else it is among them
pub ahead_past : (w : ℕ) (ps qs : List Part) → sections_in ps ≡ 0 → ahead w (ps ++ qs) ≡ parts_size w ps + ahead w qs
unfolding sections_in ahead parts_size
ahead_past w [] qs h = omega arith
ahead_past w (p ∷ ps) qs h = go p.closes refl (λ (z : sections_in ps ≡ 0). ahead_past w ps qs z)
  where
    go : (t : Bool) → p.closes ≡ t → (sections_in ps ≡ 0 → ahead w (ps ++ qs) ≡ parts_size w ps + ahead w qs)
        → pick p.closes (w + 2) (piece_size w p.piece + ahead w (ps ++ qs)) ≡ piece_size w p.piece + pick p.closes 2 0 + parts_size w ps + ahead w qs
    go true c i = absurd (let z : 1 + sections_in ps ≡ 0 = rw c at h in omega (arith, z))
    go false c i = let z : 0 + sections_in ps ≡ 0 = rw c at h in rw c (omega (arith, i (omega (arith, z))))

pub ahead-among : (w : ℕ) (ps qs : List Part) → 1 ≤ sections_in ps → ahead w (ps ++ qs) ≡ ahead w ps
unfolding sections_in ahead
ahead-among w [] qs h = absurd (omega arith)
ahead-among w (p ∷ ps) qs h = go p.closes refl (λ (z : 1 ≤ sections_in ps). ahead-among w ps qs z)
  where
    go : (t : Bool) → p.closes ≡ t → (1 ≤ sections_in ps → ahead w (ps ++ qs) ≡ ahead w ps)
        → pick p.closes (w + 2) (piece_size w p.piece + ahead w (ps ++ qs)) ≡ pick p.closes (w + 2) (piece_size w p.piece + ahead w ps)
    go true c i = rw c
    go false c i = let z : 1 ≤ 0 + sections_in ps = rw c at h in rw (c, i (omega (arith, z)))

-- where no section closes, no field is told
pub open-bytes : (w x y : ℕ) (ps : List Part) → sections_in ps ≡ 0 → parts_bytes_by w x ps ≡ parts_bytes_by w y ps
unfolding sections_in parts_bytes_by
open-bytes w x y [] h = refl
open-bytes w x y (p ∷ ps) h = go p.closes refl (λ (z : sections_in ps ≡ 0). open-bytes w x y ps z)
  where
    go : (t : Bool) → p.closes ≡ t → (sections_in ps ≡ 0 → parts_bytes_by w x ps ≡ parts_bytes_by w y ps)
        → parts_bytes_by w x ps ++ (pick p.closes (digits 2 (field_by w x p ps)) [] ++ piece_bytes w p.piece)
        ≡ parts_bytes_by w y ps ++ (pick p.closes (digits 2 (field_by w y p ps)) [] ++ piece_bytes w p.piece)
    go true c i = absurd (let z : 1 + sections_in ps ≡ 0 = rw c at h in omega (arith, z))
    go false c i = let z : 0 + sections_in ps ≡ 0 = rw c at h in rw (c, i (omega (arith, z)))

-- Bytes of some, then of others in which a section closes: the field that was still to be told leads to the first of these.
pub bytes-append : (w last : ℕ) (ps qs : List Part) → 1 ≤ sections_in qs
    → parts_bytes_by w last (ps ++ qs) ≡ parts_bytes_by w last qs ++ parts_bytes_by w (lead_out w ps + ahead w qs) ps
unfolding parts_bytes_by lead_out
bytes-append w last [] qs h = sym (append-nil (parts_bytes_by w last qs))
bytes-append w last (p ∷ ps) qs h = go (sections_in ps) refl (bytes-append w last ps qs h)
  where
    field_is : field_by w last p (ps ++ qs) ≡ length p.piece.chars + 2 + ahead w (ps ++ qs)
    field_is = rw (ne_eqb (sections_in (ps ++ qs)) 0 (omega (arith, sections-append ps qs, h)))

    X : ℕ
    X = lead_out w (p ∷ ps) + ahead w qs

    tail-is : field_by w last p (ps ++ qs) ≡ field_by w X p ps → parts_bytes_by w (lead_out w ps + ahead w qs) ps ≡ parts_bytes_by w X ps
        → parts_bytes_by w last (ps ++ qs) ≡ parts_bytes_by w last qs ++ parts_bytes_by w (lead_out w ps + ahead w qs) ps
        → parts_bytes_by w last (ps ++ qs) ++ (pick p.closes (digits 2 (field_by w last p (ps ++ qs))) [] ++ piece_bytes w p.piece)
        ≡ parts_bytes_by w last qs ++ (parts_bytes_by w X ps ++ (pick p.closes (digits 2 (field_by w X p ps)) [] ++ piece_bytes w p.piece))
    tail-is f b i = rw (i, b, f) (append_assoc (parts_bytes_by w last qs) (parts_bytes_by w X ps) _)

    go : (k : ℕ) → sections_in ps ≡ k → parts_bytes_by w last (ps ++ qs) ≡ parts_bytes_by w last qs ++ parts_bytes_by w (lead_out w ps + ahead w qs) ps
        → parts_bytes_by w last (ps ++ qs) ++ (pick p.closes (digits 2 (field_by w last p (ps ++ qs))) [] ++ piece_bytes w p.piece)
        ≡ parts_bytes_by w last qs ++ (parts_bytes_by w X ps ++ (pick p.closes (digits 2 (field_by w X p ps)) [] ++ piece_bytes w p.piece))
    go zero k i =
        let t : eqb (sections_in ps) 0 ≡ true = eq-eqb (sections_in ps) 0 k in
        let x : X ≡ length p.piece.chars + 2 + parts_size w ps + ahead w qs = rw t in
        let y : field_by w X p ps ≡ X = rw t in
        tail-is (field_is ∙ omega (arith, ahead_past w ps qs k, x, y)) (open-bytes w (lead_out w ps + ahead w qs) X ps k) i
    go (suc m) k i =
        let t : eqb (sections_in ps) 0 ≡ false = ne_eqb (sections_in ps) 0 (omega (arith, k)) in
        let x : X ≡ lead_out w ps + ahead w qs = rw t in
        let y : field_by w X p ps ≡ length p.piece.chars + 2 + ahead w ps = rw t in
        tail-is (field_is ∙ omega (arith, ahead-among w ps qs (omega (arith, k)), y)) (ap (λ (z : ℕ). parts_bytes_by w z ps) (sym x)) i

-- With no more to come the field is zero: these are the bytes of the layout.
pub bytes_whole : (w : ℕ) (ps : List Part) → parts_bytes_by w 0 ps ≡ parts_bytes w ps
unfolding parts_bytes_by parts_bytes part_bytes
bytes_whole w [] = refl
bytes_whole w (p ∷ ps) = rw (bytes_whole w ps)

-- ---- one that closes no section

-- Bytes of some, then of others in which no section closes: no field changes.
pub bytes-open : (w last : ℕ) (ps qs : List Part) → sections_in qs ≡ 0 → parts_bytes_by w last (ps ++ qs) ≡ parts_bytes_by w last qs ++ parts_bytes_by w last ps
unfolding parts_bytes_by
bytes-open w last [] qs h = sym (append-nil (parts_bytes_by w last qs))
bytes-open w last (p ∷ ps) qs h = rw (bytes-open w last ps qs h, field-same (sections_in ps) refl) (append_assoc (parts_bytes_by w last qs) (parts_bytes_by w last ps) _)
  where
    field-same : (k : ℕ) → sections_in ps ≡ k → field_by w last p (ps ++ qs) ≡ field_by w last p ps
    field-same zero k =
        let t : eqb (sections_in ps) 0 ≡ true = eq-eqb (sections_in ps) 0 k in
        let u : eqb (sections_in (ps ++ qs)) 0 ≡ true = eq-eqb (sections_in (ps ++ qs)) 0 (omega (arith, sections-append ps qs, h, k)) in
        rw (t, u)
    field-same (suc m) k =
        let t : eqb (sections_in ps) 0 ≡ false = ne_eqb (sections_in ps) 0 (omega (arith, k)) in
        let u : eqb (sections_in (ps ++ qs)) 0 ≡ false = ne_eqb (sections_in (ps ++ qs)) 0 (omega (arith, sections-append ps qs, h, k)) in
        rw (t, u, ahead-among w ps qs (omega (arith, k)))

-- ---- where the last field lies

pub length-bytes_by : (w last : ℕ) (ps : List Part) → length (parts_bytes_by w last ps) ≡ parts_size w ps
unfolding parts_bytes_by parts_size
length-bytes_by w last [] = refl
length-bytes_by w last (p ∷ ps) =
    let f : List ℕ = pick p.closes (digits 2 (field_by w last p ps)) [] in
    omega (
      arith,
      length-append (parts_bytes_by w last ps) (f ++ piece_bytes w p.piece),
      length-append f (piece_bytes w p.piece),
      length-bytes_by w last ps,
      length-piece_bytes w p.piece,
      field-long p.closes (field_by w last p ps),
    )
  where
    field-long : (t : Bool) (x : ℕ) → length (pick t (digits 2 x) []) ≡ pick t 2 0
    field-long true x = length_digits 2 x
    field-long false x = refl

first-closes : (p : Part) (ps : List Part) → 1 ≤ sections_in (p ∷ ps) → sections_in ps ≡ 0 → p.closes ≡ true
unfolding sections_in
first-closes p ps h z = go p.closes refl
  where
    go : (t : Bool) → p.closes ≡ t → t ≡ true
    go true c = refl
    go false c = absurd (let y : 1 ≤ 0 + sections_in ps = rw c at h in omega (arith, y, z))

pub open-most : (w : ℕ) (ps : List Part) → 1 ≤ sections_in ps → open_out w ps + 2 ≤ parts_size w ps
unfolding open_out parts_size
open-most w [] h = absurd (unfold sections_in in (omega (arith, h)))
open-most w (p ∷ ps) h = go (sections_in ps) refl (λ (z : 1 ≤ sections_in ps). open-most w ps z)
  where
    go : (k : ℕ) → sections_in ps ≡ k → (1 ≤ sections_in ps → open_out w ps + 2 ≤ parts_size w ps)
        → pick (eqb (sections_in ps) 0) (parts_size w ps) (open_out w ps) + 2 ≤ part_size w p + parts_size w ps
    go zero k i =
        let c : p.closes ≡ true = first-closes p ps h k in
        let s : part_size w p ≡ piece_size w p.piece + 2 = rw c in
        rw (eq-eqb (sections_in ps) 0 k) (omega (arith, s))
    go (suc m) k i = rw (ne_eqb (sections_in ps) 0 (omega (arith, k))) (omega (arith, i (omega (arith, k))))

pub lead-most : (w : ℕ) (ps : List Part) → 1 ≤ sections_in ps → lead_out w ps ≤ parts_size w ps
unfolding lead_out parts_size
lead-most w [] h = absurd (unfold sections_in in (omega (arith, h)))
lead-most w (p ∷ ps) h = go (sections_in ps) refl (λ (z : 1 ≤ sections_in ps). lead-most w ps z)
  where
    go : (k : ℕ) → sections_in ps ≡ k → (1 ≤ sections_in ps → lead_out w ps ≤ parts_size w ps)
        → pick (eqb (sections_in ps) 0) (length p.piece.chars + 2 + parts_size w ps) (lead_out w ps) ≤ part_size w p + parts_size w ps
    go zero k i =
        let s : part_size w p ≡ piece_size w p.piece + 2 = rw (first-closes p ps h k) in
        rw (eq-eqb (sections_in ps) 0 k) (omega (arith, s))
    go (suc m) k i = rw (ne_eqb (sections_in ps) 0 (omega (arith, k))) (omega (arith, i (omega (arith, k))))

pub open-past : (w : ℕ) (ps qs : List Part) → 1 ≤ sections_in ps → sections_in qs ≡ 0
    → (open_out w (ps ++ qs) ≡ open_out w ps + parts_size w qs) × (lead_out w (ps ++ qs) ≡ lead_out w ps + parts_size w qs)
unfolding open_out lead_out
open-past w [] qs h z = absurd (unfold sections_in in (omega (arith, h)))
open-past w (p ∷ ps) qs h z = go (sections_in ps) refl (λ (y : 1 ≤ sections_in ps). open-past w ps qs y z)
  where
    go : (k : ℕ) → sections_in ps ≡ k
        → (1 ≤ sections_in ps → (open_out w (ps ++ qs) ≡ open_out w ps + parts_size w qs) × (lead_out w (ps ++ qs) ≡ lead_out w ps + parts_size w qs))
        → (pick (eqb (sections_in (ps ++ qs)) 0) (parts_size w (ps ++ qs)) (open_out w (ps ++ qs)) ≡ pick (eqb (sections_in ps) 0) (parts_size w ps) (open_out w ps) + parts_size w qs)
        × (pick (eqb (sections_in (ps ++ qs)) 0) (length p.piece.chars + 2 + parts_size w (ps ++ qs)) (lead_out w (ps ++ qs))
        ≡ pick (eqb (sections_in ps) 0) (length p.piece.chars + 2 + parts_size w ps) (lead_out w ps) + parts_size w qs)
    go zero k i =
        let t : eqb (sections_in ps) 0 ≡ true = eq-eqb (sections_in ps) 0 k in
        let u : eqb (sections_in (ps ++ qs)) 0 ≡ true = eq-eqb (sections_in (ps ++ qs)) 0 (omega (arith, sections-append ps qs, z, k)) in
        rw (t, u) (size-append w ps qs, omega (arith, size-append w ps qs))
    go (suc m) k i =
        let t : eqb (sections_in ps) 0 ≡ false = ne_eqb (sections_in ps) 0 (omega (arith, k)) in
        let u : eqb (sections_in (ps ++ qs)) 0 ≡ false = ne_eqb (sections_in (ps ++ qs)) 0 (omega (arith, sections-append ps qs, z, k)) in
        rw (t, u) (i (omega (arith, k)))

pub open-last : (w : ℕ) (ps : List Part) (p : Part) → p.closes ≡ true
    → (open_out w (ps ++ (p ∷ [])) ≡ 0) × (lead_out w (ps ++ (p ∷ [])) ≡ length p.piece.chars + 2)
unfolding open_out lead_out
open-last w [] p c = unfold sections_in parts_size in (refl, omega arith)
open-last w (x ∷ ps) p c =
    let one : sections_in (p ∷ []) ≡ 1 = unfold sections_in in rw c in
    let u : eqb (sections_in (ps ++ (p ∷ []))) 0 ≡ false = ne_eqb (sections_in (ps ++ (p ∷ []))) 0 (omega (arith, sections-append ps (p ∷ []), one)) in
    rw u (open-last w ps p c)

-- The last field is told later.
pub field_told : (w x y : ℕ) (ps : List Part) → 1 ≤ sections_in ps → splice (parts_bytes_by w y ps) (open_out w ps) (digits 2 x) ≡ parts_bytes_by w x ps
unfolding parts_bytes_by open_out
field_told w x y [] h = absurd (unfold sections_in in (omega (arith, h)))
field_told w x y (p ∷ ps) h = go (sections_in ps) refl (λ (z : 1 ≤ sections_in ps). field_told w x y ps z)
  where
    two : length (digits 2 x) ≡ 2
    two = length_digits 2 x

    go : (k : ℕ) → sections_in ps ≡ k → (1 ≤ sections_in ps → splice (parts_bytes_by w y ps) (open_out w ps) (digits 2 x) ≡ parts_bytes_by w x ps)
        → splice (parts_bytes_by w y ps ++ (pick p.closes (digits 2 (field_by w y p ps)) [] ++ piece_bytes w p.piece))
        (pick (eqb (sections_in ps) 0) (parts_size w ps) (open_out w ps)) (digits 2 x)
        ≡ parts_bytes_by w x ps ++ (pick p.closes (digits 2 (field_by w x p ps)) [] ++ piece_bytes w p.piece)
    go zero k i =
        let c : p.closes ≡ true = first-closes p ps h k in
        let t : eqb (sections_in ps) 0 ≡ true = eq-eqb (sections_in ps) 0 k in
        let l : length (parts_bytes_by w y ps) ≡ parts_size w ps = length-bytes_by w y ps in
        let e : parts_size w ps ≡ length (parts_bytes_by w y ps) + 0 = omega (arith, l) in
        rw (c, t, e)
        (splice-right (parts_bytes_by w y ps) (digits 2 y ++ piece_bytes w p.piece) 0 (digits 2 x)
        ∙ rw (open-bytes w y x ps k, splice-over (digits 2 y) (digits 2 x) (piece_bytes w p.piece) (length_digits 2 y ∙ sym two)))
    go (suc m) k i =
        let t : eqb (sections_in ps) 0 ≡ false = ne_eqb (sections_in ps) 0 (omega (arith, k)) in
        let l : length (parts_bytes_by w y ps) ≡ parts_size w ps = length-bytes_by w y ps in
        let o : open_out w ps + length (digits 2 x) ≤ length (parts_bytes_by w y ps) = omega (arith, l, two, open-most w ps (omega (arith, k))) in
        rw t
        (splice-left (parts_bytes_by w y ps) (pick p.closes (digits 2 (length p.piece.chars + 2 + ahead w ps)) [] ++ piece_bytes w p.piece) (open_out w ps) (digits 2 x) o
        ∙ rw (i (omega (arith, k))))

-- Where the last entry closes a section, its control information lies past its characters and the field.
pub lead-last : (w : ℕ) (ps : List Part) → ends_closed ps ≡ true → lead_out w ps ≡ last_long ps + 2
unfolding lead_out last_long ends_closed
lead-last w [] h = absurd (false-true h)
lead-last w (p ∷ []) h = unfold sections_in parts_size in (omega arith)
lead-last w (p ∷ q ∷ ps) h =
    let z : eqb (sections_in (q ∷ ps)) 0 ≡ false = ne_eqb (sections_in (q ∷ ps)) 0 (omega (arith, closed_some (q ∷ ps) h)) in
    rw z (lead-last w (q ∷ ps) h)
