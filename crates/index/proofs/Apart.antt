-- Bytes taken apart from the left: what lies at a place, and what follows it; free numbers and an entry that are read lie there.
use Prim.Native.Nat.{ℕ, zero, suc, ◌+◌, ◌-◌, ◌*◌, ◌≤◌, ◌<◌}
use mathlib.Core.Path.{◌≡◌, refl, ◌∙◌, sym, ap}
use mathlib.Core.List.{List, ◌∷◌, ◌++◌, append_assoc, [], append-nil}
use lib.ListN.{length, get_or, drop, length-take, length-drop, take-append-drop}
use lib.Seq.{drop-drop, drop-cons, drop-length}
use native.Mathlib.Omega.{arith}
use native.Mathlib.Nat.{mul-suc}
use Rattle.fields.specs.Bytes.{Octets, part, number, digits}
use Rattle.fields.proofs.Numbers.{digits_number}
use Rattle.index.specs.Pieces.{piece_size}
use Rattle.index.specs.Layout.{piece_bytes, free_bytes, trailer}
use Rattle.index.specs.Reading.{numbers_at, length_at, piece_at}
use Rattle.index.proofs.Sounding.{Framed}

-- l bytes at a, and what follows them
pub part_at : (b : List ℕ) (a l z : ℕ) (t : List ℕ) → a + l ≡ z → drop z b ≡ t → drop a b ≡ part b a l ++ t
part_at b a l z t e q = sym (take-append-drop l (drop a b)) ∙ ap (λ (x : List ℕ). part b a l ++ x) (drop-drop l a b ∙ rw e q)

-- one byte
pub byte_at : (b : List ℕ) (a z v : ℕ) (t : List ℕ) → suc a ≡ z → z ≤ length b → get_or b a 0 ≡ v → drop z b ≡ t → drop a b ≡ v ∷ t
byte_at b a z v t e h g q =
    let d : drop (suc a) b ≡ t = rw e q in
    drop-cons b a 0 (omega arith) ∙ rw (g, d)

-- a field of w bytes
pub field_at : (w : ℕ) (b : List ℕ) (a z x : ℕ) (t : List ℕ) → Octets b → a + w ≡ z → z ≤ length b → number w b a ≡ x → drop z b ≡ t → drop a b ≡ digits w x ++ t
field_at w b a z x t o e h g q =
    part_at b a w z t e q ∙ ap (λ (y : List ℕ). y ++ t) (sym (digits_number w b a o (omega arith)) ∙ ap (λ (y : ℕ). digits w y) g)

pub length-numbers_at : (w : ℕ) (b : List ℕ) (a c : ℕ) → length (numbers_at w b a c) ≡ c
unfolding numbers_at
length-numbers_at w b a zero = refl
length-numbers_at w b a (suc c) = rw (length-numbers_at w b (a + w) c)

-- number i of them
pub number_at : (w : ℕ) (ib : List ℕ) (a c i : ℕ) → i < c → get_or (numbers_at w ib a c) i 0 ≡ number w ib (a + w * i)
unfolding numbers_at
number_at w ib a zero i h = absurd (omega arith)
number_at w ib a (suc c) zero h = let z : a + w * 0 ≡ a = omega arith in rw z
number_at w ib a (suc c) (suc i) h =
    let z : a + w * suc i ≡ a + w + w * i = omega (arith, mul-suc w i) in
    rw z (number_at w ib (a + w) c i (omega arith))

-- c free numbers that are read from a on
pub free-at : (w : ℕ) (b : List ℕ) (a c z : ℕ) (t : List ℕ) → Octets b → a + w * c ≡ z → z ≤ length b → drop z b ≡ t
    → drop a b ≡ free_bytes w (numbers_at w b a c) ++ t
unfolding free_bytes numbers_at
free-at w b a zero z t o e h q = let d : a ≡ z = omega arith in rw d q
free-at w b a (suc c) z t o e h q =
    let i : drop (a + w) b ≡ free_bytes w (numbers_at w b (a + w) c) ++ t = free-at w b (a + w) c z t o (omega arith) h q in
    field_at w b a (a + w) (number w b a) (free_bytes w (numbers_at w b (a + w) c) ++ t) o refl (omega arith) refl i ∙ simp append_assoc

-- A piece that is read and whose bytes are there has as many characters as its L says.
pub chars-long : (w : ℕ) (b : List ℕ) (r : ℕ) → r ≤ length b → piece_size w (piece_at w b r) ≤ r → length (piece_at w b r).chars ≡ length_at w b r
chars-long w b r h k =
    let n : ℕ = length_at w b r in
    omega (arith, length-take n (drop (r - (w + 2 + n)) b), length-drop (r - (w + 2 + n)) b)

-- the piece that is read as ending at r
pub piece-at : (w : ℕ) (b : List ℕ) (r : ℕ) (t : List ℕ) → Octets b → r ≤ length b → piece_size w (piece_at w b r) ≤ r → drop r b ≡ t
    → drop (r - piece_size w (piece_at w b r)) b ≡ piece_bytes w (piece_at w b r) ++ t
unfolding piece_bytes
piece-at w b r t o h k q =
    let n : ℕ = length_at w b r in
    let l : length (piece_at w b r).chars ≡ n = chars-long w b r h k in
    let d1 : drop (r - w) b ≡ digits w (number w b (r - w)) ++ t = field_at w b (r - w) r (number w b (r - w)) t o (omega arith) h refl q in
    let d2 : drop (r - (w + 1)) b ≡ n ∷ (digits w (number w b (r - w)) ++ t) = byte_at b (r - (w + 1)) (r - w) n _ (omega arith) (omega arith) refl d1 in
    let d3 : drop (r - (w + 2)) b ≡ get_or b (r - (w + 2)) 0 ∷ n ∷ (digits w (number w b (r - w)) ++ t) =
    byte_at b (r - (w + 2)) (r - (w + 1)) (get_or b (r - (w + 2)) 0) _ (omega arith) (omega arith) refl d2 in
    let d4 : drop (r - (w + 2 + n)) b ≡ (piece_at w b r).chars ++ (get_or b (r - (w + 2)) 0 ∷ n ∷ (digits w (number w b (r - w)) ++ t)) =
    part_at b (r - (w + 2 + n)) n (r - (w + 2)) _ (omega arith) d3 in
    rw l (d4 ∙ sym (append_assoc (piece_at w b r).chars _ t))

-- RDF and CIDF of a framed record hold what they must
pub trailer-at : (w : ℕ) (b : List ℕ) → Octets b → 31 ≤ length b → Framed w b → drop (length b - 7) b ≡ trailer (length b - 7)
unfolding trailer
trailer-at w b o large f =
    let S : ℕ = length b in
    let R : ℕ = length b - 7 in
    let d2 : drop (S - 2) b ≡ digits 2 0 ++ [] = field_at 2 b (S - 2) S 0 [] o (omega arith) (omega arith) f.none (drop-length b) in
    let d4 : drop (S - 4) b ≡ digits 2 R ++ (digits 2 0 ++ []) = field_at 2 b (S - 4) (S - 2) R _ o (omega arith) (omega arith) f.cidf d2 in
    let d6 : drop (S - 6) b ≡ digits 2 R ++ (digits 2 R ++ (digits 2 0 ++ [])) = field_at 2 b (S - 6) (S - 4) R _ o (omega arith) (omega arith) f.rdf-length d4 in
    byte_at b R (S - 6) 0 _ (omega arith) (omega arith) f.rdf d6 ∙ simp append-nil
