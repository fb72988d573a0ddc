-- Entries in the old form: how many bytes they take, and that those which were laid are read back.
use Prim.Native.Nat.{ℕ, zero, suc, ◌+◌, ◌-◌, ◌^◌, ◌≤◌}
use mathlib.Core.Path.{◌≡◌, refl, ◌∙◌, ap}
use mathlib.Core.Bool.{true}
use mathlib.Core.List.{List, [], ◌∷◌, ◌++◌, append_assoc}
use lib.ListN.{length, length-append}
use lib.Dec.{ltb}
use native.Mathlib.Omega.{arith}
use borrow.Author.Tests.{ltb-true}
use Rattle.fields.specs.Lists.{every}
use Rattle.fields.proofs.Choices.{both-split}
use Rattle.index.specs.Meaning.{numbers, below}
use Rattle.index.specs.Pieces.{Piece, spelt, piece_size}
use Rattle.index.specs.Layout.{piece_bytes}
use Rattle.index.specs.Reading.{piece_at}
use Rattle.index.proofs.Compressing.{length-piece_bytes}
use Rattle.index.proofs.Laying.{piece-there}
use Rattle.index_old.specs.Pieces.{spell, pieces_size}
use Rattle.index_old.specs.Layout.{pieces_bytes}
use Rattle.index_old.specs.Reading.{pieces_at}

pub length-pieces_bytes : (w : ℕ) (ps : List Piece) → length (pieces_bytes w ps) ≡ pieces_size w ps
unfolding pieces_bytes pieces_size
length-pieces_bytes w [] = refl
length-pieces_bytes w (p ∷ ps) =
    omega (arith, length-append (pieces_bytes w ps) (piece_bytes w p), length-pieces_bytes w ps, length-piece_bytes w p)

pub length-spell : (ref : List ℕ) (ps : List Piece) → length (spell ref ps) ≡ length ps
unfolding spell
length-spell ref [] = refl
length-spell ref (p ∷ ps) = rw (length-spell (spelt ref p) ps)

pub length-pieces_at : (w : ℕ) (b : List ℕ) (r k : ℕ) → length (pieces_at w b r k) ≡ k
unfolding pieces_at
length-pieces_at w b r zero = refl
length-pieces_at w b r (suc k) = rw (length-pieces_at w b (r - piece_size w (piece_at w b r)) k)

pieces-cons : (w : ℕ) (b : List ℕ) (r e : ℕ) (x : Piece) → piece_at w b r ≡ x → pieces_at w b r (suc e) ≡ x ∷ pieces_at w b (r - piece_size w x) e
unfolding pieces_at
pieces-cons w b r e x q = ap (λ (y : Piece). y ∷ pieces_at w b (r - piece_size w y) e) q

-- All pieces that were laid up to r are read from there, each from the right edge that the one before left.
pub pieces-there : (w n : ℕ) (b p t ref : List ℕ) (ps : List Piece) (r : ℕ) → n ≤ 256 ^ w → below n (numbers (spell ref ps)) ≡ true
    → b ≡ p ++ (pieces_bytes w ps ++ t) → length p + pieces_size w ps ≡ r → pieces_at w b r (length ps) ≡ ps
unfolding pieces_at pieces_bytes pieces_size spell every
pieces-there w n b p t ref [] r h l q e = refl
pieces-there w n b p t ref (x ∷ ps) r h l q e =
    let s = both-split (ltb x.num n) (below n (numbers (spell (spelt ref x) ps))) l in
    let k : length (pieces_bytes w ps) ≡ pieces_size w ps = length-pieces_bytes w ps in
    let e1 : piece_at w b r ≡ x =
    piece-there w b (p ++ pieces_bytes w ps) t x r (omega (arith, ltb-true x.num n s.0)) (q ∙ simp append_assoc) (simp length-append (omega arith)) in
    let e2 : r - piece_size w x ≡ length p + pieces_size w ps = omega arith in
    pieces-cons w b r (length ps) x e1
    ∙ rw (e2, pieces-there w n b p (piece_bytes w x ++ t) (spelt ref x) ps (length p + pieces_size w ps) h s.1 (q ∙ simp append_assoc) refl)
