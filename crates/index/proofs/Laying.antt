-- What lies at a place of bytes that were laid: free numbers and an entry are read back.
use Prim.Native.Nat.{ℕ, ◌+◌, ◌-◌, ◌^◌, ◌≤◌, ◌<◌}
use mathlib.Core.Path.{◌≡◌, refl, ◌∙◌}
use mathlib.Core.Bool.{true}
use mathlib.Core.List.{List, [], ◌∷◌, ◌++◌, append_assoc}
use lib.ListN.{length, get_or, length-append}
use lib.Dec.{ltb}
use native.Mathlib.Omega.{arith}
use borrow.Author.Tests.{ltb-true}
use Rattle.fields.specs.Bytes.{part, number, digits}
use Rattle.fields.specs.Lists.{every}
use Rattle.fields.proofs.Choices.{both-split}
use Rattle.fields.proofs.Numbers.{length_digits, at-seam, part-seam, number-seam}
use Rattle.index.specs.Meaning.{below}
use Rattle.index.specs.Pieces.{Piece, piece_size}
use Rattle.index.specs.Layout.{piece_bytes, free_bytes}
use Rattle.index.specs.Reading.{numbers_at, piece_at}

-- Free numbers that were laid are read, if they are below what w bytes hold.
pub free-there : (w n : ℕ) (b p xs t : List ℕ) (i : ℕ) → n ≤ 256 ^ w → below n xs ≡ true → b ≡ p ++ (free_bytes w xs ++ t) → length p ≡ i → numbers_at w b i (length xs) ≡ xs
unfolding numbers_at free_bytes every
free-there w n b p [] t i h l e q = refl
free-there w n b p (x ∷ xs) t i h l e q =
    let s = both-split (ltb x n) (below n xs) l in
    let e1 : number w b i ≡ x = number-seam w b p (free_bytes w xs ++ t) x i (omega (arith, ltb-true x n s.0)) (e ∙ simp append_assoc) q in
    let e2 : numbers_at w b (i + w) (length xs) ≡ xs =
    free-there w n b (p ++ digits w x) xs t (i + w) h s.1 (e ∙ simp append_assoc) (simp length-append (omega (arith, length_digits w x))) in
    rw (e1, e2)

-- A piece that was laid to end at r is read there.
pub piece-there : (w : ℕ) (b p t : List ℕ) (x : Piece) (r : ℕ) → x.num < 256 ^ w → b ≡ p ++ (piece_bytes w x ++ t) → length p + piece_size w x ≡ r → piece_at w b r ≡ x
unfolding piece_bytes
piece-there w b p t x r l q h =
    let f : ℕ = x.front in
    let c : List ℕ = x.chars in
    let n : ℕ = length c in
    let e1 : get_or b (r - (w + 2)) 0 ≡ f = at-seam b (p ++ c) (n ∷ (digits w x.num ++ t)) f _ (q ∙ simp append_assoc) (simp length-append (omega arith)) in
    let e2 : get_or b (r - (w + 1)) 0 ≡ n = at-seam b (p ++ (c ++ (f ∷ []))) (digits w x.num ++ t) n _ (q ∙ simp append_assoc) (simp length-append (omega arith)) in
    let e3 : part b (r - (w + 2 + n)) n ≡ c = part-seam b p c (f ∷ n ∷ (digits w x.num ++ t)) (r - (w + 2 + n)) n (q ∙ simp append_assoc) (omega arith) refl in
    let e4 : number w b (r - w) ≡ x.num =
    number-seam w b (p ++ (c ++ (f ∷ n ∷ []))) t x.num _ l (q ∙ simp append_assoc) (simp length-append (omega arith)) in
    rw (e2, e1, e3, e4)
