-- Laws of numbers in bytes: digits and number undo each other, at every width.
use Prim.Native.Nat.{ℕ, zero, suc, ◌+◌, ◌-◌, ◌*◌, ◌/◌, ◌%◌, ◌^◌, ◌≤◌, ◌<◌}
use mathlib.Core.Path.{◌≡◌, refl, ◌∙◌, sym, ap}
use mathlib.Core.List.{List, [], ◌∷◌, ◌++◌, append_assoc, append-nil}
use lib.ListN.{length, get_or, drop, set, length-append, length-drop}
use lib.Seq.{get_or-append_seam, take_at, drop_at, take-suc, get_or-drop}
use native.Mathlib.Omega.{arith}
use native.Mathlib.Nat.{div-add-mod', mul-suc, pow-suc, mul_assoc}
use native.Mathlib.Numerals.{add-one}
use Rattle.std.proofs.Math.Nat.{pow-le-pow_right}
use Rattle.fields.specs.Bytes.{Octets, part, number, digits, splice}
use Rattle.fields.proofs.Splices.{splice-nil, set-splice, length-splice}

pub length_digits : (w x : ℕ) → length (digits w x) ≡ w
unfolding digits
length_digits zero x = refl
length_digits (suc w) x = simp (length-append, length_digits w (x / 256)) (omega arith)

-- what stands where two lists meet
pub at-seam : (w xs ys : List ℕ) (v i : ℕ) → w ≡ xs ++ v ∷ ys → length xs ≡ i → get_or w i 0 ≡ v
at-seam w xs ys v i e h = rw (e, ← h) (get_or-append_seam xs v ys 0)

pub part-seam : (w xs ys zs : List ℕ) (i l : ℕ) → w ≡ xs ++ (ys ++ zs) → length xs ≡ i → length ys ≡ l → part w i l ≡ ys
part-seam w xs ys zs i l e h k = rw (e, drop_at xs (ys ++ zs) i h, take_at ys zs l k)

-- a number's digits, wherever they lie, hold that number
pub number-seam : (w : ℕ) (b xs ys : List ℕ) (x i : ℕ) → x < 256 ^ w → b ≡ xs ++ (digits w x ++ ys) → length xs ≡ i → number w b i ≡ x
unfolding number digits
number-seam zero b xs ys x i l e h = omega arith
number-seam (suc w) b xs ys x i l e h =
    let l' : x / 256 < 256 ^ w = omega arith in
    let d : List ℕ = digits w (x / 256) in
    let i1 : number w b i ≡ x / 256 = number-seam w b xs (x % 256 ∷ ys) (x / 256) i l' (e ∙ simp append_assoc) h in
    let i2 : get_or b (i + w) 0 ≡ x % 256 = at-seam b (xs ++ d) ys (x % 256) (i + w) (e ∙ simp append_assoc) (simp length-append (omega (arith, length_digits w (x / 256)))) in
    rw (i1, i2) (div-add-mod' x 256)

pub number_digits : (w x : ℕ) → x < 256 ^ w → number w (digits w x) 0 ≡ x
number_digits w x h = number-seam w (digits w x) [] [] x 0 h (sym (append-nil (digits w x))) refl

pub number-byte : (b : List ℕ) (a : ℕ) → number 1 b a ≡ get_or b a 0
unfolding number
number-byte b a = let e : a + 0 ≡ a = omega arith in rw e (omega arith)

-- w bytes hold less than 256 ^ w
pub number-below : (w : ℕ) (b : List ℕ) (a : ℕ) → Octets b → number w b a < 256 ^ w
unfolding number
number-below zero b a o = omega arith
number-below (suc w) b a o = omega (arith, number-below w b a o, o (a + w))

-- and the digits of what they hold are those bytes
pub digits_number : (w : ℕ) (b : List ℕ) (a : ℕ) → Octets b → a + w ≤ length b → digits w (number w b a) ≡ part b a w
unfolding number digits
digits_number zero b a o h = refl
digits_number (suc w) b a o h =
    let q : (number w b a * 256 + get_or b (a + w) 0) / 256 ≡ number w b a = omega (arith, o (a + w)) in
    let r : (number w b a * 256 + get_or b (a + w) 0) % 256 ≡ get_or b (a + w) 0 = omega (arith, o (a + w)) in
    let l : w < length (drop a b) = simp length-drop (omega arith) in
    let s : part b a (suc w) ≡ part b a w ++ (get_or b (a + w) 0 ∷ []) = take-suc (drop a b) w 0 l ∙ rw get_or-drop in
    rw (q, r, s, digits_number w b a o (omega arith))

pub number-2 : (b : List ℕ) (i : ℕ) → number 2 b i ≡ get_or b i 0 * 256 + get_or b (i + 1) 0
unfolding number
number-2 b i = let e : i + 0 ≡ i = omega arith in rw e (omega arith)

-- the number of two stretches, one after the other
pub number-add : (v w : ℕ) (b : List ℕ) (a : ℕ) → number (v + w) b a ≡ number v b a * 256 ^ w + number w b (a + v)
unfolding number
number-add v zero b a =
    let p : v + 0 ≡ v = omega arith in
    rw p (omega arith)
number-add v (suc w) b a =
    let p : v + suc w ≡ suc (v + w) = omega arith in
    let q : a + (v + w) ≡ a + v + w = omega arith in
    let r : number v b a * 256 ^ suc w ≡ number v b a * 256 ^ w * 256 = ap (λ (x : ℕ). number v b a * x) (pow-suc 256 w) ∙ sym (mul_assoc (number v b a) (256 ^ w) 256) in
    rw (p, number-add v w b a, q, r) (omega arith)

pub number-8 : (b : List ℕ) (i : ℕ) → number 8 b i ≡ number 4 b i * 4294967296 + number 4 b (i + 4)
number-8 b i = number-add 4 4 b i

-- no byte, and one byte more
pub number-none : (b : List ℕ) (a : ℕ) → 0 ≡ number 0 b a
unfolding number
number-none b a = refl

pub number_more : (i : ℕ) (b : List ℕ) (a : ℕ) → number (i + 1) b a ≡ number i b a * 256 + get_or b (a + i) 0
unfolding number
number_more i b a = rw add-one

-- up to seven bytes leave room for one more
pub number_small : (i : ℕ) (b : List ℕ) (a : ℕ) → Octets b → i ≤ 7 → number i b a < 72057594037927936
number_small i b a o h = omega (arith, number-below i b a o, pow-le-pow_right {n = 256} (omega arith) {i = i} {j = 7} h)

-- how far a number has been stored, the last byte first
pub record Stored (w x a : ℕ) (b₀ b : List ℕ) (left i : ℕ) : Type 0 where
  pub done : List ℕ
  pub split : digits w x ≡ digits i left ++ done
  pub bytes : b ≡ splice b₀ (a + i) done
  pub many : i + length done ≡ w

pub stored-none : (w x a : ℕ) (b : List ℕ) → Stored w x a b b x w
stored-none w x a b =
    record { done = []; split = sym (append-nil (digits w x)); bytes = sym (splice-nil b (a + w)); many = omega arith }

module _ (w x a : ℕ) (b₀ b : List ℕ) (left i : ℕ) (s : Stored w x a b₀ b left i) (fits : a + w ≤ length b₀) where
  pub stored-length : length b ≡ length b₀
  stored-length = ap length s.bytes ∙ length-splice b₀ (a + i) s.done (omega (arith, s.many))

  pub stored_more : 0 < i → Stored w x a b₀ (set b (a + (i - 1)) (left % 256)) (left / 256) (i - 1)
  unfolding digits
  stored_more h =
      let e : i ≡ suc (i - 1) = omega arith in
      let d : digits i left ≡ digits (i - 1) (left / 256) ++ (left % 256 ∷ []) = ap (λ (k : ℕ). digits k left) e in
      record {
        done = left % 256 ∷ s.done;
        split = s.split ∙ rw d (append_assoc (digits (i - 1) (left / 256)) (left % 256 ∷ []) s.done);
        bytes = rw s.bytes (set-splice b₀ (a + (i - 1)) (a + i) (left % 256) s.done (omega arith) (omega (arith, s.many)));
        many = omega (arith, s.many);
      }

  pub stored-all : i ≡ 0 → b ≡ splice b₀ a (digits w x)
  unfolding digits
  stored-all h = let e : a + 0 ≡ a = omega arith in s.bytes ∙ rw (h, e, s.split, h)

-- so many equal parts: one, and the others
pub one_less : (w c : ℕ) → 0 < c → w * c ≡ w + w * (c - 1)
one_less w c h = let e : c ≡ suc (c - 1) = omega arith in ap (λ (z : ℕ). w * z) e ∙ omega (arith, mul-suc w (c - 1))
