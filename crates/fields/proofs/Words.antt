-- The order of byte lists by words: lists that have w bytes from a place on stand to each other from there as the numbers in those bytes do, and where
-- these are equal as what follows them.
use Prim.Native.Nat.{ℕ, zero, suc, ◌+◌, ◌*◌, ◌≤◌, ◌<◌}
use mathlib.Core.Path.{◌≡◌, refl, ◌∙◌, ap}
use mathlib.Core.Bool.{Bool, true, false, cond}
use mathlib.Core.List.{List}
use lib.ListN.{length, get_or, drop, length-drop}
use lib.Seq.{drop-cons, get_or-take, get_or-drop, length-take-le}
use lib.Dec.{ltb, eqb}
use native.Mathlib.Omega.{arith}
use native.Mathlib.Numerals.{add-one}
use borrow.Author.Tests.{lt-ltb, le-ltb, ltb-true, ltb-false, ne_eqb}
use Rattle.fields.specs.Choice.{pick}
use Rattle.fields.specs.Bytes.{Octets, part, number}
use Rattle.fields.specs.Order.{order_of, is_less, less}
use Rattle.std.specs.declared.cmp.Ordering.{Ordering}
use Rattle.std.specs.declared.cmp.Ordering.TheVariants.{Less, Equal, Greater}
use Rattle.std.specs.Ordering.{nat_cmp}
use Rattle.fields.proofs.Octets.{octets-part}

-- two numbers decide, or what comes after them
abbrev pub by_numbers : ℕ → ℕ → Ordering → Ordering
by_numbers x y o = pick (ltb x y) Less (pick (ltb y x) Greater o)

-- a number and one byte more decide as the number first and the byte then
join : (X Y x y : ℕ) (o : Ordering) → x < 256 → y < 256 → by_numbers X Y (by_numbers x y o) ≡ by_numbers (X * 256 + x) (Y * 256 + y) o
join X Y x y o h k = go (ltb X Y) (ltb Y X) refl refl
  where
    go : (t u : Bool) → ltb X Y ≡ t → ltb Y X ≡ u → pick t Less (pick u Greater (by_numbers x y o)) ≡ by_numbers (X * 256 + x) (Y * 256 + y) o
    go true u p q = let l : X < Y = ltb-true X Y p in rw (lt-ltb (X * 256 + x) (Y * 256 + y) (omega arith))
    go false true p q =
        let l : Y < X = ltb-true Y X q in
        rw (le-ltb (X * 256 + x) (Y * 256 + y) (omega arith), lt-ltb (Y * 256 + y) (X * 256 + x) (omega arith))
    go false false p q =
        let e : X ≡ Y = omega (arith, ltb-false X Y p, ltb-false Y X q) in
        rw e (low Y x y o)
      where
        low : (Z x y : ℕ) (o : Ordering) → by_numbers x y o ≡ by_numbers (Z * 256 + x) (Z * 256 + y) o
        low Z x y o = both (ltb x y) (ltb y x) refl refl
          where
            both : (t u : Bool) → ltb x y ≡ t → ltb y x ≡ u → pick t Less (pick u Greater o) ≡ by_numbers (Z * 256 + x) (Z * 256 + y) o
            both true u p q = let l : x < y = ltb-true x y p in rw (lt-ltb (Z * 256 + x) (Z * 256 + y) (omega arith))
            both false true p q =
                let l : y < x = ltb-true y x q in
                rw (le-ltb (Z * 256 + x) (Z * 256 + y) (omega arith), lt-ltb (Z * 256 + y) (Z * 256 + x) (omega arith))
            both false false p q =
                let l : y ≤ x = ltb-false x y p in
                let m : x ≤ y = ltb-false y x q in
                rw (le-ltb (Z * 256 + x) (Z * 256 + y) (omega arith), le-ltb (Z * 256 + y) (Z * 256 + x) (omega arith))

-- one byte at a place
head : (i : ℕ) (a b : List ℕ) → i < length a → i < length b
    → order_of (drop i a) (drop i b) ≡ by_numbers (get_or a i 0) (get_or b i 0) (order_of (drop (i + 1) a) (drop (i + 1) b))
unfolding order_of
head i a b h k = rw (add-one, drop-cons a i 0, drop-cons b i 0)

-- w bytes at a place
pub word-order : (w i : ℕ) (a b : List ℕ) → Octets a → Octets b → i + w ≤ length a → i + w ≤ length b
    → order_of (drop i a) (drop i b) ≡ by_numbers (number w a i) (number w b i) (order_of (drop (i + w) a) (drop (i + w) b))
unfolding number
word-order zero i a b p q h k =
    let e : i + 0 ≡ i = omega arith in
    rw e
word-order (suc w) i a b p q h k =
    let e : i + suc w ≡ i + w + 1 = omega arith in
    word-order w i a b p q (omega arith) (omega arith)
    ∙ ap (by_numbers (number w a i) (number w b i)) (head (i + w) a b (omega arith) (omega arith))
    ∙ join (number w a i) (number w b i) (get_or a (i + w) 0) (get_or b (i + w) 0) (order_of (drop (i + w + 1) a) (drop (i + w + 1) b)) (p (i + w)) (q (i + w))
    ∙ rw e

-- the ways that words decide
module _ (i : ℕ) (a b : List ℕ) (p : Octets a) (q : Octets b) (h : i + 8 ≤ length a) (k : i + 8 ≤ length b) where
  pub word-less : number 8 a i < number 8 b i → order_of (drop i a) (drop i b) ≡ Less
  word-less l = word-order 8 i a b p q h k ∙ rw (lt-ltb (number 8 a i) (number 8 b i) l)

  pub word-greater : number 8 b i < number 8 a i → order_of (drop i a) (drop i b) ≡ Greater
  word-greater l = word-order 8 i a b p q h k ∙ rw (le-ltb (number 8 a i) (number 8 b i) (omega arith), lt-ltb (number 8 b i) (number 8 a i) l)

  pub word_same : number 8 a i ≡ number 8 b i → order_of (drop i a) (drop i b) ≡ order_of (drop (i + 8) a) (drop (i + 8) b)
  word_same e =
      word-order 8 i a b p q h k
      ∙ rw (le-ltb (number 8 a i) (number 8 b i) (omega (arith, e)), le-ltb (number 8 b i) (number 8 a i) (omega (arith, e)))

  pub word-differs : (number 8 a i ≡ number 8 b i → ⊥) → order_of (drop i a) (drop i b) ≡ nat_cmp (number 8 a i) (number 8 b i)
  word-differs n = word-order 8 i a b p q h k ∙ go (number 8 a i) (number 8 b i) (order_of (drop (i + 8) a) (drop (i + 8) b)) n
    where
      go : (x y : ℕ) (o : Ordering) → (x ≡ y → ⊥) → by_numbers x y o ≡ nat_cmp x y
      go x y o n = both (ltb x y) (ltb y x) refl refl
        where
          both : (t u : Bool) → ltb x y ≡ t → ltb y x ≡ u → pick t Less (pick u Greater o) ≡ cond t Less (cond (eqb x y) Equal Greater)
          both true u p q = refl
          both false true p q = rw (ne_eqb x y n)
          both false false p q = absurd (n (omega (arith, ltb-false x y p, ltb-false y x q)))

-- ---- two parts of one list, by their first eight bytes

number-part : (w n : ℕ) (b : List ℕ) (a : ℕ) → w ≤ n → number w (part b a n) 0 ≡ number w b a
unfolding number
number-part zero n b a h = refl
number-part (suc w) n b a h =
    let z : 0 + w ≡ w = omega arith in
    rw (number-part w n b a (omega arith), z, get_or-take n (drop a b) w 0 (omega arith), get_or-drop a b w 0)

module _ (b : List ℕ) (o : Octets b) (n p q : ℕ) (long : 8 ≤ n) (h : p + n ≤ length b) (k : q + n ≤ length b) where
  long-part : (a : ℕ) → a + n ≤ length b → 0 + 8 ≤ length (part b a n)
  long-part a l = omega (arith, length-take-le n (drop a b) (omega (arith, length-drop a b)))

  pub parts-less : number 8 b p < number 8 b q → less (part b p n) (part b q n) ≡ true
  parts-less l =
      ap is_less
      (word-less 0 (part b p n) (part b q n) (octets-part b p n o) (octets-part b q n o) (long-part p h) (long-part q k)
      (rw (number-part 8 n b p long, number-part 8 n b q long) l))

  pub parts-greater : number 8 b q < number 8 b p → less (part b p n) (part b q n) ≡ false
  parts-greater l =
      ap is_less
      (word-greater 0 (part b p n) (part b q n) (octets-part b p n o) (octets-part b q n o) (long-part p h) (long-part q k)
      (rw (number-part 8 n b p long, number-part 8 n b q long) l))
