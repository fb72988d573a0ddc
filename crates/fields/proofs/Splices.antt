-- Laws of splices: stores one after another make one, and a part that was lent comes back as one.
use Prim.Native.Nat.{ℕ, zero, suc, ◌+◌, ◌-◌, ◌≤◌, ◌<◌}
use mathlib.Core.Path.{◌≡◌, refl, ◌∙◌, sym, ap}
use mathlib.Core.List.{List, [], ◌∷◌, ◌++◌, append_assoc, append-nil}
use lib.ListN.{length, take, drop, get_or, length-append, length-drop, take-append-drop, set, replicate, length-replicate}
use lib.Seq.{get_or-take, get_or-drop, sets, sets-eq, length-take-le, take_at, drop_at, drop-append-add, take-append-le, drop-append-le, drop-drop, take-take, take-nil, drop-cons, drop-length}
use native.Mathlib.Omega.{arith}
use native.Mathlib.Nat.{add-zero, sub-zero}
use Rattle.std.proofs.Math.Seq.{take-suc}
use Rattle.fields.specs.Bytes.{part, splice}

pub sets-splice : (vs l : List ℕ) (i : ℕ) → i + length vs ≤ length l → sets l i vs ≡ splice l i vs
unfolding splice
sets-splice vs l i h = sets-eq vs l i h ∙ append_assoc (take i l) vs (drop (i + length vs) l)

pub length-splice : (b : List ℕ) (at : ℕ) (xs : List ℕ) → at + length xs ≤ length b → length (splice b at xs) ≡ length b
unfolding splice
length-splice b at xs h =
    let k : at ≤ length b = omega arith in
    simp (length-append, length-take-le at b k, length-drop) (omega arith)

-- what is spliced in just before an earlier splice makes one with it
pub splice-splice : (b : List ℕ) (r e : ℕ) (ys xs : List ℕ) → r + length ys ≡ e → e + length xs ≤ length b
    → splice (splice b e xs) r ys ≡ splice b r (ys ++ xs)
unfolding splice
splice-splice b r e ys xs h k =
    let te : length (take e b) ≡ e = length-take-le e b (omega arith) in
    let t1 : take r (take e b ++ (xs ++ drop (e + length xs) b)) ≡ take r b =
    take-append-le r (take e b) _ (omega arith) ∙ take-take r e b (omega arith) in
    let t2 : drop (r + length ys) (take e b ++ (xs ++ drop (e + length xs) b)) ≡ xs ++ drop (e + length xs) b =
    rw h (drop_at (take e b) (xs ++ drop (e + length xs) b) e te) in
    let t3 : r + length (ys ++ xs) ≡ e + length xs = simp length-append (omega arith) in
    rw (t1, t2, t3, append_assoc)

pub splice-nil : (b : List ℕ) (at : ℕ) → splice b at [] ≡ b
unfolding splice
splice-nil b at = rw add-zero (take-append-drop at b)

-- a store just before an earlier splice
pub set-splice : (b : List ℕ) (r e v : ℕ) (xs : List ℕ) → r + 1 ≡ e → e + length xs ≤ length b → set (splice b e xs) r v ≡ splice b r (v ∷ xs)
set-splice b r e v xs h k =
    let l : length (splice b e xs) ≡ length b = length-splice b e xs k in
    sets-splice (v ∷ []) (splice b e xs) r (omega arith) ∙ splice-splice b r e (v ∷ []) xs h k

-- what is spliced in just after an earlier splice makes one with it
pub splice-after : (b : List ℕ) (at e : ℕ) (xs ys : List ℕ) → at + length xs ≡ e → e + length ys ≤ length b
    → splice (splice b at xs) e ys ≡ splice b at (xs ++ ys)
unfolding splice
splice-after b at e xs ys h k =
    let ta : length (take at b) ≡ at = length-take-le at b (omega arith) in
    let p : List ℕ = take at b ++ xs in
    let lp : length p ≡ e = simp length-append (omega arith) in
    let w : take at b ++ (xs ++ drop (at + length xs) b) ≡ p ++ drop (at + length xs) b = simp append_assoc in
    let t1 : take e (take at b ++ (xs ++ drop (at + length xs) b)) ≡ p = rw w (take_at p (drop (at + length xs) b) e lp) in
    let t2 : drop (e + length ys) (take at b ++ (xs ++ drop (at + length xs) b)) ≡ drop (e + length ys) b =
    rw (w, ← lp, drop-append-add p (drop (at + length xs) b) (length ys), drop-drop, h, lp) in
    let t3 : at + length (xs ++ ys) ≡ e + length ys = simp length-append (omega arith) in
    rw (t1, t2, t3) (simp append_assoc)

-- a splice that reaches the end
pub splice-end : (b : List ℕ) (at : ℕ) (xs : List ℕ) → at + length xs ≡ length b → splice b at xs ≡ take at b ++ xs
unfolding splice
splice-end b at xs h = rw (h, drop-length, append-nil)

-- a part that was lent from the middle, and has come back, is a splice
pub mid-splice : (xs ys : List ℕ) (a k : ℕ) → length ys ≡ k → take a xs ++ (ys ++ drop k (drop a xs)) ≡ splice xs a ys
unfolding splice
mid-splice xs ys a k h = rw (h, drop-drop)

pub length-mid : (xs : List ℕ) (a k : ℕ) → a + k ≤ length xs → length (take k (drop a xs)) ≡ k
length-mid xs a k h = length-take-le k (drop a xs) (simp length-drop (omega arith))

-- a part as a slice shows it
pub part-is : (xs : List ℕ) (a n : ℕ) → take (a + n - a) (drop a xs) ≡ part xs a n
part-is xs a n = let z : a + n - a ≡ n = omega arith in rw z

pub length-part-is : (xs : List ℕ) (a n : ℕ) → a + n ≤ length xs → length (take (a + n - a) (drop a xs)) ≡ n
length-part-is xs a n h = rw (part-is xs a n) (length-mid xs a n h)

pub get-part-is : (xs : List ℕ) (a n i : ℕ) → i < n → get_or (take (a + n - a) (drop a xs)) i 0 ≡ get_or xs (a + i) 0
get-part-is xs a n i h = rw (part-is xs a n, get_or-take n (drop a xs) i 0 h) (get_or-drop a xs i 0)

-- one value from the right
module _ (b : List ℕ) (i to v : ℕ) (k : i ≤ to) (f : to ≤ length b) where
  pub filled-length : length (splice b i (replicate (to - i) v)) ≡ length b
  filled-length =
      let n : length {A = ℕ} (replicate (to - i) v) ≡ to - i = length-replicate (to - i) v in
      length-splice b i (replicate (to - i) v) (omega arith)

  pub fill_step : 0 < i → set (splice b i (replicate (to - i) v)) (i - 1) v ≡ splice b (i - 1) (replicate (to - (i - 1)) v)
  fill_step h =
      let e : to - (i - 1) ≡ suc (to - i) = omega arith in
      let n : length {A = ℕ} (replicate (to - i) v) ≡ to - i = length-replicate (to - i) v in
      rw e (set-splice b (i - 1) i v (replicate (to - i) v) (omega arith) (omega arith))

pub filled_none : (b : List ℕ) (to v : ℕ) → b ≡ splice b to (replicate (to - to) v)
filled_none b to v =
    let e : to - to ≡ 0 = omega arith in
    rw e (sym (splice-nil b to))

-- a copy from the right
pub copy-none : (d : List ℕ) (at : ℕ) (s : List ℕ) → d ≡ splice d (at + length s) (drop (length s) s)
copy-none d at s = rw drop-length (sym (splice-nil d (at + length s)))

module _ (d : List ℕ) (at : ℕ) (s : List ℕ) (i : ℕ) (fits : at + length s ≤ length d) (le : i ≤ length s) where
  pub copied-length : length (splice d (at + i) (drop i s)) ≡ length d
  copied-length = length-splice d (at + i) (drop i s) (simp length-drop (omega arith))

  pub copy_step : 0 < i → set (splice d (at + i) (drop i s)) (at + (i - 1)) (get_or s (i - 1) 0) ≡ splice d (at + (i - 1)) (drop (i - 1) s)
  copy_step h =
      let j : i - 1 < length s = omega arith in
      let e : suc (i - 1) ≡ i = omega arith in
      let l = length-drop i s in
      rw (drop-cons s (i - 1) 0 j, e) (set-splice d (at + (i - 1)) (at + i) (get_or s (i - 1) 0) (drop i s) (omega arith) (omega arith))

-- a copy from the left
pub copy_on : (d : List ℕ) (at : ℕ) (s : List ℕ) (i : ℕ) → at + length s ≤ length d → i < length s
    → set (splice d at (take i s)) (at + i) (get_or s i 0) ≡ splice d at (take (i + 1) s)
copy_on d at s i fits h =
    let n : length (take i s) ≡ i = length-take-le i s (omega arith) in
    let l : length (splice d at (take i s)) ≡ length d = length-splice d at (take i s) (omega arith) in
    let e : i + 1 ≡ suc i = omega arith in
    rw (e, take-suc s i 0 h)
    (sets-splice (get_or s i 0 ∷ []) (splice d at (take i s)) (at + i) (omega arith)
    ∙ splice-after d at (at + i) (take i s) (get_or s i 0 ∷ []) (omega arith) (omega arith))

-- ---- parts of parts, and of bytes in which something was stored

pub drop-take : (n m : ℕ) (xs : List ℕ) → drop n (take m xs) ≡ take (m - n) (drop n xs)
drop-take zero m xs = simp sub-zero
drop-take (suc n) zero xs =
    let e : 0 - suc n ≡ 0 = omega arith in
    rw e
drop-take (suc n) (suc m) [] = rw take-nil
drop-take (suc n) (suc m) (x ∷ xs) =
    let e : suc m - suc n ≡ m - n = omega arith in
    rw e (drop-take n m xs)

-- a part of a part
pub part-part : (xs : List ℕ) (a n s l : ℕ) → s + l ≤ n → part (part xs a n) s l ≡ part xs (a + s) l
part-part xs a n s l h =
    let i : l ≤ n - s = omega arith in
    rw (drop-take s n (drop a xs), drop-drop, take-take l (n - s) _ i)

-- the part that was stored
pub part-here : (b : List ℕ) (a s : ℕ) (new : List ℕ) → a ≤ length b → length new ≡ s → part (splice b a new) a s ≡ new
unfolding splice
part-here b a s new h l =
    let t : length (take a b) ≡ a = length-take-le a b h in
    rw (drop_at (take a b) (new ++ drop (a + length new) b) a t) (take_at new (drop (a + length new) b) s l)

-- a part that ends before it
pub part_left : (b : List ℕ) (a : ℕ) (new : List ℕ) (p s : ℕ) → a ≤ length b → p + s ≤ a → part (splice b a new) p s ≡ part b p s
unfolding splice
part_left b a new p s h l =
    let t : length (take a b) ≡ a = length-take-le a b h in
    let d : s ≤ length (drop p (take a b)) = simp length-drop (omega arith) in
    let r : List ℕ = new ++ drop (a + length new) b in
    rw (drop-append-le p (take a b) r (omega arith), take-append-le s (drop p (take a b)) r d, drop-take p a b, take-take s (a - p) (drop p b) (omega arith))

-- a part that begins after it
pub part_right : (b : List ℕ) (a : ℕ) (new : List ℕ) (p s : ℕ) → a ≤ length b → a + length new ≤ p → part (splice b a new) p s ≡ part b p s
unfolding splice
part_right b a new p s h l =
    let x : List ℕ = take a b ++ new in
    let e : length x ≡ a + length new = length-append (take a b) new ∙ rw (length-take-le a b h) in
    let q : p ≡ length x + (p - length x) = omega arith in
    let f : a + length new + (p - length x) ≡ p = omega arith in
    let i : drop p (x ++ drop (a + length new) b) ≡ drop p b =
    ap (λ (y : ℕ). drop y (x ++ drop (a + length new) b)) q ∙ drop-append-add x (drop (a + length new) b) (p - length x) ∙ drop-drop (p - length x) (a + length new) b ∙ rw f in
    rw (← append_assoc (take a b) new (drop (a + length new) b), i)

-- ---- from the front on

-- what is stored at the front, then what lies behind it
pub splice_front : (b xs : List ℕ) → splice b 0 xs ≡ xs ++ drop (length xs) b
splice_front b xs = sym (mid-splice b xs 0 (length xs) refl)

pub take-front : (b xs : List ℕ) (c : ℕ) → c ≡ length xs → take c (splice b 0 xs) ≡ xs
take-front b xs c h = rw (splice_front b xs) (take_at xs (drop (length xs) b) c (sym h))
