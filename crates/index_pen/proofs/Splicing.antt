-- What is stored into a part of a list.
use Prim.Native.Nat.{ℕ, suc, ◌+◌, ◌≤◌}
use mathlib.Core.Path.{◌≡◌, refl, ◌∙◌, sym, ap}
use mathlib.Core.List.{List, [], ◌∷◌, ◌++◌, append_assoc}
use lib.ListN.{length, take, drop}
use lib.Seq.{take-append-le, drop-append-le, drop_at, length-take-le}
use native.Mathlib.Omega.{arith}
use Rattle.fields.specs.Bytes.{splice}
use Rattle.fields.proofs.Splices.{length-splice}

pub splice-left : (xs ys : List ℕ) (o : ℕ) (v : List ℕ) → o + length v ≤ length xs → splice (xs ++ ys) o v ≡ splice xs o v ++ ys
unfolding splice
splice-left xs ys o v h =
    rw (take-append-le o xs ys (omega (arith, h)), drop-append-le (o + length v) xs ys h)
    (sym (append_assoc (take o xs) (v ++ drop (o + length v) xs) ys ∙ ap (λ (zs : List ℕ). take o xs ++ zs) (append_assoc v (drop (o + length v) xs) ys)))

pub splice-right : (xs ys : List ℕ) (o : ℕ) (v : List ℕ) → splice (xs ++ ys) (length xs + o) v ≡ xs ++ splice ys o v
unfolding splice
splice-right [] ys o v = let z : 0 + o ≡ o = omega arith in rw z
splice-right (x ∷ xs) ys o v =
    let z : suc (length xs) + o ≡ suc (length xs + o) = omega arith in
    let y : suc (length xs + o) + length v ≡ suc (length xs + o + length v) = omega arith in
    rw (z, y) (ap (λ (zs : List ℕ). x ∷ zs) (splice-right xs ys o v))

-- a store is what was before, the new, and what was behind
as_parts : (b : List ℕ) (at n : ℕ) (new : List ℕ) → length new ≡ n → splice b at new ≡ take at b ++ (new ++ drop (at + n) b)
unfolding splice
as_parts b at n new h = rw h

-- a store over a front of the same length
pub splice-over : (us vs ws : List ℕ) → length us ≡ length vs → splice (us ++ ws) 0 vs ≡ vs ++ ws
unfolding splice
splice-over us vs ws q = let z : drop (0 + length vs) (us ++ ws) ≡ ws = drop_at us ws (0 + length vs) (omega (arith, q)) in rw z

-- a store within what was stored
pub splice-within : (b : List ℕ) (at : ℕ) (new : List ℕ) (o : ℕ) (v : List ℕ) → at + length new ≤ length b → o + length v ≤ length new
    → splice (splice b at new) (at + o) v ≡ splice b at (splice new o v)
splice-within b at new o v h k =
    let t : length (take at b) ≡ at = length-take-le at b (omega (arith, h)) in
    let l : length (splice new o v) ≡ length new = length-splice new o v k in
    let e : at + o ≡ length (take at b) + o = omega (arith, t) in
    rw (as_parts b at (length new) new refl, e)
    (splice-right (take at b) (new ++ drop (at + length new) b) o v ∙ ap (λ (zs : List ℕ). take at b ++ zs) (splice-left new (drop (at + length new) b) o v k)
    ∙ sym (as_parts b at (length new) (splice new o v) l))
