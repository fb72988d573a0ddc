-- Laws of digits that are stored from the last byte to the first.
use Prim.Native.Nat.{ℕ, suc, ◌+◌, ◌-◌, ◌*◌, ◌/◌, ◌%◌, ◌≤◌, ◌<◌}
use mathlib.Core.Path.{◌≡◌, refl, ◌∙◌, sym}
use mathlib.Core.List.{List, [], ◌∷◌}
use lib.ListN.{length, get_or, drop, set, length-drop}
use lib.Seq.{drop-cons, drop-length}
use native.Mathlib.Omega.{arith}
use borrow.Author.Tests.{le-leb, lt-leb}
use Rattle.fields.specs.Bytes.{splice}
use Rattle.fields.proofs.Splices.{splice-nil, length-splice, set-splice}
use Rattle.lines.specs.Hex.{hex_text_of, HexWritten, digit_of, hex_of}

pub hex-length : (bs : List ℕ) → length (hex_of bs) ≡ 2 * length bs
unfolding hex_of
hex-length [] = refl
hex-length (b ∷ bs) = omega (arith, hex-length bs)

hex-cons : (b : ℕ) (bs : List ℕ) → hex_of (b ∷ bs) ≡ digit_of (b / 16) ∷ digit_of (b % 16) ∷ hex_of bs
unfolding hex_of
hex-cons b bs = refl

hex-nil : hex_of [] ≡ []
unfolding hex_of
hex-nil = refl

module _ (bytes text : List ℕ) where
  pub hex-short : length text < 2 * length bytes → HexWritten (hex_text_of bytes text) 0 text
  unfolding hex_text_of
  hex-short h =
      let t = lt-leb (length (hex_of bytes)) (length text) (omega (arith, hex-length bytes)) in
      record { counts = rw t; leaves = rw t }

  pub hex-none : text ≡ splice text (2 * length bytes) (hex_of (drop (length bytes) bytes))
  hex-none = rw (drop-length, hex-nil) (sym (splice-nil text (2 * length bytes)))

  module _ (room : 2 * length bytes ≤ length text) where
    pub hex-done : (after : List ℕ) → after ≡ splice text 0 (hex_of bytes) → HexWritten (hex_text_of bytes text) (2 * length bytes) after
    unfolding hex_text_of
    hex-done after e =
        let l = hex-length bytes in
        let t = le-leb (length (hex_of bytes)) (length text) (omega arith) in
        record { counts = rw t (sym l); leaves = rw t e }

    module _ (i : ℕ) (le : i ≤ length bytes) where
      rest-length : length (hex_of (drop i bytes)) ≡ 2 * (length bytes - i)
      rest-length = hex-length (drop i bytes) ∙ rw length-drop

      pub spelt-length : length (splice text (2 * i) (hex_of (drop i bytes))) ≡ length text
      spelt-length = length-splice text (2 * i) (hex_of (drop i bytes)) (omega (arith, rest-length))

      -- one byte more, its low digit stored first
      pub hex-step : 0 < i
          → set (set (splice text (2 * i) (hex_of (drop i bytes))) (2 * (i - 1) + 1) (digit_of (get_or bytes (i - 1) 0 % 16))) (2 * (i - 1)) (digit_of (get_or bytes (i - 1) 0 / 16))
          ≡ splice text (2 * (i - 1)) (hex_of (drop (i - 1) bytes))
      hex-step h =
          let l = rest-length in
          let e : suc (i - 1) ≡ i = omega arith in
          let x : ℕ = get_or bytes (i - 1) 0 in
          let d : drop (i - 1) bytes ≡ x ∷ drop i bytes = drop-cons bytes (i - 1) 0 (omega arith) ∙ rw e in
          let low : set (splice text (2 * i) (hex_of (drop i bytes))) (2 * (i - 1) + 1) (digit_of (x % 16)) ≡ splice text (2 * (i - 1) + 1) (digit_of (x % 16) ∷ hex_of (drop i bytes)) =
          set-splice text (2 * (i - 1) + 1) (2 * i) (digit_of (x % 16)) (hex_of (drop i bytes)) (omega arith) (omega arith) in
          let high : set (splice text (2 * (i - 1) + 1) (digit_of (x % 16) ∷ hex_of (drop i bytes))) (2 * (i - 1)) (digit_of (x / 16)) ≡ splice text (2 * (i - 1))
          (digit_of (x / 16) ∷ digit_of (x % 16) ∷ hex_of (drop i bytes)) =
          set-splice text (2 * (i - 1)) (2 * (i - 1) + 1) (digit_of (x / 16)) (digit_of (x % 16) ∷ hex_of (drop i bytes)) refl (omega arith) in
          rw (low, d, hex-cons) high

      -- the same for the digits that were told, and the text as it was before
      pub hex-turn : 0 < i → (b : List ℕ) (low high : ℕ) → b ≡ splice text (2 * i) (hex_of (drop i bytes)) → low ≡ digit_of (get_or bytes (i - 1) 0 % 16) → high ≡ digit_of (get_or bytes (i - 1) 0 / 16)
          → set (set b (2 * (i - 1) + 1) low) (2 * (i - 1)) high ≡ splice text (2 * (i - 1)) (hex_of (drop (i - 1) bytes))
      hex-turn h b low high p q r = rw (p, q, r) (hex-step h)
