-- Bytes as text in capital hexadecimal digits: document 01, 'The depot program'.
use Rattle.std.specs.Prelude.{ℕ, ◌+◌, ◌-◌, ◌/◌, ◌%◌, ◌≡◌, List, [], ◌∷◌, length, ltb, leb}
use Rattle.fields.specs.Choice.{pick}
use Rattle.fields.specs.Bytes.{splice}

-- the digit of a number below 16, in ASCII: 0 to 9 are 48 to 57, A to F are 65 to 70
abbrev pub digit_of : ℕ → ℕ
digit_of n = pick (ltb n 10) (48 + n) (65 + (n - 10))

-- two digits a byte, the high four bits first
unfoldable pub hex_of : List ℕ → List ℕ
hex_of [] = []
hex_of (b ∷ bs) = digit_of (b / 16) ∷ digit_of (b % 16) ∷ hex_of bs

-- how many digits were written, and the whole text afterwards
pub record HexText : Type 0 where
  pub count : ℕ
  pub text : List ℕ

-- all digits at the front of the text, the rest of it as it was; nothing at all where it is too short for them
unfoldable pub hex_text_of : List ℕ → List ℕ → HexText
hex_text_of bytes text =
    pick (leb (length (hex_of bytes)) (length text))
    (record { count = length (hex_of bytes); text = splice text 0 (hex_of bytes) })
    (record { count = 0; text = text })

-- the contract: the count, and the text at exit
pub record HexWritten (result : HexText) (count : ℕ) (text : List ℕ) : Type 0 where
  pub counts : count ≡ result.count
  pub leaves : text ≡ result.text
