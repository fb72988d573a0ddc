-- Laws of an entry as it is compressed: how many bytes it takes, and what the writer's own spells; and of the free numbers' bytes.
use Prim.Native.Nat.{ℕ, ◌*◌}
use mathlib.Core.Path.{◌≡◌}
use mathlib.Core.List.{List, [], ◌∷◌}
use lib.ListN.{length, length-append, take-append-drop}
use native.Mathlib.Omega.{arith}
use Rattle.fields.specs.Bytes.{digits}
use Rattle.fields.specs.Order.{common}
use Rattle.fields.proofs.Numbers.{length_digits}
use Rattle.fields.proofs.Fronts.{common-take}
use Rattle.index.specs.Pieces.{Piece, spelt, piece_size}
use Rattle.index.specs.Layout.{piece_bytes, free_bytes}
use Rattle.index.specs.Form.{pack}

pub length-piece_bytes : (w : ℕ) (p : Piece) → length (piece_bytes w p) ≡ piece_size w p
unfolding piece_bytes
length-piece_bytes w p = simp (length-append, length_digits) (omega arith)

pub length-free_bytes : (w : ℕ) (xs : List ℕ) → length (free_bytes w xs) ≡ w * length xs
unfolding free_bytes
length-free_bytes w [] = omega arith
length-free_bytes w (x ∷ xs) =
    omega (arith, length-append (digits w x) (free_bytes w xs), length_digits w x, length-free_bytes w xs)

-- An entry that is packed against ref spells its separator again.
pub spelt-pack : (ref sep : List ℕ) (num : ℕ) → spelt ref (pack ref sep num) ≡ sep
spelt-pack ref sep num = rw (common-take ref sep) (take-append-drop (common ref sep) sep)
