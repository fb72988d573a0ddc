-- Bytes are lists of numbers. Parts of them, and the numbers that they hold: document 01, 'The area we lend'. The highest byte comes first.
-- In every definition the list comes first, then the place, then how much or what.
use Rattle.std.specs.Prelude.{ℕ, zero, suc, ◌+◌, ◌*◌, ◌/◌, ◌%◌, ◌<◌, List, [], ◌∷◌, ◌++◌, length, get_or, take, drop}

-- every element is a byte
abbrev pub Octets : List ℕ → Type 0
Octets xs = (i : ℕ) → get_or xs i 0 < 256

-- the n elements from place a on
abbrev pub part : {A : Type 0} → List A → ℕ → ℕ → List A
part xs a n = take n (drop a xs)

-- xs with new stored from place a on
unfoldable pub splice : List ℕ → ℕ → List ℕ → List ℕ
splice xs a new = take a xs ++ (new ++ drop (a + length new) xs)

-- the number that w bytes from place a on hold, the highest byte first
unfoldable pub number : ℕ → List ℕ → ℕ → ℕ
number zero xs a = 0
number (suc w) xs a = number w xs a * 256 + get_or xs (a + w) 0

-- the w bytes of a number, the highest first
unfoldable pub digits : ℕ → ℕ → List ℕ
digits zero x = []
digits (suc w) x = digits w (x / 256) ++ (x % 256 ∷ [])
