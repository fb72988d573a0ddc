-- Request lines on both sides of each edge, and hexadecimal text: one table under one statement.
use Prim.Native.Nat.{ℕ, ◌-◌}
use mathlib.Core.Path.{◌≡◌, refl}
use mathlib.Core.Bool.{Bool, true}
use mathlib.Core.List.{List, [], ◌∷◌, ◌++◌}
use lib.ListN.{length, take, replicate}
use Rattle.fields.specs.Table.{same_list, all}
use Rattle.lines.specs.Lines.{Command, command_of, bad, get, insert, update, erase}
use Rattle.lines.specs.Hex.{hex_of}

-- a request as numbers: its letter and its bytes; 0 alone for a bad line
abbrev shown : Command → List ℕ
shown bad = 0 ∷ []
shown (get bytes) = 71 ∷ bytes
shown (insert bytes) = 73 ∷ bytes
shown (update bytes) = 85 ∷ bytes
shown (erase bytes) = 69 ∷ bytes

-- a line of 64 bytes: letter, length, bytes, and FF up to the end
abbrev line : ℕ → ℕ → List ℕ → List ℕ
line letter long bytes = letter ∷ long ∷ (bytes ++ replicate (62 - length bytes) 255)

-- A0000001
abbrev key : List ℕ
key = 65 ∷ 48 ∷ 48 ∷ 48 ∷ 48 ∷ 48 ∷ 48 ∷ 49 ∷ []

abbrev asks : List ℕ → List ℕ → Bool
asks request expected = same_list (shown (command_of request)) expected

-- first the four letters, with bytes past the length that do not count
pub table : Bool
table =
    all
    (asks (line 71 8 key) (71 ∷ key)
    ∷ asks (line 73 9 (key ++ (72 ∷ 75 ∷ []))) (73 ∷ (key ++ (72 ∷ [])))
    ∷ asks (line 85 8 key) (85 ∷ key)
    ∷ asks (line 69 8 key) (69 ∷ key)
    -- lengths: 0 and 62 are the register's to judge, 63 and 255 are not
    ∷ asks (line 73 0 key) (73 ∷ [])
    ∷ asks (line 69 61 []) (69 ∷ replicate 61 255)
    ∷ asks (line 73 62 []) (73 ∷ replicate 62 255)
    ∷ asks (line 73 63 []) (0 ∷ [])
    ∷ asks (line 71 255 key) (0 ∷ [])
    -- letters: a small one, the one after G, none
    ∷ asks (line 103 8 key) (0 ∷ [])
    ∷ asks (line 72 8 key) (0 ∷ [])
    ∷ asks (line 0 8 key) (0 ∷ [])
    -- a line too short, though its letter, length and key are all there, and one too long
    ∷ asks (take 63 (line 71 8 key)) (0 ∷ [])
    ∷ asks (take 10 (line 71 8 key)) (0 ∷ [])
    ∷ asks [] (0 ∷ [])
    ∷ asks (line 71 8 key ++ (0 ∷ [])) (0 ∷ [])
    -- hexadecimal: capitals, two digits a byte, the high one first
    ∷ same_list (hex_of []) []
    ∷ same_list (hex_of (0 ∷ 9 ∷ 10 ∷ 159 ∷ 160 ∷ 255 ∷ [])) (48 ∷ 48 ∷ 48 ∷ 57 ∷ 48 ∷ 65 ∷ 57 ∷ 70 ∷ 65 ∷ 48 ∷ 70 ∷ 70 ∷ [])
    ∷ [])

pub vectors : table ≡ true
unfolding table command_of hex_of
vectors = refl
