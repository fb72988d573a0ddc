-- The permitted interval sizes: 512 to 8,192 in steps of 512, then 10,240 to 32,768 in steps of 2,048.
-- Document 01, 'The area we lend'; source document 001, chapter 6.
use Rattle.std.specs.Prelude.{ℕ, zero, suc, ◌+◌, ◌-◌, ◌*◌, Bool, false, List, [], ◌∷◌, eqb, ltb}
use Rattle.fields.specs.Choice.{pick, either}

-- the stepping rule: the size at place k, counted from 0
abbrev pub size_at : ℕ → ℕ
size_at k = pick (ltb k 16) (512 * (k + 1)) (8192 + 2048 * (k - 15))

-- some number below n passes the test
unfoldable pub any_below : (ℕ → Bool) → ℕ → Bool
any_below f zero = false
any_below f (suc n) = either (f n) (any_below f n)

-- one of the 28
unfoldable pub permitted_size : ℕ → Bool
permitted_size size = any_below (λ k. eqb (size_at k) size) 28

-- the table as the code has it
abbrev pub sizes : List ℕ
sizes =
    512 ∷ 1024 ∷ 1536 ∷ 2048 ∷ 2560 ∷ 3072 ∷ 3584 ∷ 4096 ∷ 4608 ∷ 5120 ∷ 5632 ∷ 6144 ∷ 6656 ∷ 7168 ∷ 7680 ∷ 8192 ∷
    10240 ∷ 12288 ∷ 14336 ∷ 16384 ∷ 18432 ∷ 20480 ∷ 22528 ∷ 24576 ∷ 26624 ∷ 28672 ∷ 30720 ∷ 32768 ∷ []
