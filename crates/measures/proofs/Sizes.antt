-- Laws of `any_below`, and the stepping rule at each entry of the table.
use Prim.Native.Nat.{ℕ, zero, suc, ◌+◌, ◌-◌, ◌*◌, ◌≤◌, ◌<◌}
use mathlib.Core.Path.{◌≡◌, refl, ◌∙◌, sym, ap}
use mathlib.Core.Bool.{Bool, true, false, ◌||◌}
use mathlib.Core.List.{List, [], ◌∷◌}
use Rattle.std.specs.List.{list_any}
use lib.ListN.{get_or, length}
use lib.Dec.{eqb, eqb→eq, ltb}
use native.Mathlib.Omega.{arith}
use borrow.Author.Tests.{eqb-true, ltb-true}
use Rattle.fields.specs.Choice.{pick, either}
use Rattle.fields.proofs.Tables.{at}
use Rattle.measures.specs.Sizes.{any_below, size_at, permitted_size, sizes}

either_swap : (a b c : Bool) → either a (either b c) ≡ either b (either a c)
either_swap true true c = refl
either_swap true false c = refl
either_swap false b c = refl

-- the first number apart
any-first : (f : ℕ → Bool) (n : ℕ) → any_below f (suc n) ≡ either (f 0) (any_below (λ k. f (suc k)) n)
unfolding any_below
any-first f zero = refl
any-first f (suc n) = ap (either (f (suc n))) (any-first f n) ∙ either_swap (f (suc n)) (f 0) (any_below (λ k. f (suc k)) n)

-- some entry of a list passes a test exactly if the entry at some place does
pub any-listed : (f : ℕ → Bool) (xs : List ℕ) → list_any f xs ≡ any_below (λ k. f (get_or xs k 0)) (length xs)
unfolding any_below
any-listed f [] = refl
any-listed f (x ∷ xs) = go (f x) (any-listed f xs) ∙ sym (any-first (λ k. f (get_or (x ∷ xs) k 0)) (length xs))
  where
    go : (b : Bool) → list_any f xs ≡ any_below (λ k. f (get_or xs k 0)) (length xs) → b || list_any f xs ≡ either b (any_below (λ k. f (get_or xs k 0)) (length xs))
    go true e = refl
    go false e = e

right : ℕ → ℕ → Bool
right k x = eqb x (size_at k)

-- one computed test over the table, and so the rule at each entry
pub stepping : (k : ℕ) → k < 28 → get_or sizes k 0 ≡ size_at k
unfolding right
stepping k h = eqb→eq (get_or sizes k 0) (size_at k) (at right sizes tt k h)

-- the table has the sizes of the stepping rule
pub listed : (size : ℕ) → list_any (λ x. eqb x size) sizes ≡ permitted_size size
unfolding permitted_size any_below
listed size = any-listed (λ x. eqb x size) sizes

-- what passes a test at each number below n
any-means : (f : ℕ → Bool) (P : Type 0) (n : ℕ) → ((i : ℕ) → i < n → f i ≡ true → P) → any_below f n ≡ true → P
unfolding any_below
any-means f P zero g h = absurd (let z : ◌≡◌ {A = ℕ} 0 1 = cc in omega arith)
any-means f P (suc n) g h = go (f n) refl (λ k. any-means f P n (λ i l e. g i (omega arith) e) k) h
  where
    go : (b : Bool) → f n ≡ b → (any_below f n ≡ true → P) → either b (any_below f n) ≡ true → P
    go true e r h = g n (omega arith) e
    go false e r h = r h

size-range : (k : ℕ) → k < 28 → (512 ≤ size_at k) × (size_at k ≤ 32768)
size-range k h = go (ltb k 16) refl
  where
    go : (b : Bool) → ltb k 16 ≡ b → (512 ≤ pick b (512 * (k + 1)) (8192 + 2048 * (k - 15))) × (pick b (512 * (k + 1)) (8192 + 2048 * (k - 15)) ≤ 32768)
    go true e = let l : k < 16 = ltb-true k 16 e in (omega arith, omega arith)
    go false e = (omega arith, omega arith)

-- every permitted size is from 512 to 32,768
pub permitted-range : (size : ℕ) → permitted_size size ≡ true → (512 ≤ size) × (size ≤ 32768)
unfolding permitted_size
permitted-range size h =
    any-means (λ k. eqb (size_at k) size) ((512 ≤ size) × (size ≤ 32768)) 28
    (λ (i : ℕ) (l : i < 28) (e : eqb (size_at i) size ≡ true). let q : size_at i ≡ size = eqb-true (size_at i) size e in rw q at (size-range i l))
    h
