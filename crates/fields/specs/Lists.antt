-- Lists, whatever their elements are: the words in which lengths are added, lists joined and changed, and all elements tested. No document speaks of
-- them; every definition of the register is made of them.
use Rattle.std.specs.Prelude.{ℕ, ◌+◌, Bool, true, List, [], ◌∷◌, ◌++◌, take, drop}
use Rattle.fields.specs.Choice.{both}

unfoldable pub sum : List ℕ → ℕ
sum [] = 0
sum (x ∷ xs) = x + sum xs

-- lists one after another
unfoldable pub concat : {A : Type 0} → List (List A) → List A
concat [] = []
concat (xs ∷ xss) = xs ++ concat xss

-- ys with xs in place of its c elements from place k on: c = 0 inserts, c = 1 updates, c = 1 with an empty xs erases
unfoldable pub swap : {A : Type 0} → ℕ → ℕ → List A → List A → List A
swap k c xs ys = take k ys ++ (xs ++ drop (k + c) ys)

-- every element passes the test
unfoldable pub every : {A : Type 0} → (A → Bool) → List A → Bool
every f [] = true
every f (x ∷ xs) = both (f x) (every f xs)
