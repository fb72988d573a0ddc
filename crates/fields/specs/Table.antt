-- What a table of cases is made of, tests that all must hold and sameness of lists: the words of document 01, 'Registers on both sides of each edge'.
use Rattle.std.specs.Prelude.{ℕ, Bool, true, false, List, [], ◌∷◌, eqb}
use Rattle.fields.specs.Choice.{both}

abbrev pub all : List Bool → Bool
all [] = true
all (b ∷ bs) = both b (all bs)

abbrev pub same_list : List ℕ → List ℕ → Bool
same_list [] [] = true
same_list [] (y ∷ ys) = false
same_list (x ∷ xs) [] = false
same_list (x ∷ xs) (y ∷ ys) = both (eqb x y) (same_list xs ys)

abbrev pub same_lists : List (List ℕ) → List (List ℕ) → Bool
same_lists [] [] = true
same_lists [] (y ∷ ys) = false
same_lists (x ∷ xs) [] = false
same_lists (x ∷ xs) (y ∷ ys) = both (same_list x y) (same_lists xs ys)
