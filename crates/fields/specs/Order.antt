-- The order of byte lists, and what two of them begin with alike: document 01, 'The area we lend'. A byte counts as a number from 0 to 255.
use Rattle.std.specs.Prelude.{ℕ, suc, Bool, List, [], ◌∷◌, ltb, eqb}
use Rattle.std.specs.declared.cmp.Ordering.{Ordering}
use Rattle.std.specs.declared.cmp.Ordering.TheVariants.{Less, Equal, Greater}
use Rattle.std.specs.Ordering.{is_lt, ordering_reverse}
use Rattle.fields.specs.Choice.{pick}

-- byte by byte; a list that the other one begins with is below it
unfoldable pub order_of : List ℕ → List ℕ → Ordering
order_of [] [] = Equal
order_of [] (y ∷ ys) = Less
order_of (x ∷ xs) [] = Greater
order_of (x ∷ xs) (y ∷ ys) = pick (ltb x y) Less (pick (ltb y x) Greater (order_of xs ys))

abbrev pub is_less : Ordering → Bool
is_less o = is_lt o

abbrev pub less : List ℕ → List ℕ → Bool
less a b = is_less (order_of a b)

-- how many first bytes two lists have in common
unfoldable pub common : List ℕ → List ℕ → ℕ
common [] ys = 0
common (x ∷ xs) [] = 0
common (x ∷ xs) (y ∷ ys) = pick (eqb x y) (suc (common xs ys)) 0

-- the two ways round
abbrev pub flip : Ordering → Ordering
flip o = ordering_reverse o
