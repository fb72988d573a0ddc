-- Laws of lists, whatever their elements are: each said once, for lengths, records, keys, entries and parts.
use Prim.Native.Nat.{ℕ, zero, suc, ◌+◌}
use mathlib.Core.Path.{◌≡◌, refl, ◌∙◌, sym}
use mathlib.Core.Bool.{Bool, true}
use mathlib.Core.List.{List, [], ◌∷◌, ◌++◌, map, append_assoc, append-nil}
use lib.ListN.{length, take, drop, length-append}
use native.Mathlib.Omega.{arith}
use Rattle.fields.specs.Choice.{both}
use Rattle.fields.specs.Lists.{sum, concat, every}
use Rattle.fields.proofs.Choices.{both-assoc, both-split, both-join}

-- ---- parts of a list, under a function

pub map-take : {A B : Type 0} (f : A → B) (k : ℕ) (xs : List A) → map f (take k xs) ≡ take k (map f xs)
map-take f zero xs = refl
map-take f (suc k) [] = refl
map-take f (suc k) (x ∷ xs) = rw (map-take f k xs)

pub map-drop : {A B : Type 0} (f : A → B) (k : ℕ) (xs : List A) → map f (drop k xs) ≡ drop k (map f xs)
map-drop f zero xs = refl
map-drop f (suc k) [] = refl
map-drop f (suc k) (x ∷ xs) = map-drop f k xs

-- ---- lists one after another

pub concat-none : {A : Type 0} → concat {A = A} [] ≡ []
unfolding concat
concat-none = refl

pub concat-one : {A : Type 0} (xs : List A) → concat (xs ∷ []) ≡ xs
unfolding concat
concat-one xs = append-nil xs

pub concat-append : {A : Type 0} (xss yss : List (List A)) → concat (xss ++ yss) ≡ concat xss ++ concat yss
unfolding concat
concat-append [] yss = refl
concat-append (xs ∷ xss) yss = rw (concat-append xss yss) (sym (append_assoc xs (concat xss) (concat yss)))

-- ---- sums

pub sum-cons : (x : ℕ) (xs : List ℕ) → sum (x ∷ xs) ≡ x + sum xs
unfolding sum
sum-cons x xs = refl

pub sum-append : (xs ys : List ℕ) → sum (xs ++ ys) ≡ sum xs + sum ys
unfolding sum
sum-append [] ys = omega arith
sum-append (x ∷ xs) ys = omega (arith, sum-append xs ys)

-- the lengths of lists add up to the length of all of them together
pub sum-lengths : {A : Type 0} (xss : List (List A)) → sum (map length xss) ≡ length (concat xss)
unfolding sum concat
sum-lengths [] = refl
sum-lengths (xs ∷ xss) = omega (arith, length-append xs (concat xss), sum-lengths xss)

-- ---- tests of every element: those of two lists hold together exactly if they hold for each

pub every_append : {A : Type 0} (f : A → Bool) (xs ys : List A) → every f (xs ++ ys) ≡ both (every f xs) (every f ys)
unfolding every
every_append f [] ys = refl
every_append f (x ∷ xs) ys = rw (every_append f xs ys) (sym (both-assoc (f x) (every f xs) (every f ys)))

pub every-apart : {A : Type 0} (f : A → Bool) (xs ys : List A) → every f (xs ++ ys) ≡ true → (every f xs ≡ true) × (every f ys ≡ true)
every-apart f xs ys h = both-split (every f xs) (every f ys) (sym (every_append f xs ys) ∙ h)

pub every-join : {A : Type 0} (f : A → Bool) (xs ys : List A) → every f xs ≡ true → every f ys ≡ true → every f (xs ++ ys) ≡ true
every-join f xs ys h k = every_append f xs ys ∙ both-join (every f xs) (every f ys) h k
