-- Worked examples under one statement: the places of keys of two bytes, at offset 1, among three records and among none.
use Prim.Native.Nat.{ℕ}
use mathlib.Core.Path.{◌≡◌, refl}
use mathlib.Core.List.{List, [], ◌∷◌}
use Rattle.fields.specs.Order.{order_of}
use Rattle.fields.specs.Lists.{concat}
use Rattle.measures.specs.Judgement.{measures}
use Rattle.interval.specs.Search.{lower, holds, place_of}
use Rattle.interval.specs.declared.Found.{Found}
use Rattle.interval.specs.declared.Found.TheVariants.{At, Gap}

abbrev records : List (List ℕ)
records = (9 ∷ 1 ∷ 5 ∷ []) ∷ (8 ∷ 2 ∷ 0 ∷ 7 ∷ []) ∷ (7 ∷ 2 ∷ 1 ∷ []) ∷ []

abbrev place : ℕ → ℕ → List (List ℕ) → Found
place a b rs = place_of (measures 512 1 2 505) (a ∷ b ∷ []) rs

-- at each record; before, between and after them; among none
pub vectors : (place 1 5 records ≡ At 0 0 3) × (place 2 0 records ≡ At 1 3 4) × (place 2 1 records ≡ At 2 7 3)
    × (place 0 255 records ≡ Gap 0 0) × (place 1 6 records ≡ Gap 1 3) × (place 2 2 records ≡ Gap 3 10) × (place 1 5 [] ≡ Gap 0 0)
unfolding order_of concat lower holds place_of
vectors = (refl, refl, refl, refl, refl, refl, refl)
