-- The numbers of a division in order: the index record's first, then two or three others, compared one with another.
use Prim.Native.Nat.{ℕ, ◌+◌, ◌<◌, min, max}
use mathlib.Core.Path.{◌≡◌, refl, ◌∙◌, ap}
use mathlib.Core.Bool.{Bool, true, false}
use mathlib.Core.List.{List, [], ◌∷◌}
use lib.Dec.{ltb}
use native.Mathlib.Omega.{arith}
use borrow.Author.Tests.{ltb-true, ltb-false, eq-eqb, ne_eqb}
use Rattle.change.specs.Written.{among, in_order, carrying}
use Rattle.change.specs.declared.Written.{Written}
use Rattle.change.proofs.Numbers.{among-front, among-past, among_none}
use Rattle.change_plan.specs.declared.Spread.{Spread}
use Rattle.change_write.specs.AidCarried.{written_for}

-- The index record and two others, told in order.
module _ (x y low high : ℕ) (hx : 0 < x) (hy : 0 < y) (d : x ≡ y → ⊥) (e : low ≡ min x y) (f : high ≡ max x y) where
  pub two-order : among x (among 0 (among y [])) ≡ 0 ∷ low ∷ high ∷ []
  two-order = ap (λ (xs : List ℕ). among x (among 0 xs)) (among_none y) ∙ ap (among x) (among-front 0 y [] hy) ∙ among-past x 0 (y ∷ []) hx ∙ go (ltb x y) refl
    where
      go : (t : Bool) → ltb x y ≡ t → 0 ∷ among x (y ∷ []) ≡ 0 ∷ low ∷ high ∷ []
      go true q =
          let h : x < y = ltb-true x y q in
          let l : low ≡ x = omega arith in
          let k : high ≡ y = omega arith in rw (l, k, among-front x y [] h)
      go false q =
          let h : y < x = omega (arith, ltb-false x y q) in
          let l : low ≡ y = omega arith in
          let k : high ≡ x = omega arith in rw (l, k, among-past x y [] h, among_none x)

  pub two-told : record { count = 3; first = 0; second = low; third = high; fourth = 0 } ≡ carrying (among x (among 0 (among y [])))
  two-told = rw two-order

-- A third one goes before both, between them or behind them.
third-order : (x low high second third fourth : ℕ) → 0 < x → low < high → (x ≡ low → ⊥) → (x ≡ high → ⊥)
    → second ≡ min x low → third ≡ min (max x low) high → fourth ≡ max x high → among x (0 ∷ low ∷ high ∷ []) ≡ 0 ∷ second ∷ third ∷ fourth ∷ []
third-order x low high second third fourth hx h d g a b c = among-past x 0 (low ∷ high ∷ []) hx ∙ go (ltb x low) (ltb x high) refl refl
  where
    go : (t u : Bool) → ltb x low ≡ t → ltb x high ≡ u → 0 ∷ among x (low ∷ high ∷ []) ≡ 0 ∷ second ∷ third ∷ fourth ∷ []
    go true u q r =
        let l : x < low = ltb-true x low q in
        let i : second ≡ x = omega arith in
        let j : third ≡ low = omega arith in
        let k : fourth ≡ high = omega arith in rw (i, j, k, among-front x low (high ∷ []) l)
    go false true q r =
        let l : low < x = omega (arith, ltb-false x low q) in
        let m : x < high = ltb-true x high r in
        let i : second ≡ low = omega arith in
        let j : third ≡ x = omega arith in
        let k : fourth ≡ high = omega arith in rw (i, j, k, among-past x low (high ∷ []) l, among-front x high [] m)
    go false false q r =
        let l : low < x = omega (arith, ltb-false x low q) in
        let m : high < x = omega (arith, ltb-false x high r) in
        let i : second ≡ low = omega arith in
        let j : third ≡ high = omega arith in
        let k : fourth ≡ x = omega arith in rw (i, j, k, among-past x low (high ∷ []) l, among-past x high [] m, among_none x)

-- The index record and three others, told in order.
pub three-told : (x y z low high second third fourth : ℕ) → 0 < x → 0 < y → 0 < z → (x ≡ y → ⊥) → (x ≡ z → ⊥) → (y ≡ z → ⊥)
    → low ≡ min y z → high ≡ max y z → second ≡ min x low → third ≡ min (max x low) high → fourth ≡ max x high
    → record { count = 4; first = 0; second = second; third = third; fourth = fourth } ≡ carrying (among x (among y (among 0 (among z []))))
three-told x y z low high second third fourth hx hy hz xy xz yz e f a b c =
    rw (two-order y z low high hy hz yz e f, third-order x low high second third fourth hx (omega arith) (omega arith) (omega arith) a b c)

-- ---- the numbers of a spread, by how many parts there are

module _ (s : Spread) where
  pub one-by : s.parts.many ≡ 1 → record { count = 1; first = s.site.number + 1; second = 0; third = 0; fourth = 0 } ≡ written_for s
  unfolding in_order among
  one-by h = rw (eq-eqb s.parts.many 1 h)

  pub two-by : s.parts.many ≡ 2 → (w : Written) → w ≡ carrying (among (s.a + 1) (among 0 (among (s.site.number + 1) []))) → w ≡ written_for s
  unfolding in_order
  two-by h w e = e ∙ rw h

  pub three-by : (s.parts.many ≡ 1 → ⊥) → (s.parts.many ≡ 2 → ⊥) → (w : Written)
      → w ≡ carrying (among (s.a + 1) (among (s.b + 1) (among 0 (among (s.site.number + 1) [])))) → w ≡ written_for s
  unfolding in_order
  three-by h g w e = e ∙ rw (ne_eqb s.parts.many 1 h, ne_eqb s.parts.many 2 g)
