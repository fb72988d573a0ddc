-- The lowest of some numbers, as the place of damage is said by it.
use Prim.Native.Nat.{ℕ, min, ◌≤◌, ◌<◌}
use mathlib.Core.Path.{◌≡◌, refl}
use mathlib.Core.Bool.{Bool, true, false}
use mathlib.Core.List.Memᴰ
use mathlib.Core.List.{List, [], ◌∷◌, Memᴰ}
use mathlib.Core.Logic.{⊎_elim, ◌↔◌}
use lib.Dec.{leb}
use native.Mathlib.Omega.{arith}
use borrow.Author.Tests.{leb-true, leb-false}
use Rattle.area.specs.Soundness.{lowest}

-- It is n at most.
pub lowest-most : (n : ℕ) (ks : List ℕ) → lowest n ks ≤ n
unfolding lowest
lowest-most n [] = omega arith
lowest-most n (x ∷ ks) = omega (arith, lowest-most n ks)

-- None of the numbers is lower.
pub lowest-least : (n k : ℕ) (ks : List ℕ) → Memᴰ k ks → lowest n ks ≤ k
unfolding lowest
lowest-least n k [] i = absurd (Memᴰ.not-nil i)
lowest-least n k (x ∷ ks) i =
    ⊎_elim (λ (e : k ≡ x). omega arith) (λ (j : Memᴰ k ks). omega (arith, lowest-least n k ks j)) (Memᴰ.cases_cons i)

-- Where it is below n it is one of the numbers.
pub lowest-among : (n : ℕ) (ks : List ℕ) → lowest n ks < n → Memᴰ (lowest n ks) ks
unfolding lowest
lowest-among n [] h = absurd (omega arith)
lowest-among n (x ∷ ks) h = go (leb x (lowest n ks)) refl (λ (l : lowest n ks < n). lowest-among n ks l)
  where
    go : (t : Bool) → leb x (lowest n ks) ≡ t → (lowest n ks < n → Memᴰ (lowest n ks) ks) → Memᴰ (min x (lowest n ks)) (x ∷ ks)
    go true e i =
        let q : min x (lowest n ks) ≡ x = omega (arith, leb-true x (lowest n ks) e) in
        Memᴰ.head q
    go false e i =
        let l : lowest n ks < x = leb-false x (lowest n ks) e in
        let q : min x (lowest n ks) ≡ lowest n ks = omega arith in
        Memᴰ.tail (Memᴰ.cast q (i (omega arith)))

-- And it is below n where one of them is.
pub lowest-below : (n k : ℕ) (ks : List ℕ) → Memᴰ k ks → k < n → lowest n ks < n
lowest-below n k ks i h = omega (arith, lowest-least n k ks i)

-- So it is below n exactly if the list has a number below n.
pub lowest-exactly : (n : ℕ) (ks : List ℕ) → (lowest n ks < n) ↔ ((k : ℕ) × Memᴰ k ks × (k < n))
lowest-exactly n ks =
    (λ (h : lowest n ks < n). (lowest n ks, lowest-among n ks h, h), λ (r : (k : ℕ) × Memᴰ k ks × (k < n)). lowest-below n r.0 ks r.1 r.2)

-- So a number of the list below n that none is lower than is it.
pub lowest-is : (n k : ℕ) (ks : List ℕ) → Memᴰ k ks → k < n → ((j : ℕ) → Memᴰ j ks → k ≤ j) → lowest n ks ≡ k
lowest-is n k ks i h l =
    omega (arith, lowest-least n k ks i, l (lowest n ks) (lowest-among n ks (lowest-below n k ks i h)))

-- Of no numbers it is n.
pub lowest-none : (n : ℕ) → lowest n [] ≡ n
unfolding lowest
lowest-none n = refl
