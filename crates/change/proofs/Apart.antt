-- Numbers that are named once are apart from one another.
use Prim.Native.Nat.{ℕ, ◌+◌, ◌≤◌, ◌<◌}
use mathlib.Core.Path.{◌≡◌, refl}
use mathlib.Core.Bool.{true}
use mathlib.Core.List.Memᴰ
use mathlib.Core.List.{List, [], ◌∷◌, ◌++◌, Memᴰ}
use native.Mathlib.Omega.{arith}
use Rattle.index.specs.Meaning.{count, once, named_once}
use Rattle.index.proofs.Naming.{named-below, named-each}
use Rattle.index.proofs.Counting.{count_same, count-append, count-more, count-some, below-among}
use Rattle.change.specs.Places.{Distinct}

-- ---- counts

-- numbers each of which is counted at most once are apart
pub apart-counts : (xs : List ℕ) → ((k : ℕ) → Memᴰ k xs → count k xs ≤ 1) → Distinct xs
apart-counts [] h = tt
apart-counts (x ∷ xs) h = (
  λ (i : Memᴰ x xs). omega (arith, h x (Memᴰ.head refl), count_same x x xs refl, count-some x xs i),
  apart-counts xs (λ (k : ℕ) (i : Memᴰ k xs). omega (arith, h k (Memᴰ.tail i), count-more k x xs)),
)

-- ---- naming

-- Some of the numbers that are named once: free ones, others, these, others.
module _ (n : ℕ) (free pre ks post : List ℕ) (once : named_once n (free ++ (pre ++ (ks ++ post))) ≡ true) where
  -- Each of these is below n,
  pub these-below : (k : ℕ) → Memᴰ k ks → k < n
  these-below k i =
      below-among n k (free ++ (pre ++ (ks ++ post))) (named-below n (free ++ (pre ++ (ks ++ post))) once)
      (Memᴰ.append_right free (Memᴰ.append_right pre (Memᴰ.append_left post i)))

  counted : (k : ℕ) → Memᴰ k ks → count k free + (count k pre + (count k ks + count k post)) ≡ 1
  counted k i =
      omega
      (arith, named-each n (free ++ (pre ++ (ks ++ post))) k once (these-below k i), count-append k free (pre ++ (ks ++ post)), count-append k pre (ks ++ post), count-append k ks post)

  -- no two of them are the same,
  pub these-apart : Distinct ks
  these-apart = apart-counts ks (λ (k : ℕ) (i : Memᴰ k ks). omega (arith, counted k i))

  -- and none is among the free ones, or among the others.
  pub free-not-these : (k : ℕ) → Memᴰ k free → Memᴰ k ks → ⊥
  free-not-these k f i = omega (arith, counted k i, count-some k ks i, count-some k free f)

  pub pre-not-these : (k : ℕ) → Memᴰ k pre → Memᴰ k ks → ⊥
  pre-not-these k f i = omega (arith, counted k i, count-some k ks i, count-some k pre f)

  pub post-not-these : (k : ℕ) → Memᴰ k post → Memᴰ k ks → ⊥
  post-not-these k f i = omega (arith, counted k i, count-some k ks i, count-some k post f)
