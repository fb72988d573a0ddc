-- The chosen cut is the prescribed one, and there is only one such.
use Prim.Native.Nat.{ℕ, zero, suc, ◌-◌, ◌≤◌, ◌<◌}
use mathlib.Core.Path.{◌≡◌, refl, ◌∙◌, sym}
use mathlib.Core.Bool.{Bool, true, false}
use mathlib.Core.List.{List, [], ◌∷◌}
use lib.ListN.{length, take}
use lib.Dec.{eqb, leb, ltb}
use native.Mathlib.Omega.{arith}
use native.Mathlib.Decide.{dec_lt}
use borrow.Author.Tests.{eqb-true, eqb-false, leb-true, ltb-true, ltb-false}
use Rattle.fields.specs.Choice.{pick, both, either}
use Rattle.fields.specs.Lists.{sum, every}
use Rattle.fields.proofs.Choices.{false-true, both-split}
use Rattle.interval.specs.Records.{within, all_within}
use Rattle.division.specs.Division.{difference, fitting, better, best_to, best_cut, BestCut, NoCut}

-- One of the cuts 1 to k that fits.
pub record Cut (S : ℕ) (ls : List ℕ) (k d : ℕ) : Type 0 where
  pub some : 0 < d
  pub below : d ≤ k
  pub fit : fitting S ls d ≡ true

-- b is the best of the cuts 1 to k, or 0 where none fits
pub record To (S : ℕ) (ls : List ℕ) (k b : ℕ) : Type 0 where
  pub inside : b ≤ k
  pub none : b ≡ 0 → (d : ℕ) → Cut S ls k d → ⊥
  pub fit : 0 < b → fitting S ls b ≡ true
  pub least : 0 < b → (d : ℕ) → Cut S ls k d → difference ls b ≤ difference ls d
  pub tie : 0 < b → (d : ℕ) → Cut S ls k d → difference ls d ≡ difference ls b → b ≤ d

pos : (b : ℕ) → (b ≡ 0 → ⊥) → 0 < b
pos b n = omega arith

module _ (S : ℕ) (ls : List ℕ) (k b : ℕ) (i : To S ls k b) where
  -- one of the cuts 1 to k + 1 is one of 1 to k, or k + 1
  upto : {P : Type 0} (d : ℕ) → Cut S ls (suc k) d → (Cut S ls k d → P) → (d ≡ suc k → P) → P
  upto {P} d c f g = go (dec_lt k d)
    where
      go : Dec (k < d) → P
      go (yes l) = g (omega (arith, c.below))
      go (no l) = f (record { some = c.some; below = omega arith; fit = c.fit })

  -- the cut at k + 1 does not fit
  kept-unfit : fitting S ls (suc k) ≡ false → To S ls (suc k) b
  kept-unfit e =
      record {
        inside = omega (arith, i.inside);
        none = λ (z : b ≡ 0) (d : ℕ) (c : Cut S ls (suc k) d). upto d c (i.none z d) (off d c);
        fit = i.fit;
        least = λ (z : 0 < b) (d : ℕ) (c : Cut S ls (suc k) d). upto d c (i.least z d) (λ (q : d ≡ suc k). absurd (off d c q));
        tie =
            λ (z : 0 < b) (d : ℕ) (c : Cut S ls (suc k) d) (g : difference ls d ≡ difference ls b).
            upto d c (λ (m : Cut S ls k d). i.tie z d m g) (λ (q : d ≡ suc k). absurd (off d c q));
      }
    where
      off : (d : ℕ) → Cut S ls (suc k) d → d ≡ suc k → ⊥
      off d c q = false-true (sym e ∙ (rw q at c.fit))

  -- it fits, but its parts do not differ less
  kept-worse : 0 < b → difference ls b ≤ difference ls (suc k) → To S ls (suc k) b
  kept-worse z e =
      record {
        inside = omega (arith, i.inside);
        none = λ (y : b ≡ 0) (d : ℕ) (c : Cut S ls (suc k) d). omega arith;
        fit = i.fit;
        least = λ (z : 0 < b) (d : ℕ) (c : Cut S ls (suc k) d). upto d c (i.least z d) (λ (q : d ≡ suc k). rw q e);
        tie =
            λ (z : 0 < b) (d : ℕ) (c : Cut S ls (suc k) d) (g : difference ls d ≡ difference ls b).
            upto d c (λ (m : Cut S ls k d). i.tie z d m g) (λ (q : d ≡ suc k). omega (arith, i.inside));
      }

  -- it is the first that fits
  taken-first : b ≡ 0 → fitting S ls (suc k) ≡ true → To S ls (suc k) (suc k)
  taken-first z e =
      record {
        inside = omega arith;
        none = λ (y : suc k ≡ 0) (d : ℕ) (c : Cut S ls (suc k) d). omega arith;
        fit = λ _. e;
        least = λ _ (d : ℕ) (c : Cut S ls (suc k) d). upto d c (λ (m : Cut S ls k d). absurd (i.none z d m)) (λ (q : d ≡ suc k). rw q (omega arith));
        tie =
            λ _ (d : ℕ) (c : Cut S ls (suc k) d) (g : difference ls d ≡ difference ls (suc k)).
            upto d c (λ (m : Cut S ls k d). absurd (i.none z d m)) (λ (q : d ≡ suc k). omega arith);
      }

  -- its parts differ less than those of the best so far
  taken-better : 0 < b → difference ls (suc k) < difference ls b → fitting S ls (suc k) ≡ true → To S ls (suc k) (suc k)
  taken-better z h e =
      record {
        inside = omega arith;
        none = λ (y : suc k ≡ 0) (d : ℕ) (c : Cut S ls (suc k) d). omega arith;
        fit = λ _. e;
        least = λ _ (d : ℕ) (c : Cut S ls (suc k) d). upto d c (less d) (λ (q : d ≡ suc k). rw q (omega arith));
        tie =
            λ _ (d : ℕ) (c : Cut S ls (suc k) d) (g : difference ls d ≡ difference ls (suc k)).
            upto d c (λ (m : Cut S ls k d). far d m g) (λ (q : d ≡ suc k). omega arith);
      }
    where
      less : (d : ℕ) → Cut S ls k d → difference ls (suc k) ≤ difference ls d
      less d m = omega (arith, i.least z d m)

      far : (d : ℕ) → Cut S ls k d → difference ls d ≡ difference ls (suc k) → suc k ≤ d
      far d m g = absurd (let l = i.least z d m in omega arith)

  step : (t u v : Bool) → fitting S ls (suc k) ≡ t → eqb b 0 ≡ u → ltb (difference ls (suc k)) (difference ls b) ≡ v
      → To S ls (suc k) (pick (both t (either u v)) (suc k) b)
  step false u v e f g = kept-unfit e
  step true true v e f g = taken-first (eqb-true b 0 f) e
  step true false true e f g = taken-better (pos b (eqb-false b 0 f)) (ltb-true _ _ g) e
  step true false false e f g = kept-worse (pos b (eqb-false b 0 f)) (ltb-false _ _ g)

-- so it is for every k
pub best-to : (S : ℕ) (ls : List ℕ) (k : ℕ) → To S ls k (best_to S ls k)
unfolding best_to better
best-to S ls zero =
    record {
      inside = omega arith;
      none = λ (y : ◌≡◌ {A = ℕ} 0 0) (d : ℕ) (c : Cut S ls 0 d). omega (arith, c.some, c.below);
      fit = λ (z : 0 < 0). absurd (omega arith);
      least = λ (z : 0 < 0) (d : ℕ) (c : Cut S ls 0 d). absurd (omega arith);
      tie = λ (z : 0 < 0) (d : ℕ) (c : Cut S ls 0 d) (g : difference ls d ≡ difference ls 0). absurd (omega arith);
    }
best-to S ls (suc k) =
    let b = best_to S ls k in
    step S ls k b (best-to S ls k) (fitting S ls (suc k)) (eqb b 0) (ltb (difference ls (suc k)) (difference ls b)) refl refl refl

-- one of all cuts into two parts that aren't empty
among : (S : ℕ) (ls : List ℕ) (d : ℕ) → 0 < d → d < length ls → fitting S ls d ≡ true → Cut S ls (length ls - 1) d
among S ls d p l f = record { some = p; below = omega arith; fit = f }

-- a cut that isn't 0 is the prescribed one
pub best-cut : (S : ℕ) (ls : List ℕ) → (best_cut S ls ≡ 0 → ⊥) → BestCut S ls (best_cut S ls)
unfolding best_cut
best-cut S ls n =
    let i = best-to S ls (length ls - 1) in
    let z : 0 < best_to S ls (length ls - 1) = omega arith in
    record {
      some = z;
      below = omega (arith, i.inside);
      fit = i.fit z;
      least = λ (d : ℕ) (p : 0 < d) (l : d < length ls) (f : fitting S ls d ≡ true). i.least z d (among S ls d p l f);
      tie =
          λ (d : ℕ) (p : 0 < d) (l : d < length ls) (f : fitting S ls d ≡ true) (g : difference ls d ≡ difference ls (best_to S ls (length ls - 1))).
          i.tie z d (among S ls d p l f) g;
    }

-- and where it is 0, no cut fits
pub no_cut : (S : ℕ) (ls : List ℕ) → best_cut S ls ≡ 0 → NoCut S ls
unfolding best_cut
no_cut S ls e d p l f = (best-to S ls (length ls - 1)).none e d (among S ls d p l f)

-- there is only one prescribed cut
pub best-unique : (S : ℕ) (ls : List ℕ) (c d : ℕ) → BestCut S ls c → BestCut S ls d → c ≡ d
best-unique S ls c d x y =
    let p = x.least d y.some y.below y.fit in
    let q = y.least c x.some x.below x.fit in
    let e : difference ls d ≡ difference ls c = omega arith in
    let u = x.tie d y.some y.below y.fit e in
    let v = y.tie c x.some x.below x.fit (sym e) in
    omega arith

-- As no record is empty, a left part of fewer records is one of fewer bytes: "smaller" in rule 2 means either.
pub fewer-smaller : (least most c d : ℕ) (ls : List ℕ) → 1 ≤ least → all_within least most ls ≡ true → c < d → d ≤ length ls
    → sum (take c ls) < sum (take d ls)
unfolding every sum
fewer-smaller least most c d [] s w h k = absurd (omega arith)
fewer-smaller least most c zero (l ∷ ls) s w h k = absurd (omega arith)
fewer-smaller least most zero (suc d) (l ∷ ls) s w h k =
    let e = both-split (leb least l) (leb l most) (both-split (within least most l) (all_within least most ls) w).0 in
    omega (arith, leb-true least l e.0)
fewer-smaller least most (suc c) (suc d) (l ∷ ls) s w h k =
    omega (arith, fewer-smaller least most c d ls s (both-split (within least most l) (all_within least most ls) w).1 (omega arith) (omega arith))
