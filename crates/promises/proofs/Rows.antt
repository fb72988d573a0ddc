-- Rows that stand in several tables, and what decides them.
use Rattle.std.specs.Prelude.{None}
use Prim.Native.Nat.{ℕ}
use mathlib.Core.Path.{◌≡◌, refl, ◌∙◌, sym}
use mathlib.Core.List.Memᴰ
use mathlib.Core.List.{List, [], ◌∷◌}
use mathlib.Core.Logic.{◌⊎◌, inl, inr}
use lib.ListN.{length}
use native.Mathlib.Omega.{arith}
use Rattle.measures.specs.Judgement.{Fits, judged_of, count_of, passed}
use Rattle.measures.specs.declared.Measures.{Measures}
use Rattle.measures.proofs.Fine.{judged-either, accepted, accepted-fits}
use Rattle.area.specs.Content.{Content}
use Rattle.area.specs.Reading.{Reading, damaged, whole, read_area}
use Rattle.requests.specs.Records.{with_key}
use Rattle.requests.specs.Finding.{Keyed}
use Rattle.requests.proofs.Gets.{keyed-among, with-keyed}
use Rattle.promises.specs.Tables.{Table, row, First, OutsideLimits, DamagedSomewhere, Holding}

outside-fine : (m : Measures) (n : ℕ) → None ≡ passed m n → ⊥
outside-fine m n e = let z : ◌≡◌ {A = ℕ} 0 1 = cc in omega arith

damaged-whole : (p : ℕ) (c : Content) → damaged p ≡ whole c → ⊥
damaged-whole p c e = let z : ◌≡◌ {A = ℕ} 0 1 = cc in omega arith

module _ (m : Measures) (area : List ℕ) where
  abbrev n : ℕ
  n = count_of m.size (length area)

  -- The first row, which stands in every table.
  pub first_one : (later : Table) (k : ℕ) → (judged_of m (length area) ≡ None → k ≡ 1)
      → (judged_of m (length area) ≡ passed m n → First later k) → First (row 1 (OutsideLimits m area) later) k
  first_one later k one more = by-judgement (judged-either m (length area))
    where
      by-judgement : (judged_of m (length area) ≡ None) ⊎ (judged_of m (length area) ≡ passed m n) → First (row 1 (OutsideLimits m area) later) k
      by-judgement (inl o) =
          inl (λ (k : ℕ) (f : Fits m k (length area)). outside-fine m k (sym o ∙ accepted m (length area) k f), one o)
      by-judgement (inr j) = inr (λ (o : OutsideLimits m area). o n (accepted-fits m (length area) n j), more j)

  -- The first two rows, which stand in every table but that of a get by key.
  pub first_two : (later : Table) (k : ℕ) → (judged_of m (length area) ≡ None → k ≡ 1)
      → (judged_of m (length area) ≡ passed m n → (p : ℕ) → read_area m n area ≡ damaged p → k ≡ 2)
      → (judged_of m (length area) ≡ passed m n → (c : Content) → read_area m n area ≡ whole c → First later k)
      → First (row 1 (OutsideLimits m area) (row 2 (DamagedSomewhere m area) later)) k
  first_two later k one two more =
      first_one (row 2 (DamagedSomewhere m area) later) k one (λ (j : judged_of m (length area) ≡ passed m n). by-reading j (read_area m n area) refl)
    where
      by-reading : judged_of m (length area) ≡ passed m n → (d : Reading) → read_area m n area ≡ d → First (row 2 (DamagedSomewhere m area) later) k
      by-reading j (damaged p) e = inl ((p, e), two j p e)
      by-reading j (whole c) e = inr (λ (d : DamagedSomewhere m area). damaged-whole d.0 c (sym d.1 ∙ e), more j c e)

  -- What the area holds, it holds of the content that it is read as.
  pub held : (P : Content → Type 0) (c : Content) → read_area m n area ≡ whole c → Holding m area P → P c
  held P c w h = let v : whole h.0 ≡ whole c = sym h.1 ∙ w in let e : h.0 ≡ c = cc in rw e at h.2

module _ (m : Measures) (wanted : List ℕ) (rs : List (List ℕ)) where
  -- Some record has a key, or none.
  pub keyed-either : ((r : List ℕ) × Keyed m wanted rs r) ⊎ ((r : List ℕ) → Keyed m wanted rs r → ⊥)
  keyed-either = go (with_key m wanted rs) refl
    where
      go : (ws : List (List ℕ)) → with_key m wanted rs ≡ ws → ((r : List ℕ) × Keyed m wanted rs r) ⊎ ((r : List ℕ) → Keyed m wanted rs r → ⊥)
      go [] e = inr (λ (r : List ℕ) (k : Keyed m wanted rs r). Memᴰ.not-nil (rw e at (keyed-among m wanted rs r k)))
      go (x ∷ ws) e = inl (x, with-keyed m wanted rs x ws e)

  -- No record has a key, or one has it, as what is found by it.
  pub none-with : ((r : List ℕ) → Keyed m wanted rs r → ⊥) → with_key m wanted rs ≡ []
  none-with h = go (with_key m wanted rs) refl
    where
      go : (ws : List (List ℕ)) → with_key m wanted rs ≡ ws → ws ≡ []
      go [] e = refl
      go (x ∷ ws) e = absurd (h x (with-keyed m wanted rs x ws e))

  pub some_with : (r : List ℕ) × Keyed m wanted rs r → with_key m wanted rs ≡ [] → ⊥
  some_with x e = Memᴰ.not-nil (rw e at (keyed-among m wanted rs x.0 x.1))
