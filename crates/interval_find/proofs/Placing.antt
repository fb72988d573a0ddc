-- A key's place among records whose keys ascend, from what is seen at one of them.
use Prim.Native.Nat.{ℕ, zero, suc, ◌≤◌, ◌<◌}
use mathlib.Core.Path.{◌≡◌, refl, ◌∙◌, sym, ap}
use mathlib.Core.Bool.{Bool, true, false}
use mathlib.Core.List.{List, [], ◌∷◌}
use lib.ListN.{length, get_or}
use native.Mathlib.Omega.{arith}
use Rattle.fields.specs.Order.{order_of, is_less, less, flip}
use Rattle.fields.specs.Lists.{every}
use Rattle.std.specs.declared.cmp.Ordering.{Ordering}
use Rattle.std.specs.declared.cmp.Ordering.TheVariants.{Less, Equal, Greater}
use Rattle.fields.proofs.Choices.{both-split, false-true}
use Rattle.fields.proofs.Orders.{order_flip, order-refl}
use Rattle.measures.specs.declared.Measures.{Measures}
use Rattle.interval.specs.Records.{key_of, keys_of, ascending, above}
use Rattle.interval.specs.Search.{is_same, lower, holds, start_of, place_of}
use Rattle.interval.specs.declared.Found.TheVariants.{At, Gap}
use Rattle.interval.proofs.Ascending.{ascend-tail}
use Rattle.interval.proofs.Search.{first-less, first-lower, first_holds, rest-above, held, lower-most}

-- no key is at once below and not, or above and the same
less-greater : Less ≡ Greater → ⊥
less-greater e = let z : ◌≡◌ {A = ℕ} 0 1 = cc in omega arith

same-greater : Equal ≡ Greater → ⊥
same-greater e = let z : ◌≡◌ {A = ℕ} 0 1 = cc in omega arith

module _ (m : Measures) (key : List ℕ) where
  -- each of some keys that are all above is above
  above_at : (i : ℕ) (rs : List (List ℕ)) → above key (keys_of m rs) ≡ true → i < length rs → order_of (key_of m (get_or rs i [])) key ≡ Greater
  unfolding every
  above_at i [] a h = absurd (omega arith)
  above_at zero (r ∷ rs) a h =
      let s = both-split (less key (key_of m r)) (above key (keys_of m rs)) a in
      order_flip key (key_of m r) ∙ flipped (order_of key (key_of m r)) s.0
    where
      flipped : (o : Ordering) → is_less o ≡ true → flip o ≡ Greater
      flipped Less e = refl
      flipped Equal e = absurd (false-true e)
      flipped Greater e = absurd (false-true e)
  above_at (suc i) (r ∷ rs) a h = above_at i rs (both-split (less key (key_of m r)) (above key (keys_of m rs)) a).1 (omega arith)

  -- A record that is below has its place below the key's.
  pub below-past : (i : ℕ) (rs : List (List ℕ)) → ascending (keys_of m rs) ≡ true → i < length rs → order_of (key_of m (get_or rs i [])) key ≡ Less → i < lower m key rs
  below-past i [] up h e = absurd (omega arith)
  below-past zero (r ∷ rs) up h e = omega (arith, (first-less m key r rs e).0)
  below-past (suc i) (r ∷ rs) up h e =
      go (order_of (key_of m r) key) refl (below-past i rs (ascend-tail (key_of m r) (keys_of m rs) up) (omega arith) e)
    where
      go : (o : Ordering) → order_of (key_of m r) key ≡ o → i < lower m key rs → suc i < lower m key (r ∷ rs)
      go Less q k = omega (arith, (first-less m key r rs q).0, k)
      go Equal q k = absurd (less-greater (sym e ∙ above_at i rs (rest-above m key r rs up (ap is_less q)) (omega arith)))
      go Greater q k = absurd (less-greater (sym e ∙ above_at i rs (rest-above m key r rs up (ap is_less q)) (omega arith)))

  -- A record that is not below has its place at the key's or above it.
  pub lower-upto : (i : ℕ) (rs : List (List ℕ)) → ascending (keys_of m rs) ≡ true → i < length rs → less (key_of m (get_or rs i [])) key ≡ false → lower m key rs ≤ i
  lower-upto i [] up h e = absurd (omega arith)
  lower-upto zero (r ∷ rs) up h e = omega (arith, first-lower m key r rs up e)
  lower-upto (suc i) (r ∷ rs) up h e = go (order_of (key_of m r) key) refl (lower-upto i rs (ascend-tail (key_of m r) (keys_of m rs) up) (omega arith) e)
    where
      go : (o : Ordering) → order_of (key_of m r) key ≡ o → lower m key rs ≤ i → lower m key (r ∷ rs) ≤ suc i
      go Less q k = omega (arith, (first-less m key r rs q).0, k)
      go Equal q k = omega (arith, first-lower m key r rs up (ap is_less q))
      go Greater q k = omega (arith, first-lower m key r rs up (ap is_less q))

  -- The record that has the key is the one.
  same-there : (i : ℕ) (rs : List (List ℕ)) → ascending (keys_of m rs) ≡ true → i < length rs → order_of (key_of m (get_or rs i [])) key ≡ Equal
      → (lower m key rs ≡ i) × (holds m key rs ≡ true)
  same-there i [] up h e = absurd (omega arith)
  same-there zero (r ∷ rs) up h e = (first-lower m key r rs up (ap is_less e), first_holds m key r rs up (ap is_less e) ∙ ap is_same e)
  same-there (suc i) (r ∷ rs) up h e = go (order_of (key_of m r) key) refl (same-there i rs (ascend-tail (key_of m r) (keys_of m rs) up) (omega arith) e)
    where
      go : (o : Ordering) → order_of (key_of m r) key ≡ o → (lower m key rs ≡ i) × (holds m key rs ≡ true) → (lower m key (r ∷ rs) ≡ suc i) × (holds m key (r ∷ rs) ≡ true)
      go Less q k = let f = first-less m key r rs q in (f.0 ∙ ap suc k.0, f.1 ∙ k.1)
      go Equal q k = absurd (same-greater (sym e ∙ above_at i rs (rest-above m key r rs up (ap is_less q)) (omega arith)))
      go Greater q k = absurd (same-greater (sym e ∙ above_at i rs (rest-above m key r rs up (ap is_less q)) (omega arith)))

  module _ (rs : List (List ℕ)) (up : ascending (keys_of m rs) ≡ true) where
    pub same_place : (i : ℕ) → i < length rs → order_of (key_of m (get_or rs i [])) key ≡ Equal → At i (start_of i rs) (length (get_or rs i [])) ≡ place_of m key rs
    unfolding place_of
    same_place i h e = let s = same-there i rs up h e in rw (s.1, s.0)

    -- none has the key where the record that stands at its place is above it, or none stands there
    gap-there : (i : ℕ) → lower m key rs ≡ i → holds m key rs ≡ false → Gap i (start_of i rs) ≡ place_of m key rs
    unfolding place_of
    gap-there i l h = rw (h, l)

    -- The gap lies before a record that is above, where no fewer than those before it are below.
    pub gap-place : (i : ℕ) → i < length rs → i ≤ lower m key rs → order_of (key_of m (get_or rs i [])) key ≡ Greater → Gap i (start_of i rs) ≡ place_of m key rs
    gap-place i h b e =
        let u = lower-upto i rs up h (ap is_less e) in
        let l : lower m key rs ≡ i = omega arith in
        gap-there i l (go l (holds m key rs) refl)
      where
        go : lower m key rs ≡ i → (t : Bool) → holds m key rs ≡ t → t ≡ false
        go l true q =
            let k : key_of m (get_or rs i []) ≡ key = rw l at (held m key rs up q).1 in
            absurd (same-greater (sym (order-refl key) ∙ (rw k at e)))
        go l false q = refl

    -- And behind all of them, where all are below.
    pub gap-last : (i : ℕ) → i ≡ length rs → i ≤ lower m key rs → Gap i (start_of i rs) ≡ place_of m key rs
    gap-last i h b = gap-there i (omega (arith, lower-most m key rs)) (go (holds m key rs) refl)
      where
        go : (t : Bool) → holds m key rs ≡ t → t ≡ false
        go true q = absurd (omega (arith, (held m key rs up q).0, lower-most m key rs))
        go false q = refl
