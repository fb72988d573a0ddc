-- What the place of a key says: for those who act on it.
use Prim.Native.Nat.{ℕ, zero, suc, ◌+◌, ◌≤◌, ◌<◌}
use mathlib.Core.Path.{◌≡◌, refl, ◌∙◌, sym, ap}
use mathlib.Core.Bool.{Bool, true, false}
use mathlib.Core.List.{List, [], ◌∷◌}
use lib.ListN.{length, get_or, take, drop, length-append}
use lib.Seq.{take-nil, drop-nil}
use native.Mathlib.Numerals.{add-one}
use native.Mathlib.Omega.{arith}
use Rattle.fields.specs.Choice.{pick, either}
use Rattle.fields.specs.Order.{order_of, is_less, less, flip}
use Rattle.fields.specs.Lists.{concat, every}
use Rattle.std.specs.declared.cmp.Ordering.{Ordering}
use Rattle.std.specs.declared.cmp.Ordering.TheVariants.{Less, Equal, Greater}
use Rattle.fields.proofs.Choices.{both-split, false-true, pick_true, pick-false}
use Rattle.fields.proofs.Orders.{order_flip, order_same, less-asym}
use Rattle.measures.specs.declared.Measures.{Measures}
use Rattle.interval.specs.Records.{key_of, keys_of, ascending, above}
use Rattle.interval.specs.Search.{is_same, lower, holds, start_of, place_of, all_below, Within}
use Rattle.interval.specs.declared.Found.TheVariants.{At, Gap}
use Rattle.interval.proofs.Ascending.{ascend-tail, ascend-above}

greater-same : (o : Ordering) → is_less o ≡ true → is_same (flip o) ≡ false
greater-same Less h = refl
greater-same Equal h = absurd (false-true h)
greater-same Greater h = refl

-- records whose keys are all above: none is below, none has the key
module _ (m : Measures) (key : List ℕ) where
  pub above_lower : (rs : List (List ℕ)) → above key (keys_of m rs) ≡ true → lower m key rs ≡ 0
  unfolding every lower
  above_lower [] h = refl
  above_lower (r ∷ rs) h =
      let s = both-split (less key (key_of m r)) (above key (keys_of m rs)) h in
      rw (less-asym key (key_of m r) s.0, above_lower rs s.1)

  pub above_holds : (rs : List (List ℕ)) → above key (keys_of m rs) ≡ true → holds m key rs ≡ false
  unfolding every holds
  above_holds [] h = refl
  above_holds (r ∷ rs) h =
      let s = both-split (less key (key_of m r)) (above key (keys_of m rs)) h in
      rw (order_flip key (key_of m r), greater-same (order_of key (key_of m r)) s.0) (above_holds rs s.1)

-- what the order of the first record's key says of all
module _ (m : Measures) (key : List ℕ) (r : List ℕ) (rs : List (List ℕ)) where
  pub first-less : order_of (key_of m r) key ≡ Less → (lower m key (r ∷ rs) ≡ suc (lower m key rs)) × (holds m key (r ∷ rs) ≡ holds m key rs)
  unfolding lower holds
  first-less o = (rw o (omega arith), rw o)

  -- the rest is above a key that is not above the first
  module _ (up : ascending (keys_of m (r ∷ rs)) ≡ true) (o : less (key_of m r) key ≡ false) where
    pub rest-above : above key (keys_of m rs) ≡ true
    unfolding ascending
    rest-above = ascend-above (key_of m r) key (keys_of m rs) up o

    pub first-lower : lower m key (r ∷ rs) ≡ 0
    unfolding lower
    first-lower = rw (o, above_lower m key rs rest-above)

    pub first_holds : holds m key (r ∷ rs) ≡ is_same (order_of (key_of m r) key)
    unfolding holds
    first_holds = rw (above_holds m key rs rest-above) (end (is_same (order_of (key_of m r) key)))
      where
        end : (t : Bool) → either t false ≡ t
        end true = refl
        end false = refl

none-held : (m : Measures) (key : List ℕ) → holds m key [] ≡ true → ⊥
unfolding holds
none-held m key h = false-true h

-- on ascending keys the record with the key stands where those below it end
pub held : (m : Measures) (key : List ℕ) (rs : List (List ℕ)) → ascending (keys_of m rs) ≡ true → holds m key rs ≡ true
    → (lower m key rs < length rs) × (key_of m (get_or rs (lower m key rs) []) ≡ key)
held m key [] up h = absurd (none-held m key h)
held m key (r ∷ rs) up h = go (order_of (key_of m r) key) refl (λ (g : holds m key rs ≡ true). held m key rs (ascend-tail (key_of m r) (keys_of m rs) up) g)
  where
    go : (o : Ordering) → order_of (key_of m r) key ≡ o
        → (holds m key rs ≡ true → (lower m key rs < length rs) × (key_of m (get_or rs (lower m key rs) []) ≡ key))
        → (lower m key (r ∷ rs) < suc (length rs)) × (key_of m (get_or (r ∷ rs) (lower m key (r ∷ rs)) []) ≡ key)
    go Less e i =
        let f = first-less m key r rs e in
        let j = i (sym f.1 ∙ h) in
        rw f.0 (omega (arith, j.0), j.1)
    go Equal e i = rw (first-lower m key r rs up (ap is_less e)) (omega arith, order_same (key_of m r) key e)
    go Greater e i = absurd (false-true (sym (first_holds m key r rs up (ap is_less e) ∙ ap is_same e) ∙ h))

pub lower-most : (m : Measures) (key : List ℕ) (rs : List (List ℕ)) → lower m key rs ≤ length rs
unfolding lower
lower-most m key [] = omega arith
lower-most m key (r ∷ rs) = go (less (key_of m r) key) (lower-most m key rs)
  where
    go : (t : Bool) → lower m key rs ≤ length rs → pick t 1 0 + lower m key rs ≤ suc (length rs)
    go true i = omega arith
    go false i = omega arith

-- the keys before that place are below
pub lower-below : (m : Measures) (key : List ℕ) (rs : List (List ℕ)) → ascending (keys_of m rs) ≡ true → all_below key (keys_of m (take (lower m key rs) rs)) ≡ true
unfolding every
lower-below m key [] up = rw take-nil
lower-below m key (r ∷ rs) up = go (order_of (key_of m r) key) refl (lower-below m key rs (ascend-tail (key_of m r) (keys_of m rs) up))
  where
    go : (o : Ordering) → order_of (key_of m r) key ≡ o → all_below key (keys_of m (take (lower m key rs) rs)) ≡ true
        → all_below key (keys_of m (take (lower m key (r ∷ rs)) (r ∷ rs))) ≡ true
    go Less e i = rw ((first-less m key r rs e).0, e) i
    go Equal e i = rw (first-lower m key r rs up (ap is_less e))
    go Greater e i = rw (first-lower m key r rs up (ap is_less e))

-- and those from there on are above, where no record has the key
pub lower-above : (m : Measures) (key : List ℕ) (rs : List (List ℕ)) → ascending (keys_of m rs) ≡ true → holds m key rs ≡ false
    → above key (keys_of m (drop (lower m key rs) rs)) ≡ true
unfolding every
lower-above m key [] up h = rw drop-nil
lower-above m key (r ∷ rs) up h = go (order_of (key_of m r) key) refl (λ (g : holds m key rs ≡ false). lower-above m key rs (ascend-tail (key_of m r) (keys_of m rs) up) g)
  where
    go : (o : Ordering) → order_of (key_of m r) key ≡ o
        → (holds m key rs ≡ false → above key (keys_of m (drop (lower m key rs) rs)) ≡ true)
        → above key (keys_of m (drop (lower m key (r ∷ rs)) (r ∷ rs))) ≡ true
    go Less e i = let f = first-less m key r rs e in rw f.0 (i (sym f.1 ∙ h))
    go Equal e i = absurd (false-true (sym h ∙ first_holds m key r rs up (ap is_less e) ∙ ap is_same e))
    go Greater e i =
        let g : less key (key_of m r) ≡ true = ap is_less (order_flip (key_of m r) key ∙ ap flip e) in
        rw (first-lower m key r rs up (ap is_less e), g) (rest-above m key r rs up (ap is_less e))

-- those after the record with the key are above it
pub lower-beyond : (m : Measures) (key : List ℕ) (rs : List (List ℕ)) → ascending (keys_of m rs) ≡ true → holds m key rs ≡ true
    → above key (keys_of m (drop (suc (lower m key rs)) rs)) ≡ true
lower-beyond m key [] up h = absurd (none-held m key h)
lower-beyond m key (r ∷ rs) up h = go (order_of (key_of m r) key) refl (λ (g : holds m key rs ≡ true). lower-beyond m key rs (ascend-tail (key_of m r) (keys_of m rs) up) g)
  where
    go : (o : Ordering) → order_of (key_of m r) key ≡ o
        → (holds m key rs ≡ true → above key (keys_of m (drop (suc (lower m key rs)) rs)) ≡ true)
        → above key (keys_of m (drop (lower m key (r ∷ rs)) rs)) ≡ true
    go Less e i = let f = first-less m key r rs e in rw f.0 (i (sym f.1 ∙ h))
    go Equal e i = rw (first-lower m key r rs up (ap is_less e)) (rest-above m key r rs up (ap is_less e))
    go Greater e i = rw (first-lower m key r rs up (ap is_less e)) (rest-above m key r rs up (ap is_less e))

-- a record lies in the bytes of all
pub start-record : (i : ℕ) (rs : List (List ℕ)) → i < length rs → start_of i rs + length (get_or rs i []) ≤ length (concat rs)
unfolding concat
start-record i [] h = omega arith
start-record zero (r ∷ rs) h = simp length-append (omega arith)
start-record (suc i) (r ∷ rs) h = simp length-append (omega (arith, start-record i rs (omega arith)))

pub start-most : (i : ℕ) (rs : List (List ℕ)) → start_of i rs ≤ length (concat rs)
unfolding concat
start-most zero rs = omega arith
start-most (suc i) [] = omega arith
start-most (suc i) (r ∷ rs) = simp length-append (omega (arith, start-most i rs))

gap_at : (i s l j t : ℕ) → Gap j t ≡ At i s l → ⊥
gap_at i s l j t e = let z : ◌≡◌ {A = ℕ} 0 1 = cc in omega arith

at_gap : (i s l j t : ℕ) → At i s l ≡ Gap j t → ⊥
at_gap i s l j t e = let z : ◌≡◌ {A = ℕ} 0 1 = cc in omega arith

-- What follows from the place that was told: a record with the key.
module _ (m : Measures) (key : List ℕ) (rs : List (List ℕ)) (i s l : ℕ) (e : place_of m key rs ≡ At i s l) where
  at-is : (holds m key rs ≡ true) × (At (lower m key rs) (start_of (lower m key rs) rs) (length (get_or rs (lower m key rs) [])) ≡ At i s l)
  unfolding place_of
  at-is = pick_true (holds m key rs) _ _ (At i s l) e (gap_at i s l (lower m key rs) (start_of (lower m key rs) rs))

  at-lower : lower m key rs ≡ i
  at-lower = cc at-is.1

  pub place-at-holds : holds m key rs ≡ true
  place-at-holds = at-is.0

  -- which record, where it begins, and how long it is
  pub at_place : (i ≡ lower m key rs) × (s ≡ start_of i rs) × (l ≡ length (get_or rs i []))
  at_place =
      let s' : start_of (lower m key rs) rs ≡ s = cc at-is.1 in
      let l' : length (get_or rs (lower m key rs) []) ≡ l = cc at-is.1 in
      rw (← at-lower) (refl, sym s', sym l')

  pub place_at : ascending (keys_of m rs) ≡ true → (i < length rs) × (key_of m (get_or rs i []) ≡ key) × (s ≡ start_of i rs) × (l ≡ length (get_or rs i []))
  place_at up =
      let h = held m key rs up place-at-holds in
      (rw at_place.0 h.0, rw at_place.0 h.1, at_place.1, at_place.2)

  -- the keys before it are below, those after it above
  pub place-at-around : ascending (keys_of m rs) ≡ true → (all_below key (keys_of m (take i rs)) ≡ true) × (above key (keys_of m (drop (i + 1) rs)) ≡ true)
  place-at-around up = rw (add-one, ← at-lower) (lower-below m key rs up, lower-beyond m key rs up place-at-holds)

-- What follows from the place that was told: no record has the key, and it would stand there.
module _ (m : Measures) (key : List ℕ) (rs : List (List ℕ)) (i s : ℕ) (e : place_of m key rs ≡ Gap i s) where
  gap_is : (holds m key rs ≡ false) × (Gap (lower m key rs) (start_of (lower m key rs) rs) ≡ Gap i s)
  unfolding place_of
  gap_is = pick-false (holds m key rs) _ _ (Gap i s) e (at_gap (lower m key rs) (start_of (lower m key rs) rs) (length (get_or rs (lower m key rs) [])) i s)

  gap-lower : lower m key rs ≡ i
  gap-lower = cc gap_is.1

  pub gap-place : (i ≡ lower m key rs) × (s ≡ start_of i rs)
  gap-place = let s' : start_of (lower m key rs) rs ≡ s = cc gap_is.1 in rw (← gap-lower) (refl, sym s')

  pub place-gap : (holds m key rs ≡ false) × (i ≤ length rs) × (s ≡ start_of i rs)
  place-gap = (gap_is.0, rw gap-place.0 (lower-most m key rs), gap-place.1)

  -- the keys before it are below, the others above
  pub place-gap-around : ascending (keys_of m rs) ≡ true → (all_below key (keys_of m (take i rs)) ≡ true) × (above key (keys_of m (drop i rs)) ≡ true)
  place-gap-around up = rw (← gap-lower) (lower-below m key rs up, lower-above m key rs up gap_is.0)

-- a place lies within the records and their bytes
pub place-within : (m : Measures) (key : List ℕ) (rs : List (List ℕ)) → ascending (keys_of m rs) ≡ true → Within (length rs) (length (concat rs)) (place_of m key rs)
unfolding place_of
place-within m key rs up = go (holds m key rs) refl
  where
    n : ℕ
    n = lower m key rs

    go : (t : Bool) → holds m key rs ≡ t → Within (length rs) (length (concat rs)) (pick t (At n (start_of n rs) (length (get_or rs n []))) (Gap n (start_of n rs)))
    go true h = let k = held m key rs up h in (k.0, start-record n rs k.0)
    go false h = (lower-most m key rs, start-most n rs)
