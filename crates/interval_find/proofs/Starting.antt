-- Whether a record begins at a place, told by where the records of a run begin.
use Prim.Native.Nat.{ℕ, zero, suc, ◌+◌, ◌-◌, ◌*◌, ◌/◌, ◌%◌, ◌≤◌, ◌<◌}
use mathlib.Core.Path.{◌≡◌, refl, sym, ap}
use mathlib.Core.Bool.{Bool, true, false}
use mathlib.Core.List.{List, [], ◌∷◌}
use lib.ListN.{length, get_or, length-append}
use lib.Dec.{leb}
use native.Mathlib.Nat.{suc-mul, div-add-mod', mod-lt, div-lt_iff_lt-mul}
use native.Mathlib.Omega.{arith}
use borrow.Author.Tests.{leb-true, leb-false}
use Rattle.fields.specs.Lists.{concat}
use Rattle.measures.specs.declared.Measures.{Measures}
use Rattle.interval.specs.Reading.{records_in, Readable}
use Rattle.interval.specs.Search.{start_of, starting_at, started_of}
use Rattle.std.specs.Prelude.{Some, None}
use Rattle.interval.proofs.Backward.{read-lengths-fine}
use Rattle.interval.proofs.Lengths.{fine-at}
use Rattle.interval.proofs.Readable.{readable-form}
use Rattle.interval.proofs.Search.{start-record}
use Rattle.interval.proofs.Starting.{starting-there, starting-is}
use Rattle.interval_find.proofs.Runs.{record-inside}

-- later records begin no earlier
start-order : (i k : ℕ) (rs : List (List ℕ)) → i ≤ k → start_of i rs ≤ start_of k rs
unfolding concat
start-order zero k rs h = omega arith
start-order (suc i) zero rs h = absurd (omega arith)
start-order (suc i) (suc k) [] h = omega arith
start-order (suc i) (suc k) (r ∷ rs) h = simp length-append (omega (arith, start-order i k rs (omega arith)))

module _ (m : Measures) (ci : List ℕ) (r : Readable m ci) (place : ℕ) where
  -- the record that begins there
  pub begins-here : (i l : ℕ) → i < length (records_in ci) → place ≡ start_of i (records_in ci) → length (get_or (records_in ci) i []) ≡ l
      → Some l ≡ started_of (starting_at place 0 (records_in ci))
  begins-here i l h e q =
      sym (rw (starting-there m.least m.most (omega (arith, r.inside, r.keyed)) i place 0 (records_in ci) (read-lengths-fine m ci (readable-form m ci r)) h (omega arith)) (ap Some q))

  -- none where no record's beginning is the place
  none-begins : ((i : ℕ) → i < length (records_in ci) → place ≡ start_of i (records_in ci) → ⊥) → None ≡ started_of (starting_at place 0 (records_in ci))
  none-begins never = go (starting_at place 0 (records_in ci)) refl
    where
      go : (xs : List (List ℕ)) → starting_at place 0 (records_in ci) ≡ xs → None ≡ started_of xs
      go [] e = refl
      go (x ∷ xs) e = let s = starting-is place 0 (records_in ci) x xs e in absurd (never s.0 s.1 (omega (arith, s.3)))

  -- so none between the beginnings of two that follow each other
  pub none_between : (i : ℕ) → start_of i (records_in ci) < place → place < start_of (suc i) (records_in ci) → None ≡ started_of (starting_at place 0 (records_in ci))
  none_between i low high = none-begins never
    where
      apart : (k : ℕ) → place ≡ start_of k (records_in ci) → (t : Bool) → leb k i ≡ t → ⊥
      apart k e true q = omega (arith, start-order k i (records_in ci) (leb-true k i q))
      apart k e false q = omega (arith, start-order (suc i) k (records_in ci) (leb-false k i q))

      never : (k : ℕ) → k < length (records_in ci) → place ≡ start_of k (records_in ci) → ⊥
      never k h e = apart k e (leb k i) refl

  -- and none behind the last
  pub none-behind : length (concat (records_in ci)) ≤ place → None ≡ started_of (starting_at place 0 (records_in ci))
  none-behind b = none-begins never
    where
      never : (k : ℕ) → k < length (records_in ci) → place ≡ start_of k (records_in ci) → ⊥
      never k h e =
          omega (arith, start-record k (records_in ci) h, fine-at m.least m.most k (records_in ci) (read-lengths-fine m ci (readable-form m ci r)) h, r.inside, r.keyed)

  -- The place lies in a run of n records.
  module _ (ordinal start len n : ℕ) (fits : ordinal + n ≤ length (records_in ci)) (starts : (i : ℕ) → i ≤ n → start_of (ordinal + i) (records_in ci) ≡ start + i * len)
      (long : (i : ℕ) → i < n → length (get_or (records_in ci) (ordinal + i) []) ≡ len) (some : 0 < len) (low : start ≤ place) (high : place < start + n * len) where
    -- the record that it lies in
    nth : ℕ
    nth = (place - start) / len

    nth_inside : nth < n
    unfolding nth
    nth_inside = (div-lt_iff_lt-mul some).1 (omega arith)

    nth-start : nth * len + (place - start) % len ≡ place - start
    unfolding nth
    nth-start = div-add-mod' (place - start) len

    pub run-begins : (place - start) % len ≡ 0 → (Some len ≡ started_of (starting_at place 0 (records_in ci))) × (place + len ≤ length ci)
    run-begins z =
        let h : ordinal + nth < length (records_in ci) = omega (arith, nth_inside) in
        let e : place ≡ start_of (ordinal + nth) (records_in ci) = omega (arith, starts nth (omega (arith, nth_inside)), nth-start) in
        (begins-here (ordinal + nth) len h e (long nth nth_inside), omega (arith, e, record-inside m ci r (ordinal + nth) h, long nth nth_inside))

    pub run-between : ((place - start) % len ≡ 0 → ⊥) → None ≡ started_of (starting_at place 0 (records_in ci))
    run-between z =
        let e : suc (ordinal + nth) ≡ ordinal + suc nth = omega arith in
        let s : start_of (suc (ordinal + nth)) (records_in ci) ≡ start + suc nth * len = rw e (starts (suc nth) (omega (arith, nth_inside))) in
        none_between (ordinal + nth) (omega (arith, z, starts nth (omega (arith, nth_inside)), nth-start)) (omega (arith, s, suc-mul nth len, nth-start, mod-lt (place - start) some))
