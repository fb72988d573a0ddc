-- The record that begins at a place: the only one there, and its bytes are the ones that lie there.
use Prim.Native.Nat.{ℕ, zero, suc, ◌+◌, ◌≤◌, ◌<◌}
use mathlib.Core.Path.{◌≡◌, refl}
use mathlib.Core.Bool.{Bool, true, false}
use mathlib.Core.List.{List, [], ◌∷◌, map}
use lib.ListN.{length, get_or, take, length-append}
use lib.Dec.{eqb}
use native.Mathlib.Omega.{arith}
use borrow.Author.Tests.{eq-eqb, ne_eqb, eqb-true}
use Rattle.fields.specs.Choice.{pick}
use Rattle.fields.specs.Bytes.{part}
use Rattle.fields.specs.Lists.{concat}
use Rattle.measures.specs.declared.Measures.{Measures}
use Rattle.interval.specs.Reading.{records_in, Readable}
use Rattle.interval.specs.Records.{all_within}
use Rattle.interval.specs.Search.{starting_at, start_of}
use Rattle.interval.proofs.Lengths.{within_low, within-rest}
use Rattle.interval.proofs.Backward.{read-lengths-fine}
use Rattle.interval.proofs.Readable.{readable-form, readable-bytes, readable-rdfs}
use Rattle.interval.proofs.Search.{start-record}
use Rattle.interval.proofs.FoundBytes.{record-there}

start-zero : (rs : List (List ℕ)) → start_of 0 rs ≡ 0
unfolding concat
start-zero rs = refl

start-suc : (i : ℕ) (r : List ℕ) (rs : List (List ℕ)) → start_of (suc i) (r ∷ rs) ≡ length r + start_of i rs
unfolding concat
start-suc i r rs = length-append r (concat (take i rs))

-- no record begins before the first
pub starting-before : (place from : ℕ) (rs : List (List ℕ)) → place < from → starting_at place from rs ≡ []
unfolding starting_at
starting-before place from [] h = refl
starting-before place from (r ∷ rs) h = rw (ne_eqb from place (omega arith)) (starting-before place (from + length r) rs (omega arith))

module _ (least most : ℕ) (some : 1 ≤ least) where
  -- the record that starts at a place is the only one that is found there
  pub starting-there : (i place from : ℕ) (rs : List (List ℕ)) → all_within least most (map length rs) ≡ true → i < length rs → place ≡ from + start_of i rs
      → starting_at place from rs ≡ get_or rs i [] ∷ []
  unfolding starting_at
  starting-there i place from [] a h e = absurd (omega arith)
  starting-there zero place from (r ∷ rs) a h e =
      let l = within_low least most (length r) (map length rs) a in
      let q : from ≡ place = omega (arith, start-zero (r ∷ rs)) in
      rw (eq-eqb from place q, starting-before place (from + length r) rs (omega arith))
  starting-there (suc i) place from (r ∷ rs) a h e =
      let l = within_low least most (length r) (map length rs) a in
      let q : place ≡ from + length r + start_of i rs = omega (arith, start-suc i r rs) in
      rw (ne_eqb from place (omega arith)) (starting-there i place (from + length r) rs (within-rest least most (length r) (map length rs) a) (omega arith) q)

-- what is found at a place starts there
pub starting-is : (place from : ℕ) (rs : List (List ℕ)) (x : List ℕ) (xs : List (List ℕ)) → starting_at place from rs ≡ x ∷ xs
    → (i : ℕ) × (i < length rs) × (get_or rs i [] ≡ x) × (place ≡ from + start_of i rs)
unfolding starting_at
starting-is place from [] x xs e = absurd (let z : ◌≡◌ {A = ℕ} 0 1 = cc in omega arith)
starting-is place from (r ∷ rs) x xs e = go (eqb from place) refl (λ (f : starting_at place (from + length r) rs ≡ x ∷ xs). starting-is place (from + length r) rs x xs f) e
  where
    go : (t : Bool) → eqb from place ≡ t
        → (starting_at place (from + length r) rs ≡ x ∷ xs → (i : ℕ) × (i < length rs) × (get_or rs i [] ≡ x) × (place ≡ from + length r + start_of i rs))
        → pick t (r ∷ starting_at place (from + length r) rs) (starting_at place (from + length r) rs) ≡ x ∷ xs
        → (i : ℕ) × (i < suc (length rs)) × (get_or (r ∷ rs) i [] ≡ x) × (place ≡ from + start_of i (r ∷ rs))
    go true q i f = (0, omega arith, cc, omega (arith, eqb-true from place q, start-zero (r ∷ rs)))
    go false q i f = let j = i f in (suc j.0, omega (arith, j.1), j.2, omega (arith, j.3, start-suc j.0 r rs))

-- The record that is found at a place of a sound interval is the only one, and its bytes lie there.
pub record Begins (ci : List ℕ) (place : ℕ) (r : List ℕ) (xs : List (List ℕ)) : Type 0 where
  pub alone : xs ≡ []
  pub is : part ci place (length r) ≡ r
  pub inside : place + length r ≤ length ci

module _ (m : Measures) (ci : List ℕ) (d : Readable m ci) where
  begins-at : (place : ℕ) (r : List ℕ) (xs : List (List ℕ)) (i : ℕ) → i < length (records_in ci) → get_or (records_in ci) i [] ≡ r
      → place ≡ 0 + start_of i (records_in ci) → starting_at place 0 (records_in ci) ≡ r ∷ xs → Begins ci place r xs
  begins-at place r xs i h q p e =
      let t : starting_at place 0 (records_in ci) ≡ get_or (records_in ci) i [] ∷ [] =
      starting-there m.least m.most (omega (arith, d.inside, d.keyed)) i place 0 (records_in ci) (read-lengths-fine m ci (readable-form m ci d)) h p in
      let z : place ≡ start_of i (records_in ci) = omega arith in
      record {
        alone = cc;
        is = rw (z, ← q) (record-there m ci d i h);
        inside = rw (z, ← q) (omega (arith, start-record i (records_in ci) h, readable-bytes m ci d, readable-rdfs m ci d));
      }

  pub starting-begins : (place : ℕ) (r : List ℕ) (xs : List (List ℕ)) → starting_at place 0 (records_in ci) ≡ r ∷ xs → Begins ci place r xs
  starting-begins place r xs e = let j = starting-is place 0 (records_in ci) r xs e in begins-at place r xs j.0 j.1 j.2 j.3 e
