-- The runs of a sound interval, one after another, and where their records lie.
use Prim.Native.Nat.{ℕ, zero, suc, ◌+◌, ◌-◌, ◌*◌, ◌/◌, ◌%◌, ◌≤◌, ◌<◌}
use mathlib.Core.Path.{◌≡◌, refl, ◌∙◌, sym, ap}
use mathlib.Core.Bool.{true}
use mathlib.Core.List.{List, [], ◌∷◌, ◌++◌, map, append_assoc}
use lib.ListN.{length, replicate, take, get_or, length-append, length-replicate, length-map}
use native.Mathlib.Nat.{zero-add, zero-mul, suc-mul}
use native.Mathlib.Omega.{arith}
use Rattle.fields.specs.Bytes.{part}
use Rattle.fields.specs.Lists.{sum, concat}
use Rattle.fields.proofs.Choices.{false-true}
use Rattle.fields.proofs.Splices.{part-part}
use Rattle.fields.proofs.Lists.{map-take, sum-append, sum-lengths}
use Rattle.measures.specs.declared.Measures.{Measures}
use Rattle.interval.specs.Records.{key_of}
use Rattle.interval.specs.Reading.{displacement, unused_field, rdfs_at, rdfs_many, rdfs, rdfs_in, well_formed, lengths, records_in, Readable}
use Rattle.interval.specs.Search.{start_of}
use Rattle.interval.proofs.Lengths.{fine-at}
use Rattle.interval.proofs.Backward.{read-lengths, read-lengths-fine}
use Rattle.interval.proofs.Readable.{readable-form, readable-rdfs, readable-formed, readable-bytes}
use Rattle.interval.proofs.Search.{start-record, start-most}
use Rattle.interval.proofs.FoundBytes.{record-there}
use Rattle.std.specs.Prelude.{Some, None}
use Rattle.rdf.specs.AidFront.{run, front_of, Small}
use Rattle.rdf.proofs.Fronts.{stops, steps, Step}
use Rattle.interval_find.specs.AidRuns.{RunIn}

-- a well-formed list of RDFs begins with no damage
pub no-damage : (least most : ℕ) (ci : List ℕ) (p n : ℕ) → well_formed least most (rdfs ci p n) ≡ true → 0 < n → None ≡ front_of least most (rdfs ci p n) → ⊥
no-damage least most ci p n w h e = false-true (sym (stops ci p n least most h e) ∙ w)

-- ---- lengths

-- where a record begins, told by lengths
start-sum : (i : ℕ) (rs : List (List ℕ)) → start_of i rs ≡ sum (take i (map length rs))
start-sum i rs = sym (sum-lengths (take i rs)) ∙ ap sum (map-take length i rs)

long-at : (i : ℕ) (rs : List (List ℕ)) → length (get_or rs i []) ≡ get_or (map length rs) i 0
long-at i [] = refl
long-at zero (r ∷ rs) = refl
long-at (suc i) (r ∷ rs) = long-at i rs

-- lengths before, then a run, then others: the first i of the run take i times its length, and each of it has that
front-sum : (i n l : ℕ) (rest : List ℕ) → i ≤ n → sum (take i (replicate n l ++ rest)) ≡ i * l
unfolding sum
front-sum zero n l rest h = sym (zero-mul l)
front-sum (suc i) zero l rest h = absurd (omega arith)
front-sum (suc i) (suc n) l rest h = omega (arith, front-sum i n l rest (omega arith), suc-mul i l)

run-sum : (before : List ℕ) (i n l : ℕ) (rest : List ℕ) → i ≤ n → sum (take (length before + i) (before ++ (replicate n l ++ rest))) ≡ sum before + i * l
unfolding sum
run-sum [] i n l rest h = rw (zero-add i, zero-add (i * l)) (front-sum i n l rest h)
run-sum (x ∷ before) i n l rest h =
    let e : suc (length before) + i ≡ suc (length before + i) = omega arith in
    rw e (omega (arith, run-sum before i n l rest h))

front_long : (i n l : ℕ) (rest : List ℕ) → i < n → get_or (replicate n l ++ rest) i 0 ≡ l
front_long i zero l rest h = absurd (omega arith)
front_long zero (suc n) l rest h = refl
front_long (suc i) (suc n) l rest h = front_long i n l rest (omega arith)

run_long : (before : List ℕ) (i n l : ℕ) (rest : List ℕ) → i < n → get_or (before ++ (replicate n l ++ rest)) (length before + i) 0 ≡ l
run_long [] i n l rest h = rw (zero-add i) (front_long i n l rest h)
run_long (x ∷ before) i n l rest h =
    let e : suc (length before) + i ≡ suc (length before + i) = omega arith in
    rw e (run_long before i n l rest h)

same_sum : (n l : ℕ) → sum (replicate n l) ≡ n * l
unfolding sum
same_sum zero l = sym (zero-mul l)
same_sum (suc n) l = omega (arith, same_sum n l, suc-mul n l)

-- behind the last record
start-all : (rs : List (List ℕ)) → start_of (length rs) rs ≡ length (concat rs)
unfolding concat
start-all [] = refl
start-all (r ∷ rs) = simp length-append (omega (arith, start-all rs))

-- ---- runs passed

-- some RDFs were read: the lengths that they told, and those that the others describe, are all
pub record Passed (m : Measures) (ci : List ℕ) (p left : ℕ) : Type 0 where
  pub done : List ℕ
  pub all : done ++ lengths (rdfs ci p left) ≡ map length (records_in ci)
  pub room : p + 3 * left ≤ length ci
  pub formed : well_formed m.least m.most (rdfs ci p left) ≡ true

module _ (m : Measures) (ci : List ℕ) (r : Readable m ci) where
  pub passed_none : (p left : ℕ) → p ≡ rdfs_at ci → left ≡ rdfs_many ci → (g : Passed m ci p left) × (length g.done ≡ 0) × (sum g.done ≡ 0)
  unfolding rdfs_in sum
  passed_none p left e f =
      rw (e, f) (
        record { done = []; all = sym (read-lengths m ci (readable-form m ci r)); room = omega (arith, readable-rdfs m ci r); formed = readable-formed m ci r },
        refl,
        refl,
      )

  -- the bytes of the records
  pub bytes_inside : length (concat (records_in ci)) + 4 ≤ length ci
  bytes_inside = omega (arith, readable-bytes m ci r, readable-rdfs m ci r)

  -- a record lies inside, and its key
  module _ (i : ℕ) (h : i < length (records_in ci)) where
    pub record-inside : start_of i (records_in ci) + length (get_or (records_in ci) i []) ≤ length ci
    record-inside = omega (arith, start-record i (records_in ci) h, bytes_inside)

    pub key-inside : m.offset + m.key ≤ length (get_or (records_in ci) i [])
    key-inside = omega (arith, fine-at m.least m.most i (records_in ci) (read-lengths-fine m ci (readable-form m ci r)) h, r.inside)

    pub key-there : key_of m (get_or (records_in ci) i []) ≡ part ci (start_of i (records_in ci) + m.offset) m.key
    key-there =
        ap (key_of m) (sym (record-there m ci r i h)) ∙ part-part ci (start_of i (records_in ci)) (length (get_or (records_in ci) i [])) m.offset m.key key-inside

  module _ (p left : ℕ) (g : Passed m ci p left) where
    all-count : length g.done + length (lengths (rdfs ci p left)) ≡ length (records_in ci)
    all-count = omega (arith, length-append g.done (lengths (rdfs ci p left)), ap length g.all, length-map (records_in ci) length)

    pub passed-count : length g.done ≤ length (records_in ci)
    passed-count = omega (arith, all-count)

    all-sum : sum g.done + sum (lengths (rdfs ci p left)) ≡ length (concat (records_in ci))
    all-sum = omega (arith, sum-append g.done (lengths (rdfs ci p left)), ap sum g.all, sum-lengths (records_in ci))

    -- at the end all are done
    pub passed-all : left ≡ 0 → (length g.done ≡ length (records_in ci)) × (sum g.done ≡ length (concat (records_in ci)))
    unfolding rdfs lengths sum
    passed-all z =
        let c : length g.done + 0 ≡ length (records_in ci) = rw z at all-count in
        let b : sum g.done + 0 ≡ length (concat (records_in ci)) = rw z at all-sum in
        (omega arith, omega arith)

    pub passed-last : left ≡ 0 → (ordinal start : ℕ) → length g.done ≡ ordinal → sum g.done ≡ start
        → (ordinal ≡ length (records_in ci)) × (start_of ordinal (records_in ci) ≡ start)
    passed-last z ordinal start c b =
        let n : ordinal ≡ length (records_in ci) = sym c ∙ (passed-all z).0 in
        (n, ap (λ (i : ℕ). start_of i (records_in ci)) n ∙ start-all (records_in ci) ∙ sym (passed-all z).1 ∙ b)

    -- one run more
    module _ (some : 0 < left) (l n u : ℕ) (e : Some (run l n u) ≡ front_of m.least m.most (rdfs ci p left)) (s : Small left (Some (run l n u))) where
      step : Step ci p left m.least m.most some l n u
      step = steps ci p left m.least m.most some l n u e s.3

      told : map length (records_in ci) ≡ g.done ++ (replicate n l ++ lengths (rdfs ci p (left - u)))
      told = sym g.all ∙ ap (λ (xs : List ℕ). g.done ++ xs) step.list

      pub passed-more : Passed m ci p (left - u)
      passed-more =
          record {
            done = g.done ++ replicate n l;
            all = append_assoc g.done (replicate n l) (lengths (rdfs ci p (left - u))) ∙ sym told;
            room = omega (arith, g.room);
            formed = sym step.formed ∙ g.formed;
          }

      pub run-starts : (i : ℕ) → i ≤ n → start_of (length g.done + i) (records_in ci) ≡ sum g.done + i * l
      run-starts i h = start-sum (length g.done + i) (records_in ci) ∙ rw told (run-sum g.done i n l (lengths (rdfs ci p (left - u))) h)

      pub each_long : (i : ℕ) → i < n → length (get_or (records_in ci) (length g.done + i) []) ≡ l
      each_long i h = long-at (length g.done + i) (records_in ci) ∙ rw told (run_long g.done i n l (lengths (rdfs ci p (left - u))) h)

      -- how many were passed then, and their bytes
      pub more-done : passed-more.done ≡ g.done ++ replicate n l
      unfolding passed-more
      more-done = refl

      pub more-count : length passed-more.done ≡ length g.done + n
      more-count = ap length more-done ∙ length-append g.done (replicate n l) ∙ rw (length-replicate {A = ℕ} n l)

      pub more_bytes : sum passed-more.done ≡ sum g.done + n * l
      more_bytes = ap sum more-done ∙ sum-append g.done (replicate n l) ∙ rw (same_sum n l)

      pub run_end : sum g.done + n * l + 4 ≤ length ci
      run_end = omega (arith, run-starts n (omega arith), start-most (length g.done + n) (records_in ci), bytes_inside)

      pub run_fits : length g.done + n ≤ length (records_in ci)
      run_fits = omega (arith, all-count, step.count)

      -- the run is one of the interval's
      pub run_lies : (ordinal start : ℕ) → length g.done ≡ ordinal → sum g.done ≡ start → RunIn ci (record { ordinal = ordinal; start = start; len = l; last = n - 1 })
      run_lies ordinal start c b =
          record {
            inside = omega (arith, run_fits, s.4);
            starts = λ (i : ℕ) (h : i ≤ n - 1). rw (← c, ← b) (run-starts i (omega arith));
            long = λ (i : ℕ) (h : i ≤ n - 1). rw (← c) (each_long i (omega (arith, s.4)));
          }
