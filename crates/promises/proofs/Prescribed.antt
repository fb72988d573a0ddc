-- The prescribed parts are those that a division's counts cut out; no other parts are prescribed.
use Prim.Native.Nat.{ℕ, suc, ◌+◌, ◌-◌}
use mathlib.Core.Path.{◌≡◌, refl, ◌∙◌, sym, ap}
use mathlib.Core.Bool.{true}
use mathlib.Core.List.{List, [], ◌∷◌, ◌++◌, map}
use lib.ListN.{length, length-append, length-drop, length-map, take, drop}
use lib.Seq.{length-take-le, take_all, take-length, take-append_seam, drop-append_seam}
use native.Mathlib.Omega.{arith}
use Rattle.fields.specs.Lists.{swap}
use Rattle.fields.proofs.Orders.{less-irrefl}
use Rattle.measures.specs.declared.Measures.{Measures}
use Rattle.interval.specs.Records.{key_of, keys_of, ascending}
use Rattle.interval.proofs.Ascending.{ascend-tail, ascend-above}
use Rattle.division.specs.Division.{division_of, counts, parts, pieces}
use Rattle.division.specs.declared.Division.{Division}
use Rattle.division.specs.declared.Division.TheVariants.{Stays, Two, Three}
use Rattle.division.proofs.Answers.{prescribed, prescribed-unique}
use Rattle.area.specs.Content.{Filled}
use Rattle.change.specs.Parts.{Edit, entry_at, edited}
use Rattle.change.specs.Fitting.{Proper}
use Rattle.requests.specs.Records.{with_key}
use Rattle.requests.proofs.Keys.{with_append, with-above, with-cons}
use Rattle.promises.specs.Prescribed.{PartsOf, PrescribedParts}

-- ---- a record stands at one place

-- keys that ascend from a record's own have it not again
not-again : (m : Measures) (x : List ℕ) (b a : List (List ℕ)) → ascending (keys_of m (x ∷ (b ++ (x ∷ a)))) ≡ true → ⊥
unfolding ascending
not-again m x b a up =
    let none : with_key m (key_of m x) (b ++ (x ∷ a)) ≡ [] =
    with-above m (key_of m x) (b ++ (x ∷ a)) (ascend-above (key_of m x) (key_of m x) (keys_of m (b ++ (x ∷ a))) up (less-irrefl (key_of m x))) in
    let some = with_append m (key_of m x) b (x ∷ a) ∙ ap (λ (ws : List (List ℕ)). with_key m (key_of m x) b ++ ws) (with-cons m (key_of m x) x a refl) in
    omega (arith, ap length (sym none ∙ some), length-append (with_key m (key_of m x) b) (x ∷ with_key m (key_of m x) a))

place-one : (m : Measures) (x : List ℕ) (b c a d : List (List ℕ)) → ascending (keys_of m (b ++ (x ∷ a))) ≡ true → b ++ (x ∷ a) ≡ c ++ (x ∷ d) → length b ≡ length c
place-one m x [] [] a d up e = refl
place-one m x [] (y ∷ c) a d up e =
    let q : a ≡ c ++ (x ∷ d) = cc in
    absurd (not-again m x c d (rw q at up))
place-one m x (y ∷ b) [] a d up e =
    let q : y ≡ x = cc in
    absurd (not-again m x b a (rw q at up))
place-one m x (y ∷ b) (z ∷ c) a d up e =
    let q : b ++ (x ∷ a) ≡ c ++ (x ∷ d) = cc in
    ap suc (place-one m x b c a d (ascend-tail (key_of m y) (keys_of m (b ++ (x ∷ a))) up) q)

-- The changed record stands at a place among records whose keys ascend.
pub record Placed (m : Measures) (x : List ℕ) (rs : List (List ℕ)) (at : ℕ) : Type 0 where
  pub before : List (List ℕ)
  pub after : List (List ℕ)
  pub split : rs ≡ before ++ (x ∷ after)
  pub place : length before ≡ at
  pub ascends : ascending (keys_of m rs) ≡ true

-- The record that a proper edit brings stands at the edit's ordinal.
pub fresh-placed : (m : Measures) (fs : List Filled) (e : Edit) (r : List ℕ) → e.fresh ≡ r ∷ [] → Proper m fs e → Placed m r (edited fs e) e.ordinal
unfolding swap
fresh-placed m fs e r q p =
    let old : List (List ℕ) = (entry_at fs e.entry).records in
    record {
      before = take e.ordinal old;
      after = drop (e.ordinal + e.gone) old;
      split = rw q;
      place = length-take-le e.ordinal old (omega (arith, p.inside));
      ascends = p.ascend;
    }

-- ---- parts cut out by counts

two-apart : (rs : List (List ℕ)) (c : ℕ) → pieces (c ∷ (length rs - c) ∷ []) rs ≡ take c rs ∷ drop c rs ∷ []
unfolding pieces
two-apart rs c = rw (take_all (length rs - c) (drop c rs) (omega (arith, length-drop c rs)))

three-apart : (before : List (List ℕ)) (x : List ℕ) (after : List (List ℕ)) (rs : List (List ℕ)) (at : ℕ) → rs ≡ before ++ (x ∷ after) → length before ≡ at
    → pieces (at ∷ 1 ∷ (length rs - (at + 1)) ∷ []) rs ≡ before ∷ (x ∷ []) ∷ after ∷ []
unfolding pieces
three-apart before x after rs at split place =
    let l = length-append before (x ∷ after) in
    rw (split, ← place, take-append_seam before (x ∷ after), drop-append_seam before (x ∷ after))
    (ap (λ (z : List (List ℕ)). before ∷ (x ∷ []) ∷ z ∷ []) (take_all (length (before ++ (x ∷ after)) - (length before + 1)) after (omega (arith, l))))

module _ (m : Measures) (S : ℕ) (rs : List (List ℕ)) (x : List ℕ) (at : ℕ) where
  parts-made : (d : Division) → (d ≡ Three → Placed m x rs at) → PartsOf d rs x (pieces (counts d (length rs) at) rs)
  unfolding counts pieces
  parts-made Stays h = rw (take-length rs)
  parts-made (Two c) h = two-apart rs c
  parts-made Three h =
      let p = h refl in
      (p.before, p.after, p.split, three-apart p.before x p.after rs at p.split p.place)

  parts-only : (d : Division) (ps : List (List (List ℕ))) → (d ≡ Three → Placed m x rs at) → PartsOf d rs x ps → ps ≡ pieces (counts d (length rs) at) rs
  unfolding counts pieces
  parts-only Stays ps h q = rw (take-length rs) q
  parts-only (Two c) ps h q = q ∙ sym (two-apart rs c)
  parts-only Three ps h q =
      let p = h refl in
      let l : length q.0 ≡ length p.before =
      place-one m x q.0 p.before q.1 p.after (rw q.2 at p.ascends) (sym q.2 ∙ p.split) in
      q.3 ∙ sym (three-apart q.0 x q.1 rs at q.2 (l ∙ p.place))

  module _ (h : division_of S (map length rs) ≡ Three → Placed m x rs at) where
    -- What the division's counts cut out is prescribed,
    pub made-prescribed : PrescribedParts S rs x (pieces (parts S (map length rs) at) rs)
    unfolding parts
    made-prescribed =
        record {
          division = division_of S (map length rs);
          rules = prescribed S (map length rs);
          are = rw (length-map rs length) (parts-made (division_of S (map length rs)) h);
        }

    -- and nothing else is.
    pub prescribed-made : (ps : List (List (List ℕ))) → PrescribedParts S rs x ps → ps ≡ pieces (parts S (map length rs) at) rs
    unfolding parts
    prescribed-made ps p =
        let e : p.division ≡ division_of S (map length rs) =
        prescribed-unique S (map length rs) p.division (division_of S (map length rs)) p.rules (prescribed S (map length rs)) in
        rw (length-map rs length, ← e) (parts-only p.division ps (λ (t : p.division ≡ Three). h (sym e ∙ t)) p.are)
