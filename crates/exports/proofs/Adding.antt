-- Lengths added up along a walk, in 64 bits.
use Rattle.std.proofs.Common.{◌≡◌, ℕ, zero, suc, ◌+◌, ◌-◌, ◌%◌, ◌^◌, ◌<◌, ◌≤◌, Bool, true, false, ltb, List, [], length, sym, refl, ap, ◌∙◌, arith}
use Rattle.fields.specs.Choice.{pick, either}
use Rattle.fields.specs.Bytes.{part}
use Rattle.walk.specs.AidSteps.{next_of, record_of}
use Rattle.walk.specs.declared.Place.{Place}
use Rattle.walk.proofs.Ways.{next-end}
use Rattle.exports.specs.Walks.{lengths_from}

module _ (area : List ℕ) (size : ℕ) (forward : Bool) where
  -- a place of no length has no bytes
  none-there : (p : Place) → p.length ≡ 0 → length (record_of area p) ≡ 0
  none-there p z = go (either (ltb (length area) p.start) (ltb (length area - p.start) p.length))
    where
      go : (t : Bool) → length (pick t [] (part area p.start p.length)) ≡ 0
      go true = refl
      go false = rw z

  -- so from the end on nothing is added
  adds-nothing : (k : ℕ) (p : Place) → p.length ≡ 0 → lengths_from k area size forward p ≡ 0
  unfolding lengths_from
  adds-nothing zero p z = refl
  adds-nothing (suc k) p z =
      let e : lengths_from k area size forward (next_of area size forward p) ≡ 0
      = ap (λ (q : Place). lengths_from k area size forward q) (sym (next-end area size forward p z)) ∙ adds-nothing k p z in
      omega (arith, none-there p z, e)

  steps_on : (k n : ℕ) (p : Place) → n < k
      → lengths_from (k - n) area size forward p ≡ length (record_of area p) + lengths_from (k - (n + 1)) area size forward (next_of area size forward p)
  unfolding lengths_from
  steps_on k n p h = let e : k - n ≡ suc (k - (n + 1)) = omega arith in rw e

  -- what was added so far and what is still to come are the whole
  abbrev pub Adding : Place → ℕ → Place → ℕ → Type 0
  Adding begun sum p n = (sum + lengths_from (length area - n) area size forward p) % 2 ^ 64 ≡ lengths_from (length area) area size forward begun % 2 ^ 64

  pub adding-none : (begun : Place) → Adding begun 0 begun 0
  adding-none begun =
      let e : length area - 0 ≡ length area = omega arith in
      let f : lengths_from (length area - 0) area size forward begun ≡ lengths_from (length area) area size forward begun = rw e in
      omega (arith, f)

  module _ (begun : Place) (sum : ℕ) (p : Place) (n : ℕ) (so_far : Adding begun sum p n) where
    pub adding-on : n < length area → (next : Place) (with_it : ℕ) → next ≡ next_of area size forward p → with_it ≡ (sum + length (record_of area p)) % 2 ^ 64
        → Adding begun with_it next (n + 1)
    adding-on h next with_it e f = rw (e, f) (omega (arith, so_far, steps_on (length area) n p h))

    pub added-ended : sum < 2 ^ 64 → p.length ≡ 0 → sum ≡ lengths_from (length area) area size forward begun % 2 ^ 64
    added-ended h z = omega (arith, so_far, adds-nothing (length area - n) p z)

    pub added-all : sum < 2 ^ 64 → length area ≤ n → sum ≡ lengths_from (length area) area size forward begun % 2 ^ 64
    unfolding lengths_from
    added-all h z =
        let e : length area - n ≡ 0 = omega arith in
        let f : lengths_from (length area - n) area size forward p ≡ 0 = rw e in
        omega (arith, so_far, f)
