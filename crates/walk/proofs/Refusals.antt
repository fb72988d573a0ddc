-- A walk is refused exactly as its table says: with the number of the first condition that holds, and with none where it begins.
use Rattle.std.specs.Prelude.{Err, None}
use Prim.Native.Nat.{ℕ}
use mathlib.Core.Path.{◌≡◌, refl, ◌∙◌, sym, ap}
use mathlib.Core.Bool.{Bool, true, false}
use mathlib.Core.List.Memᴰ
use mathlib.Core.List.{List, [], ◌∷◌, Memᴰ}
use mathlib.Core.Logic.{inl, inr}
use lib.ListN.{length}
use lib.Dec.{ltb, leb}
use native.Mathlib.Omega.{arith}
use borrow.Author.Tests.{ltb-true, ltb-false, leb-true, leb-false}
use Rattle.fields.specs.Choice.{pick, both}
use Rattle.fields.proofs.Choices.{false-true, off}
use Rattle.measures.specs.Judgement.{judged_of, count_of, passed}
use Rattle.measures.specs.declared.Measures.{Measures}
use Rattle.area.specs.Content.{Content}
use Rattle.area.specs.Reading.{damaged, whole, read_area}
use Rattle.requests.specs.Answers.{number_of, values_of}
use Rattle.requests.specs.Walks.{Item, Walk, refused_with, giving, items_of, beyond, walk_of, head_fine, if_some, walk_from_of, walk_end_of}
use Rattle.requests.specs.declared.Refusal.TheVariants.{WrongLength}
use Rattle.requests.proofs.Walks.{walk-among}
use Rattle.promises.specs.Tables.{done, row, First}
use Rattle.promises.proofs.Rows.{first_two, held}
use Rattle.walk.specs.AidGives.{Begun, Begins}
use Rattle.walk.specs.Refusals.{number_in, values_in, WrongBytes, NothingBeyond, from_table, end_table}

-- the number of a walk's meaning
abbrev number_for : Walk → ℕ
number_for (refused_with a) = number_of (Err a)
number_for (giving is) = 0

begins-number : (area : List ℕ) (size : ℕ) (forward : Bool) (x : Walk) (r : Begun) → Begins area size forward x r → number_in r ≡ number_for x
begins-number area size forward (refused_with a) r b = ap number_in b
begins-number area size forward (giving is) r b = ap number_in b.1

-- and the values
abbrev values_for : Walk → List ℕ
values_for (refused_with a) = values_of (Err a)
values_for (giving is) = []

begins-values : (area : List ℕ) (size : ℕ) (forward : Bool) (x : Walk) (r : Begun) → Begins area size forward x r → values_in r ≡ values_for x
begins-values area size forward (refused_with a) r b = ap values_in b
begins-values area size forward (giving is) r b = ap values_in b.1

module _ (m : Measures) (area : List ℕ) (forward : Bool) where
  abbrev n : ℕ
  n = count_of m.size (length area)

  -- FROM AN END: 1, 2 and no other.
  pub end-refusals : (r : Begun) → Begins area m.size forward (walk_end_of m area forward) r → First (end_table m area) (number_in r)
  unfolding walk_end_of
  end-refusals r b =
      let e : number_in r ≡ number_for (walk_end_of m area forward) = begins-number area m.size forward (walk_end_of m area forward) r b in
      first_two m area done (number_in r) (λ (o : judged_of m (length area) ≡ None). e ∙ rw o)
      (λ (j : judged_of m (length area) ≡ passed m n) (p : ℕ) (d : read_area m n area ≡ damaged p). e ∙ rw (j, d))
      (λ (j : judged_of m (length area) ≡ passed m n) (c : Content) (w : read_area m n area ≡ whole c). e ∙ rw (j, w))

  -- 2 with the place of the area's damage
  module _ (j : judged_of m (length area) ≡ passed m n) (p : ℕ) (d : read_area m n area ≡ damaged p) (r : Begun) where
    pub end-damaged : Begins area m.size forward (walk_end_of m area forward) r → values_in r ≡ p ∷ []
    unfolding walk_end_of
    end-damaged b = begins-values area m.size forward (walk_end_of m area forward) r b ∙ rw (j, d)

    pub from-damaged : (given : List ℕ) → Begins area m.size forward (walk_from_of m area forward given) r → values_in r ≡ p ∷ []
    unfolding walk_from_of
    from-damaged given b = begins-values area m.size forward (walk_from_of m area forward given) r b ∙ rw (j, d)

  -- what the test of the bytes given says
  bytes-wrong : (given : List ℕ) → head_fine m given ≡ false → WrongBytes m area given
  bytes-wrong given h = go (ltb 0 (length given)) refl h
    where
      go : (t : Bool) → ltb 0 (length given) ≡ t → both t (leb (length given) m.key) ≡ false → WrongBytes m area given
      go true e q = inr (leb-false (length given) m.key q)
      go false e q = inl (omega (arith, ltb-false 0 (length given) e))

  bytes-fine : (given : List ℕ) → head_fine m given ≡ true → WrongBytes m area given → ⊥
  bytes-fine given h = go (ltb 0 (length given)) refl h
    where
      go : (t : Bool) → ltb 0 (length given) ≡ t → both t (leb (length given) m.key) ≡ true → WrongBytes m area given → ⊥
      go true e q (inl z) = omega (arith, ltb-true 0 (length given) e)
      go true e q (inr z) = omega (arith, leb-true (length given) m.key q)
      go false e q z = false-true q

  module _ (given : List ℕ) (r : Begun) (b : Begins area m.size forward (walk_from_of m area forward given) r) where
    number_is : number_in r ≡ number_for (walk_from_of m area forward given)
    number_is = begins-number area m.size forward (walk_from_of m area forward given) r b

    -- the last two rows
    module _ (c : Content) (w : read_area m n area ≡ whole c) where
      beyond-row : (is : List Item) → walk_of m forward given c ≡ is → number_in r ≡ number_for (if_some is) → First (row 5 (NothingBeyond m area forward given) done) (number_in r)
      beyond-row [] e k =
          inl (
            (
              c,
              w,
              λ (i : Item) (a : Memᴰ i (items_of m c.filled)).
                  off (beyond m forward given i) (λ (t : beyond m forward given i ≡ true). Memᴰ.not-nil (rw e at ((walk-among i m forward given c).1 (a, t)))),
            ),
            k,
          )
      beyond-row (x ∷ is) e k =
          let s = (walk-among x m forward given c).0 (rw e (Memᴰ.head refl)) in
          inr (
            λ (h : NothingBeyond m area forward given).
                false-true (sym (held m area (λ (d : Content). (i : Item) → Memᴰ i (items_of m d.filled) → beyond m forward given i ≡ false) c w h x s.0) ∙ s.1),
            k,
          )

      length-row : (t : Bool) → head_fine m given ≡ t → number_in r ≡ number_for (pick t (if_some (walk_of m forward given c)) (refused_with WrongLength))
          → First (row 3 (WrongBytes m area given) (row 5 (NothingBeyond m area forward given) done)) (number_in r)
      length-row true e k = inr (bytes-fine given e, beyond-row (walk_of m forward given c) refl k)
      length-row false e k = inl (bytes-wrong given e, k)

    -- FROM THE BYTES OF A KEY: 1, 2, 3 for none or more than K bytes, 5 where no record lies at or beyond them.
    pub from-refusals : First (from_table m area forward given) (number_in r)
    unfolding walk_from_of
    from-refusals =
        first_two m area (row 3 (WrongBytes m area given) (row 5 (NothingBeyond m area forward given) done)) (number_in r)
        (λ (o : judged_of m (length area) ≡ None). number_is ∙ rw o)
        (λ (j : judged_of m (length area) ≡ passed m n) (p : ℕ) (d : read_area m n area ≡ damaged p). number_is ∙ rw (j, d))
        (λ (j : judged_of m (length area) ≡ passed m n) (c : Content) (w : read_area m n area ≡ whole c).
        length-row c w (head_fine m given) refl (number_is ∙ rw (j, w)))
