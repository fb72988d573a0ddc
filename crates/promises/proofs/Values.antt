-- The values that come with a refusal are exact.
use Rattle.std.specs.Prelude.{Ok, Err, None}
use Prim.Native.Nat.{ℕ}
use mathlib.Core.Path.{◌≡◌, refl, ◌∙◌, sym, ap}
use mathlib.Core.Bool.{Bool, true, false}
use mathlib.Core.List.{List, [], ◌∷◌}
use mathlib.Core.Logic.{◌⊎◌, inl, inr}
use lib.ListN.{length}
use lib.Dec.{eqb, leb}
use native.Mathlib.Omega.{arith}
use borrow.Author.Tests.{eqb-true, eqb-false, leb-true, leb-false}
use Rattle.measures.specs.Judgement.{judged_of, count_of, passed}
use Rattle.measures.specs.declared.Measures.{Measures}
use Rattle.measures.proofs.Fine.{judged-either}
use Rattle.area.specs.Leads.{index_sound, entries_for, interval_for, sound_for}
use Rattle.requests.specs.Answers.{Answer, number_of, values_of}
use Rattle.requests.specs.Model.{Change}
use Rattle.requests.specs.Opening.{Opening, shut, opening_of}
use Rattle.requests.specs.Reading.{Given, refused, check_opened, check_of, get_of, get_at_opened, get_at_of}
use Rattle.requests.specs.Finding.{Keyed, Finds}
use Rattle.requests.specs.Changing.{change_opened, change_of}
use Rattle.requests.specs.declared.Refusal.{Refusal}
use Rattle.requests.specs.declared.Done.TheVariants.{Changed, Found, Intact}
use Rattle.requests.specs.declared.Refusal.TheVariants.{Outside, Damaged, WrongLength, Present, Absent, NoInterval, NoRoom, Short, NoRecord}
use Rattle.requests.proofs.Gets.{get-index-damaged, get-length-wrong, get-there-damaged, get-there-finds, get-at-finds}
use Rattle.requests.specs.Allowed.{Request, check, get, get_at, changes, Allowed}
use Rattle.promises.specs.Tables.{records_there}
use Rattle.promises.specs.Values.{DamagedFor, Asked, ValuesExact}
use Rattle.promises.proofs.History.{change-makes}

-- An answer that is not done and has neither of the two numbers has no values.
no-values : (a : Answer) → (number_of a ≡ 0 → ⊥) → (number_of a ≡ 2 → ⊥) → (number_of a ≡ 8 → ⊥) → values_of a ≡ []
no-values (Ok (Changed w)) x y z = absurd (x refl)
no-values (Ok (Found l)) x y z = absurd (x refl)
no-values (Ok (Intact r f)) x y z = absurd (x refl)
no-values (Err Outside) x y z = refl
no-values (Err (Damaged p)) x y z = absurd (y refl)
no-values (Err WrongLength) x y z = refl
no-values (Err Present) x y z = refl
no-values (Err Absent) x y z = refl
no-values (Err NoInterval) x y z = refl
no-values (Err NoRoom) x y z = refl
no-values (Err (Short l)) x y z = absurd (z refl)
no-values (Err NoRecord) x y z = refl

-- Where what is wanted is found to be too long, its length is told.
needed-length : (Wanted : List ℕ → Type 0) (none : Answer) (out : List ℕ) (g : Given) → Finds Wanted none out g → number_of g.answer ≡ 8 → (r : List ℕ) → Wanted r
    → values_of g.answer ≡ length r ∷ []
needed-length Wanted none out g f z r w = go (leb (length r) (length out)) refl
  where
    go : (t : Bool) → leb (length r) (length out) ≡ t → values_of g.answer ≡ length r ∷ []
    go true e = absurd (omega (arith, z, ap (λ (h : Given). number_of h.answer) (f.found r w (leb-true (length r) (length out) e))))
    go false e = ap (λ (h : Given). values_of h.answer) (f.short r w (leb-false (length r) (length out) e))

module _ (m : Measures) (area : List ℕ) where
  abbrev n : ℕ
  n = count_of m.size (length area)

  abbrev FineHere : Type 0
  FineHere = judged_of m (length area) ≡ passed m n

  -- the request's own answer, as its contract gives it
  abbrev own : Request → Answer
  own check = check_of m area
  own (get wanted out) = (get_of m area wanted out).answer
  own (get_at address out) = (get_at_of m area address out).answer
  own (changes ch) = (change_of m area ch).answer

  own_is : (q : Request) (a : Answer) (after out : List ℕ) → Allowed m area q a after out → a ≡ own q
  own_is check a after out k = k.1
  own_is (get wanted lent) a after out k = k.1.answers
  own_is (get_at address lent) a after out k = k.1.answers
  own_is (changes ch) a after out k = (change-makes m area after ch a k).answers

  -- what is told where a request comes no further than the opening; a get by key has its own way
  check-shut : (r : Refusal) → opening_of m area ≡ shut r → check_of m area ≡ Err r
  unfolding check_of
  check-shut r e = ap check_opened e

  get-at-shut : (address : ℕ) (lent : List ℕ) (r : Refusal) → opening_of m area ≡ shut r → (get_at_of m area address lent).answer ≡ Err r
  unfolding get_at_of
  get-at-shut address lent r e = ap (λ (d : Opening). (get_at_opened d address lent).answer) e

  change-shut : (ch : Change) (r : Refusal) → opening_of m area ≡ shut r → (change_of m area ch).answer ≡ Err r
  unfolding change_of
  change-shut ch r e = ap (λ (d : Opening). (change_opened d area ch).answer) e

  get-outside : (wanted lent : List ℕ) → judged_of m (length area) ≡ None → (get_of m area wanted lent).answer ≡ Err Outside
  unfolding get_of
  get-outside wanted lent o = rw o

  own-outside : (q : Request) → judged_of m (length area) ≡ None → own q ≡ Err Outside
  own-outside check o = check-shut Outside (rw o)
  own-outside (get wanted lent) o = get-outside wanted lent o
  own-outside (get_at address lent) o = get-at-shut address lent Outside (rw o)
  own-outside (changes ch) o = change-shut ch Outside (rw o)

  -- ---- a get by key

  module _ (wanted lent : List ℕ) (j : FineHere) where
    abbrev got : Given
    got = get_of m area wanted lent

    abbrev sound_there : Bool
    sound_there = sound_for m (entries_for m n area) wanted (interval_for m n area wanted)

    told : (x : Answer) (k : ℕ) → got ≡ refused x lent → number_of got.answer ≡ k → number_of x ≡ k
    told x k e z = ap (λ (h : Given). number_of h.answer) (sym e) ∙ z

    -- 2 is told of the index record or of the key's interval, with the place,
    got-place : number_of got.answer ≡ 2 → (p : ℕ) → DamagedFor m area (get wanted lent) p → values_of got.answer ≡ p ∷ []
    got-place z p (inl d) = ap (λ (h : Given). values_of h.answer) (get-index-damaged m area n j wanted lent d.0) ∙ rw d.1
    got-place z p (inr d) = go (eqb (length wanted) m.key) refl
      where
        go : (t : Bool) → eqb (length wanted) m.key ≡ t → values_of got.answer ≡ p ∷ []
        go true e =
            ap (λ (h : Given). values_of h.answer) (get-there-damaged m area n j wanted lent d.0 (eqb-true (length wanted) m.key e) d.1)
            ∙ rw d.2
        go false e =
            absurd
            (omega (arith, told (Err WrongLength) 2 (get-length-wrong m area n j wanted lent d.0 (eqb-false (length wanted) m.key e)) z))

    -- and 8 of a record of that interval, with its length.
    got-needed : number_of got.answer ≡ 8 → (r : List ℕ) → Asked m area (get wanted lent) r → values_of got.answer ≡ length r ∷ []
    got-needed z r k = go (index_sound m n area) (eqb (length wanted) m.key) sound_there refl refl refl
      where
        go : (t u v : Bool) → index_sound m n area ≡ t → eqb (length wanted) m.key ≡ u → sound_there ≡ v → values_of got.answer ≡ length r ∷ []
        go false u v i e d = absurd (omega (arith, told (Err (Damaged 0)) 8 (get-index-damaged m area n j wanted lent i) z))
        go true false v i e d =
            absurd (omega (arith, told (Err WrongLength) 8 (get-length-wrong m area n j wanted lent i (eqb-false (length wanted) m.key e)) z))
        go true true false i e d =
            absurd (omega (arith, told _ 8 (get-there-damaged m area n j wanted lent i (eqb-true (length wanted) m.key e) d) z))
        go true true true i e d =
            needed-length (Keyed m wanted (records_there m area wanted)) (Err Absent) lent got
            (get-there-finds m area n j wanted lent i (eqb-true (length wanted) m.key e) d) z r k

  -- ---- all requests

  own-place : (q : Request) → FineHere → number_of (own q) ≡ 2 → (p : ℕ) → DamagedFor m area q p → values_of (own q) ≡ p ∷ []
  own-place check j z p d = ap values_of (check-shut (Damaged p) (rw (j, d)))
  own-place (get wanted lent) j z p d = got-place wanted lent j z p d
  own-place (get_at address lent) j z p d = ap values_of (get-at-shut address lent (Damaged p) (rw (j, d)))
  own-place (changes ch) j z p d = ap values_of (change-shut ch (Damaged p) (rw (j, d)))

  own-needed : (q : Request) → FineHere → number_of (own q) ≡ 8 → (r : List ℕ) → Asked m area q r → values_of (own q) ≡ length r ∷ []
  own-needed check j z r k = absurd k
  own-needed (get wanted lent) j z r k = got-needed wanted lent j z r k
  own-needed (get_at address lent) j z r k = needed-length _ (Err NoRecord) lent _ (get-at-finds m area n k.0 j k.1 address lent) z r k.2
  own-needed (changes ch) j z r k = absurd k

  -- What comes back with a refusal is the place of the damage, the length of the record asked for, or nothing, as the number says.
  pub values-exact : (q : Request) (a : Answer) (after out : List ℕ) → Allowed m area q a after out → ValuesExact m area q a
  values-exact q a after out k = rw (own_is q a after out k) (go (judged-either m (length area)))
    where
      go : (judged_of m (length area) ≡ None) ⊎ FineHere → ValuesExact m area q (own q)
      go (inl o) =
          let e : number_of (own q) ≡ 1 = ap number_of (own-outside q o) in
          record {
            place = λ (z : number_of (own q) ≡ 2) (p : ℕ) (d : DamagedFor m area q p). absurd (omega arith);
            needed = λ (z : number_of (own q) ≡ 8) (r : List ℕ) (i : Asked m area q r). absurd (omega arith);
            nothing = no-values (own q);
          }
      go (inr j) = record { place = own-place q j; needed = own-needed q j; nothing = no-values (own q) }
