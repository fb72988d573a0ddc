-- The tables of the requests that read: check, get by key, get by address.
use Rattle.std.specs.Prelude.{Ok, Err, None}
use Prim.Native.Nat.{ℕ, ◌+◌, ◌≤◌, ◌<◌}
use mathlib.Core.Path.{◌≡◌, refl, ◌∙◌, sym, ap}
use mathlib.Core.Bool.{Bool, true, false}
use mathlib.Core.List.{List, [], ◌∷◌, cons-ne-nil}
use mathlib.Core.Logic.{◌⊎◌, inl, inr, ◌↔◌}
use lib.ListN.{length}
use lib.Dec.{eqb, leb}
use native.Mathlib.Omega.{arith}
use borrow.Author.Tests.{eqb-true, eqb-false, leb-true, leb-false}
use Rattle.fields.proofs.Choices.{false-true}
use Rattle.measures.specs.Judgement.{judged_of, count_of, passed}
use Rattle.measures.specs.declared.Measures.{Measures}
use Rattle.area.specs.Content.{Content, base_of}
use Rattle.area.specs.Reading.{damaged, whole, read_area}
use Rattle.area.specs.Leads.{index_sound, entries_for, number_for, interval_for, sound_for}
use Rattle.requests.specs.Answers.{Answer, number_of}
use Rattle.requests.specs.Records.{lying_at}
use Rattle.requests.specs.Reading.{Given, check_of, get_of, get_at_of, Gives}
use Rattle.requests.specs.Finding.{Keyed, Lies, Finds}
use Rattle.requests.specs.declared.Done.TheVariants.{Found}
use Rattle.requests.specs.declared.Refusal.TheVariants.{Damaged, WrongLength, Absent, Short, NoRecord}
use Rattle.requests.proofs.Gets.{judged-least, get-index-damaged, get-length-wrong, get-there-damaged, get-there-finds, get-at-finds}
use Rattle.requests.proofs.Lying.{lying-lies, lies-lying, whole_apart}
use Rattle.promises.specs.Tables.{Table, done, row, First, Holding, Nowhere, LyingTooLong, DamagedIndex, DamagedThere, records_there, AbsentThere}
use Rattle.promises.specs.Tables.{TooLongThere, check_table, get_table, get_at_table}
use Rattle.promises.proofs.Rows.{first_one, first_two, held, keyed-either}

module _ (m : Measures) (area : List ℕ) where
  abbrev n : ℕ
  n = count_of m.size (length area)

  -- A check is refused with 1 or 2 exactly as its table says.
  pub check-exact : (a : Answer) → a ≡ check_of m area → First (check_table m area) (number_of a)
  unfolding check_of
  check-exact a e =
      first_two m area done (number_of a) (λ (o : judged_of m (length area) ≡ None). ap number_of e ∙ rw o)
      (λ (j : judged_of m (length area) ≡ passed m n) (p : ℕ) (d : read_area m n area ≡ damaged p). ap number_of e ∙ rw (j, d))
      (λ (j : judged_of m (length area) ≡ passed m n) (c : Content) (w : read_area m n area ≡ whole c). ap number_of e ∙ rw (j, w))

  -- ---- gets

  answered : (g : Given) (a : Answer) (out : List ℕ) → g ≡ record { answer = a; output = out } → number_of g.answer ≡ number_of a
  answered g a out e = ap (λ (h : Given). number_of h.answer) e

  -- The last two rows of a get, whatever words say that what is wanted is not there, or is longer than the output.
  last-two : (Wanted : List ℕ → Type 0) (out : List ℕ) (Gone Long : Type 0) → Gone ↔ ((r : List ℕ) → Wanted r → ⊥)
      → Long ↔ ((r : List ℕ) × Wanted r × (length out < length r)) → (none : Answer) (g : Given) → Finds Wanted none out g
      → ((r : List ℕ) × Wanted r) ⊎ ((r : List ℕ) → Wanted r → ⊥) → First (row (number_of none) Gone (row 8 Long done)) (number_of g.answer)
  last-two Wanted out Gone Long gone-is long-is none g f (inr x) = inl (gone-is.1 x, answered g none out (f.absent x))
  last-two Wanted out Gone Long gone-is long-is none g f (inl x) = inr (λ (h : Gone). gone-is.0 h x.0 x.1, go (leb (length x.0) (length out)) refl)
    where
      go : (t : Bool) → leb (length x.0) (length out) ≡ t → First (row 8 Long done) (number_of g.answer)
      go true e =
          let z : number_of g.answer ≡ 0 = answered g (Ok (Found (length x.0))) _ (f.found x.0 x.1 (leb-true (length x.0) (length out) e)) in
          inr (
            λ (h : Long).
                let y = long-is.0 h in
                let q : number_of g.answer ≡ 8 = answered g (Err (Short (length y.0))) out (f.short y.0 y.1 y.2) in
                omega arith,
            z,
          )
      go false e =
          let l : length out < length x.0 = leb-false (length x.0) (length out) e in
          inl (long-is.1 (x.0, x.1, l), answered g (Err (Short (length x.0))) out (f.short x.0 x.1 l))

  -- What an area holds is said of its content.
  of-content : (P : Content → Type 0) (c : Content) → read_area m n area ≡ whole c → Holding m area P ↔ P c
  of-content P c w = (held m area P c w, λ (p : P c). (c, w, p))

  -- Some record lies at an address, or none.
  lies-either : 1 ≤ m.least → (c : Content) → read_area m n area ≡ whole c → (address : ℕ)
      → ((r : List ℕ) × Lies m (base_of c) address c.filled r) ⊎ ((r : List ℕ) → Lies m (base_of c) address c.filled r → ⊥)
  lies-either some c w address = go (lying_at m (base_of c) address c.filled) refl
    where
      go : (ws : List (List ℕ)) → lying_at m (base_of c) address c.filled ≡ ws
          → ((r : List ℕ) × Lies m (base_of c) address c.filled r) ⊎ ((r : List ℕ) → Lies m (base_of c) address c.filled r → ⊥)
      go [] e =
          inr
          (λ (r : List ℕ) (l : Lies m (base_of c) address c.filled r).
          cons-ne-nil r [] (sym (lies-lying m (base_of c) address some c.filled (whole_apart m n area c w) r l) ∙ e))
      go (x ∷ ws) e = inl (x, lying-lies m (base_of c) address some c.filled x ws e)

  -- A get by key is refused with 1, 2, 3, 5 or 8 exactly as its table says: 2 by the index record or by the interval that the key leads to, 5 and 8 by the
  -- records of that interval.
  module _ (wanted lent : List ℕ) where
    abbrev got : Given
    got = get_of m area wanted lent

    abbrev there_rows : Table
    there_rows = row 5 (AbsentThere m area wanted) (row 8 (TooLongThere m area wanted lent) done)

    module _ (j : judged_of m (length area) ≡ passed m n) (i : index_sound m n area ≡ true) where
      by-there : length wanted ≡ m.key → (t : Bool) → sound_for m (entries_for m n area) wanted (interval_for m n area wanted) ≡ t
          → First (row 2 (DamagedThere m area wanted) there_rows) (number_of got.answer)
      by-there l false d =
          inl (d, answered got (Err (Damaged (number_for m n area wanted + 1))) lent (get-there-damaged m area n j wanted lent i l d))
      by-there l true d =
          let rs : List (List ℕ) = records_there m area wanted in
          inr (
            λ (h : DamagedThere m area wanted). false-true (sym h ∙ d),
            last-two (Keyed m wanted rs) lent (AbsentThere m area wanted) (TooLongThere m area wanted lent)
                (λ x. x, λ x. x) (λ x. x, λ x. x) (Err Absent) got (get-there-finds m area n j wanted lent i l d) (keyed-either m wanted rs),
          )

      by_length : (t : Bool) → eqb (length wanted) m.key ≡ t
          → First (row 3 (length wanted ≡ m.key → ⊥) (row 2 (DamagedThere m area wanted) there_rows)) (number_of got.answer)
      by_length false f =
          let l : length wanted ≡ m.key → ⊥ = eqb-false (length wanted) m.key f in
          inl (l, answered got (Err WrongLength) lent (get-length-wrong m area n j wanted lent i l))
      by_length true f =
          let l : length wanted ≡ m.key = eqb-true (length wanted) m.key f in
          inr (λ (g : length wanted ≡ m.key → ⊥). g l, by-there l (sound_for m (entries_for m n area) wanted (interval_for m n area wanted)) refl)

    by_index : judged_of m (length area) ≡ passed m n → (t : Bool) → index_sound m n area ≡ t
        → First (row 2 (DamagedIndex m area) (row 3 (length wanted ≡ m.key → ⊥) (row 2 (DamagedThere m area wanted) there_rows))) (number_of got.answer)
    by_index j false i = inl (i, answered got (Err (Damaged 0)) lent (get-index-damaged m area n j wanted lent i))
    by_index j true i = inr (λ (h : DamagedIndex m area). false-true (sym h ∙ i), by_length j i (eqb (length wanted) m.key) refl)

    get-outside : judged_of m (length area) ≡ None → number_of got.answer ≡ 1
    unfolding get_of
    get-outside o = rw o

    pub get-exact : (a : Answer) (out : List ℕ) → Gives (get_of m area wanted lent) a out → First (get_table m area wanted lent) (number_of a)
    get-exact a out k =
        rw (ap number_of k.answers)
        (first_one m area (row 2 (DamagedIndex m area) (row 3 (length wanted ≡ m.key → ⊥) (row 2 (DamagedThere m area wanted) there_rows)))
        (number_of got.answer) get-outside (λ (j : judged_of m (length area) ≡ passed m n). by_index j (index_sound m n area) refl))

  -- A get by address is refused with 1, 2, 9 or 8 exactly as its table says.
  pub get-at-exact : (address : ℕ) (lent : List ℕ) (a : Answer) (out : List ℕ) → Gives (get_at_of m area address lent) a out
      → First (get_at_table m area address lent) (number_of a)
  unfolding get_at_of
  get-at-exact address lent a out k =
      let e : number_of a ≡ number_of (get_at_of m area address lent).answer = ap number_of k.answers in
      first_two m area (row 9 (Nowhere m area address) (row 8 (LyingTooLong m area address lent) done))
      (number_of a) (λ (o : judged_of m (length area) ≡ None). e ∙ rw o)
      (λ (j : judged_of m (length area) ≡ passed m n) (p : ℕ) (d : read_area m n area ≡ damaged p). e ∙ rw (j, d))
      (λ (j : judged_of m (length area) ≡ passed m n) (c : Content) (w : read_area m n area ≡ whole c).
      rw e
      (last-two (Lies m (base_of c) address c.filled) lent (Nowhere m area address) (LyingTooLong m area address lent)
      (of-content (λ (d : Content). (r : List ℕ) → Lies m (base_of d) address d.filled r → ⊥) c w)
      (of-content (λ (d : Content). (r : List ℕ) × Lies m (base_of d) address d.filled r × (length lent < length r)) c w) (Err NoRecord)
      (get_at_of m area address lent) (get-at-finds m area n c j w address lent) (lies-either (judged-least m area n j) c w address)))
