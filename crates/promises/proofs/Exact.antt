-- Refusals are exact: every request answers with the number of the first condition of its table that holds, and with 0 if none does.
use Rattle.std.specs.Prelude.{None}
use Prim.Native.Nat.{ℕ}
use mathlib.Core.Path.{◌≡◌, refl, ◌∙◌, sym, ap}
use mathlib.Core.Bool.{Bool, true, false}
use mathlib.Core.List.{List, []}
use mathlib.Core.Logic.{inl, inr}
use lib.ListN.{length}
use Rattle.fields.specs.Bytes.{Octets}
use Rattle.fields.proofs.Choices.{false-true}
use Rattle.measures.specs.Judgement.{judged_of, count_of, passed}
use Rattle.measures.specs.declared.Measures.{Measures}
use Rattle.interval.specs.Records.{key_of}
use Rattle.area.specs.Content.{Content, records_of}
use Rattle.area.specs.Reading.{damaged, whole, read_area}
use Rattle.change.specs.Parts.{Edit}
use Rattle.change.specs.Plan.{plan_of}
use Rattle.change.proofs.Made.{erase-stays-put}
use Rattle.requests.specs.Answers.{Answer, number_of}
use Rattle.requests.specs.Records.{with_key}
use Rattle.requests.specs.Model.{Change, insert, update, erase, Legal}
use Rattle.requests.specs.Finding.{Keyed}
use Rattle.requests.specs.Changing.{bytes_of, length_fine, edit_of, carry_out, change_of}
use Rattle.requests.proofs.Gets.{with-keyed}
use Rattle.requests.proofs.Proper.{some_first}
use Rattle.requests.proofs.Ways.{unlawful, Decided, way-length, way-keyed, way-planned}
use Rattle.promises.specs.Tables.{Table, done, row, First, OutsideLimits, DamagedSomewhere, Present, Absent, WantOfInterval, WantOfRoom, table_for, change_table}
use Rattle.requests.specs.Allowed.{Request, check, get, get_at, changes, ChangeAllowed, Allowed}
use Rattle.promises.specs.Trace.{Sound}
use Rattle.promises.specs.Home.{LengthFine}
use Rattle.promises.proofs.Ways.{fine-tested, tested-fine, way-fits}
use Rattle.promises.proofs.History.{change-octets, change-makes}
use Rattle.promises.proofs.Rows.{first_two, held, none-with, some_with}
use Rattle.promises.proofs.ExactReads.{check-exact, get-exact, get-at-exact}
use Rattle.promises.proofs.ExactPlans.{plan-rows}

module _ (m : Measures) (area : List ℕ) where
  abbrev n : ℕ
  n = count_of m.size (length area)

  abbrev told : Change → ℕ
  told ch = number_of (change_of m area ch).answer

  change-outside : (ch : Change) → judged_of m (length area) ≡ None → told ch ≡ 1
  unfolding change_of
  change-outside ch o = rw o

  change-damaged : (ch : Change) → judged_of m (length area) ≡ passed m n → (p : ℕ) → read_area m n area ≡ damaged p → told ch ≡ 2
  unfolding change_of
  change-damaged ch j p d = rw (j, d)

  module _ (o : Octets area) where
    sound : (c : Content) → judged_of m (length area) ≡ passed m n → read_area m n area ≡ whole c → Sound m n area c
    sound c j w = record { octets = o; judges = j; reads = w }

    module _ (c : Content) (s : Sound m n area c) where
      abbrev rs : List (List ℕ)
      rs = records_of c.filled

      -- row 3, and those after it
      by_length : (ch : Change) (later : Table) → (length_fine m ch ≡ true → First later (told ch)) → First (row 3 (LengthFine m ch → ⊥) later) (told ch)
      by_length ch later more = go (length_fine m ch) refl
        where
          go : (t : Bool) → length_fine m ch ≡ t → First (row 3 (LengthFine m ch → ⊥) later) (told ch)
          go true f = inr (λ (g : LengthFine m ch → ⊥). g (tested-fine m ch f), more f)
          go false f = inl (λ (g : LengthFine m ch). false-true (sym f ∙ fine-tested m ch g), rw (way-length m area n c s.judges s.reads ch f))

      -- Some record has a key exactly if one is found by it,
      present : (wanted : List ℕ) → (with_key m wanted rs ≡ [] → ⊥) → Present m area wanted
      present wanted h = let x = some_first (with_key m wanted rs) h in (c, s.reads, (x.0, with-keyed m wanted rs x.0 x.1 x.2))

      present-some : (wanted : List ℕ) → Present m area wanted → with_key m wanted rs ≡ [] → ⊥
      present-some wanted h =
          some_with m wanted rs (held m area (λ (d : Content). (r : List ℕ) × Keyed m wanted (records_of d.filled) r) c s.reads h)

      -- and none exactly if none is.
      absent : (wanted : List ℕ) → ((with_key m wanted rs ≡ [] → ⊥) → ⊥) → Absent m area wanted
      absent wanted h = (c, s.reads, λ (r : List ℕ) (k : Keyed m wanted rs r). h (some_with m wanted rs (r, k)))

      absent_none : (wanted : List ℕ) → Absent m area wanted → with_key m wanted rs ≡ []
      absent_none wanted h =
          none-with m wanted rs (held m area (λ (d : Content). (r : List ℕ) → Keyed m wanted (records_of d.filled) r → ⊥) c s.reads h)

      -- row 4 or 5, and those after it: its condition holds exactly where the change may not be made
      by-law : (ch : Change) (condition : Type 0) → ((Legal m ch rs → ⊥) → condition) → (condition → Legal m ch rs → ⊥) → (later : Table) → length_fine m ch ≡ true
          → (Legal m ch rs → First later (told ch)) → First (row (number_of (unlawful ch)) condition later) (told ch)
      by-law ch condition told-so only_so later f more = go (way-keyed m area n c s.judges s.reads ch f)
        where
          go : Decided (Legal m ch rs) ch area (carry_out m area (plan_of m c (edit_of m c ch))) (change_of m area ch)
              → First (row (number_of (unlawful ch)) condition later) (told ch)
          go (inl d) = inr (λ (x : condition). only_so x d.0, more d.0)
          go (inr d) = inl (told-so d.0, rw d.1)

      -- rows 6 and 7
      by-plan : (ch : Change) → Octets (bytes_of ch) → length_fine m ch ≡ true → Legal m ch rs
          → First (row 6 (WantOfInterval m area ch) (row 7 (WantOfRoom m area ch) done)) (told ch)
      by-plan ch b f l = rw (way-planned m area n c s.judges s.reads ch f l) (plan-rows m area c s ch b f l)

      -- an erase has neither
      erase-done : (wanted : List ℕ) → Octets wanted → length_fine m (erase wanted) ≡ true → Legal m (erase wanted) rs → told (erase wanted) ≡ 0
      erase-done wanted b f l =
          let e : Edit = edit_of m c (erase wanted) in
          let p = erase-stays-put m n area c e (way-fits m n area c s (erase wanted) f b l) refl in
          rw (way-planned m area n c s.judges s.reads (erase wanted) f l, p)

    -- the rows of a change after the second
    abbrev plan_rows : Change → Table
    plan_rows ch = row 6 (WantOfInterval m area ch) (row 7 (WantOfRoom m area ch) done)

    abbrev last_rows : Change → Table
    last_rows (insert r) = row 4 (Present m area (key_of m r)) (plan_rows (insert r))
    last_rows (update r) = row 5 (Absent m area (key_of m r)) (plan_rows (update r))
    last_rows (erase wanted) = row 5 (Absent m area wanted) done

    last-rows : (c : Content) → Sound m n area c → (ch : Change) → Octets (bytes_of ch) → length_fine m ch ≡ true → First (last_rows ch) (told ch)
    last-rows c s (insert r) b f =
        by-law c s (insert r) (Present m area (key_of m r)) (present c s (key_of m r)) (present-some c s (key_of m r)) (plan_rows (insert r)) f
        (by-plan c s (insert r) b f)
    last-rows c s (update r) b f =
        by-law c s (update r) (Absent m area (key_of m r)) (absent c s (key_of m r))
        (λ (x : Absent m area (key_of m r)) (l : with_key m (key_of m r) (records_of c.filled) ≡ [] → ⊥). l (absent_none c s (key_of m r) x))
        (plan_rows (update r)) f (by-plan c s (update r) b f)
    last-rows c s (erase wanted) b f =
        by-law c s (erase wanted) (Absent m area wanted) (absent c s wanted)
        (λ (x : Absent m area wanted) (l : with_key m wanted (records_of c.filled) ≡ [] → ⊥). l (absent_none c s wanted x)) done f
        (erase-done c s wanted b f)

    all-rows : (ch : Change) → Octets (bytes_of ch)
        → First (row 1 (OutsideLimits m area) (row 2 (DamagedSomewhere m area) (row 3 (LengthFine m ch → ⊥) (last_rows ch)))) (told ch)
    all-rows ch b =
        first_two m area (row 3 (LengthFine m ch → ⊥) (last_rows ch)) (told ch) (change-outside ch) (change-damaged ch)
        (λ (j : judged_of m (length area) ≡ passed m n) (c : Content) (w : read_area m n area ≡ whole c).
        by_length c (sound c j w) ch (last_rows ch) (last-rows c (sound c j w) ch b))

    change-rows : (ch : Change) → Octets (bytes_of ch) → First (change_table m area ch) (told ch)
    change-rows (insert r) b = all-rows (insert r) b
    change-rows (update r) b = all-rows (update r) b
    change-rows (erase wanted) b = all-rows (erase wanted) b

    -- An insert is refused with 1, 2, 3, 4, 6 or 7, an update with 1, 2, 3, 5, 6 or 7, an erase with 1, 2, 3 or 5, each exactly as its table says.
    pub change-exact : (ch : Change) (a : Answer) (after : List ℕ) → ChangeAllowed m area ch a after → First (change_table m area ch) (number_of a)
    change-exact ch a after k =
        rw (ap number_of (change-makes m area after ch a k).answers) (change-rows ch (change-octets m area after ch a k))

-- Whatever is asked of whatever bytes, the number of any answer that the request's contract allows is that of the first condition of the request's table
-- that holds, and 0 if none holds.
pub refusals-exact : (m : Measures) (area : List ℕ) → Octets area → (q : Request) (a : Answer) (after out : List ℕ)
    → Allowed m area q a after out → First (table_for m area q) (number_of a)
refusals-exact m area o check a after out k = check-exact m area a k.1
refusals-exact m area o (get wanted lent) a after out k = get-exact m area wanted lent a out k.1
refusals-exact m area o (get_at address lent) a after out k = get-at-exact m area address lent a out k.1
refusals-exact m area o (changes ch) a after out k = change-exact m area o ch a after k
