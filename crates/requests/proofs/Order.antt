-- The order of refusals, and that a refusal leaves what was lent: 2 before 3 and 9, but for a get by key only 2 at the index record before 3; 4 before 6 and 7.
use Rattle.std.specs.Prelude.{Err}
use Prim.Native.Nat.{ℕ, ◌+◌}
use mathlib.Core.Path.{◌≡◌, refl}
use mathlib.Core.Bool.{true, false}
use mathlib.Core.List.{List, ◌∷◌}
use lib.ListN.{length}
use Rattle.measures.specs.Judgement.{judged_of, passed}
use Rattle.measures.specs.declared.Measures.{Measures}
use Rattle.interval.specs.Records.{key_of, within}
use Rattle.area.specs.Content.{Content, records_of}
use Rattle.area.specs.Reading.{damaged, whole, read_area}
use Rattle.area.specs.Leads.{index_sound, entries_for, number_for, interval_for, sound_for}
use Rattle.change.specs.Plan.{Plan, no_interval, no_room, stores}
use Rattle.requests.specs.Answers.{number_of}
use Rattle.requests.specs.Records.{with_key}
use Rattle.requests.specs.Reading.{get_of, get_at_of}
use Rattle.requests.specs.Changing.{kept, carry_out, insert_of, change_of}
use Rattle.requests.specs.declared.Refusal.TheVariants.{Damaged, Present}
use Rattle.requests.proofs.Gets.{get-index-damaged, get-there-damaged}

module _ (m : Measures) (area : List ℕ) (n : ℕ) (j : judged_of m (length area) ≡ passed m n) (out : List ℕ) where
  -- For a get by key 2 at the index record comes before 3: whatever the key's length. 2 at the interval that the key leads to comes after it, and before 5 and 8.
  pub get-damaged : (wanted : List ℕ)
      → (index_sound m n area ≡ false → get_of m area wanted out ≡ record { answer = (Err (Damaged 0)); output = out })
      × (index_sound m n area ≡ true → length wanted ≡ m.key → sound_for m (entries_for m n area) wanted (interval_for m n area wanted) ≡ false
      → get_of m area wanted out ≡ record { answer = (Err (Damaged (number_for m n area wanted + 1))); output = out })
  get-damaged wanted = (
    get-index-damaged m area n j wanted out,
    get-there-damaged m area n j wanted out,
  )

  -- For a get by address it comes before 9.
  pub get-at-damaged : (place : ℕ) → read_area m n area ≡ damaged place → (address : ℕ)
      → get_at_of m area address out ≡ record { answer = (Err (Damaged place)); output = out }
  unfolding get_at_of
  get-at-damaged place d address = rw (j, d) refl

-- 4 comes before 6 and 7: a key that is present is told whatever room there is
pub insert-present : (m : Measures) (area : List ℕ) (n : ℕ) → judged_of m (length area) ≡ passed m n
    → (c : Content) → read_area m n area ≡ whole c → (r x : List ℕ) (xs : List (List ℕ)) → within m.least m.most (length r) ≡ true
    → with_key m (key_of m r) (records_of c.filled) ≡ x ∷ xs → insert_of m area r ≡ kept (Err Present) area
unfolding change_of
insert-present m area n j c w r x xs l e = rw (j, w, l, e) refl

-- a plan that refuses leaves the area
pub refused-spares : (m : Measures) (area : List ℕ) (p : Plan) → (number_of (carry_out m area p).answer ≡ 0 → ⊥) → (carry_out m area p).area ≡ area
refused-spares m area no_interval d = refl
refused-spares m area no_room d = refl
refused-spares m area (stores ss) d = absurd (d refl)
