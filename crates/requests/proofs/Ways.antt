-- The ways of a change of a whole area: its length is wrong, or it may not be made, or its plan is carried out; and what it is that one was carried out.
use Rattle.std.specs.Prelude.{Err}
use Prim.Native.Nat.{ℕ}
use mathlib.Core.Path.{◌≡◌, refl}
use mathlib.Core.Bool.{Bool, true, false}
use mathlib.Core.List.{List, [], ◌∷◌, cons-ne-nil}
use mathlib.Core.Logic.{◌⊎◌, inl, inr}
use lib.ListN.{length}
use native.Mathlib.Omega.{arith}
use Rattle.measures.specs.Judgement.{judged_of, passed}
use Rattle.measures.specs.declared.Measures.{Measures}
use Rattle.interval.specs.Records.{key_of}
use Rattle.area.specs.Content.{Content, records_of}
use Rattle.area.specs.Reading.{whole, read_area}
use Rattle.change.specs.Stores.{Store}
use Rattle.change.specs.Plan.{Plan, no_interval, no_room, stores, plan_of}
use Rattle.requests.specs.Answers.{number_of}
use Rattle.requests.specs.Records.{with_key}
use Rattle.requests.specs.Model.{Change, insert, update, erase, Legal}
use Rattle.requests.specs.Changing.{Outcome, kept, key_in, length_fine, edit_of, carry_out, if_keyed, change_of}
use Rattle.requests.specs.Answers.{Answer}
use Rattle.requests.specs.declared.Refusal.TheVariants.{WrongLength, Present, Absent}

-- ---- by the key

-- what a change is refused with that may not be made
abbrev pub unlawful : Change → Answer
unlawful (insert r) = (Err Present)
unlawful (update r) = (Err Absent)
unlawful (erase wanted) = (Err Absent)

unlawful-refused : (ch : Change) → number_of (unlawful ch) ≡ 0 → ⊥
unlawful-refused (insert r) z = omega arith
unlawful-refused (update r) z = omega arith
unlawful-refused (erase wanted) z = omega arith

-- A law holds and a change comes to what is made, or the law does not hold and the change is refused.
abbrev pub Decided : Type 0 → Change → List ℕ → Outcome → Outcome → Type 0
Decided law ch area made o = (law × (o ≡ made)) ⊎ ((law → ⊥) × (o ≡ kept (unlawful ch) area))

-- where these records have the key, a change may be made
abbrev Lawful : Change → List (List ℕ) → Type 0
Lawful (insert r) ws = ws ≡ []
Lawful (update r) ws = ws ≡ [] → ⊥
Lawful (erase wanted) ws = ws ≡ [] → ⊥

keyed-decided : (ch : Change) (ws : List (List ℕ)) (area : List ℕ) (made : Outcome) → Decided (Lawful ch ws) ch area made (if_keyed ch ws area made)
keyed-decided (insert r) [] area made = inl (refl, refl)
keyed-decided (insert r) (x ∷ ws) area made = inr (cons-ne-nil x ws, refl)
keyed-decided (update r) [] area made = inr (λ (h : [] ≡ [] → ⊥). h refl, refl)
keyed-decided (update r) (x ∷ ws) area made = inl (cons-ne-nil x ws, refl)
keyed-decided (erase wanted) [] area made = inr (λ (h : [] ≡ [] → ⊥). h refl, refl)
keyed-decided (erase wanted) (x ∷ ws) area made = inl (cons-ne-nil x ws, refl)

-- A change goes on past the look for its key exactly if it may be made.
pub legal-decided : (m : Measures) (ch : Change) (rs : List (List ℕ)) (area : List ℕ) (made : Outcome)
    → Decided (Legal m ch rs) ch area made (if_keyed ch (with_key m (key_in m ch) rs) area made)
legal-decided m (insert r) rs area made = keyed-decided (insert r) (with_key m (key_of m r) rs) area made
legal-decided m (update r) rs area made = keyed-decided (update r) (with_key m (key_of m r) rs) area made
legal-decided m (erase wanted) rs area made = keyed-decided (erase wanted) (with_key m wanted rs) area made

-- ---- on a whole area

module _ (m : Measures) (area : List ℕ) (n : ℕ) (c : Content) (j : judged_of m (length area) ≡ passed m n) (w : read_area m n area ≡ whole c) (ch : Change) where
  -- what the change comes to
  abbrev outcome : Outcome
  outcome = change_of m area ch

  -- that it may be made, and what comes of its plan
  abbrev Law : Type 0
  Law = Legal m ch (records_of c.filled)

  abbrev made : Outcome
  made = carry_out m area (plan_of m c (edit_of m c ch))

  -- A length that is not fine is refused,
  pub way-length : length_fine m ch ≡ false → outcome ≡ kept (Err WrongLength) area
  unfolding change_of
  way-length f = rw (j, w, f)

  -- and a length that is fine leaves it to the key.
  pub way-keyed : length_fine m ch ≡ true → Decided Law ch area made outcome
  unfolding change_of
  way-keyed f = rw (j, w, f) (legal-decided m ch (records_of c.filled) area made)

  -- A change that may be made has its plan carried out.
  pub way-planned : length_fine m ch ≡ true → Law → outcome ≡ made
  way-planned f l = go (way-keyed f)
    where
      go : Decided Law ch area made outcome → outcome ≡ made
      go (inl d) = d.1
      go (inr d) = absurd (d.0 l)

  -- ---- a change that was done

  -- Its length was fine and it might be made; its stores were planned, and they are what is left.
  pub record Carried : Type 0 where
    pub fine : length_fine m ch ≡ true
    pub legal : Legal m ch (records_of c.filled)
    pub ss : List Store
    pub planned : plan_of m c (edit_of m c ch) ≡ stores ss
    pub leaves : change_of m area ch ≡ carry_out m area (stores ss)

  -- A change that is answered with the number 0 was carried out.
  pub carried : number_of outcome.answer ≡ 0 → Carried
  carried z = by_length (length_fine m ch) refl
    where
      by-plan : length_fine m ch ≡ true → Law → (p : Plan) → plan_of m c (edit_of m c ch) ≡ p → outcome ≡ carry_out m area p → Carried
      by-plan f l no_interval e g = absurd (let y : ◌≡◌ {A = ℕ} 6 0 = rw g at z in omega arith)
      by-plan f l no_room e g = absurd (let y : ◌≡◌ {A = ℕ} 7 0 = rw g at z in omega arith)
      by-plan f l (stores ss) e g = record { fine = f; legal = l; ss = ss; planned = e; leaves = g }

      by_key : length_fine m ch ≡ true → Decided Law ch area made outcome → Carried
      by_key f (inl d) = by-plan f d.0 (plan_of m c (edit_of m c ch)) refl d.1
      by_key f (inr d) = absurd (unlawful-refused ch (rw d.1 at z))

      by_length : (t : Bool) → length_fine m ch ≡ t → Carried
      by_length true f = by_key f (way-keyed f)
      by_length false f = absurd (let y : ◌≡◌ {A = ℕ} 3 0 = rw (way-length f) at z in omega arith)
