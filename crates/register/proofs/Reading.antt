-- The requests that read, against their meaning: a record handed out, get by key by what it judged and read, and the others by what the area was opened as.
use Rattle.std.specs.Prelude.{Option, Some, None, Result, Ok, Err}
use Prim.Native.Nat.{ℕ, ◌+◌, ◌*◌, ◌≤◌, ◌<◌}
use mathlib.Core.Path.{◌≡◌, refl, ◌∙◌, sym, ap}
use mathlib.Core.Bool.{Bool, true, false}
use mathlib.Core.List.{List, [], ◌∷◌}
use lib.ListN.{length}
use native.Mathlib.Omega.{arith}
use borrow.Author.Tests.{eq-eqb, ne_eqb, le-leb, lt-leb}
use Rattle.fields.specs.Choice.{pick}
use Rattle.fields.specs.Bytes.{part, splice}
use Rattle.fields.proofs.Splices.{length-mid}
use Rattle.measures.specs.Judgement.{Fits, judged_of, passed}
use Rattle.measures.specs.declared.Measures.{Measures}
use Rattle.interval.specs.Reading.{records_in}
use Rattle.interval.specs.Search.{place_of}
use Rattle.interval.specs.declared.Found.{Found}
use Rattle.interval.specs.declared.Found.TheVariants as found
use Rattle.index.specs.Meaning.{Entry}
use Rattle.area.specs.Content.{records_of}
use Rattle.area.specs.Leads.{index_sound, entries_for, number_for, interval_for, sound_for}
use Rattle.area_find.specs.AidSought.{Whole}
use Rattle.area_seek.specs.AidLooked.{looked_at, looked_of}
use Rattle.requests.specs.Records.{with_key}
use Rattle.requests.specs.Reading.{check_of, Given, refused, hand_out, get_there, get_in, get_of, get_at_in, get_at_of, Gives}
use Rattle.requests.specs.Answers.{Answer}
use Rattle.requests.specs.declared.Done.TheVariants as done
use Rattle.requests.specs.declared.Refusal.{Refusal}
use Rattle.requests.specs.declared.Refusal.TheVariants.{Outside, Damaged, WrongLength, Absent, Short}
use Rattle.opening.specs.AidOpened.{opened, opened_of}
use Rattle.opening.proofs.Opening.{opened-shut, opened-whole}
use Rattle.register.specs.AidTold.{GivesIn}
use Rattle.register.proofs.KeyFound.{there-readable, found-there, absent-there}
use Rattle.area.specs.Checked.{damaged_at}
use Rattle.area.specs.declared.Lying.{Lying}
use Rattle.area.specs.declared.Damage.{Damage}

-- ---- handing a record out

module _ (area : List ℕ) (from bytes : ℕ) (out : List ℕ) (inside : from + bytes ≤ length area) where
  length-record : length (part area from bytes) ≡ bytes
  length-record = length-mid area from bytes inside

  pub hand-short : length out < bytes → Gives (hand_out (Err Absent) (part area from bytes ∷ []) out) (Err (Short bytes)) out
  hand-short h =
      let l = length-record in
      record { answers = rw (lt-leb (length (part area from bytes)) (length out) (omega arith), l); outputs = rw (lt-leb (length (part area from bytes)) (length out) (omega arith)) }

  pub hand-found : bytes ≤ length out → (after : List ℕ) → after ≡ splice out 0 (part area from bytes) → Gives (hand_out (Err Absent) (part area from bytes ∷ []) out) (Ok (done.Found bytes)) after
  hand-found h after e =
      let l = length-record in
      record { answers = rw (le-leb (length (part area from bytes)) (length out) (omega arith), l); outputs = e ∙ rw (le-leb (length (part area from bytes)) (length out) (omega arith)) }

-- a contract in other words
pub gives_as : {g h : Given} {a : Answer} {out : List ℕ} → g ≡ h → Gives g a out → Gives h a out
gives_as e k = record { answers = k.answers ∙ ap (λ x. x.answer) e; outputs = k.outputs ∙ ap (λ x. x.output) e }

-- and of an answer that is the same
pub gives-same : {g : Given} {a b : Answer} {out : List ℕ} → a ≡ b → Gives g b out → Gives g a out
gives-same e k = record { answers = e ∙ k.answers; outputs = k.outputs }

-- ---- get by key

-- the answer to a key of a wrong length, by what the index record's check told
module _ (m : Measures) (n : ℕ) (area : List ℕ) where
  pub wrong-sound : index_sound m n area ≡ true → ◌≡◌ {A = Answer} (Err WrongLength) (pick (index_sound m n area) (Err WrongLength) (Err (Damaged 0)))
  wrong-sound h = sym (rw h)

  pub wrong-unsound : index_sound m n area ≡ false → ◌≡◌ {A = Answer} (Err (Damaged 0)) (pick (index_sound m n area) (Err WrongLength) (Err (Damaged 0)))
  wrong-unsound h = sym (rw h)

-- what a search comes to that judges only what it reads
abbrev pub given_by : List ℕ → List ℕ → Result (Option Lying) Damage → Given
given_by area out (Ok (Some lying)) = hand_out (Err Absent) (part area lying.from lying.length ∷ []) out
given_by area out (Ok None) = refused (Err Absent) out
given_by area out (Err damage) = refused (Err (Damaged damage.place)) out

module _ (m : Measures) (n : ℕ) (area wanted out : List ℕ) where
  pub get-wrong : (length wanted ≡ m.key → ⊥) → (a : Answer) → a ≡ pick (index_sound m n area) (Err WrongLength) (Err (Damaged 0)) → Gives (get_in m n area wanted out) a out
  unfolding get_in
  get-wrong d a e = rw (ne_eqb (length wanted) m.key d) (go (index_sound m n area) e)
    where
      go : (t : Bool) → a ≡ pick t (Err WrongLength) (Err (Damaged 0)) → Gives (pick t (refused (Err WrongLength) out) (refused (Err (Damaged 0)) out)) a out
      go true e = record { answers = e; outputs = refl }
      go false e = record { answers = e; outputs = refl }

  -- the search finds what is to be handed out
  pub get-looked : Fits m n (length area) → length wanted ≡ m.key → given_by area out (looked_of m n area wanted) ≡ get_in m n area wanted out
  unfolding get_in get_there looked_of
  get-looked o long =
      rw (eq-eqb (length wanted) m.key long)
      (go (index_sound m n area) (sound_for m es wanted ci) refl (place_of m wanted (records_in ci)) refl)
    where
      es : List Entry
      es = entries_for m n area

      k : ℕ
      k = number_for m n area wanted

      ci : List ℕ
      ci = interval_for m n area wanted

      go : (t u : Bool) → sound_for m es wanted ci ≡ u → (f : Found) → place_of m wanted (records_in ci) ≡ f
          → given_by area out (pick t (pick u (looked_at ((k + 1) * m.size) f) (damaged_at (k + 1))) (damaged_at 0))
          ≡ pick t (pick u (hand_out (Err Absent) (with_key m wanted (records_in ci)) out) (refused (Err (Damaged (k + 1))) out)) (refused (Err (Damaged 0)) out)
      go false u h f e = refl
      go true false h f e = refl
      go true true h (found.At i t l) e =
          ap (λ (rs : List (List ℕ)). hand_out (Err Absent) rs out) (sym (found-there m area wanted k (there-readable m n area o es wanted k h) i t l e))
      go true true h (found.Gap i t) e =
          ap (λ (rs : List (List ℕ)). hand_out (Err Absent) rs out) (sym (absent-there m area wanted k (there-readable m n area o es wanted k h) i t e))

-- by the judgement of the measures
module _ (k : Measures) (area wanted out : List ℕ) where
  pub get-outside : judged_of k (length area) ≡ None → Gives (get_of k area wanted out) (Err Outside) out
  unfolding get_of
  get-outside e = rw e (record { answers = refl; outputs = refl })

  pub get-fine : (m : Measures) (n : ℕ) → judged_of k (length area) ≡ passed m n → (a : Answer) (after : List ℕ) → Gives (get_in m n area wanted out) a after
      → Gives (get_of k area wanted out) a after
  unfolding get_of
  get-fine m n e a after g = rw e g

-- ---- by what the area was opened as

module _ (k : Measures) (area : List ℕ) where
  -- a refusal is the answer, and the output stays
  module _ (r : Refusal) (e : opened_of k area ≡ Err r) where
    pub check-shut : Err r ≡ check_of k area
    unfolding check_of
    check-shut = sym (rw (opened-shut k area r e))

    pub get-at-shut : (address : ℕ) (out : List ℕ) → Gives (get_at_of k area address out) (Err r) out
    unfolding get_at_of
    get-at-shut address out = rw (opened-shut k area r e) (record { answers = refl; outputs = refl })

  -- an area that is whole is one in which the floors below may search, and it is answered by what it holds
  module _ (m : Measures) (n records free : ℕ) (e : opened_of k area ≡ opened m n records free) where
    pub whole-there : Fits m n (length area) × Whole m n area
    whole-there = let o = opened-whole k area m n records free e in (o.3, record { content = o.0; reads = o.2 })

    pub check-whole : (Ok (done.Intact records free)) ≡ check_of k area
    unfolding check_of
    check-whole =
        let o = opened-whole k area m n records free e in
        let z : check_of k area ≡ (Ok (done.Intact (length (records_of o.0.filled)) (length o.0.free))) = rw o.1 in
        cc (z, o.4, o.5)

    pub get-at-whole : (address : ℕ) (out : List ℕ) (a : Answer) (after : List ℕ) → GivesIn m n area (λ c. get_at_in m c address out) a after
        → Gives (get_at_of k area address out) a after
    unfolding get_at_of
    get-at-whole address out a after g = let o = opened-whole k area m n records free e in rw o.1 (g o.0 o.2)
