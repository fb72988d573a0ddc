-- The requests that change, against their meaning: a plan carried out and told, the lengths that the measures allow, and a change by what the area was
-- opened as.
use Rattle.std.specs.Prelude.{Err}
use Prim.Native.Nat.{ℕ, ◌+◌, ◌-◌, ◌≤◌, ◌<◌}
use mathlib.Core.Path.{◌≡◌, refl, ◌∙◌, ap}
use mathlib.Core.Bool.{Bool, true, false}
use mathlib.Core.List.{List, [], ◌∷◌}
use mathlib.Core.Logic.{⊎_elim}
use lib.ListN.{length, take, drop}
use native.Mathlib.Omega.{arith}
use borrow.Author.Tests.{le-leb, lt-leb, eq-eqb, ne_eqb}
use Rattle.std.specs.Prelude.{Result}
use Rattle.fields.proofs.Splices.{part-is}
use Rattle.measures.specs.declared.Measures.{Measures}
use Rattle.interval.specs.Records.{key_of, within}
use Rattle.change.specs.Plan.{Plan, no_interval, no_room, stores}
use Rattle.change.specs.declared.Full.{Full}
use Rattle.change.specs.declared.Written.{Written}
use Rattle.change_write.specs.AidCarried.{Carries}
use Rattle.requests.specs.Model.{Change}
use Rattle.requests.specs.Changing.{Outcome, length_fine, carry_out, change_in, change_of, Makes}
use Rattle.requests.specs.Answers.{Answer}
use Rattle.requests.specs.declared.Refusal.{Refusal}
use Rattle.requests.specs.declared.Refusal.TheVariants.{WrongLength}
use Rattle.opening.specs.AidOpened.{opened, opened_of}
use Rattle.opening.proofs.Opening.{opened-shut, opened-whole}
use Rattle.register.specs.AidTold.{answer_for, MakesIn}
use Rattle.register.specs.AidChange.{change_for, change_at, Asked, keyed_in}
use Rattle.register.specs.declared.Kind.{Kind}
use Rattle.register.specs.declared.Kind.TheVariants.{Insert, Update, Erase}
use Rattle.register.specs.contracts.Kind.{the_type}

-- a contract in other words
pub makes-as : {g h : Outcome} {a : Answer} {area : List ℕ} → g ≡ h → Makes g a area → Makes h a area
makes-as e k = record { answers = k.answers ∙ ap (λ x. x.answer) e; leaves = k.leaves ∙ ap (λ x. x.area) e }

-- a plan carried out, and told
pub carried : (m : Measures) (area : List ℕ) (plan : Plan) (made : Result Written Full) (after : List ℕ) (a : Answer) → Carries m area plan made after → a ≡ answer_for made → Makes (carry_out m area plan) a after
carried m area no_interval made after a k e = record { answers = e ∙ ap answer_for k.answers; leaves = k.leaves }
carried m area no_room made after a k e = record { answers = e ∙ ap answer_for k.answers; leaves = k.leaves }
carried m area (stores ss) made after a k e = record { answers = e ∙ ap answer_for k.answers; leaves = k.leaves }

-- a length that the measures allow, and others
pub length-fine : (m : Measures) (l : ℕ) → m.least ≤ l → l ≤ m.most → within m.least m.most l ≡ true
length-fine m l h k = rw (le-leb m.least l h, le-leb l m.most k)

pub length-short : (m : Measures) (l : ℕ) → l < m.least → within m.least m.most l ≡ false
length-short m l h = rw (lt-leb m.least l h)

pub length-long : (m : Measures) (l : ℕ) → m.least ≤ l → m.most < l → within m.least m.most l ≡ false
length-long m l h k = rw (le-leb m.least l h, lt-leb l m.most k)

-- an answer that is the same
pub makes-same-answer : {o : Outcome} {a b : Answer} {area : List ℕ} → a ≡ b → Makes o b area → Makes o a area
makes-same-answer e k = record { answers = e ∙ k.answers; leaves = k.leaves }

-- a refusal is the answer, and the area stays; a whole area is answered by what it holds
module _ (k : Measures) (area : List ℕ) (ch : Change) where
  pub change-shut : (r : Refusal) → opened_of k area ≡ Err r → Makes (change_of k area ch) (Err r) area
  unfolding change_of
  change-shut r e = rw (opened-shut k area r e) (record { answers = refl; leaves = refl })

  pub change-whole : (m : Measures) (n records free : ℕ) → opened_of k area ≡ opened m n records free
      → (a : Answer) (after : List ℕ) → MakesIn m n area (λ c. change_in m c area ch) a after → Makes (change_of k area ch) a after
  unfolding change_of
  change-whole m n records free e a after g = let o = opened-whole k area m n records free e in rw o.1 (g o.0 o.2)

-- ---- by the length of what is handed over

module _ (m : Measures) (n : ℕ) (area : List ℕ) (ch : Change) where
  -- a wrong length is told, and the area stays
  pub wrong-makes : length_fine m ch ≡ false → MakesIn m n area (λ c. change_in m c area ch) (Err WrongLength) area
  wrong-makes f c w = rw f (record { answers = refl; leaves = refl })

  -- of a fine one the key decides
  pub fine-makes : length_fine m ch ≡ true → (a : Answer) (after : List ℕ) → MakesIn m n area (λ c. keyed_in m c area ch) a after → MakesIn m n area (λ c. change_in m c area ch) a after
  fine-makes f a after g c w = rw f (g c w)

-- an erase: a key, and no record
module _ (m : Measures) (kind : Kind) (e : kind ≡ Erase) (given : List ℕ) where
  pub erase-wrong : (length given ≡ m.key → ⊥) → length_fine m (change_for kind given) ≡ false
  erase-wrong h = rw e (ne_eqb (length given) m.key h)

  pub erase-fine : length given ≡ m.key → length_fine m (change_for kind given) ≡ true
  erase-fine h = rw e (eq-eqb (length given) m.key h)

  pub erase-asked : length given ≡ m.key → Asked m kind given (take 0 given)
  erase-asked h = rw e (record { is = refl; fine = eq-eqb (length given) m.key h; none = refl })

  pub erase_same : change_at kind given (take 0 given) ≡ change_for kind given
  erase_same = rw e

-- the others: a record, with its key in it
module _ (m : Measures) (given : List ℕ) where
  abbrev pub key : List ℕ
  key = take (m.offset + m.key - m.offset) (drop m.offset given)

  key_in : key ≡ key_of m given
  key_in = part-is given m.offset m.key

  pub record-length : (kind : Kind) → (kind ≡ Erase → ⊥) → (b : Bool) → within m.least m.most (length given) ≡ b → length_fine m (change_for kind given) ≡ b
  record-length Insert h b f = f
  record-length Update h b f = f
  record-length Erase h b f = absurd (h refl)

  pub record-asked : (kind : Kind) → (kind ≡ Erase → ⊥) → within m.least m.most (length given) ≡ true → Asked m kind key given
  record-asked Insert h f = record { is = key_in; fine = f; none = tt }
  record-asked Update h f = record { is = key_in; fine = f; none = tt }
  record-asked Erase h f = absurd (h refl)

  pub record_same : (kind : Kind) → (kind ≡ Erase → ⊥) → change_at kind key given ≡ change_for kind given
  record_same Insert h = refl
  record_same Update h = refl
  record_same Erase h = absurd (h refl)

-- the same change by another name
pub makes-same : (m : Measures) (n : ℕ) (area : List ℕ) (ch dh : Change) → ch ≡ dh → (a : Answer) (after : List ℕ) → MakesIn m n area (λ c. keyed_in m c area ch) a after
    → MakesIn m n area (λ c. keyed_in m c area dh) a after
makes-same m n area ch dh e a after g c w = rw (← e) (g c w)
