-- Refused requests do no harm: demand 1. One proof for the three changes, one for the two gets.
use Rattle.std.specs.Prelude.{Ok, Err, Some, None, Option}
use Prim.Native.Nat.{ℕ, ◌+◌}
use mathlib.Core.Path.{◌≡◌, refl, ◌∙◌, ap}
use mathlib.Core.Bool.{Bool, true, false}
use mathlib.Core.List.{List, [], ◌∷◌}
use mathlib.Core.Logic.{inl, inr}
use lib.ListN.{length}
use lib.Dec.{eqb, leb}
use Rattle.fields.specs.Choice.{pick}
use Rattle.fields.specs.Bytes.{splice}
use Rattle.measures.specs.Judgement.{judged_of}
use Rattle.measures.specs.declared.Measures.{Measures}
use Rattle.measures.specs.declared.Judged.{Judged}
use Rattle.interval.specs.Reading.{records_in}
use Rattle.index.specs.Meaning.{Entry}
use Rattle.index.specs.Search.{entry_for}
use Rattle.area.specs.Content.{records_of, base_of}
use Rattle.area.specs.Leads.{index_sound, entries_for, interval_for, sound_for}
use Rattle.change.specs.Plan.{plan_of}
use Rattle.requests.specs.Answers.{Answer, number_of}
use Rattle.requests.specs.Records.{with_key, lying_at}
use Rattle.requests.specs.Model.{Change, insert, update, erase, Legal}
use Rattle.requests.specs.Opening.{Opening, shut, holding, opening_of}
use Rattle.requests.specs.Reading.{Given, refused, hand_out, get_there, get_in, get_judged, get_of, get_at_opened, get_at_of, Gives}
use Rattle.requests.specs.Changing.{Outcome, kept, key_in, length_fine, edit_of, carry_out, if_keyed, change_opened, change_of, Makes}
use Rattle.requests.specs.declared.Done.TheVariants.{Found}
use Rattle.requests.specs.declared.Refusal.TheVariants.{Damaged, WrongLength, Absent, Short, NoRecord}
use Rattle.requests.proofs.Order.{refused-spares as carry-spares}
use Rattle.requests.proofs.Ways.{unlawful, Decided, legal-decided}
use Rattle.promises.specs.Harmless.{Refusal, RefusedHarmless}

-- an outcome that is no refusal, or that leaves the area; and so for what a get gives
abbrev Spares : List ℕ → Outcome → Type 0
Spares area o = Refusal o.answer → o.area ≡ area

abbrev SparesOutput : List ℕ → Given → Type 0
SparesOutput out g = Refusal g.answer → g.output ≡ out

-- ---- changes

-- Whatever the opening: where it is shut nothing has been done yet; where it holds a content, the length, the key and the plan are asked before any store.
change-opened : (d : Opening) (area : List ℕ) (ch : Change) → Spares area (change_opened d area ch)
change-opened (shut r) area ch n = refl
change-opened (holding m c) area ch n = by_length (length_fine m ch) n
  where
    made : Outcome
    made = carry_out m area (plan_of m c (edit_of m c ch))

    keyed : Outcome
    keyed = if_keyed ch (with_key m (key_in m ch) (records_of c.filled)) area made

    by_key : Decided (Legal m ch (records_of c.filled)) ch area made keyed → Spares area keyed
    by_key (inl d) = rw d.1 (carry-spares m area (plan_of m c (edit_of m c ch)))
    by_key (inr d) = rw d.1 (λ (n : Refusal (unlawful ch)). refl)

    by_length : (t : Bool) → Spares area (pick t keyed (kept (Err WrongLength) area))
    by_length true n = by_key (legal-decided m ch (records_of c.filled) area made) n
    by_length false n = refl

-- A refused change leaves the area, whichever result its contract allows.
pub change-harmless : (m : Measures) (area : List ℕ) (ch : Change) (a : Answer) (after : List ℕ) → Makes (change_of m area ch) a after
    → Refusal a → after ≡ area
unfolding change_of
change-harmless m area ch a after k n =
    k.leaves
    ∙ change-opened (opening_of m area) area ch (λ (z : number_of (change_of m area ch).answer ≡ 0). n (ap number_of k.answers ∙ z))

-- ---- gets

-- only what is found is handed out
hand-spares : (none : Answer) (ws : List (List ℕ)) (out : List ℕ) → SparesOutput out (hand_out none ws out)
hand-spares none [] out n = refl
hand-spares none (r ∷ ws) out n = go (leb (length r) (length out)) n
  where
    go : (t : Bool) → SparesOutput out (pick t (record { answer = Ok (Found (length r)); output = splice out 0 r }) (refused (Err (Short (length r))) out))
    go true n = absurd (n refl)
    go false n = refl

-- the index record, the length and the key's interval are judged before anything is handed out
there-spares : (m : Measures) (es : List Entry) (wanted ci out : List ℕ) → SparesOutput out (get_there m es wanted ci out)
unfolding get_there
there-spares m es wanted ci out = go (sound_for m es wanted ci)
  where
    go : (t : Bool) → SparesOutput out (pick t (hand_out (Err Absent) (with_key m wanted (records_in ci)) out) (refused (Err (Damaged ((entry_for wanted es).num + 1))) out))
    go true n = hand-spares (Err Absent) (with_key m wanted (records_in ci)) out n
    go false n = refl

in-spares : (m : Measures) (n : ℕ) (area wanted out : List ℕ) → SparesOutput out (get_in m n area wanted out)
unfolding get_in
in-spares m n area wanted out = go (index_sound m n area) (eqb (length wanted) m.key)
  where
    go : (t u : Bool) → SparesOutput out
        (pick t (pick u (get_there m (entries_for m n area) wanted (interval_for m n area wanted) out) (refused (Err WrongLength) out)) (refused (Err (Damaged 0)) out))
    go true true k = there-spares m (entries_for m n area) wanted (interval_for m n area wanted) out k
    go true false k = refl
    go false u k = refl

get-judged : (d : Option Judged) (area wanted out : List ℕ) → SparesOutput out (get_judged d area wanted out)
get-judged None area wanted out n = refl
get-judged (Some j) area wanted out n = in-spares j.measures j.count area wanted out n

get-at-opened : (d : Opening) (address : ℕ) (out : List ℕ) → SparesOutput out (get_at_opened d address out)
get-at-opened (shut r) address out n = refl
get-at-opened (holding m c) address out n = hand-spares (Err NoRecord) (lying_at m (base_of c) address c.filled) out n

-- any result that a get's contract allows
given : (g : Given) (out : List ℕ) → SparesOutput out g → (a : Answer) (after : List ℕ) → Gives g a after → Refusal a → after ≡ out
given g out s a after k n = k.outputs ∙ s (λ (z : number_of g.answer ≡ 0). n (ap number_of k.answers ∙ z))

-- ---- all of them

-- A request that is refused has changed no byte of the area or of the output, whichever result its contract allows.
pub refused-harmless : (m : Measures) (area : List ℕ) → RefusedHarmless m area
unfolding get_of get_at_of
refused-harmless m area =
    record {
      insert = λ (r : List ℕ). change-harmless m area (insert r);
      update = λ (r : List ℕ). change-harmless m area (update r);
      erase = λ (wanted : List ℕ). change-harmless m area (erase wanted);
      get = λ (wanted out : List ℕ). given (get_of m area wanted out) out (get-judged (judged_of m (length area)) area wanted out);
      get-at = λ (address : ℕ) (out : List ℕ). given (get_at_of m area address out) out (get-at-opened (opening_of m area) address out);
    }
