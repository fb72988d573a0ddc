-- What an accepted change was, and what it left: one record for insert, update and erase, for whoever follows the register through a history.
use Rattle.std.specs.Prelude.{None}
use Prim.Native.Nat.{ℕ}
use mathlib.Core.Path.{◌≡◌, refl, ap}
use mathlib.Core.List.{List}
use mathlib.Core.Logic.{◌⊎◌, inl, inr}
use lib.ListN.{length}
use native.Mathlib.Omega.{arith}
use Rattle.fields.specs.Bytes.{Octets}
use Rattle.measures.specs.Judgement.{count_of, judged_of, passed}
use Rattle.measures.specs.declared.Measures.{Measures}
use Rattle.measures.proofs.Fine.{judged-either}
use Rattle.area.specs.Reading.{Reading, damaged, whole, read_area}
use Rattle.requests.specs.Answers.{number_of}
use Rattle.requests.specs.Model.{Change}
use Rattle.requests.specs.Changing.{Outcome, bytes_of, change_of}
use Rattle.requests.specs.Accepted.{Accepted}
use Rattle.requests.proofs.Gets.{judged-key, judged-inside}
use Rattle.requests.proofs.Proper.{change-proper, change-remade}
use Rattle.requests.proofs.Ways.{carried}

module _ (m : Measures) (area : List ℕ) where
  -- A change that is answered with the number 0 was accepted: it may be made by key in the plain list of the records that were read, and what is left is what
  -- the stores of an edit leave which makes exactly that change of all records.
  pub accepted : (ch : Change) → Octets (bytes_of ch) → number_of (change_of m area ch).answer ≡ 0 → Accepted m area ch (change_of m area ch)
  accepted ch o z = by-judgement (judged-either m (length area))
    where
      n : ℕ
      n = count_of m.size (length area)

      by-reading : judged_of m (length area) ≡ passed m n → (d : Reading) → read_area m n area ≡ d → Accepted m area ch (change_of m area ch)
      by-reading j (damaged place) w = absurd (let y : number_of (change_of m area ch).answer ≡ 2 = unfold change_of in rw (j, w) in omega arith)
      by-reading j (whole c) w =
          let d = carried m area n c j w ch z in
          let some = judged-key m area n j in
          let inside = judged-inside m area n j in
          record {
            n = n;
            c = c;
            ss = d.ss;
            judges = j;
            reads = w;
            legal = d.legal;
            proper = change-proper m n area c w some inside ch d.fine o d.legal;
            makes = change-remade m n area c w some inside ch d.fine o d.legal;
            planned = d.planned;
            answers = ap (λ (x : Outcome). x.answer) d.leaves;
            leaves = ap (λ (x : Outcome). x.area) d.leaves;
          }

      by-judgement : (judged_of m (length area) ≡ None) ⊎ (judged_of m (length area) ≡ passed m n) → Accepted m area ch (change_of m area ch)
      by-judgement (inl j) = absurd (let y : number_of (change_of m area ch).answer ≡ 1 = unfold change_of in rw j in omega arith)
      by-judgement (inr j) = by-reading j (read_area m n area) refl
