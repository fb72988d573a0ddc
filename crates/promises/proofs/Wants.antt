-- Want of an interval and want of room, each by itself.
use Prim.Native.Nat.{ℕ, ◌+◌, ◌-◌, ◌*◌, ◌≤◌}
use mathlib.Core.Path.{◌≡◌}
use mathlib.Core.Bool.{true}
use mathlib.Core.List.{List}
use mathlib.Core.Logic.{inl, inr, ◌↔◌}
use lib.ListN.{length}
use native.Mathlib.Omega.{arith}
use Rattle.measures.specs.Judgement.{count_of}
use Rattle.measures.specs.declared.Measures.{Measures}
use Rattle.sections.specs.Parts.{parts_size}
use Rattle.sections.specs.Layout.{LaidOut}
use Rattle.sections.specs.Form.{packed_all, index_size}
use Rattle.sections.proofs.Shortest.{closings, laid-fits}
use Rattle.area.specs.Content.{Content, records_of, entries_of, meaning_of, width_in}
use Rattle.requests.specs.Answers.{Answer, number_of}
use Rattle.requests.specs.Model.{Change, Legal}
use Rattle.requests.specs.Changing.{length_fine}
use Rattle.requests.proofs.Ways.{way-planned}
use Rattle.requests.specs.Allowed.{ChangeAllowed}
use Rattle.promises.specs.Trace.{Sound}
use Rattle.promises.specs.Entries.{seps_by, entries_need}
use Rattle.promises.specs.Home.{LengthFine}
use Rattle.promises.specs.Tables.{Table, done, row, First, WantOfInterval, WantOfRoom}
use Rattle.promises.proofs.History.{change-octets, change-makes}
use Rattle.promises.proofs.Ways.{fine-tested}
use Rattle.promises.proofs.ExactPlans.{entries-need, plan-rows}

-- A row decides its own number, where the later ones have others.
first-exact : (number k : ℕ) (condition : Type 0) (later : Table) → First (row number condition later) k → (First later k → k ≡ number → ⊥) → (k ≡ number) ↔ condition
first-exact number k condition later (inl x) other = (λ (e : k ≡ number). x.0, λ (y : condition). x.1)
first-exact number k condition later (inr x) other = (λ (e : k ≡ number). absurd (other x.1 e), λ (y : condition). absurd (x.0 y))

module _ (m : Measures) (area : List ℕ) (c : Content) (s : Sound m (count_of m.size (length area)) area c) (ch : Change) (a : Answer) (after : List ℕ) (k : ChangeAllowed m area ch a after) (f : LengthFine m ch)
    (l : Legal m ch (records_of c.filled)) where
  rows : First (row 6 (WantOfInterval m area ch) (row 7 (WantOfRoom m area ch) done)) (number_of a)
  rows =
      let t : length_fine m ch ≡ true = fine-tested m ch f in
      let p = way-planned m area (count_of m.size (length area)) c s.judges s.reads ch t l in
      rw ((change-makes m area after ch a k).answers, p) (plan-rows m area c s ch (change-octets m area after ch a k) t l)

  -- A change that may be made is refused for want of an interval exactly if the fewest intervals that hold the records need more new ones than are free.
  pub want-of-interval : (number_of a ≡ 6) ↔ WantOfInterval m area ch
  want-of-interval = first-exact 6 (number_of a) (WantOfInterval m area ch) (row 7 (WantOfRoom m area ch) done) rows other
    where
      other : First (row 7 (WantOfRoom m area ch) done) (number_of a) → number_of a ≡ 6 → ⊥
      other (inl x) e = omega (arith, x.1)
      other (inr x) e = omega (arith, x.1)

  -- Otherwise it is refused for want of room exactly if it divides and the index record's bytes, counted out, are more than an interval has for them.
  pub want-of-room : (WantOfInterval m area ch → ⊥) → (number_of a ≡ 7) ↔ WantOfRoom m area ch
  want-of-room not = first-exact 7 (number_of a) (WantOfRoom m area ch) done (go rows) (λ (z : number_of a ≡ 0) (e : number_of a ≡ 7). omega arith)
    where
      go : First (row 6 (WantOfInterval m area ch) (row 7 (WantOfRoom m area ch) done)) (number_of a) → First (row 7 (WantOfRoom m area ch) done) (number_of a)
      go (inl x) = absurd (not x.0)
      go (inr x) = x.1

-- However an index record is laid out in the writer's sections, with whatever legal compression, it has at least the bytes that are counted out. In another
-- legal spread of its sections it may take fewer (document 02, L5); number 7 is judged by the writer's.
pub room-shortest : (size : ℕ) (d : Content) (ib : List ℕ) (l : LaidOut (width_in d) size (meaning_of d) ib) → closings l.parts ≡ closings (packed_all (entries_of d.filled))
    → 24 + width_in d * length d.free + entries_need (width_in d) (seps_by d.filled) ≤ size - 7
unfolding index_size
room-shortest size d ib l same =
    let h : 24 + width_in d * length d.free + parts_size (width_in d) (packed_all (entries_of d.filled)) ≤ size - 7 = laid-fits (width_in d) size (meaning_of d) ib l same in
    omega (arith, h, entries-need (width_in d) d.filled)
