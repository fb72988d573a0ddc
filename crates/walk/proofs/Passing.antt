-- The entries of a whole area are met one after another, each with its number; past the last no entry ends anywhere.
use Prim.Native.Nat.{ℕ, zero, suc, ◌+◌, ◌≤◌, ◌<◌}
use mathlib.Core.Path.{◌≡◌, refl, ◌∙◌, ap}
use mathlib.Core.Bool.{Bool, true, false}
use mathlib.Core.List.{List, [], ◌∷◌}
use lib.ListN.{length, get_or}
use lib.Dec.{eqb, leb}
use native.Mathlib.Omega.{arith}
use native.Mathlib.Numerals.{add-one}
use borrow.Author.Tests.{ne_eqb}
use Rattle.std.specs.Prelude.{Option, Some}
use Rattle.index_walk.specs.declared.Met.{Met}
use Rattle.fields.specs.Choice.{pick}
use Rattle.measures.specs.Judgement.{Fits, width_for}
use Rattle.measures.specs.declared.Measures.{Measures}
use Rattle.index.specs.Meaning.{Meaning, numbers}
use Rattle.sections.specs.Reading.{read_index}
use Rattle.area.specs.Content.{Filled, Content, index_in, entries_of}
use Rattle.area.specs.Reading.{read_area, whole}
use Rattle.area.proofs.Filled.{length-entries}
use Rattle.area.proofs.Sounding.{sound-apart, sound-reads}
use Rattle.index_walk.specs.declared.Edge.{Edge}
use Rattle.index_walk.specs.AidPasses.{pass_of, met}
use Rattle.index_walk.proofs.Meeting.{Before, before-start, before-pass}
use Rattle.walk.specs.AidSteps.{past_by, edge_past_of}
use Rattle.walk.specs.AidStands.{nowhere, num_at, edge_at}

pub number_at : (fs : List Filled) (i : ℕ) → get_or (numbers (entries_of fs)) i 0 ≡ (get_or fs i nowhere).num
number_at [] i = refl
number_at (f ∷ fs) zero = refl
number_at (f ∷ fs) (suc i) = number_at fs i

width_few : (n : ℕ) → width_for n ≤ 4
unfolding width_for
width_few n = go (leb n 256)
  where
    go : (t : Bool) → pick t 1 2 ≤ 4
    go true = omega arith
    go false = omega arith

same_met : {x y : ℕ} {t u : Bool} (e : Edge) → x ≡ y → t ≡ u → ◌≡◌ {A = Option Met} (Some (met x e t)) (Some (met y e u))
same_met e p q = rw (p, q)

module _ (m : Measures) (n : ℕ) (area : List ℕ) (c : Content) (w : read_area m n area ≡ whole c) where
  -- the entries of the index record are those of the content
  pub entries-are : (read_index (width_for n) n (index_in m area)).entries ≡ entries_of c.filled
  entries-are = ap (λ (x : Meaning). x.entries) (sound-reads m n area c (sound-apart m n area c w))

  pub entries-many : length (read_index (width_for n) n (index_in m area)).entries ≡ length c.filled
  entries-many = ap length entries-are ∙ length-entries c.filled

  -- Entry i is met from where a pass stands past those before it; whether it is the last is told.
  pub record Passed (i : ℕ) : Type 0 where
    pub next : Edge
    pub met : pass_of (width_for n) (index_in m area) (edge_at m n area i) ≡ Some (met (num_at c i) next (eqb (suc i) (length c.filled)))
    pub some : 0 < (edge_at m n area i).right

  module _ (fits : Fits m n (length area)) where
    abbrev es : ℕ
    es = length (read_index (width_for n) n (index_in m area)).entries

    on : (i : ℕ) (e : Edge) → Before (width_for n) m.key n (index_in m area) i e → suc i < es
        → Before (width_for n) m.key n (index_in m area) (suc i) (past_by e (pass_of (width_for n) (index_in m area) e))
    on i e b h =
        let q = before-pass (width_for n) m.key n (index_in m area) i e (width_few n) b (omega arith) in
        rw (q.met, ne_eqb (i + 1) es (omega arith)) (rw add-one at q.stands)

    stands : (i : ℕ) → i < es → Before (width_for n) m.key n (index_in m area) i (edge_at m n area i)
    unfolding edge_past_of
    stands zero h = before-start (width_for n) m.key n (index_in m area) fits.key-most (sound-apart m n area c w).index
    stands (suc i) h = on i (edge_at m n area i) (stands i (omega arith)) h

    pub passed-at : (i : ℕ) → i < length c.filled → Passed i
    passed-at i h =
        let l : i < es = omega (arith, entries-many) in
        let q = before-pass (width_for n) m.key n (index_in m area) i (edge_at m n area i) (width_few n) (stands i l) l in
        let k : get_or (numbers (read_index (width_for n) n (index_in m area)).entries) i 0 ≡ num_at c i = rw entries-are (number_at c.filled i) in
        let z : i + 1 ≡ suc i = omega arith in
        record {
          next = q.next;
          met = q.met ∙ same_met q.next k (ap (λ (l : ℕ). eqb (i + 1) l) entries-many ∙ ap (λ (x : ℕ). eqb x (length c.filled)) z);
          some = omega (arith, q.less);
        }
