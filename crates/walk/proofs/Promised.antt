-- What the four functions promise together: document 02, L1. A walk that begins on a sound area gives its records, each as its part of the area, and then the empty part for
-- ever; it is refused exactly as its table says; and whatever area and place are given, a record is empty or a part of that area.
use Rattle.std.specs.Prelude.{Err, Ok}
use Prim.Native.Nat.{ℕ, zero, suc, ◌+◌, ◌-◌, ◌≤◌, ◌<◌}
use mathlib.Core.Path.{◌≡◌, refl, ◌∙◌, sym, ap}
use mathlib.Core.Bool.{Bool, true, false}
use mathlib.Core.List.{List, [], ◌∷◌}
use mathlib.Core.Logic.{◌⊎◌, inl, inr, ⊎_elim}
use lib.ListN.{length, get_or}
use lib.Dec.{ltb}
use native.Mathlib.Omega.{arith}
use borrow.Author.Tests.{ltb-false}
use Rattle.fields.specs.Choice.{pick, either}
use Rattle.fields.specs.Bytes.{part}
use Rattle.fields.proofs.Splices.{length-mid}
use Rattle.measures.specs.Judgement.{asked, judged_of, passed}
use Rattle.measures.specs.declared.Measures.{Measures}
use Rattle.area.specs.Content.{Content}
use Rattle.area.specs.Reading.{read_area, whole}
use Rattle.requests.specs.Walks.{Item, refused_with, giving, head_fine, if_some, walk_of, walk_from_of, walk_end_of}
use Rattle.requests.specs.declared.Refusal.{Refusal}
use Rattle.requests.specs.declared.Refusal.TheVariants.{WrongLength, Absent}
use Rattle.requests.proofs.Gets.{judged-least}
use Rattle.requests.proofs.Items.{none}
use Rattle.requests.proofs.Walks.{walk-some}
use Rattle.promises.specs.Tables.{First}
use Rattle.walk.specs.declared.Place.{Place}
use Rattle.walk.specs.AidSteps.{next_of, outside, record_of, begins_in, Shown, steps_from}
use Rattle.walk.specs.AidGives.{Begun, Gives, Begins}
use Rattle.walk.specs.Refusals.{number_in, from_table, end_table}
use Rattle.walk.proofs.Refusals.{from-refusals, end-refusals}
use contract.Lifetimes.{Lfts}
use denote.Ref.{Bor}
use Rattle.walk.proofs.walk_next.Reads as walk-next
use Rattle.walk.proofs.walk_record.Reads as walk-record
use Rattle.walk.proofs.walk_from.Reads as walk_from
use Rattle.walk.proofs.walk_end.Reads as walk_end

-- ---- any area, any place

-- The record of a place, whatever area and place are given, is empty or lies in the area.
pub record-lies : (area : List ℕ) (p : Place) → (record_of area p ≡ []) ⊎ ((p.start + p.length ≤ length area) × (record_of area p ≡ part area p.start p.length))
record-lies area p = go (ltb (length area) p.start) (ltb (length area - p.start) p.length) refl refl
  where
    go : (s t : Bool) → ltb (length area) p.start ≡ s → ltb (length area - p.start) p.length ≡ t
        → (pick (either s t) [] (part area p.start p.length) ≡ [])
        ⊎ ((p.start + p.length ≤ length area) × (pick (either s t) [] (part area p.start p.length) ≡ part area p.start p.length))
    go true t e f = inl refl
    go false true e f = inl refl
    go false false e f = inr (omega (arith, ltb-false (length area) p.start e, ltb-false (length area - p.start) p.length f), refl)

-- so it is the part that begins there and is as long
record-part : (area : List ℕ) (p : Place) → record_of area p ≡ part area p.start (length (record_of area p))
record-part area p =
    ⊎_elim (λ (e : record_of area p ≡ []). e ∙ ap (λ (r : List ℕ). part area p.start (length r)) (sym e))
    (λ (h : (p.start + p.length ≤ length area) × (record_of area p ≡ part area p.start p.length)).
    let l : length (record_of area p) ≡ p.length = ap length h.1 ∙ length-mid area p.start p.length h.0 in
    h.1 ∙ ap (λ (x : ℕ). part area p.start x) (sym l))
    (record-lies area p)

-- ---- a walk, as its caller learns it

-- A walk that began: from the bytes of a key, or from an end, where no bytes are given.
pub data Began : Bor (List ℕ) → Measures → Bool → List ℕ → Begun → Type 1 where
  from_bytes : (κs : _) (args : _) (r : Begun) (e : _) → walk_from.Learnt κs args r e
      → Began args.0 (asked args.1.0) args.1.1.0 args.1.1.1.0.now r
  from_end : (κs : _) (args : _) (r : Begun) (e : _) → walk_end.Learnt κs args r e → Began args.0 (asked args.1.0) args.1.1.0 [] r

-- Places one after another, each of them what `walk_next` gave for the one before, and for each the part that `walk_record` gave.
pub record Run (area : Bor (List ℕ)) (size : ℕ) (forward : Bool) (places : ℕ → Place) (parts : ℕ → Bor (List ℕ)) : Type 0 where
  pub κs : ℕ → Lfts 1
  pub next-ends : (k : ℕ) → _
  pub next : (k : ℕ) → walk-next.Learnt (κs k) (area, (size, (forward, (places k, tt)))) (places (suc k)) (next-ends k)
  pub part-ends : (k : ℕ) → _
  pub shows : (k : ℕ) → walk-record.Learnt (κs k) (area, (places k, tt)) (parts k) (part-ends k)

-- The parts are those of the items, one after another, none of them empty: the item's bytes, lent where it begins in the area; then they are empty for ever.
pub record Given (area : Bor (List ℕ)) (items : List Item) (parts : ℕ → Bor (List ℕ)) : Type 0 where
  pub there : (k : ℕ) → k < length items → (parts k).now ≡ (get_or items k none).bytes
  pub lies : (k : ℕ) → k < length items → (parts k).ref_ptr ≡ (area.ref_ptr.0, area.ref_ptr.1 + (get_or items k none).start)
  pub inside : (k : ℕ) → k < length items → (parts k).now ≡ part area.now (get_or items k none).start (length (parts k).now)
  pub some : (k : ℕ) → k < length items → 0 < length (parts k).now
  pub ends : (k : ℕ) → length items ≤ k → (parts k).now ≡ []

-- ---- how it began

place_same : (p q : Place) → ◌≡◌ {A = Begun} (Ok p) (Ok q) → p ≡ q
place_same p q e = cc

module _ (area : List ℕ) (size : ℕ) (forward : Bool) (r : Begun) (p : Place) (at : r ≡ Ok p) where
  -- a walk that was refused stands at no place
  pub never : (a : Refusal) → r ≡ Err a → ⊥
  never a e = one (sym at ∙ e)
    where
      one : ◌≡◌ {A = Begun} (Ok p) (Err a) → ⊥
      one f = let z : ◌≡◌ {A = ℕ} 0 1 = cc in omega arith

  pub placed-gives : (items : List Item) → Begins area size forward (giving items) r → Gives area size forward items p
  placed-gives items b = rw (place_same p b.0 (sym at ∙ b.1)) b.2

  picked-gives : (t : Bool) (items : List Item) → Begins area size forward (pick t (if_some items) (refused_with WrongLength)) r → Gives area size forward items p
  picked-gives false items b = absurd (never WrongLength b)
  picked-gives true [] b = absurd (never Absent b)
  picked-gives true (i ∷ items) b = placed-gives (i ∷ items) b

-- From the place at which a walk began, the steps give the records of `walk_of`.
began-gives : (area : Bor (List ℕ)) (m : Measures) (forward : Bool) (given : List ℕ) (r : Begun) → Began area m forward given r → (p : Place) → r ≡ Ok p
    → (n : ℕ) (c : Content) → judged_of m (length area.now) ≡ passed m n
    → read_area m n area.now ≡ whole c → Gives area.now m.size forward (walk_of m forward given c) p
unfolding walk_from_of walk_end_of
began-gives _ _ _ _ _ (from_bytes κs args r e l) p at n c j w =
    picked-gives args.0.now args.1.0.size args.1.1.0 r p at (head_fine (asked args.1.0) args.1.1.1.0.now)
    (walk_of (asked args.1.0) args.1.1.0 args.1.1.1.0.now c)
    (rw (j, w) at l.0)
began-gives _ _ _ _ _ (from_end κs args r e l) p at n c j w =
    placed-gives args.0.now args.1.0.size args.1.1.0 r p at (walk_of (asked args.1.0) args.1.1.0 [] c) (rw (j, w) at l.0)

-- ---- step by step

steps_next : (k : ℕ) (area : List ℕ) (size : ℕ) (forward : Bool) (p : Place) → steps_from (suc k) area size forward p ≡ next_of area size forward (steps_from k area size forward p)
unfolding steps_from
steps_next zero area size forward p = refl
steps_next (suc k) area size forward p = steps_next k area size forward (next_of area size forward p)

-- a record that is not empty begins at its place
begins-there : (area : List ℕ) (p : Place) → 0 < length (record_of area p) → begins_in area p ≡ p.start
begins-there area p = go (outside area p)
  where
    go : (t : Bool) → 0 < length (pick t [] (part area p.start p.length)) → pick t 0 p.start ≡ p.start
    go true h = absurd (omega (arith, h))
    go false h = refl

module _ (area : Bor (List ℕ)) (size : ℕ) (forward : Bool) (places : ℕ → Place) (parts : ℕ → Bor (List ℕ))
    (next : (k : ℕ) → places (suc k) ≡ next_of area.now size forward (places k)) (shows : (k : ℕ) → Shown area (places k) (parts k)) where
  run-steps : (k : ℕ) → places k ≡ steps_from k area.now size forward (places 0)
  unfolding steps_from
  run-steps zero = refl
  run-steps (suc k) = next k ∙ ap (next_of area.now size forward) (run-steps k) ∙ sym (steps_next k area.now size forward (places 0))

  -- What the steps give, their parts are.
  run-given : (items : List Item) → ((k : ℕ) → k < length items → 0 < length (get_or items k none).bytes) → Gives area.now size forward items (places 0) → Given area items parts
  run-given items full g = record { there = there; lies = lies; inside = inside; some = some; ends = ends }
    where
      at : (k : ℕ) → (parts k).now ≡ record_of area.now (places k)
      at k = (shows k).bytes

      there : (k : ℕ) → k < length items → (parts k).now ≡ (get_or items k none).bytes
      there k h = at k ∙ ap (record_of area.now) (run-steps k) ∙ (g.there k h).1

      some : (k : ℕ) → k < length items → 0 < length (parts k).now
      some k h = omega (arith, ap length (there k h), full k h)

      start : (k : ℕ) → k < length items → (places k).start ≡ (get_or items k none).start
      start k h = ap (λ (p : Place). p.start) (run-steps k) ∙ (g.there k h).0

      lies : (k : ℕ) → k < length items → (parts k).ref_ptr ≡ (area.ref_ptr.0, area.ref_ptr.1 + (get_or items k none).start)
      lies k h =
          (shows k).lies
          ∙ ap (λ (s : ℕ). (area.ref_ptr.0, area.ref_ptr.1 + s)) (begins-there area.now (places k) (omega (arith, ap length (at k), some k h)) ∙ start k h)

      inside : (k : ℕ) → k < length items → (parts k).now ≡ part area.now (get_or items k none).start (length (parts k).now)
      inside k h =
          at k ∙ record-part area.now (places k) ∙ ap (λ (s : ℕ). part area.now s (length (record_of area.now (places k)))) (start k h)
          ∙ ap (λ (x : List ℕ). part area.now (get_or items k none).start (length x)) (sym (at k))

      ends : (k : ℕ) → length items ≤ k → (parts k).now ≡ []
      ends k h = at k ∙ ap (record_of area.now) (run-steps k) ∙ (g.ends k h).1

-- A walk that began, its steps and its parts, whoever took them: the parts are those of `walk_of`.
pub steps-give : (area : Bor (List ℕ)) (m : Measures) (forward : Bool) (given : List ℕ) (r : Begun) → Began area m forward given r
    → (places : ℕ → Place) (parts : ℕ → Bor (List ℕ)) → r ≡ Ok (places 0) → ((k : ℕ) → places (suc k) ≡ next_of area.now m.size forward (places k))
    → ((k : ℕ) → Shown area (places k) (parts k))
    → (n : ℕ) (c : Content) → judged_of m (length area.now) ≡ passed m n
    → read_area m n area.now ≡ whole c → Given area (walk_of m forward given c) parts
steps-give area m forward given r b places parts at next shows n c j w =
    let least = judged-least m area.now n j in
    run-given area m.size forward places parts next shows (walk_of m forward given c) (walk-some m n area.now c w least forward given)
    (began-gives area m forward given r b (places 0) at n c j w)

-- THE WALK. On a sound area a walk that has begun gives the records of `walk_of`, each as its part of the area: whatever the bytes given, or from an end, in
-- either direction. Said of what callers of `walk_from`, `walk_end`, `walk_next` and `walk_record` learn.
pub walk-gives : (area : Bor (List ℕ)) (m : Measures) (forward : Bool) (given : List ℕ) (r : Begun) → Began area m forward given r
    → (places : ℕ → Place) (parts : ℕ → Bor (List ℕ)) → r ≡ Ok (places 0) → Run area m.size forward places parts
    → (n : ℕ) (c : Content) → judged_of m (length area.now) ≡ passed m n
    → read_area m n area.now ≡ whole c → Given area (walk_of m forward given c) parts
walk-gives area m forward given r b places parts at run = steps-give area m forward given r b places parts at run.next run.shows

-- THE REFUSALS. From the bytes of a key 1, 2, 3, 5, from an end 1 and 2: with the number of the first condition that holds, and none where a walk begins.
pub walk-refusals : ((κs : _) (args : _) (r : Begun) (e : _) → walk_from.Learnt κs args r e
    → First (from_table (asked args.1.0) args.0.now args.1.1.0 args.1.1.1.0.now) (number_in r))
    × ((κs : _) (args : _) (r : Begun) (e : _) → walk_end.Learnt κs args r e
    → First (end_table (asked args.1.0) args.0.now) (number_in r))
walk-refusals = (
  λ κs args r e l. from-refusals (asked args.1.0) args.0.now args.1.1.0 args.1.1.1.0.now r l.0,
  λ κs args r e l. end-refusals (asked args.1.0) args.0.now args.1.1.0 r l.0,
)
