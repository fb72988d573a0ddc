-- Laws of the room counted one record after another: one more at the end, and what a record takes before those after it.
use Prim.Native.Nat.{ℕ, suc, ◌+◌, ◌-◌, ◌*◌, ◌≤◌, ◌<◌}
use mathlib.Core.Path.{◌≡◌, refl, ◌∙◌, sym}
use mathlib.Core.Bool.{Bool, true, false}
use mathlib.Core.List.{List, [], ◌∷◌, ◌++◌}
use lib.ListN.{length, take, drop, get_or, length-append, length-drop, get_or-append}
use lib.Seq.{drop-cons, take-suc, get_or-append_seam}
use lib.Dec.{eqb, leb}
use native.Mathlib.Omega.{arith}
use native.Mathlib.Numerals.{add-one}
use borrow.Author.Tests.{eqb-true, eqb-false, eq-eqb, ne_eqb, le-leb}
use Rattle.fields.specs.Choice.{pick, both}
use Rattle.fields.specs.Lists.{sum}
use Rattle.fields.proofs.Choices.{both_false, both_true}
use Rattle.fields.proofs.Lists.{sum-append}
use Rattle.room.specs.Room.{rdf_count, push, groups, need}
use Rattle.room.specs.AidSteps.{last_length, starts, again, ahead, ended, behind, run_of, room_of, also}
use Rattle.room.specs.declared.Room.{Room}
use Rattle.room.proofs.Need.{groups-marks, marks-snoc}

abbrev pub room : ℕ → ℕ → ℕ → ℕ → Room
room b k l n = record { bytes = b; rdfs = k; last = l; run = n }

-- the four ways in which a record is added
module _ (r : Room) (l : ℕ) where
  pub also-first : r.run ≡ 0 → room (r.bytes + l) (r.rdfs + 1) l 1 ≡ also r l
  unfolding also
  also-first e = rw (eq-eqb r.run 0 e)

  pub also-other : (r.run ≡ 0 → ⊥) → (r.last ≡ l → ⊥) → room (r.bytes + l) (r.rdfs + 1) l 1 ≡ also r l
  unfolding also
  also-other e f = rw (ne_eqb r.run 0 e, ne_eqb r.last l f)

  pub also-second : (r.run ≡ 0 → ⊥) → r.last ≡ l → r.run ≡ 1 → room (r.bytes + l) (r.rdfs + 1) l 2 ≡ also r l
  unfolding also
  also-second e f g = rw (ne_eqb r.run 0 e, eq-eqb r.last l f, eq-eqb r.run 1 g)

  pub also-more : (r.run ≡ 0 → ⊥) → r.last ≡ l → (r.run ≡ 1 → ⊥) → room (r.bytes + l) r.rdfs l 2 ≡ also r l
  unfolding also
  also-more e f g = rw (ne_eqb r.run 0 e, eq-eqb r.last l f, ne_eqb r.run 1 g)

-- Adding a record to the room of some gives the room of all.

rdfs-snoc : (ls : List ℕ) (l : ℕ) (t : Bool) → ended ls l ≡ t
    → rdf_count (groups (ls ++ l ∷ [])) ≡ pick t (rdf_count (groups ls)) (rdf_count (groups ls) + 1)
rdfs-snoc ls l t e = go t (seen t e)
  where
    seen : (t : Bool) → ended ls l ≡ t → behind ls l ≡ pick t 0 3
    seen t e = unfold behind in rw e

    go : (t : Bool) → behind ls l ≡ pick t 0 3
        → rdf_count (groups (ls ++ l ∷ [])) ≡ pick t (rdf_count (groups ls)) (rdf_count (groups ls) + 1)
    go true f = omega (arith, groups-marks (ls ++ l ∷ []), groups-marks ls, marks-snoc ls l, f)
    go false f = omega (arith, groups-marks (ls ++ l ∷ []), groups-marks ls, marks-snoc ls l, f)

sum-snoc : (ls : List ℕ) (l : ℕ) → sum (ls ++ l ∷ []) ≡ sum ls + l
sum-snoc ls l = sum-append ls (l ∷ []) ∙ (unfold sum in omega arith)

last_snoc : (ls : List ℕ) (l : ℕ) → last_length (ls ++ l ∷ []) ≡ l
unfolding last_length
last_snoc ls l =
    let e : length (ls ++ l ∷ []) - 1 ≡ length ls = omega (arith, length-append ls (l ∷ [])) in
    rw e (get_or-append_seam ls l [] 0)

run-snoc : (ls : List ℕ) (l : ℕ) → 1 ≤ length ls → run_of (ls ++ l ∷ []) ≡ pick (eqb (last_length ls) l) 2 1
unfolding run_of last_length
run-snoc ls l h =
    let n = length-append ls (l ∷ []) in
    let e : length (ls ++ l ∷ []) - 1 ≡ length ls = omega arith in
    let f : length (ls ++ l ∷ []) - 2 ≡ length ls - 1 = omega arith in
    rw (e, f, get_or-append_seam ls l [] 0, get_or-append ls (l ∷ []) 0 (length ls - 1) (omega arith), le-leb 1 (length (ls ++ l ∷ [])) (omega arith), le-leb 2 (length (ls ++ l ∷ [])) (omega arith))

-- do the last two make a run?
paired : List ℕ → Bool
paired ls = both (leb 2 (length ls)) (eqb (get_or ls (length ls - 2) 0) (get_or ls (length ls - 1) 0))

run_is : (ls : List ℕ) → 1 ≤ length ls → run_of ls ≡ pick (paired ls) 2 1
unfolding run_of paired
run_is ls h = rw (le-leb 1 (length ls) h)

ended-other : (ls : List ℕ) (l : ℕ) → eqb (last_length ls) l ≡ false → ended ls l ≡ false
unfolding ended last_length
ended-other ls l e =
    rw (e, both_false (eqb (get_or ls (length ls - 2) 0) l), both_false (leb 2 (length ls)))

ended_same : (ls : List ℕ) (l : ℕ) → last_length ls ≡ l → ended ls l ≡ paired ls
unfolding ended last_length paired
ended_same ls l e = rw (e, eq-eqb l l refl, both_true (eqb (get_or ls (length ls - 2) 0) l))

run-some : (t : Bool) (n : ℕ) → n ≡ pick t 2 1 → n ≡ 0 → ⊥
run-some true n f e = omega arith
run-some false n f e = omega arith

snoc-some : (ls : List ℕ) (l : ℕ) → 1 ≤ length ls → also (room_of ls) l ≡ room_of (ls ++ l ∷ [])
unfolding room_of
snoc-some ls l h =
    rw (sum-snoc ls l, last_snoc ls l, run-snoc ls l h) (go (eqb (last_length ls) l) refl (paired ls) refl)
  where
    r : Room
    r = room (sum ls) (rdf_count (groups ls)) (last_length ls) (run_of ls)

    n : run_of ls ≡ 0 → ⊥
    n = run-some (paired ls) (run_of ls) (run_is ls h)

    go : (t : Bool) → eqb (last_length ls) l ≡ t → (u : Bool) → paired ls ≡ u
        → also r l ≡ room (sum ls + l) (rdf_count (groups (ls ++ l ∷ []))) l (pick t 2 1)
    go false e u f = rw (rdfs-snoc ls l false (ended-other ls l e)) (sym (also-other r l n (eqb-false (last_length ls) l e)))
    go true e true f =
        let q : last_length ls ≡ l = eqb-true (last_length ls) l e in
        let g : run_of ls ≡ 2 = run_is ls h ∙ rw f in
        rw (rdfs-snoc ls l true (ended_same ls l q ∙ f)) (sym (also-more r l n q (λ (z : run_of ls ≡ 1). omega arith)))
    go true e false f =
        let q : last_length ls ≡ l = eqb-true (last_length ls) l e in
        let g : run_of ls ≡ 1 = run_is ls h ∙ rw f in
        rw (rdfs-snoc ls l false (ended_same ls l q ∙ f)) (sym (also-second r l n q g))

pub room-none : room_of [] ≡ room 0 0 0 0
unfolding room_of last_length run_of sum groups rdf_count
room-none = refl

pub snoc : (ls : List ℕ) (l : ℕ) → also (room_of ls) l ≡ room_of (ls ++ l ∷ [])
snoc [] l = rw room-none (unfold also room_of last_length run_of sum groups rdf_count push in (rw (sides l)))
  where
    sides : (l : ℕ) → l + 0 ≡ 0 + l
    sides l = omega arith
snoc (a ∷ ls) l = snoc-some (a ∷ ls) l (omega arith)

-- one turn of a loop over the lengths
pub snoc-at : (ls : List ℕ) (i : ℕ) (r : Room) → i < length ls → r ≡ room_of (take i ls) → also r (get_or ls i 0) ≡ room_of (take (i + 1) ls)
snoc-at ls i r h e = rw (e, add-one, take-suc ls i 0 h) (snoc (take i ls) (get_or ls i 0))

-- and over their sum
pub sum-turn : (ls : List ℕ) (i n : ℕ) → i < length ls → n ≡ sum (take i ls) → n + get_or ls i 0 ≡ sum (take (i + 1) ls)
sum-turn ls i n h e = rw (e, add-one, take-suc ls i 0 h) (sym (sum-snoc (take i ls) (get_or ls i 0)))

pub also-bytes : (r : Room) (l : ℕ) → (also r l).bytes ≡ r.bytes + l
unfolding also
also-bytes r l = go (eqb r.run 0) (eqb r.last l)
  where
    go : (t u : Bool) → (pick t (room (r.bytes + l) (r.rdfs + 1) l 1) (pick u (room (r.bytes + l) (pick (eqb r.run 1) (r.rdfs + 1) r.rdfs) l 2) (room (r.bytes + l) (r.rdfs + 1) l 1))).bytes
        ≡ r.bytes + l
    go true u = refl
    go false true = refl
    go false false = refl

pub also-rdfs : (r : Room) (l : ℕ) → (also r l).rdfs ≤ r.rdfs + 1
unfolding also
also-rdfs r l = go (eqb r.run 0) (eqb r.last l) (eqb r.run 1)
  where
    go : (t u v : Bool) → (pick t (room (r.bytes + l) (r.rdfs + 1) l 1) (pick u (room (r.bytes + l) (pick v (r.rdfs + 1) r.rdfs) l 2) (room (r.bytes + l) (r.rdfs + 1) l 1))).rdfs ≤ r.rdfs + 1
    go true u v = omega arith
    go false true true = omega arith
    go false true false = omega arith
    go false false v = omega arith

-- What a record takes before those after it, by places.

ahead-few : (l : ℕ) (xs : List ℕ) → length xs ≤ 1 → 3 ≡ ahead l xs
unfolding ahead again starts
ahead-few l [] h = refl
ahead-few l (a ∷ []) h = rw (both_false (eqb l a))
ahead-few l (a ∷ b ∷ xs) h = absurd (omega arith)

ahead-pick : (l a b : ℕ) (xs : List ℕ) (t u : Bool) → eqb l a ≡ t → eqb l b ≡ u → ahead l (a ∷ b ∷ xs) ≡ pick (both t u) 0 3
unfolding ahead again starts
ahead-pick l a b xs t u e f = rw (e, f)

module _ (ls : List ℕ) (i : ℕ) where
  pub ahead-end : i < length ls → length ls - i ≤ 2 → 3 ≡ ahead (get_or ls i 0) (drop (i + 1) ls)
  ahead-end h k = ahead-few (get_or ls i 0) (drop (i + 1) ls) (omega (arith, length-drop (i + 1) ls))

  next-two : 2 < length ls - i → drop (i + 1) ls ≡ get_or ls (i + 1) 0 ∷ get_or ls (i + 2) 0 ∷ drop (i + 3) ls
  next-two h =
      let e : suc (i + 1) ≡ i + 2 = omega arith in
      let f : suc (i + 2) ≡ i + 3 = omega arith in
      let p : i + 1 < length ls = omega arith in
      let q : i + 2 < length ls = omega arith in
      rw (drop-cons ls (i + 1) 0 p, e, drop-cons ls (i + 2) 0 q, f)

  pub ahead-first : 2 < length ls - i → (get_or ls i 0 ≡ get_or ls (i + 1) 0 → ⊥) → 3 ≡ ahead (get_or ls i 0) (drop (i + 1) ls)
  ahead-first h n = rw (next-two h) (sym (ahead-pick _ _ _ _ false _ (ne_eqb _ _ n) refl))

  pub ahead-second : 2 < length ls - i → get_or ls i 0 ≡ get_or ls (i + 1) 0 → (get_or ls i 0 ≡ get_or ls (i + 2) 0 → ⊥)
      → 3 ≡ ahead (get_or ls i 0) (drop (i + 1) ls)
  ahead-second h e n = rw (next-two h) (sym (ahead-pick _ _ _ _ true false (eq-eqb _ _ e) (ne_eqb _ _ n)))

  pub ahead-both : 2 < length ls - i → get_or ls i 0 ≡ get_or ls (i + 1) 0 → get_or ls i 0 ≡ get_or ls (i + 2) 0
      → 0 ≡ ahead (get_or ls i 0) (drop (i + 1) ls)
  ahead-both h e n = rw (next-two h) (sym (ahead-pick _ _ _ _ true true (eq-eqb _ _ e) (eq-eqb _ _ n)))

-- What the struct holds is the need.

pub room-of-need : (ls : List ℕ) → (room_of ls).bytes + 3 * (room_of ls).rdfs + 4 ≡ need ls
unfolding need room_of
room-of-need ls = refl

pub room-of-bytes : (ls : List ℕ) → (room_of ls).bytes ≡ sum ls
unfolding room_of
room-of-bytes ls = refl
