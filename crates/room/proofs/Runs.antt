-- Runs of equal lengths: the first group of some lengths is the run that they begin with, and the room that a run adds is counted at once.
use Prim.Native.Nat.{ℕ, zero, suc, ◌+◌, ◌*◌, ◌<◌, ◌≤◌}
use mathlib.Core.Path.{◌≡◌, refl, ◌∙◌, sym, ap}
use mathlib.Core.Bool.{Bool, true, false}
use mathlib.Core.List.{List, [], ◌∷◌, ◌++◌, append-nil}
use lib.ListN.{length, get_or, take, drop, drop_of_length-le, replicate, length-replicate}
use lib.Seq.{drop-cons, drop-drop, take-add, take_at, append_snoc}
use lib.Dec.{eqb}
use native.Mathlib.Omega.{arith}
use native.Mathlib.Nat.{add_assoc, zero-mul, suc-mul}
use native.Mathlib.Numerals.{add-one}
use borrow.Author.Tests.{eqb-true, eq-eqb, ne_eqb}
use Rattle.fields.specs.Choice.{pick}
use Rattle.room.specs.Room.{described, Group, push, groups}
use Rattle.room.specs.AidSteps.{room_of, also, also_run, RunAt}
use Rattle.room.specs.declared.Room.{Room}
use Rattle.room.proofs.Need.{group, spelt-groups}
use Rattle.room.proofs.Steps.{room, snoc, also-bytes, also-rdfs}

-- how many of the first lengths are l
unfoldable pub lead : ℕ → List ℕ → ℕ
lead l [] = 0
lead l (x ∷ xs) = pick (eqb l x) (suc (lead l xs)) 0

-- the first group of some lengths is the run that they begin with
groups-lead : (l : ℕ) (ys : List ℕ) → groups (l ∷ ys) ≡ group l (suc (lead l ys)) ∷ groups (drop (lead l ys) ys)
unfolding groups push lead
groups-lead l [] = refl
groups-lead l (m ∷ zs) = go (eqb l m) refl (groups-lead m zs)
  where
    go : (t : Bool) → eqb l m ≡ t → groups (m ∷ zs) ≡ group m (suc (lead m zs)) ∷ groups (drop (lead m zs) zs)
        → push l (groups (m ∷ zs)) ≡ group l (suc (pick t (suc (lead l zs)) 0)) ∷ groups (drop (pick t (suc (lead l zs)) 0) (m ∷ zs))
    go true e i = rw (i, e, eqb-true l m e)
    go false e i = rw (i, e)

-- and so it is from place i on
pub groups-at : (xs : List ℕ) (i c : ℕ) → i < length xs → c ≡ 1 + lead (get_or xs i 0) (drop (i + 1) xs)
    → groups (drop i xs) ≡ group (get_or xs i 0) c ∷ groups (drop (i + c) xs)
groups-at xs i c h q =
    let l : ℕ = get_or xs i 0 in
    let n : ℕ = lead l (drop (i + 1) xs) in
    let e : drop i xs ≡ l ∷ drop (i + 1) xs = rw add-one (drop-cons xs i 0 h) in
    let f : drop n (drop (i + 1) xs) ≡ drop (i + (1 + n)) xs = rw (drop-drop n (i + 1) xs, add_assoc) in
    let o : 1 + n ≡ suc n = omega arith in
    rw (e, q) (groups-lead l (drop (i + 1) xs) ∙ rw (f, o))

-- one more of a run, and its end
module _ (l : ℕ) (xs : List ℕ) (j : ℕ) where
  pub lead-more : j < length xs → get_or xs j 0 ≡ l → lead l (drop j xs) ≡ suc (lead l (drop (j + 1) xs))
  unfolding lead
  lead-more h e = rw (add-one, drop-cons xs j 0, eq-eqb l (get_or xs j 0) (sym e))

  pub lead-none : j < length xs → (get_or xs j 0 ≡ l → ⊥) → lead l (drop j xs) ≡ 0
  unfolding lead
  lead-none h e = rw (drop-cons xs j 0, ne_eqb l (get_or xs j 0) (λ z. e (sym z)))

  pub lead-end : length xs ≤ j → lead l (drop j xs) ≡ 0
  unfolding lead
  lead-end h = rw (drop_of_length-le xs)

abbrev first_count : List Group → ℕ
first_count [] = 0
first_count (g ∷ gs) = g.count

-- a run has one count
pub run-unique : (ls : List ℕ) (i r s : ℕ) → RunAt ls i r → RunAt ls i s → r ≡ s
run-unique ls i r s p q = ap first_count (sym p ∙ q)

-- what the first group from place i on counts is what stands there
run-lengths : (ls : List ℕ) (i k : ℕ) → RunAt ls i k → take k (drop i ls) ≡ replicate k (get_or ls i 0)
unfolding described
run-lengths ls i k g =
    let l : ℕ = get_or ls i 0 in
    let e : drop i ls ≡ replicate k l ++ described (groups (drop (i + k) ls)) = sym (spelt-groups (drop i ls)) ∙ ap described g in
    rw e (take_at (replicate k l) _ k (length-replicate k l))

-- ---- the room with a run more

-- the records of a run, one after another
run-snoc : (k l : ℕ) (ls : List ℕ) → also_run (room_of ls) l k ≡ room_of (ls ++ replicate k l)
unfolding also_run
run-snoc zero l ls = rw (append-nil ls)
run-snoc (suc k) l ls = rw (snoc ls l) (run-snoc k l (ls ++ l ∷ []) ∙ rw (append_snoc ls l (replicate k l)))

-- one turn of a loop over the runs
pub run-turn : (ls : List ℕ) (i k : ℕ) (r : Room) → RunAt ls i k → r ≡ room_of (take i ls) → also_run r (get_or ls i 0) k ≡ room_of (take (i + k) ls)
run-turn ls i k r g e = rw (e, take-add i k ls, run-lengths ls i k g) (run-snoc k (get_or ls i 0) (take i ls))

pub run-bytes : (k l : ℕ) (r : Room) → (also_run r l k).bytes ≡ r.bytes + k * l
unfolding also_run
run-bytes zero l r = omega (arith, zero-mul l)
run-bytes (suc k) l r = omega (arith, run-bytes k l (also r l), also-bytes r l, suc-mul k l)

pub run-rdfs : (k l : ℕ) (r : Room) → (also_run r l k).rdfs ≤ r.rdfs + k
unfolding also_run
run-rdfs zero l r = omega arith
run-rdfs (suc k) l r = omega (arith, run-rdfs k l (also r l), also-rdfs r l)

-- a record after one as long ends a run
also-same : (r : Room) (l : ℕ) → (r.run ≡ 0 → ⊥) → r.last ≡ l → also r l ≡ room (r.bytes + l) (also r l).rdfs l 2
unfolding also
also-same r l e f = rw (ne_eqb r.run 0 e, eq-eqb r.last l f)

also-last : (r : Room) (l : ℕ) → (also r l).last ≡ l
unfolding also
also-last r l = go (eqb r.run 0) (eqb r.last l)
  where
    go : (t u : Bool)
        → (pick t (room (r.bytes + l) (r.rdfs + 1) l 1) (pick u (room (r.bytes + l) (pick (eqb r.run 1) (r.rdfs + 1) r.rdfs) l 2) (room (r.bytes + l) (r.rdfs + 1) l 1))).last ≡ l
    go true u = refl
    go false true = refl
    go false false = refl

also-some : (r : Room) (l : ℕ) → (also r l).run ≡ 0 → ⊥
unfolding also
also-some r l = go (eqb r.run 0) (eqb r.last l)
  where
    go : (t u : Bool)
        → (pick t (room (r.bytes + l) (r.rdfs + 1) l 1) (pick u (room (r.bytes + l) (pick (eqb r.run 1) (r.rdfs + 1) r.rdfs) l 2) (room (r.bytes + l) (r.rdfs + 1) l 1))).run ≡ 0 → ⊥
    go true u e = omega arith
    go false true e = omega arith
    go false false e = omega arith

-- later records of a run only raise its count
run_on : (k b d l : ℕ) → also_run (room b d l 2) l k ≡ room (b + k * l) d l 2
unfolding also_run
run_on zero b d l =
    let e : b + zero * l ≡ b = omega (arith, zero-mul l) in
    rw e
run_on (suc k) b d l =
    let e : b + l + k * l ≡ b + suc k * l = omega (arith, suc-mul k l) in
    rw (third b d l) (run_on k (b + l) d l ∙ rw e)
  where
    third : (b d l : ℕ) → also (room b d l 2) l ≡ room (b + l) d l 2
    third b d l = unfold also in rw (eq-eqb l l refl)

-- so a run of two or more is two records, and the bytes of all
pub run-two : (r : Room) (l k : ℕ) → 2 ≤ k → room (r.bytes + k * l) (also (also r l) l).rdfs l 2 ≡ also_run r l k
unfolding also_run
run-two r l zero h = absurd (omega arith)
run-two r l (suc zero) h = absurd (omega arith)
run-two r l (suc (suc k)) h =
    let s : Room = also r l in
    let t : also s l ≡ room (s.bytes + l) (also s l).rdfs l 2 = also-same s l (also-some r l) (also-last r l) in
    let e : r.bytes + suc (suc k) * l ≡ s.bytes + l + k * l = omega (arith, also-bytes r l, suc-mul (suc k) l, suc-mul k l) in
    let f : also_run (also s l) l k ≡ room (s.bytes + l + k * l) (also s l).rdfs l 2 = ap (λ (x : Room). also_run x l k) t ∙ run_on k (s.bytes + l) (also s l).rdfs l in
    rw e (sym f)

pub run-one : (r : Room) (l : ℕ) → also r l ≡ also_run r l 1
unfolding also_run
run-one r l = refl
