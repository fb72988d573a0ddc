-- Laws of the room that records take: what the writer's groups describe, how the need grows with a record at either end,
-- that a part of the records never needs more than all of them, and that no other grouping takes fewer RDFs.
use Prim.Native.Nat.{ℕ, zero, suc, ◌+◌, ◌-◌, ◌*◌, ◌≤◌}
use mathlib.Core.Path.{◌≡◌, refl, ◌∙◌, sym, ap}
use mathlib.Core.Bool.{Bool, true, false}
use mathlib.Core.List.{List, [], ◌∷◌, ◌++◌, append-nil}
use lib.ListN.{length, replicate}
use lib.Seq.{append_snoc}
use lib.Dec.{eqb, leb}
use native.Mathlib.Omega.{arith}
use borrow.Author.Tests.{eqb-true, eqb-false, eq-eqb, ne_eqb, le-leb, lt-leb}
use Rattle.fields.specs.Choice.{pick, both}
use Rattle.fields.specs.Lists.{sum, every}
use Rattle.fields.proofs.Choices.{false-true, both-split, both_false}
use Rattle.fields.proofs.Lists.{sum-cons, sum-append}
use Rattle.room.specs.Room.{described, Group, all_counted, rdf_count, push, groups, need}
use Rattle.room.specs.AidSteps.{starts, again, ahead, marks, ended, behind}

-- so many records of one length, described together
abbrev pub group : ℕ → ℕ → Group
group l n = record { len = l; count = n }

-- What the writer's groups describe.

spelt-push : (l : ℕ) (gs : List Group) → described (push l gs) ≡ l ∷ described gs
unfolding push described
spelt-push l [] = refl
spelt-push l (g ∷ gs) = go (eqb l g.len) refl
  where
    go : (t : Bool) → eqb l g.len ≡ t → described (pick t (group l (suc g.count) ∷ gs) (group l 1 ∷ g ∷ gs)) ≡ l ∷ described (g ∷ gs)
    go true e = rw (eqb-true l g.len e)
    go false e = refl

-- the lengths that they were made of
pub spelt-groups : (ls : List ℕ) → described (groups ls) ≡ ls
unfolding groups described
spelt-groups [] = refl
spelt-groups (l ∷ ls) = spelt-push l (groups ls) ∙ ap (λ (x : List ℕ). l ∷ x) (spelt-groups ls)

counted-push : (l : ℕ) (gs : List Group) → all_counted gs ≡ true → all_counted (push l gs) ≡ true
unfolding push every
counted-push l [] e = refl
counted-push l (g ∷ gs) e = go (eqb l g.len)
  where
    go : (t : Bool) → all_counted (pick t (group l (suc g.count) ∷ gs) (group l 1 ∷ g ∷ gs)) ≡ true
    go true = rw (le-leb 1 (suc g.count) (omega arith)) (both-split (leb 1 g.count) (all_counted gs) e).1
    go false = e

-- each of them has a record
pub counted-groups : (ls : List ℕ) → all_counted (groups ls) ≡ true
unfolding groups every
counted-groups [] = refl
counted-groups (l ∷ ls) = counted-push l (groups ls) (counted-groups ls)

-- RDFs are counted record by record: `marks` adds up what `ahead` says of each.

again-not : (l : ℕ) (ls : List ℕ) → starts l ls ≡ false → again l ls ≡ false
unfolding starts again
again-not l [] e = refl
again-not l (a ∷ ls) e = rw e

marks-cons : (l : ℕ) (ls : List ℕ) (t : Bool) → again l ls ≡ t → marks (l ∷ ls) ≡ pick t 0 3 + marks ls
unfolding marks ahead
marks-cons l ls t e = rw e

starts-cons : (l a : ℕ) (ls : List ℕ) (t : Bool) → eqb l a ≡ t → starts l (a ∷ ls) ≡ t
unfolding starts
starts-cons l a ls t e = e

again-same : (l : ℕ) (ls : List ℕ) (t : Bool) → starts l ls ≡ t → again l (l ∷ ls) ≡ t
unfolding again
again-same l ls t e = rw (eq-eqb l l refl) e

rdfs-single : (l : ℕ) (gs : List Group) → rdf_count (group l 1 ∷ gs) ≡ 1 + rdf_count gs
unfolding rdf_count
rdfs-single l gs = refl

rdfs-run : (l n : ℕ) (gs : List Group) → rdf_count (group l (suc (suc n)) ∷ gs) ≡ 2 + rdf_count gs
unfolding rdf_count
rdfs-run l n gs = rw (lt-leb (suc (suc n)) 1 (omega arith))

-- what the groups of a list begin with: nothing, a single record, or a run; and that their RDFs are the marks
data Fronted : List ℕ → List Group → Type 0 where
  none : Fronted [] []
  single : {l : ℕ} {ls : List ℕ} {gs : List Group} → starts l ls ≡ false → 3 * rdf_count gs ≡ marks ls
      → Fronted (l ∷ ls) (group l 1 ∷ gs)
  run : {l n : ℕ} {ls : List ℕ} {gs : List Group} → starts l ls ≡ true → 3 * (2 + rdf_count gs) ≡ marks (l ∷ ls)
      → Fronted (l ∷ ls) (group l (suc (suc n)) ∷ gs)

fronted-push : (l : ℕ) {ls : List ℕ} {gs : List Group} → Fronted ls gs → Fronted (l ∷ ls) (push l gs)
unfolding push
fronted-push l none = single (no_start l) no-marks
  where
    no_start : (l : ℕ) → starts l [] ≡ false
    no_start l = unfold starts in refl

    no-marks : 3 * rdf_count [] ≡ marks []
    no-marks = unfold rdf_count marks in refl
fronted-push l (single {l = a} {ls = ls} {gs = gs} s m) = go (eqb l a) refl
  where
    go : (t : Bool) → eqb l a ≡ t → Fronted (l ∷ a ∷ ls) (pick t (group l 2 ∷ gs) (group l 1 ∷ group a 1 ∷ gs))
    go true e =
        let q : l ≡ a = eqb-true l a e in
        let x : marks (l ∷ a ∷ ls) ≡ 3 + marks (a ∷ ls) = rw q (marks-cons a (a ∷ ls) false (again-same a ls false s)) in
        let y : marks (a ∷ ls) ≡ 3 + marks ls = marks-cons a ls false (again-not a ls s) in
        let w : 3 * (2 + rdf_count gs) ≡ marks (l ∷ a ∷ ls) = omega arith in
        run {l = l} {n = 0} {ls = a ∷ ls} {gs = gs} (starts-cons l a ls true e) w
    go false e =
        let y : marks (a ∷ ls) ≡ 3 + marks ls = marks-cons a ls false (again-not a ls s) in
        let r = rdfs-single a gs in
        let w : 3 * rdf_count (group a 1 ∷ gs) ≡ marks (a ∷ ls) = omega arith in
        single {l = l} {ls = a ∷ ls} {gs = group a 1 ∷ gs} (starts-cons l a ls false e) w
fronted-push l (run {l = a} {n = n} {ls = ls} {gs = gs} s m) = go (eqb l a) refl
  where
    go : (t : Bool) → eqb l a ≡ t
        → Fronted (l ∷ a ∷ ls) (pick t (group l (suc (suc (suc n))) ∷ gs) (group l 1 ∷ group a (suc (suc n)) ∷ gs))
    go true e =
        let q : l ≡ a = eqb-true l a e in
        let x : marks (l ∷ a ∷ ls) ≡ 0 + marks (a ∷ ls) = rw q (marks-cons a (a ∷ ls) true (again-same a ls true s)) in
        let w : 3 * (2 + rdf_count gs) ≡ marks (l ∷ a ∷ ls) = omega arith in
        run {l = l} {n = suc n} {ls = a ∷ ls} {gs = gs} (starts-cons l a ls true e) w
    go false e =
        let r = rdfs-run a n gs in
        let w : 3 * rdf_count (group a (suc (suc n)) ∷ gs) ≡ marks (a ∷ ls) = omega arith in
        single {l = l} {ls = a ∷ ls} {gs = group a (suc (suc n)) ∷ gs} (starts-cons l a ls false e) w

fronted : (ls : List ℕ) → Fronted ls (groups ls)
unfolding groups
fronted [] = none
fronted (l ∷ ls) = fronted-push l (fronted ls)

fronted-marks : {ls : List ℕ} {gs : List Group} → Fronted ls gs → 3 * rdf_count gs ≡ marks ls
fronted-marks none = unfold rdf_count marks in refl
fronted-marks (single {l = l} {ls = ls} {gs = gs} s m) =
    omega (arith, rdfs-single l gs, marks-cons l ls false (again-not l ls s))
fronted-marks (run {l = l} {n = n} {ls = ls} {gs = gs} s m) = omega (arith, rdfs-run l n gs)

-- the two ways to count RDFs agree
pub groups-marks : (ls : List ℕ) → 3 * rdf_count (groups ls) ≡ marks ls
groups-marks ls = fronted-marks (fronted ls)

pub need-is : (ls : List ℕ) → need ls ≡ sum ls + marks ls + 4
unfolding need
need-is ls = omega (arith, groups-marks ls)

-- One record more at the front.

marks-more : (l : ℕ) (ls : List ℕ) → marks (l ∷ ls) ≡ ahead l ls + marks ls
unfolding marks
marks-more l ls = refl

pub need-cons : (l : ℕ) (ls : List ℕ) → need (l ∷ ls) ≡ l + ahead l ls + need ls
need-cons l ls = omega (arith, need-is (l ∷ ls), need-is ls, sum-cons l ls, marks-more l ls)

pub need-none : need [] ≡ 4
unfolding need sum groups rdf_count
need-none = refl

pub need-one : (l : ℕ) → need (l ∷ []) ≡ l + 7
unfolding need sum groups push rdf_count
need-one l = omega arith

-- One record more at the end. Where three or more stand before it, the first of them is not seen from the end.

ended-on : (a b c : ℕ) (xs : List ℕ) (y : ℕ) → ended (a ∷ b ∷ c ∷ xs) y ≡ ended (b ∷ c ∷ xs) y
unfolding ended
ended-on a b c xs y =
    let n = length xs in
    let e₁ : suc (suc (suc n)) - 2 ≡ suc (suc (suc n) - 2) = omega arith in
    let e₂ : suc (suc (suc n)) - 1 ≡ suc (suc (suc n) - 1) = omega arith in
    rw (e₁, e₂, le-leb 2 (suc (suc (suc n))) (omega arith), le-leb 2 (suc (suc n)) (omega arith))

both-same : (t : Bool) → both t t ≡ t
both-same true = refl
both-same false = refl

ended-two : (a b y : ℕ) → ended (a ∷ b ∷ []) y ≡ both (eqb a y) (eqb b y)
unfolding ended
ended-two a b y = refl

again_two : (a b y : ℕ) (ls : List ℕ) → again a (b ∷ y ∷ ls) ≡ both (eqb a b) (eqb a y)
unfolding again starts
again_two a b y ls = refl

-- three equal ones, seen from the first and from the last
again-ended : (a b y : ℕ) → again a (b ∷ y ∷ []) ≡ ended (a ∷ b ∷ []) y
again-ended a b y = again_two a b y [] ∙ go (eqb a b) refl (eqb a y) refl ∙ sym (ended-two a b y)
  where
    go : (t : Bool) → eqb a b ≡ t → (u : Bool) → eqb a y ≡ u → both t u ≡ both u (eqb b y)
    go true e u f =
        let q : a ≡ b = eqb-true a b e in
        let r : eqb b y ≡ u = rw q at f in
        rw r (sym (both-same u))
    go false e false f = refl
    go false e true f =
        let q : a ≡ y = eqb-true a y f in
        let r : b ≡ y → ⊥ = λ (z : b ≡ y). eqb-false a b e (q ∙ sym z) in
        rw (ne_eqb b y r)

ahead_none : (l : ℕ) → ahead l [] ≡ 3
unfolding ahead again
ahead_none l = refl

ahead-one : (l a : ℕ) → ahead l (a ∷ []) ≡ 3
unfolding ahead again starts
ahead-one l a = rw (both_false (eqb l a))

-- only the next two count
ahead-any : (l a b : ℕ) (xs ys : List ℕ) → ahead l (a ∷ b ∷ xs) ≡ ahead l (a ∷ b ∷ ys)
unfolding ahead again starts
ahead-any l a b xs ys = refl

behind-none : (y : ℕ) → behind [] y ≡ 3
unfolding behind ended
behind-none y = refl

behind-one : (a y : ℕ) → behind (a ∷ []) y ≡ 3
unfolding behind ended
behind-one a y = refl

ahead-behind : (a b y : ℕ) → ahead a (b ∷ y ∷ []) ≡ behind (a ∷ b ∷ []) y
unfolding ahead behind
ahead-behind a b y = rw (again-ended a b y)

behind-on : (a b c : ℕ) (xs : List ℕ) (y : ℕ) → behind (a ∷ b ∷ c ∷ xs) y ≡ behind (b ∷ c ∷ xs) y
unfolding behind
behind-on a b c xs y = rw (ended-on a b c xs y)

marks-none : marks [] ≡ 0
unfolding marks
marks-none = refl

pub marks-snoc : (xs : List ℕ) (y : ℕ) → marks (xs ++ y ∷ []) ≡ marks xs + behind xs y
marks-snoc [] y = omega (arith, marks-more y [], marks-none, ahead_none y, behind-none y)
marks-snoc (a ∷ []) y =
    omega
    (arith, marks-more a (y ∷ []), marks-more y [], marks-more a [], marks-none, ahead_none y, ahead_none a, ahead-one a y, behind-one a y)
marks-snoc (a ∷ b ∷ []) y =
    omega (
      arith,
      marks-more a (b ∷ y ∷ []),
      marks-more b (y ∷ []),
      marks-more y [],
      marks-more a (b ∷ []),
      marks-more b [],
      marks-none,
      ahead_none y,
      ahead_none b,
      ahead-one b y,
      ahead-one a b,
      ahead-behind a b y,
    )
marks-snoc (a ∷ b ∷ c ∷ xs) y =
    omega
    (arith, marks-more a (b ∷ c ∷ (xs ++ y ∷ [])), marks-more a (b ∷ c ∷ xs), ahead-any a b c (xs ++ y ∷ []) xs, behind-on a b c xs y, marks-snoc (b ∷ c ∷ xs) y)

pub need-snoc : (xs : List ℕ) (y : ℕ) → need (xs ++ y ∷ []) ≡ need xs + (y + behind xs y)
need-snoc xs y =
    omega
    (arith, need-is (xs ++ y ∷ []), need-is xs, marks-snoc xs y, sum-append xs (y ∷ []), sum-cons y [], sum-none)
  where
    sum-none : sum [] ≡ 0
    sum-none = unfold sum in refl

-- Records that stand together need no more than all do.

pub need-front : (xs ys : List ℕ) → need xs ≤ need (xs ++ ys)
need-front xs [] = rw (append-nil xs) (omega arith)
need-front xs (y ∷ ys) =
    let e : xs ++ (y ∷ []) ++ ys ≡ xs ++ y ∷ ys = append_snoc xs y ys in
    let i = rw e at (need-front (xs ++ y ∷ []) ys) in
    omega (arith, need-snoc xs y, i)

pub need-back : (xs ys : List ℕ) → need ys ≤ need (xs ++ ys)
need-back [] ys = omega arith
need-back (x ∷ xs) ys = omega (arith, need-cons x (xs ++ ys), need-back xs ys)

pub need-part : (xs ys zs : List ℕ) → need ys ≤ need (xs ++ (ys ++ zs))
need-part xs ys zs = omega (arith, need-front ys zs, need-back xs (ys ++ zs))

-- A record taken out never makes the need grow: the erase fits always. (A shorter one in its place may: it can break a run.)

again-true : (l a : ℕ) (ls : List ℕ) → again l (a ∷ ls) ≡ true → l ≡ a
unfolding again
again-true l a ls e = eqb-true l a (both-split (eqb l a) (starts l ls) e).0

ahead-most : (l : ℕ) (ls : List ℕ) → ahead l ls ≤ 3
unfolding ahead
ahead-most l ls = go (again l ls)
  where
    go : (t : Bool) → pick t 0 3 ≤ 3
    go true = omega arith
    go false = omega arith

ahead_of : (l : ℕ) (ls : List ℕ) (t : Bool) → again l ls ≡ t → ahead l ls ≡ pick t 0 3
unfolding ahead
ahead_of l ls t e = rw e

-- the record just before the one that goes, and the one before that
next-out : (a z : ℕ) (ys : List ℕ) → ahead a ys ≤ ahead a (z ∷ ys) + ahead z ys
next-out a z ys = go (again a (z ∷ ys)) refl
  where
    go : (t : Bool) → again a (z ∷ ys) ≡ t → ahead a ys ≤ ahead a (z ∷ ys) + ahead z ys
    go true e =
        let q : a ≡ z = again-true a z ys e in
        rw q (omega arith)
    go false e = omega (arith, ahead_of a (z ∷ ys) false e, ahead-most a ys)

second-out : (a b z : ℕ) (ys : List ℕ) → ahead a (b ∷ ys) + ahead b ys ≤ ahead a (b ∷ z ∷ ys) + (ahead b (z ∷ ys) + ahead z ys)
second-out a b z ys = go (again a (b ∷ z ∷ ys)) refl
  where
    go : (t : Bool) → again a (b ∷ z ∷ ys) ≡ t → ahead a (b ∷ ys) + ahead b ys ≤ ahead a (b ∷ z ∷ ys) + (ahead b (z ∷ ys) + ahead z ys)
    go true e =
        let q : a ≡ b = again-true a b (z ∷ ys) e in
        let r : a ≡ z = eqb-true a z (both-split (eqb a b) (eqb a z) (sym (again_two a b z ys) ∙ e)).1 in
        rw (← q, ← r) (omega arith)
    go false e = omega (arith, ahead_of a (b ∷ z ∷ ys) false e, ahead-most a (b ∷ ys), next-out b z ys)

marks-out : (xs : List ℕ) (z : ℕ) (ys : List ℕ) → marks (xs ++ ys) ≤ marks (xs ++ z ∷ ys)
marks-out [] z ys = omega (arith, marks-more z ys)
marks-out (a ∷ []) z ys = omega (arith, marks-more a ys, marks-more a (z ∷ ys), marks-more z ys, next-out a z ys)
marks-out (a ∷ b ∷ []) z ys =
    omega
    (arith, marks-more a (b ∷ ys), marks-more b ys, marks-more a (b ∷ z ∷ ys), marks-more b (z ∷ ys), marks-more z ys, second-out a b z ys)
marks-out (a ∷ b ∷ c ∷ xs) z ys =
    omega
    (arith, marks-more a (b ∷ c ∷ (xs ++ ys)), marks-more a (b ∷ c ∷ (xs ++ z ∷ ys)), ahead-any a b c (xs ++ ys) (xs ++ z ∷ ys), marks-out (b ∷ c ∷ xs) z ys)

pub need-out : (xs : List ℕ) (z : ℕ) (ys : List ℕ) → need (xs ++ ys) ≤ need (xs ++ z ∷ ys)
need-out xs z ys =
    omega
    (arith, need-is (xs ++ ys), need-is (xs ++ z ∷ ys), marks-out xs z ys, sum-append xs ys, sum-append xs (z ∷ ys), sum-cons z ys)

-- Any grouping whose groups have records takes at least as many RDFs as the writer's.

marks-run : (c l : ℕ) (xs : List ℕ) → marks (replicate (suc c) l ++ xs) ≤ 3 * pick (leb (suc c) 1) 1 2 + marks xs
marks-run zero l xs = omega (arith, marks-more l xs, ahead-most l xs)
marks-run (suc zero) l xs = omega (arith, marks-more l (l ∷ xs), marks-more l xs, ahead-most l xs, ahead-most l (l ∷ xs))
marks-run (suc (suc c)) l xs =
    let i = marks-run (suc c) l xs in
    let e : again l (l ∷ l ∷ (replicate c l ++ xs)) ≡ true = again_two l l l (replicate c l ++ xs) ∙ rw (eq-eqb l l refl) in
    let s : leb (suc (suc c)) 1 ≡ false = lt-leb (suc (suc c)) 1 (omega arith) in
    let t : leb (suc (suc (suc c))) 1 ≡ false = lt-leb (suc (suc (suc c))) 1 (omega arith) in
    let j = rw s at i in
    rw t (omega (arith, marks-cons l (l ∷ l ∷ (replicate c l ++ xs)) true e, j))

marks-group : (c l : ℕ) (xs : List ℕ) → leb 1 c ≡ true → marks (replicate c l ++ xs) ≤ 3 * pick (leb c 1) 1 2 + marks xs
marks-group zero l xs e = absurd (false-true e)
marks-group (suc c) l xs e = marks-run c l xs

marks-spelt : (gs : List Group) → all_counted gs ≡ true → marks (described gs) ≤ 3 * rdf_count gs
unfolding described every marks rdf_count
marks-spelt [] e = omega arith
marks-spelt (g ∷ gs) e =
    let s = both-split (leb 1 g.count) (all_counted gs) e in
    omega (arith, marks-group g.count g.len (described gs) s.0, marks-spelt gs s.1)

pub groups-fewest : (gs : List Group) → all_counted gs ≡ true → rdf_count (groups (described gs)) ≤ rdf_count gs
groups-fewest gs e = omega (arith, groups-marks (described gs), marks-spelt gs e)
