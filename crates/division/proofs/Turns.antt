-- The turns of the choice, and the ways out of it, over plain values.
use Prim.Native.Nat.{ℕ, suc, ◌+◌, ◌-◌, ◌*◌, ◌≤◌, ◌<◌}
use mathlib.Core.Path.{◌≡◌, refl, ◌∙◌, sym, ap}
use mathlib.Core.Bool.{Bool, true, false}
use mathlib.Core.List.{List}
use lib.ListN.{length, take, drop, get_or}
use lib.Seq.{drop-cons}
use lib.Dec.{eqb}
use native.Mathlib.Omega.{arith}
use native.Mathlib.Numerals.{add-one}
use borrow.Author.Tests.{ne_eqb, le-leb, lt-leb, lt-ltb, le-ltb}
use Rattle.std.specs.Prelude.{Option, Some, None}
use Rattle.fields.specs.Choice.{pick}
use Rattle.fields.specs.Lists.{sum}
use Rattle.fields.proofs.Lists.{sum-cons}
use Rattle.room.specs.Room.{need, fits}
use Rattle.room.specs.AidSteps.{ahead, room_of, also}
use Rattle.room.specs.declared.Room.{Room}
use Rattle.room.proofs.Need.{need-cons}
use Rattle.room.proofs.Steps.{room-of-need, room-of-bytes, room-none, snoc-at, also-bytes, also-rdfs}
use Rattle.division.specs.Division.{distance, difference, fitting, better, best_to, best_cut, by_cut, division_of}
use Rattle.division.specs.AidChoose.{cut_of, weighed}
use Rattle.division.specs.declared.Chosen.{Chosen}
use Rattle.division.specs.declared.Division.TheVariants.{Stays, Two, Three}

-- The ways out of weighing a cut.
module _ (best : Option Chosen) (cut b₁ n₁ b₂ n₂ s : ℕ) where
  pub left-large : s < n₁ → best ≡ weighed best cut b₁ n₁ b₂ n₂ s
  unfolding weighed
  left-large h = rw (lt-leb n₁ s h)

  module _ (h : n₁ ≤ s) where
    pub right-large : s < n₂ → best ≡ weighed best cut b₁ n₁ b₂ n₂ s
    unfolding weighed
    right-large k = rw (le-leb n₁ s h, lt-leb n₂ s k)

    module _ (k : n₂ ≤ s) (g : ℕ) (e : g ≡ distance b₁ b₂) where
      pub first-cut : best ≡ None → Some (record { cut = cut; difference = g }) ≡ weighed best cut b₁ n₁ b₂ n₂ s
      unfolding weighed
      first-cut z = rw (z, e, le-leb n₁ s h, le-leb n₂ s k)

      module _ (b : Chosen) (z : best ≡ Some b) where
        pub nearer-cut : g < b.difference → Some (record { cut = cut; difference = g }) ≡ weighed best cut b₁ n₁ b₂ n₂ s
        unfolding weighed
        nearer-cut l =
            let l' : distance b₁ b₂ < b.difference = rw e at l in
            rw (z, e, le-leb n₁ s h, le-leb n₂ s k, lt-ltb (distance b₁ b₂) b.difference l')

        pub no-nearer : b.difference ≤ g → Some b ≡ weighed best cut b₁ n₁ b₂ n₂ s
        unfolding weighed
        no-nearer l =
            let l' : b.difference ≤ distance b₁ b₂ = rw e at l in
            rw (z, le-leb n₁ s h, le-leb n₂ s k, le-ltb (distance b₁ b₂) b.difference l')

-- The best of the cuts up to i, and what its parts differ in.
abbrev pub Known : ℕ → List ℕ → ℕ → Option Chosen → Type 0
Known S ls i None = best_to S ls i ≡ 0
Known S ls i (Some best) = (0 < best.cut) × (best.cut ≡ best_to S ls i) × (best.difference ≡ difference ls best.cut)

-- before the first cut there is none
known-none : (S : ℕ) (ls : List ℕ) → Known S ls 0 None
unfolding best_to
known-none S ls = refl

picked : (S : ℕ) (ls : List ℕ) (i : ℕ) (best : Option Chosen) → Known S ls i best → (t : Bool) → better S ls (suc i) (best_to S ls i) ≡ t
    → Known S ls (suc i) (pick t (Some (record { cut = suc i; difference = difference ls (suc i) })) best)
unfolding best_to
picked S ls i best k true e = (omega arith, rw e, refl)
picked S ls i None k false e = rw e k
picked S ls i (Some best) k false e = (k.0, rw e k.1, k.2)

-- the step over numbers is the definition's choice
chosen : (S : ℕ) (ls : List ℕ) (i : ℕ) (best : Option Chosen) → Known S ls i best
    → weighed best (suc i) (room_of (take (suc i) ls)).bytes (need (take (suc i) ls)) (sum (drop (suc i) ls)) (need (drop (suc i) ls)) S
    ≡ pick (better S ls (suc i) (best_to S ls i)) (Some (record { cut = suc i; difference = difference ls (suc i) })) best
unfolding weighed better fitting difference fits room_of
chosen S ls i None k = rw k
chosen S ls i (Some best) k =
    let some : best_to S ls i ≡ 0 → ⊥ = omega (arith, k.0, k.1) in
    rw (k.2, k.1, ne_eqb (best_to S ls i) 0 some)

-- one cut more is weighed
known_more : (S : ℕ) (ls : List ℕ) (i : ℕ) (best : Option Chosen) (left : Room) (bytes n : ℕ) → left ≡ room_of (take (i + 1) ls)
    → bytes ≡ sum (drop (i + 1) ls) → n ≡ need (drop (i + 1) ls) → Known S ls i best
    → Known S ls (i + 1) (weighed best (i + 1) left.bytes (left.bytes + 3 * left.rdfs + 4) bytes n S)
known_more S ls i best left bytes n l b m k =
    rw (l, b, m, room-of-need (take (i + 1) ls), add-one, chosen S ls i best k) (picked S ls i best k (better S ls (suc i) (best_to S ls i)) refl)

-- What lies right of the place.
module _ (ls : List ℕ) (i : ℕ) (h : i < length ls) where
  sum_drop : sum (drop i ls) ≡ get_or ls i 0 + sum (drop (i + 1) ls)
  sum_drop = rw (add-one, drop-cons ls i 0 h) (sum-cons (get_or ls i 0) (drop (suc i) ls))

  need-drop : need (drop i ls) ≡ get_or ls i 0 + ahead (get_or ls i 0) (drop (i + 1) ls) + need (drop (i + 1) ls)
  need-drop = rw (add-one, drop-cons ls i 0 h) (need-cons (get_or ls i 0) (drop (suc i) ls))

-- What the loop holds at place i: the room left of it, bytes and need right of it, the best cut up to it; and bounds for the sums.
pub record Holds (S : ℕ) (ls : List ℕ) (i : ℕ) (left : Room) (bytes n : ℕ) (best : Option Chosen) : Type 0 where
  pub room : left ≡ room_of (take i ls)
  pub most : left.bytes ≤ 65535 * i
  pub many : left.rdfs ≤ i
  pub right : bytes ≡ sum (drop i ls)
  pub wants : n ≡ need (drop i ls)
  pub small : n < 1099511627776
  pub known : Known S ls i best

pub holds-start : (S : ℕ) (ls : List ℕ) (whole : Room) (n : ℕ) → whole ≡ room_of ls → whole.bytes < 4294967296 → whole.rdfs < 4294967296
    → n ≡ whole.bytes + 3 * whole.rdfs + 4
    → Holds S ls 0 (record { bytes = 0; rdfs = 0; last = 0; run = 0 }) whole.bytes n None
holds-start S ls whole n e h k w =
    record {
      room = sym room-none;
      most = omega arith;
      many = omega arith;
      right = bytes-is;
      wants = w ∙ rw e (room-of-need ls);
      small = omega arith;
      known = known-none S ls;
    }
  where
    bytes-is : whole.bytes ≡ sum ls
    bytes-is = rw e (room-of-bytes ls)

module _ (S : ℕ) (ls : List ℕ) (i : ℕ) (left : Room) (bytes n : ℕ) (best : Option Chosen) (w : Holds S ls i left bytes n best) where
  -- what goes over to the left part was in the right one
  pub holds-bytes : i < length ls → get_or ls i 0 ≤ bytes
  holds-bytes q = omega (arith, w.right, sum_drop ls i q)

  module _ (a : ℕ) (ea : a ≡ ahead (get_or ls i 0) (drop (i + 1) ls)) where
    pub holds-need : i < length ls → (get_or ls i 0 + a ≤ n) × (n < 1099511627776)
    holds-need q = (omega (arith, w.wants, need-drop ls i q, ea), w.small)

    -- one turn
    pub holds_on : i + 1 < length ls → get_or ls i 0 < 65536 → (l' : Room) → l' ≡ also left (get_or ls i 0)
        → (b' : Option Chosen) → b' ≡ weighed best (i + 1) l'.bytes (l'.bytes + 3 * l'.rdfs + 4) (bytes - get_or ls i 0) (n - (get_or ls i 0 + a)) S
        → Holds S ls (i + 1) l' (bytes - get_or ls i 0) (n - (get_or ls i 0 + a)) b'
    holds_on h v l' el b' eb =
        let q : i < length ls = omega arith in
        let e₁ : l' ≡ room_of (take (i + 1) ls) = el ∙ snoc-at ls i left q w.room in
        let e₂ : bytes - get_or ls i 0 ≡ sum (drop (i + 1) ls) = omega (arith, w.right, sum_drop ls i q) in
        let e₃ : n - (get_or ls i 0 + a) ≡ need (drop (i + 1) ls) = omega (arith, w.wants, need-drop ls i q, ea) in
        record {
          room = e₁;
          most = rw el (omega (arith, also-bytes left (get_or ls i 0), w.most));
          many = rw el (omega (arith, also-rdfs left (get_or ls i 0), w.many));
          right = e₂;
          wants = e₃;
          small = omega (arith, w.small);
          known = rw eb (known_more S ls i best l' (bytes - get_or ls i 0) (n - (get_or ls i 0 + a)) e₁ e₂ e₃ w.known);
        }

-- The ways out of dividing.
module _ (s : ℕ) (ls : List ℕ) where
  pub stays : need ls ≤ s → Stays ≡ division_of s ls
  unfolding division_of fits
  stays h = rw (le-leb (need ls) s h)

  module _ (h : s < need ls) (o : Option ℕ) (e : o ≡ cut_of (best_cut s ls)) where
    pub three : o ≡ None → Three ≡ division_of s ls
    unfolding division_of fits by_cut
    three z = rw (lt-leb (need ls) s h) (go (eqb (best_cut s ls) 0) (rw z at e))
      where
        go : (t : Bool) → ◌≡◌ {A = Option ℕ} None (pick t None (Some (best_cut s ls))) → Three ≡ pick t Three (Two (best_cut s ls))
        go true z = refl
        go false z = absurd (let q : ◌≡◌ {A = ℕ} 0 1 = cc in omega arith)

    pub two : (c : ℕ) → o ≡ Some c → Two c ≡ division_of s ls
    unfolding division_of fits by_cut
    two c z = rw (lt-leb (need ls) s h) (go (eqb (best_cut s ls) 0) (rw z at e))
      where
        go : (t : Bool) → ◌≡◌ {A = Option ℕ} (Some c) (pick t None (Some (best_cut s ls))) → Two c ≡ pick t Three (Two (best_cut s ls))
        go true z = absurd (let q : ◌≡◌ {A = ℕ} 0 1 = cc in omega arith)
        go false z = let q : c ≡ best_cut s ls = cc in ap Two q

-- what is known behind the last cut is rule 2's cut
module _ (S : ℕ) (ls : List ℕ) (i : ℕ) (last : i ≡ length ls - 1) (best : Option Chosen) (k : Known S ls i best) where
  pub none-best : best ≡ None → None ≡ cut_of (best_cut S ls)
  unfolding best_cut
  none-best z =
      let n : best_to S ls i ≡ 0 = rw z at k in
      rw (← last, n)

  pub some-best : (b : Chosen) → best ≡ Some b → Some b.cut ≡ cut_of (best_cut S ls)
  unfolding best_cut
  some-best b z =
      let m : Known S ls i (Some b) = rw z at k in
      let some : best_to S ls i ≡ 0 → ⊥ = omega (arith, m.0, m.1) in
      rw (← last, ne_eqb (best_to S ls i) 0 some, m.1)
