-- The ways of the functions that step: one law for each way out and each turn of a loop, as the definitions of the steps say it.
use Prim.Native.Nat.{ℕ, zero, suc, ◌+◌, ◌-◌, ◌*◌, ◌/◌, ◌≤◌, ◌<◌}
use mathlib.Core.Path.{◌≡◌, refl, ◌∙◌, sym, ap}
use mathlib.Core.Bool.{Bool, true, false}
use mathlib.Core.List.{List, [], ◌∷◌}
use lib.ListN.{length, take}
use lib.Seq.{length-take-le}
use lib.Dec.{ltb}
use native.Mathlib.Omega.{arith}
use native.Mathlib.Nat.{le-div_iff_mul-le, mul-le-mul_right, div-mul-le_self}
use borrow.Author.Tests.{ltb-false, eq-eqb, ne_eqb, lt-ltb, le-ltb, lt-leb, le-leb}
use denote.Ref.{Bor}
use Rattle.std.specs.Prelude.{Option, Some, None}
use Rattle.fields.specs.Choice.{pick, either}
use Rattle.fields.specs.Bytes.{Octets, part, number}
use Rattle.fields.proofs.Numbers.{number-below}
use Rattle.measures.specs.Judgement.{width_for}
use Rattle.measures.specs.declared.Measures.{Measures}
use Rattle.interval.specs.Reading.{displacement, records_in, Readable}
use Rattle.interval_walk.specs.declared.Spot.{Spot}
use Rattle.interval_walk.specs.AidSpots.{first_of, last_of, after_of, before_of, SpotOf}
use Rattle.interval_walk.proofs.Landing.{Starts, last-start}
use Rattle.interval_walk.proofs.Stepping.{first-stands, first-none, after-stands, after_none}
use Rattle.index_walk.specs.declared.Edge.{Edge}
use Rattle.index_walk.specs.AidPasses.{edge, edge_first, pass_of, met}
use Rattle.walk.specs.declared.Place.{Place}
use Rattle.walk.specs.declared.Filled.{Filled}
use Rattle.walk.specs.AidSteps.{end_place, count_in, index_at, data_at, placed_of, placed_or, Among, beyond_of, edge_past_of, ahead_of, filled, filled_from, along_to, along_of, edge_in, spot_in, leave_in, leave_of, next_of, outside, Shown, behind_of, end_in}
use Rattle.walk.specs.AidStands.{FirstFrom}

-- ---- how many intervals

module _ (long size : ℕ) where
  pub count_small : size < 512 → 0 ≡ count_in long size
  count_small h = rw (lt-ltb size 512 h)

  pub count-short : 512 ≤ size → long < size → 0 ≡ count_in long size
  count-short h k = rw (le-ltb size 512 h, lt-ltb long size k)

  pub count-some : 512 ≤ size → size ≤ long → 1 ≤ long / size
  count-some h k = (le-div_iff_mul-le {k = size} {x = 1} {y = long} (omega arith)).1 (omega arith)

  pub count-there : 512 ≤ size → size ≤ long → long / size - 1 ≡ count_in long size
  count-there h k = rw (le-ltb size 512 h, le-ltb long size k)

-- ---- a record of an interval

-- there is one, or none
module _ (other : Place) (x : Option Spot) (base i : ℕ) (e : Edge) where
  pub or-here : (s : Spot) → x ≡ Some s → placed_of s base i e ≡ placed_or other x base i e
  or-here s is = rw is

  pub or-other : x ≡ None → other ≡ placed_or other x base i e
  or-other is = rw is

module _ (area : List ℕ) (p : Place) where
  pub place-past : length area < p.start → outside area p ≡ true
  place-past h = rw (lt-ltb (length area) p.start h)

  pub place-cut : p.start ≤ length area → length area - p.start < p.length → outside area p ≡ true
  place-cut h k = rw (le-ltb (length area) p.start h, lt-ltb (length area - p.start) p.length k)

  pub place_in : p.start ≤ length area → p.length ≤ length area - p.start → outside area p ≡ false
  place_in h k = rw (le-ltb (length area) p.start h, le-ltb (length area - p.start) p.length k)

-- what is handed out: for a place outside the area the empty part at its front, for any other its own
module _ (area : Bor (List ℕ)) (p : Place) (r : Bor (List ℕ)) where
  pub shown-none : outside area.now p ≡ true → r.now ≡ [] → r.ref_ptr ≡ (area.ref_ptr.0, 0 + area.ref_ptr.1) → Shown area p r
  shown-none o b l = let z : 0 + area.ref_ptr.1 ≡ area.ref_ptr.1 + 0 = omega arith in record { bytes = b ∙ rw o; lies = l ∙ rw (o, z) }

  pub shown-part : outside area.now p ≡ false → r.now ≡ part area.now p.start p.length → r.ref_ptr ≡ (area.ref_ptr.0, p.start + area.ref_ptr.1) → Shown area p r
  shown-part o b l = let z : p.start + area.ref_ptr.1 ≡ area.ref_ptr.1 + p.start = omega arith in record { bytes = b ∙ rw o; lies = l ∙ rw (o, z) }

-- ---- in a sound interval, the record of an ordinal

module _ (m : Measures) (ci : List ℕ) (r : Readable m ci) where
  none-there : length (records_in ci) ≡ 0 → records_in ci ≡ []
  none-there = go (records_in ci)
    where
      go : (rs : List (List ℕ)) → length rs ≡ 0 → rs ≡ []
      go [] e = refl
      go (x ∷ rs) e = absurd (omega arith)

  pub from_first : (o : ℕ) → o ≡ 0 → (s : Option Spot) → s ≡ first_of ci → FirstFrom m ci o s
  from_first o z s e = rw (z, e) (λ (h : 0 < length (records_in ci)). first-stands m ci r h, λ (h : 0 ≡ length (records_in ci)). first-none m ci r (none-there (sym h)))

  pub from-after : (o : ℕ) → 0 < o → (t : Spot) → SpotOf m ci true t (o - 1) → (s : Option Spot) → s ≡ after_of ci t → FirstFrom m ci o s
  from-after o l t u s e =
      let z : o - 1 + 1 ≡ o = omega arith in
      rw e (
        λ (h : o < length (records_in ci)). rw z at (after-stands m ci r t (o - 1) u (omega arith)),
        λ (h : o ≡ length (records_in ci)). after_none m ci r t (o - 1) u (omega arith),
      )

-- ---- past so many entries

module _ (w : ℕ) (ib : List ℕ) where
  -- no further than where none can be read
  edge-stops : (i k : ℕ) → pass_of w ib (edge_past_of w ib i) ≡ None → edge_past_of w ib (i + k) ≡ edge_past_of w ib i
  unfolding edge_past_of
  edge-stops i zero e = let z : i + 0 ≡ i = omega arith in rw z
  edge-stops i (suc k) e =
      let z : i + suc k ≡ suc (i + k) = omega arith in
      rw (z, edge-stops i k e, e)

  pub edge-start : edge_first ib ≡ edge_past_of w ib 0
  unfolding edge_past_of
  edge-start = refl

  pub stops : (i k : ℕ) (e : Edge) → e ≡ edge_past_of w ib i → i ≤ k → pass_of w ib e ≡ None → e ≡ edge_past_of w ib k
  stops i k e is l none =
      let z : i + (k - i) ≡ k = omega arith in
      is ∙ sym (edge-stops i (k - i) (rw is at none)) ∙ ap (edge_past_of w ib) z

  pub edge_on : (i : ℕ) (e : Edge) → e ≡ edge_past_of w ib i → (num : ℕ) (next : Edge) (last : Bool) → pass_of w ib e ≡ Some (met num next last) → beyond_of last next ≡ edge_past_of w ib (i + 1)
  unfolding edge_past_of
  edge_on i e is num next last met = let z : i + 1 ≡ suc i = omega arith in rw (z, ← is, met)

-- ---- in a run

module _ (long : ℕ) (p : Place) where
  pub along-past : long < p.start → end_place ≡ along_of long true p
  along-past h = rw (lt-ltb long p.start h)

  pub along-cut : p.start ≤ long → long - p.start < p.length → end_place ≡ along_of long true p
  along-cut h k = rw (le-ltb long p.start h, lt-ltb (long - p.start) p.length k)

  pub along-up : p.start ≤ long → p.length ≤ long - p.start → along_to (p.start + p.length) p ≡ along_of long true p
  along-up h k = rw (le-ltb long p.start h, le-ltb (long - p.start) p.length k)

  pub along-none : p.start < p.length → end_place ≡ along_of long false p
  along-none h = rw (lt-ltb p.start p.length h)

  pub along-down : p.length ≤ p.start → along_to (p.start - p.length) p ≡ along_of long false p
  along-down h = rw (le-ltb p.start p.length h)

-- ---- the first record from an entry on

module _ (area : List ℕ) (size n i : ℕ) (e : Edge) where
  pub ahead_none : n ≤ i → end_place ≡ ahead_of (n - i) area size n i e
  unfolding ahead_of
  ahead_none h = let z : n - i ≡ 0 = omega arith in rw z

  module _ (l : i < n) where
    one_less : n - i ≡ suc (n - (i + 1))
    one_less = omega arith

    pub ahead-ended : e.right ≡ 0 → end_place ≡ ahead_of (n - i) area size n i e
    unfolding ahead_of
    ahead-ended h = rw (one_less, eq-eqb e.right 0 h)

    module _ (some : e.right ≡ 0 → ⊥) where
      pub ahead-nothing : pass_of (width_for n) (index_at size area) e ≡ None → end_place ≡ ahead_of (n - i) area size n i e
      unfolding ahead_of
      ahead-nothing h = rw (one_less, ne_eqb e.right 0 some, h)

      module _ (num : ℕ) (next : Edge) (last : Bool) (met : pass_of (width_for n) (index_at size area) e ≡ Some (met num next last)) where
        pub ahead-far : n ≤ num → end_place ≡ ahead_of (n - i) area size n i e
        unfolding ahead_of
        ahead-far h = rw (one_less, ne_eqb e.right 0 some, met, le-leb n num h)

        module _ (h : num < n) (x : Option Spot) (is : x ≡ first_of (data_at size area num)) (b : Edge) (past : b ≡ beyond_of last next) where
          ahead-in : ahead_of (n - i) area size n i e ≡ placed_or (ahead_of (n - (i + 1)) area size n (i + 1) b) x ((num + 1) * size) i b
          unfolding ahead_of
          ahead-in = rw (one_less, ne_eqb e.right 0 some, met, lt-leb n num h, is, past)

          pub ahead-here : (s : Spot) → x ≡ Some s → placed_of s ((num + 1) * size) i b ≡ ahead_of (n - i) area size n i e
          ahead-here s k = or-here _ x ((num + 1) * size) i b s k ∙ sym ahead-in

          pub ahead-on : x ≡ None → ahead_of (n - i) area size n i e ≡ ahead_of (n - (i + 1)) area size n (i + 1) b
          ahead-on k = ahead-in ∙ sym (or-other _ x ((num + 1) * size) i b k)

-- ---- the last entry with records

module _ (area : List ℕ) (size n i k : ℕ) (e : Edge) (f : Option Filled) where
  pub filled_none : k ≤ i → f ≡ filled_from (k - i) area size n i e f
  unfolding filled_from
  filled_none h = let z : k - i ≡ 0 = omega arith in rw z

  module _ (l : i < k) where
    one_fewer : k - i ≡ suc (k - (i + 1))
    one_fewer = omega arith

    pub filled-nothing : pass_of (width_for n) (index_at size area) e ≡ None → f ≡ filled_from (k - i) area size n i e f
    unfolding filled_from
    filled-nothing h = rw (one_fewer, h)

    module _ (num : ℕ) (next : Edge) (last : Bool) (met : pass_of (width_for n) (index_at size area) e ≡ Some (met num next last)) where
      pub filled-far : n ≤ num → f ≡ filled_from (k - i) area size n i e f
      unfolding filled_from
      filled-far h = rw (one_fewer, met, le-leb n num h)

      module _ (h : num < n) (x : ℕ) (is : x ≡ number 2 area ((num + 2) * size - 4)) (g : Option Filled) where
        -- an interval with records, and one without
        pub filled-here : (x ≡ 0 → ⊥) → g ≡ Some (filled i num) → filled_from (k - i) area size n i e f ≡ filled_from (k - (i + 1)) area size n (i + 1) next g
        unfolding filled_from
        filled-here d q = rw (one_fewer, met, lt-leb n num h, ← is, ne_eqb x 0 d, q)

        pub filled-empty : x ≡ 0 → g ≡ f → filled_from (k - i) area size n i e f ≡ filled_from (k - (i + 1)) area size n (i + 1) next g
        unfolding filled_from
        filled-empty d q = rw (one_fewer, met, lt-leb n num h, ← is, eq-eqb x 0 d, q)

        -- its interval is one of n
        pub filled-few : g ≡ Some (filled i num) → Among n g
        filled-few q = rw q h

-- its interval is one of n
pub among-few : (n : ℕ) (x : Option Filled) (f : Filled) → Among n x → x ≡ Some f → f.number < n
among-few n x f a e = rw e at a

-- by the direction
pub along-forward : (long : ℕ) (forward : Bool) (p q : Place) → forward ≡ true → q ≡ along_of long true p → q ≡ along_of long forward p
along-forward long forward p q e h = rw e h

pub along-backward : (long : ℕ) (forward : Bool) (p q : Place) → forward ≡ false → q ≡ along_of long false p → q ≡ along_of long forward p
along-backward long forward p q e h = rw e h

-- past an entry, by whether it is the last
pub beyond-last : (last : Bool) (next : Edge) (right : ℕ) → last ≡ true → right ≡ 0 → edge right next.end ≡ beyond_of last next
beyond-last last next right e z = rw (e, z)

pub beyond-more : (last : Bool) (next : Edge) (right : ℕ) → last ≡ false → right ≡ next.right → edge right next.end ≡ beyond_of last next
beyond-more last next right e z = rw (e, z)

-- ---- where an interval lies

module _ (size n long num : ℕ) (inside : (n + 1) * size ≤ long) (h : num < n) where
  -- data interval num ends within the area
  pub interval-ends : (num + 1) * size + size ≤ long
  interval-ends = let l : num + 2 ≤ n + 1 = omega arith in omega (arith, mul-le-mul_right size l)

pub index-long : (size n : ℕ) (area : List ℕ) → (n + 1) * size ≤ length area → size ≡ length (take size area)
index-long size n area h = sym (length-take-le size area (omega arith))

-- where a record that a step gives begins
pub starts-at : (n : ℕ) (x : Option Spot) (s : Spot) → Starts n x → x ≡ Some s → s.start ≤ n
starts-at n x s h e = rw e at h

-- where the last record of an interval begins, whatever its bytes are
pub last-starts : (ci : List ℕ) → Octets ci → (s : Spot) → last_of ci ≡ Some s → s.start < 65536
last-starts ci o s e = omega (arith, starts-at (displacement ci) (last_of ci) s (last-start ci) e, number-below 2 ci (length ci - 4) o)

-- an interval whose number and one is so much ends within the area
pub place-ends : (size n long place : ℕ) → (n + 1) * size ≤ long → place ≤ n → place * size + size ≤ long
place-ends size n long place h k = let l : place + 1 ≤ n + 1 = omega arith in omega (arith, mul-le-mul_right size l)

-- ---- from an end

pub end-forward : (area : List ℕ) (size n free : ℕ) (forward : Bool) (p : Place) (e : Edge) → forward ≡ true → e ≡ edge_first (index_at size area) → p ≡ ahead_of (n - 0) area size n 0 e
    → p ≡ end_in area size n free forward
end-forward area size n free forward p e f is h = rw f (h ∙ ap (ahead_of (n - 0) area size n 0) is)

pub end-backward : (area : List ℕ) (size n free : ℕ) (forward : Bool) (p : Place) → forward ≡ false → p ≡ behind_of area size n (n - free) → p ≡ end_in area size n free forward
end-backward area size n free forward p f h = rw f h

-- ---- a step

module _ (area : List ℕ) (size : ℕ) (forward : Bool) (p : Place) where
  pub next-end : p.length ≡ 0 → p ≡ next_of area size forward p
  unfolding next_of
  next-end h = rw (eq-eqb p.length 0 h)

  module _ (some : p.length ≡ 0 → ⊥) where
    pub next-along : 0 < p.left → along_of (length area) forward p ≡ next_of area size forward p
    unfolding next_of
    next-along h = rw (ne_eqb p.length 0 some, lt-ltb 0 p.left h)

    pub next-leave : p.left ≤ 0 → leave_of area size forward p ≡ next_of area size forward p
    unfolding next_of
    next-leave h = rw (ne_eqb p.length 0 some, le-ltb 0 p.left h)

-- ---- past a run

-- an area with an interval has the size of one at least, and all its intervals lie in it
pub count-large : (long size n : ℕ) → n ≡ count_in long size → 0 < n → (512 ≤ size) × ((n + 1) * size ≤ long)
count-large long size n e h = go (ltb size 512) (ltb long size) refl refl e
  where
    go : (s t : Bool) → ltb size 512 ≡ s → ltb long size ≡ t → n ≡ pick (either s t) 0 (long / size - 1) → (512 ≤ size) × ((n + 1) * size ≤ long)
    go true t p q z = absurd (omega arith)
    go false true p q z = absurd (omega arith)
    go false false p q z =
        let k : n + 1 ≡ long / size = omega arith in
        (ltb-false size 512 p, rw k (div-mul-le_self long size))

module _ (area : List ℕ) (size n : ℕ) (forward : Bool) (p : Place) (count : n ≡ count_in (length area) size) where
  pub leave-entry : n ≤ p.entry → end_place ≡ leave_of area size forward p
  unfolding leave_of
  leave-entry h = rw (← count, le-leb n p.entry h)

  module _ (h : p.entry < n) where
    pub leave-index : p.start / size ≡ 0 → end_place ≡ leave_of area size forward p
    unfolding leave_of
    leave-index k = rw (← count, lt-leb n p.entry h, k)

    pub leave-far : n < p.start / size → end_place ≡ leave_of area size forward p
    unfolding leave_of
    leave-far k = rw (← count, lt-leb n p.entry h, ne_eqb (p.start / size) 0 (omega arith), lt-ltb n (p.start / size) k)

    module _ (some : p.start / size ≡ 0 → ⊥) (few : p.start / size ≤ n) where
      leave-in : leave_in area size n forward p (p.start / size * size) ≡ leave_of area size forward p
      unfolding leave_of
      leave-in = rw (← count, lt-leb n p.entry h, ne_eqb (p.start / size) 0 some, le-ltb n (p.start / size) few)

      module _ (x : Option Spot) where
        module _ (f : forward ≡ true) (is : x ≡ after_of (part area (p.start / size * size) size) (spot_in (p.start / size * size) p)) where
          after-in : placed_or (ahead_of (n - (p.entry + 1)) area size n (p.entry + 1) (edge_in p)) x (p.start / size * size) p.entry (edge_in p) ≡ leave_in area size n forward p (p.start / size * size)
          after-in = rw (f, is)

          pub leave-after : (s : Spot) → x ≡ Some s → placed_of s (p.start / size * size) p.entry (edge_in p) ≡ leave_of area size forward p
          leave-after s k = or-here _ x (p.start / size * size) p.entry (edge_in p) s k ∙ after-in ∙ leave-in

          pub leave-ahead : x ≡ None → ahead_of (n - (p.entry + 1)) area size n (p.entry + 1) (edge_in p) ≡ leave_of area size forward p
          leave-ahead k = or-other _ x (p.start / size * size) p.entry (edge_in p) k ∙ after-in ∙ leave-in

        module _ (f : forward ≡ false) (is : x ≡ before_of (part area (p.start / size * size) size) (spot_in (p.start / size * size) p)) where
          before-in : placed_or (behind_of area size n p.entry) x (p.start / size * size) p.entry (edge_in p) ≡ leave_in area size n forward p (p.start / size * size)
          before-in = rw (f, is)

          pub leave-before : (s : Spot) → x ≡ Some s → placed_of s (p.start / size * size) p.entry (edge_in p) ≡ leave_of area size forward p
          leave-before s k = or-here _ x (p.start / size * size) p.entry (edge_in p) s k ∙ before-in ∙ leave-in

          pub leave-behind : x ≡ None → behind_of area size n p.entry ≡ leave_of area size forward p
          leave-behind k = or-other _ x (p.start / size * size) p.entry (edge_in p) k ∙ before-in ∙ leave-in
