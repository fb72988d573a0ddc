-- Where a step lands, of any bytes and from any spot: not behind the end of the interval, and backwards not behind where it began.
use Prim.Native.Nat.{ℕ, ◌+◌, ◌-◌, ◌*◌, ◌/◌, ◌≤◌}
use mathlib.Core.Path.{◌≡◌, refl}
use mathlib.Core.Bool.{Bool, true, false}
use mathlib.Core.List.{List}
use lib.ListN.{length, get_or}
use lib.Dec.{eqb, ltb}
use native.Mathlib.Omega.{arith}
use borrow.Author.Tests.{ltb-false}
use Rattle.fields.specs.Bytes.{number}
use Rattle.fields.specs.Choice.{pick}
use Rattle.interval.specs.Reading.{displacement, rdfs_at, rdfs}
use Rattle.rdf.specs.Control.{control_of}
use Rattle.rdf.specs.AidFront.{front_of}
use Rattle.rdf.specs.declared.Control.{Control}
use Rattle.std.specs.Prelude.{Option, Some, None}
use Rattle.rdf.specs.declared.Control.TheVariants.{Single, Paired, Count}
use Rattle.rdf.specs.declared.Front.{Front}
use Rattle.interval_walk.specs.declared.Spot.{Spot}
use Rattle.interval_walk.specs.AidSpots.{spot, some_of, beginning, left_of, end_of, right_by, right_of, first_of, last_of, after_of, before_of}

-- a record that a step gives begins at a place or before it
abbrev pub Starts : ℕ → Option Spot → Type 0
Starts n (Some s) = s.start ≤ n
Starts n None = Unit {0}

-- whichever is chosen
or-none : (n : ℕ) (b : Bool) (s : Option Spot) → (b ≡ false → Starts n s) → Starts n (pick b None s)
or-none n true s h = tt
or-none n false s h = h refl

some-start : (n start len left at : ℕ) → start ≤ n → Starts n (some_of start len left at)
some-start n start len left at h = or-none n (eqb len 0) (Some (spot start len left at)) (λ _. h)

later : {a n : ℕ} (s : Option Spot) → a ≤ n → Starts a s → Starts n s
later (Some s) h k = omega arith
later None h k = tt

either-one : (n : ℕ) (b : Bool) (s t : Option Spot) → Starts n s → (b ≡ false → Starts n t) → Starts n (pick b s t)
either-one n true s t h k = h
either-one n false s t h k = k refl

begins : (start q : ℕ) (f : Option Front) → Starts start (beginning start q f)
begins start q (Some f) = omega arith
begins start q None = tt

left-start : (ci : List ℕ) (start q : ℕ) → Starts start (left_of ci start q)
unfolding left_of
left-start ci start q =
    or-none start (ltb q (rdfs_at ci + 3)) _ (λ _. begins start q (front_of 1 65535 (rdfs ci (q - 3 * ((q - rdfs_at ci) / 3)) ((q - rdfs_at ci) / 3))))

end-start : (end len count q : ℕ) → Starts end (end_of end len count q)
end-start end len count q = or-none end (ltb end len) _ (λ _. or-none end (eqb count 0) (some_of (end - len) len (count - 1) q) (λ _. some-start end (end - len) len (count - 1) q (omega arith)))

by-start : (ci : List ℕ) (end q : ℕ) (c : Option Control) → Starts end (right_by ci end q c)
by-start ci end q (Some Single) = end-start end (number 2 ci (q + 1)) 1 (q + 3)
by-start ci end q (Some Count) = or-none end (ltb (length ci - 4 - q) 6) _ (λ _. end-start end (number 2 ci (q + 4)) (number 2 ci (q + 1)) (q + 6))
by-start ci end q (Some Paired) = tt
by-start ci end q None = tt

right-start : (ci : List ℕ) (end q : ℕ) → Starts end (right_of ci end q)
unfolding right_of
right-start ci end q =
    or-none end (ltb (length ci - 4) q) _ (λ _. or-none end (ltb (length ci - 4 - q) 3) _ (λ _. by-start ci end q (control_of (get_or ci q 0))))

pub first-start : (ci : List ℕ) → Starts 0 (first_of ci)
first-start ci = or-none 0 (ltb (length ci) 4) (left_of ci 0 (length ci - 4)) (λ _. left-start ci 0 (length ci - 4))

pub last-start : (ci : List ℕ) → Starts (displacement ci) (last_of ci)
last-start ci = or-none (displacement ci) (ltb (length ci) 4) _ (λ _. right-start ci (displacement ci) (rdfs_at ci))

pub after-start : (ci : List ℕ) (s : Spot) → Starts (length ci) (after_of ci s)
unfolding after_of
after-start ci s =
    or-none (length ci) (ltb (length ci) s.start) _ (λ (h : ltb (length ci) s.start ≡ false).
    or-none (length ci) (ltb (length ci - s.start) s.len) _ (λ (k : ltb (length ci - s.start) s.len ≡ false). inner (ltb-false _ _ h) (ltb-false _ _ k)))
  where
    inner : s.start ≤ length ci → s.len ≤ length ci - s.start
        → Starts (length ci)
        (pick (ltb 0 s.left) (some_of (s.start + s.len) s.len (s.left - 1) s.at)
        (pick (ltb (length ci) 4) None (pick (ltb (length ci - 4) s.at) None (left_of ci (s.start + s.len) s.at))))
    inner h k =
        let e : s.start + s.len ≤ length ci = omega arith in
        either-one (length ci) (ltb 0 s.left) (some_of (s.start + s.len) s.len (s.left - 1) s.at) _ (some-start (length ci) (s.start + s.len) s.len (s.left - 1) s.at e) (λ _.
        or-none (length ci) (ltb (length ci) 4) _ (λ _.
        or-none (length ci) (ltb (length ci - 4) s.at) (left_of ci (s.start + s.len) s.at) (λ _. later (left_of ci (s.start + s.len) s.at) e (left-start ci (s.start + s.len) s.at))))

pub before-start : (ci : List ℕ) (s : Spot) → Starts s.start (before_of ci s)
unfolding before_of
before-start ci s =
    either-one s.start (ltb 0 s.left) (end_of s.start s.len s.left s.at) _ (end-start s.start s.len s.left s.at) (λ _.
    or-none s.start (ltb (length ci) 4) _ (λ _. right-start ci s.start s.at))
