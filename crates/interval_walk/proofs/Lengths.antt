-- No record that a step gives is empty: where there is none the step says so, and gives no spot.
use Prim.Native.Nat.{ℕ, zero, suc, ◌+◌, ◌-◌, ◌*◌, ◌/◌, ◌<◌}
use mathlib.Core.Path.{◌≡◌, refl}
use mathlib.Core.Bool.{Bool, true, false}
use mathlib.Core.List.{List}
use lib.ListN.{length, get_or}
use lib.Dec.{eqb, ltb}
use native.Mathlib.Omega.{arith}
use borrow.Author.Tests.{ne_eqb}
use Rattle.std.specs.Prelude.{Option, Some, None}
use Rattle.fields.specs.Choice.{pick}
use Rattle.fields.specs.Bytes.{number}
use Rattle.interval.specs.Reading.{Rdf, displacement, rdfs_at, rdfs}
use Rattle.rdf.specs.AidFront.{front_of}
use Rattle.rdf.specs.Control.{control_of}
use Rattle.rdf.specs.declared.Control.{Control}
use Rattle.rdf.specs.declared.Control.TheVariants.{Single, Paired, Count}
use Rattle.rdf.specs.declared.Front.{Front}
use Rattle.rdf.proofs.Fronts.{front-within}
use Rattle.interval_walk.specs.declared.Spot.{Spot}
use Rattle.interval_walk.specs.AidSpots.{some_of, beginning, left_of, end_of, right_by, right_of, first_of, last_of, after_of, before_of}

abbrev pub Long : Option Spot → Type 0
Long (Some s) = 0 < s.len
Long None = Unit {0}

-- whichever is chosen
one-long : (b : Bool) (s t : Option Spot) → Long s → Long t → Long (pick b s t)
one-long true s t h k = h
one-long false s t h k = k

some-long : (start len left at : ℕ) → Long (some_of start len left at)
some-long start zero left at = tt
some-long start (suc len) left at = rw (ne_eqb (suc len) 0 (omega arith)) (omega arith)

-- no group has records of no bytes
begins-long : (start q : ℕ) (rs : List Rdf) (f : Option Front) → f ≡ front_of 1 65535 rs → Long (beginning start q f)
begins-long start q rs (Some f) e = let w = front-within 1 65535 rs f.len f.count f.used e in omega (arith, w.0)
begins-long start q rs None e = tt

left-long : (ci : List ℕ) (start q : ℕ) → Long (left_of ci start q)
unfolding left_of
left-long ci start q = one-long (ltb q (rdfs_at ci + 3)) None _ tt (begins-long start q (rdfs ci (q - 3 * ((q - rdfs_at ci) / 3)) ((q - rdfs_at ci) / 3)) _ refl)

end-long : (end len count q : ℕ) → Long (end_of end len count q)
end-long end len count q = one-long (ltb end len) None _ tt (one-long (eqb count 0) None _ tt (some-long (end - len) len (count - 1) q))

by-long : (ci : List ℕ) (end q : ℕ) (c : Option Control) → Long (right_by ci end q c)
by-long ci end q (Some Single) = end-long end (number 2 ci (q + 1)) 1 (q + 3)
by-long ci end q (Some Count) = one-long (ltb (length ci - 4 - q) 6) None _ tt (end-long end (number 2 ci (q + 4)) (number 2 ci (q + 1)) (q + 6))
by-long ci end q (Some Paired) = tt
by-long ci end q None = tt

right-long : (ci : List ℕ) (end q : ℕ) → Long (right_of ci end q)
unfolding right_of
right-long ci end q = one-long (ltb (length ci - 4) q) None _ tt (one-long (ltb (length ci - 4 - q) 3) None _ tt (by-long ci end q (control_of (get_or ci q 0))))

pub first-long : (ci : List ℕ) → Long (first_of ci)
first-long ci = one-long (ltb (length ci) 4) None _ tt (left-long ci 0 (length ci - 4))

pub last-long : (ci : List ℕ) → Long (last_of ci)
last-long ci = one-long (ltb (length ci) 4) None _ tt (right-long ci (displacement ci) (rdfs_at ci))

pub after-long : (ci : List ℕ) (s : Spot) → Long (after_of ci s)
unfolding after_of
after-long ci s =
    one-long (ltb (length ci) s.start) None _ tt
    (one-long (ltb (length ci - s.start) s.len) None _ tt
    (one-long (ltb 0 s.left) _ _ (some-long (s.start + s.len) s.len (s.left - 1) s.at)
    (one-long (ltb (length ci) 4) None _ tt (one-long (ltb (length ci - 4) s.at) None _ tt (left-long ci (s.start + s.len) s.at)))))

pub before-long : (ci : List ℕ) (s : Spot) → Long (before_of ci s)
unfolding before_of
before-long ci s =
    one-long (ltb 0 s.left) _ _ (end-long s.start s.len s.left s.at) (one-long (ltb (length ci) 4) None _ tt (right-long ci s.start s.at))
