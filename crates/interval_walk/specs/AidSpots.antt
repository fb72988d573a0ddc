-- Aids: the steps from record to record of an interval, for any bytes and any spot; and how they stand to the records of a sound one, which is what is believed of them
-- (`records_in` of crate interval): document 02, L1.
use Rattle.std.specs.Prelude.{ℕ, ◌+◌, ◌-◌, ◌*◌, ◌/◌, ◌≤◌, ◌<◌, ◌≡◌, Bool, true, false, Option, Some, None, List, [], ◌++◌, map, length, get_or, take, drop, replicate, eqb, ltb}
use Rattle.fields.specs.Choice.{pick}
use Rattle.fields.specs.Bytes.{number}
use Rattle.measures.specs.declared.Measures.{Measures}
use Rattle.interval.specs.Reading.{displacement, rdfs_at, rdfs, lengths, well_formed, records_in}
use Rattle.interval.specs.Search.{start_of}
use Rattle.rdf.specs.Control.{control_of}
use Rattle.rdf.specs.AidFront.{front_of}
use Rattle.rdf.specs.declared.Control.{Control}
use Rattle.rdf.specs.declared.Control.TheVariants.{Single, Paired, Count}
use Rattle.rdf.specs.declared.Front.{Front}
use Rattle.interval_walk.specs.declared.Spot.{Spot}

abbrev pub spot : ℕ → ℕ → ℕ → ℕ → Spot
spot start len left at = record { start = start; len = len; left = left; at = at }

-- a record of so many bytes; none of no bytes
abbrev pub some_of : ℕ → ℕ → ℕ → ℕ → Option Spot
some_of start len left at = pick (eqb len 0) None (Some (spot start len left at))

-- the first record of a group that was read from RDFs which end at place q
abbrev pub beginning : ℕ → ℕ → Option Front → Option Spot
beginning start q (Some f) = Some (spot start f.len (f.count - 1) (q - 3 * f.used))
beginning start q None = None

-- the group whose RDFs end at place q; its first record begins at `start`
unfoldable pub left_of : List ℕ → ℕ → ℕ → Option Spot
left_of ci start q =
    pick (ltb q (rdfs_at ci + 3)) None (beginning start q (front_of 1 65535 (rdfs ci (q - 3 * ((q - rdfs_at ci) / 3)) ((q - rdfs_at ci) / 3))))

-- the last record of a group of so many records of one length, which ends at `end`; its RDFs end at place q
abbrev pub end_of : ℕ → ℕ → ℕ → ℕ → Option Spot
end_of end len count q = pick (ltb end len) None (pick (eqb count 0) None (some_of (end - len) len (count - 1) q))

-- by the control byte of its leftmost RDF
abbrev pub right_by : List ℕ → ℕ → ℕ → Option Control → Option Spot
right_by ci end q (Some Single) = end_of end (number 2 ci (q + 1)) 1 (q + 3)
right_by ci end q (Some Count) = pick (ltb (length ci - 4 - q) 6) None (end_of end (number 2 ci (q + 4)) (number 2 ci (q + 1)) (q + 6))
right_by ci end q (Some Paired) = None
right_by ci end q None = None

-- the group whose RDFs begin at place q; its last record ends at `end`
unfoldable pub right_of : List ℕ → ℕ → ℕ → Option Spot
right_of ci end q =
    pick (ltb (length ci - 4) q) None (pick (ltb (length ci - 4 - q) 3) None (right_by ci end q (control_of (get_or ci q 0))))

abbrev pub first_of : List ℕ → Option Spot
first_of ci = pick (ltb (length ci) 4) None (left_of ci 0 (length ci - 4))

abbrev pub last_of : List ℕ → Option Spot
last_of ci = pick (ltb (length ci) 4) None (right_of ci (displacement ci) (rdfs_at ci))

unfoldable pub after_of : List ℕ → Spot → Option Spot
after_of ci s =
    pick (ltb (length ci) s.start) None
    (pick (ltb (length ci - s.start) s.len) None
    (pick (ltb 0 s.left) (some_of (s.start + s.len) s.len (s.left - 1) s.at)
    (pick (ltb (length ci) 4) None (pick (ltb (length ci - 4) s.at) None (left_of ci (s.start + s.len) s.at)))))

unfoldable pub before_of : List ℕ → Spot → Option Spot
before_of ci s =
    pick (ltb 0 s.left) (end_of s.start s.len s.left s.at) (pick (ltb (length ci) 4) None (right_of ci s.start s.at))

-- ---- in a sound interval

-- how many records the group has whose RDFs begin at place q, and that whose RDFs end there: a count stands left of its length
abbrev pub group_from : List ℕ → ℕ → ℕ
group_from ci q = pick (eqb (get_or ci q 0) 8) (number 2 ci (q + 1)) 1

abbrev pub group_to : List ℕ → ℕ → ℕ
group_to ci q = pick (eqb (get_or ci (q - 3) 0) 64) (number 2 ci (q - 5)) 1

-- The lengths that follow are those of the run's records to come, then those of the RDFs from where they begin to where the run's begin; k is how many these are.
-- The run is a group, no more.
pub record Forward (m : Measures) (ci : List ℕ) (s : Spot) (i : ℕ) : Type 0 where
  pub k : ℕ
  pub lies : s.at ≡ rdfs_at ci + 3 * k
  pub inside : s.at + 4 ≤ length ci
  pub formed : well_formed m.least m.most (rdfs ci (rdfs_at ci) k) ≡ true
  pub rest : drop (i + 1) (map length (records_in ci)) ≡ replicate s.left s.len ++ lengths (rdfs ci (rdfs_at ci) k)
  pub own : s.left < group_from ci s.at

-- the lengths before are those of the RDFs right of the run's, then those of the run's records to come
pub record Backward (m : Measures) (ci : List ℕ) (s : Spot) (i : ℕ) : Type 0 where
  pub k : ℕ
  pub lies : s.at + 3 * k + 4 ≡ length ci
  pub beyond : rdfs_at ci ≤ s.at
  pub formed : well_formed m.least m.most (rdfs ci s.at k) ≡ true
  pub rest : take i (map length (records_in ci)) ≡ lengths (rdfs ci s.at k) ++ replicate s.left s.len
  pub own : s.left < group_to ci s.at

abbrev pub Way : Measures → List ℕ → Bool → Spot → ℕ → Type 0
Way m ci true s i = Forward m ci s i
Way m ci false s i = Backward m ci s i

-- the spot is that of record i, and what it carries for the steps is right
pub record SpotOf (m : Measures) (ci : List ℕ) (forward : Bool) (s : Spot) (i : ℕ) : Type 0 where
  pub there : i < length (records_in ci)
  pub start : s.start ≡ start_of i (records_in ci)
  pub long : s.len ≡ length (get_or (records_in ci) i [])
  pub way : Way m ci forward s i

-- a step gives a spot, and this is that of record i
abbrev pub StepTo : Measures → List ℕ → Bool → Option Spot → ℕ → Type 0
StepTo m ci forward (Some s) i = SpotOf m ci forward s i
StepTo m ci forward None i = ⊥
