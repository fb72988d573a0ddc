-- Aids: the steps of a walk for any bytes, any size and any place. What is believed of them is said in `walk-gives`, over `walk_of` of crate requests: document 02, L1.
use Rattle.std.specs.Prelude.{ℕ, zero, suc, ◌+◌, ◌-◌, ◌*◌, ◌/◌, ◌<◌, ◌≡◌, Bool, true, false, Option, Some, None, List, [], length, take, eqb, leb, ltb}
use Rattle.std.specs.Borrow.{Bor}
use Rattle.fields.specs.Choice.{pick, either}
use Rattle.fields.specs.Bytes.{number, part}
use Rattle.measures.specs.Judgement.{width_for}
use Rattle.interval_walk.specs.declared.Spot.{Spot}
use Rattle.interval_walk.specs.AidSpots.{spot, first_of, last_of, after_of, before_of}
use Rattle.index_walk.specs.declared.Edge.{Edge}
use Rattle.index_walk.specs.declared.Met.{Met}
use Rattle.index_walk.specs.AidPasses.{edge, edge_first, pass_of}
use Rattle.walk.specs.declared.Place.{Place}
use Rattle.walk.specs.declared.Filled.{Filled}

-- the end
abbrev pub end_place : Place
end_place = record { entry = 0; start = 0; length = 0; left = 0; at = 0; right = 0; end = 0 }

-- how many data intervals an area of so many bytes has
abbrev pub count_in : ℕ → ℕ → ℕ
count_in long size = pick (either (ltb size 512) (ltb long size)) 0 (long / size - 1)

-- the index record's bytes, and those of data interval k
abbrev pub index_at : ℕ → List ℕ → List ℕ
index_at size area = take size area

abbrev pub data_at : ℕ → List ℕ → ℕ → List ℕ
data_at size area k = part area ((k + 1) * size) size

-- a record of the interval that begins at a byte of the area
abbrev pub placed_of : Spot → ℕ → ℕ → Edge → Place
placed_of s base entry next =
    record { entry = entry; start = base + s.start; length = s.len; left = s.left; at = s.at; right = next.right; end = next.end }

-- that record, or another place where there is none
abbrev pub placed_or : Place → Option Spot → ℕ → ℕ → Edge → Place
placed_or other (Some s) base entry next = placed_of s base entry next
placed_or other None base entry next = other

-- past the last entry no entry ends anywhere
abbrev pub beyond_of : Bool → Edge → Edge
beyond_of last next = edge (pick last 0 next.right) next.end

-- past the entry that was met; no further where none was
abbrev pub past_by : Edge → Option Met → Edge
past_by e None = e
past_by e (Some m) = beyond_of m.last m.next

-- past the first so many entries of an index record
unfoldable pub edge_past_of : ℕ → List ℕ → ℕ → Edge
edge_past_of w ib zero = edge_first ib
edge_past_of w ib (suc k) = past_by (edge_past_of w ib k) (pass_of w ib (edge_past_of w ib k))

-- ---- to another interval

-- the entry that was passed, of which `later` gives the first record of those after it
abbrev pub ahead_by : (Edge → Place) → List ℕ → ℕ → ℕ → ℕ → Option Met → Place
ahead_by later area size n i None = end_place
ahead_by later area size n i (Some m) =
    pick (leb n m.number) end_place
    (placed_or (later (beyond_of m.last m.next)) (first_of (data_at size area m.number)) ((m.number + 1) * size) i (beyond_of m.last m.next))

-- the first record of entries from i on, of which there are k at the most
unfoldable pub ahead_of : ℕ → List ℕ → ℕ → ℕ → ℕ → Edge → Place
ahead_of zero area size n i e = end_place
ahead_of (suc k) area size n i e =
    pick (eqb e.right 0) end_place (ahead_by (λ (f : Edge). ahead_of k area size n (i + 1) f) area size n i (pass_of (width_for n) (index_at size area) e))

abbrev pub filled : ℕ → ℕ → Filled
filled entry number = record { entry = entry; number = number }

-- the entry that was passed, then those after it
abbrev pub filled_by : (Edge → Option Filled → Option Filled) → List ℕ → ℕ → ℕ → ℕ → Option Met → Option Filled → Option Filled
filled_by later area size n i None found = found
filled_by later area size n i (Some m) found =
    pick (leb n m.number) found (later m.next (pick (eqb (number 2 area ((m.number + 2) * size - 4)) 0) found (Some (filled i m.number))))

-- the last of k entries from i on whose interval has records, or what was found before
unfoldable pub filled_from : ℕ → List ℕ → ℕ → ℕ → ℕ → Edge → Option Filled → Option Filled
filled_from zero area size n i e found = found
filled_from (suc k) area size n i e found =
    filled_by (λ (f : Edge) (g : Option Filled). filled_from k area size n (i + 1) f g) area size n i (pass_of (width_for n) (index_at size area) e) found

abbrev pub last_filled_of : List ℕ → ℕ → ℕ → ℕ → Option Filled
last_filled_of area size n entries = filled_from entries area size n 0 (edge_first (index_at size area)) None

-- its interval is one of n
abbrev pub Among : ℕ → Option Filled → Type 0
Among n (Some f) = f.number < n
Among n None = Unit {0}

abbrev pub behind_at : List ℕ → ℕ → Option Filled → Place
behind_at area size (Some f) = placed_or end_place (last_of (data_at size area f.number)) ((f.number + 1) * size) f.entry (edge 0 0)
behind_at area size None = end_place

abbrev pub behind_of : List ℕ → ℕ → ℕ → ℕ → Place
behind_of area size n entries = behind_at area size (last_filled_of area size n entries)

-- the first record from an end, of n intervals of which so many are free
abbrev pub end_in : List ℕ → ℕ → ℕ → ℕ → Bool → Place
end_in area size n free true = ahead_of (n - 0) area size n 0 (edge_first (index_at size area))
end_in area size n free false = behind_of area size n (n - free)

-- ---- a step

-- in a run
abbrev pub along_to : ℕ → Place → Place
along_to start p = record { entry = p.entry; start = start; length = p.length; left = p.left - 1; at = p.at; right = p.right; end = p.end }

abbrev pub along_of : ℕ → Bool → Place → Place
along_of long true p = pick (either (ltb long p.start) (ltb (long - p.start) p.length)) end_place (along_to (p.start + p.length) p)
along_of long false p = pick (ltb p.start p.length) end_place (along_to (p.start - p.length) p)

abbrev pub edge_in : Place → Edge
edge_in p = edge p.right p.end

abbrev pub spot_in : ℕ → Place → Spot
spot_in base p = spot (p.start - base) p.length p.left p.at

-- past a run, in an interval that begins at `base`
abbrev pub leave_in : List ℕ → ℕ → ℕ → Bool → Place → ℕ → Place
leave_in area size n true p base =
    placed_or (ahead_of (n - (p.entry + 1)) area size n (p.entry + 1) (edge_in p)) (after_of (part area base size) (spot_in base p)) base p.entry (edge_in p)
leave_in area size n false p base =
    placed_or (behind_of area size n p.entry) (before_of (part area base size) (spot_in base p)) base p.entry (edge_in p)

unfoldable pub leave_of : List ℕ → ℕ → Bool → Place → Place
leave_of area size forward p =
    let n = count_in (length area) size in
    pick (leb n p.entry) end_place
    (pick (either (eqb (p.start / size) 0) (ltb n (p.start / size))) end_place (leave_in area size n forward p (p.start / size * size)))

unfoldable pub next_of : List ℕ → ℕ → Bool → Place → Place
next_of area size forward p =
    pick (eqb p.length 0) p (pick (ltb 0 p.left) (along_of (length area) forward p) (leave_of area size forward p))

-- a place that does not lie in the area
abbrev pub outside : List ℕ → Place → Bool
outside area p = either (ltb (length area) p.start) (ltb (length area - p.start) p.length)

-- the record: a part of the area, or nothing
abbrev pub record_of : List ℕ → Place → List ℕ
record_of area p = pick (outside area p) [] (part area p.start p.length)

-- where that part begins in the area: the empty one at its first byte
abbrev pub begins_in : List ℕ → Place → ℕ
begins_in area p = pick (outside area p) 0 p.start

-- The part that is handed out for a place: the record's bytes, not copied but lent where they lie, so many bytes behind the area's first.
pub record Shown (area : Bor (List ℕ)) (p : Place) (r : Bor (List ℕ)) : Type 0 where
  pub bytes : r.now ≡ record_of area.now p
  pub lies : r.ref_ptr ≡ (area.ref_ptr.0, area.ref_ptr.1 + begins_in area.now p)

-- k steps from a place
unfoldable pub steps_from : ℕ → List ℕ → ℕ → Bool → Place → Place
steps_from zero area size forward p = p
steps_from (suc k) area size forward p = steps_from k area size forward (next_of area size forward p)
