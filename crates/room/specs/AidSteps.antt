-- Aids: the same room, counted one record after another. Contracts of leaf functions cite them; their laws (proofs/Need.antt,
-- proofs/Steps.antt) join each to `groups` and `need` of specs/Room.antt, and nothing here has to be believed.
use Rattle.std.specs.Prelude.{ℕ, zero, suc, ◌+◌, ◌-◌, ◌≡◌, Bool, false, List, [], ◌∷◌, length, get_or, drop, eqb, leb}
use Rattle.fields.specs.Choice.{pick, both}
use Rattle.fields.specs.Lists.{sum}
use Rattle.room.specs.Room.{groups, rdf_count}
use Rattle.room.specs.declared.Room.{Room}

-- does the list begin with l?
unfoldable pub starts : ℕ → List ℕ → Bool
starts l [] = false
starts l (a ∷ ls) = eqb l a

-- does it begin with l twice?
unfoldable pub again : ℕ → List ℕ → Bool
again l [] = false
again l (a ∷ ls) = both (eqb l a) (starts l ls)

-- before others, a record takes 3 bytes of RDF, unless the next two are as long: a run of three takes no more than one of two
unfoldable pub ahead : ℕ → List ℕ → ℕ
ahead l ls = pick (again l ls) 0 3

-- the bytes of all RDFs, so counted
unfoldable pub marks : List ℕ → ℕ
marks [] = 0
marks (l ∷ ls) = ahead l ls + marks ls

-- are the last two of xs equal to y?
unfoldable pub ended : List ℕ → ℕ → Bool
ended xs y =
    both (leb 2 (length xs)) (both (eqb (get_or xs (length xs - 2) 0) y) (eqb (get_or xs (length xs - 1) 0) y))

-- after others, a record takes 3 bytes of RDF, unless the last two are as long
unfoldable pub behind : List ℕ → ℕ → ℕ
behind xs y = pick (ended xs y) 0 3

unfoldable pub last_length : List ℕ → ℕ
last_length ls = get_or ls (length ls - 1) 0

-- what stands at the end: 0 for no record, 1 for a record unlike the one before it, 2 for a run
unfoldable pub run_of : List ℕ → ℕ
run_of ls =
    pick (leb 1 (length ls)) (pick (both (leb 2 (length ls)) (eqb (get_or ls (length ls - 2) 0) (get_or ls (length ls - 1) 0))) 2 1) 0

-- what the struct holds of a list of lengths
unfoldable pub room_of : List ℕ → Room
room_of ls = record { bytes = sum ls; rdfs = rdf_count (groups ls); last = last_length ls; run = run_of ls }

-- and with one length more at the end: a new group, a pair that takes its count's RDF, or a run that only counts on
unfoldable pub also : Room → ℕ → Room
also r l =
    pick (eqb r.run 0) (record { bytes = r.bytes + l; rdfs = r.rdfs + 1; last = l; run = 1 })
    (pick (eqb r.last l)
    (record { bytes = r.bytes + l; rdfs = pick (eqb r.run 1) (r.rdfs + 1) r.rdfs; last = l; run = 2 })
    (record { bytes = r.bytes + l; rdfs = r.rdfs + 1; last = l; run = 1 }))

-- and with a run of k more
unfoldable pub also_run : Room → ℕ → ℕ → Room
also_run r l zero = r
also_run r l (suc k) = also_run (also r l) l k

-- the first group of the lengths from place i on has r of them, and the other groups are those from i + r on
abbrev pub RunAt : List ℕ → ℕ → ℕ → Type 0
RunAt lens i r = groups (drop i lens) ≡ record { len = get_or lens i 0; count = r } ∷ groups (drop (i + r) lens)
