-- Aids: where a walk stands in a sound area. `walk_of` of crate requests says which records come: document 02, L1.
use Rattle.std.specs.Prelude.{ℕ, suc, ◌+◌, ◌-◌, ◌*◌, ◌≤◌, ◌<◌, ◌≡◌, Bool, true, false, List, [], length, get_or, take, Option, None, Ok, Err}
use Rattle.fields.specs.Choice.{pick}
use Rattle.measures.specs.Judgement.{width_for, judged_of, passed}
use Rattle.measures.specs.declared.Measures.{Measures}
use Rattle.interval.specs.Reading.{records_in, displacement}
use Rattle.interval.specs.Search.{lower, Within}
use Rattle.interval.specs.declared.Found.{Found}
use Rattle.interval.specs.declared.Found.TheVariants as found
use Rattle.index.specs.Meaning.{numbers}
use Rattle.sections.specs.Reading.{read_index}
use Rattle.area.specs.Content.{Filled, Content, index_in, data_in, records_of}
use Rattle.area.specs.Reading.{read_area, whole}
use Rattle.area_find.specs.declared.KeyPlace.{KeyPlace}
use Rattle.interval_walk.specs.declared.Spot.{Spot}
use Rattle.interval_walk.specs.AidSpots.{SpotOf, StepTo}
use Rattle.index_walk.specs.declared.Edge.{Edge}
use Rattle.index_walk.specs.AidPasses.{edge}
use Rattle.requests.specs.Walks.{Walk, refused_with, giving, walk_from_of}
use Rattle.requests.proofs.Walks.{pad, reached}
use Rattle.opening.specs.AidOpened.{Opened, opened_of}
use Rattle.walk.specs.AidSteps.{end_place, edge_past_of, edge_in, spot_in, end_in, steps_from}
use Rattle.walk.specs.declared.Place.{Place}
use Rattle.walk.specs.AidGives.{Begun}

-- no entry
abbrev pub nowhere : Filled
nowhere = record { sep = []; num = 0; records = [] }

-- how many records the first i entries have
abbrev pub before : List Filled → ℕ → ℕ
before fs i = length (records_of (take i fs))

-- the number of entry i, where its interval begins, and that interval
abbrev pub num_at : Content → ℕ → ℕ
num_at c i = (get_or c.filled i nowhere).num

abbrev pub base_at : Measures → Content → ℕ → ℕ
base_at m c i = (num_at c i + 1) * m.size

abbrev pub data_of : Measures → List ℕ → Content → ℕ → List ℕ
data_of m area c i = data_in m area (num_at c i)

-- past the first i entries
abbrev pub edge_at : Measures → ℕ → List ℕ → ℕ → Edge
edge_at m n area i = edge_past_of (width_for n) (index_in m area) i

-- The place is that of item j: record `ordinal` of its entry, with what the steps from there need.
pub record StandsAt (m : Measures) (n : ℕ) (area : List ℕ) (c : Content) (forward : Bool) (p : Place) (j : ℕ) : Type 0 where
  pub inside : p.entry < length c.filled
  pub ordinal : ℕ
  pub item : j ≡ before c.filled p.entry + ordinal
  pub past : base_at m c p.entry ≤ p.start
  pub spot : SpotOf m (data_of m area c p.entry) forward (spot_in (base_at m c p.entry) p) ordinal
  pub next : edge_in p ≡ pick forward (edge_at m n area (suc p.entry)) (edge 0 0)

-- Upwards, of the items from j on, downwards of the first j: the place is that of the first to come, or the end where there is none.
abbrev pub Stood : Measures → ℕ → List ℕ → Content → Bool → ℕ → Place → Type 0
Stood m n area c true j p = (j < length (records_of c.filled) → StandsAt m n area c true p j) × (length (records_of c.filled) ≤ j → p ≡ end_place)
Stood m n area c false j p = ((i : ℕ) → suc i ≡ j → StandsAt m n area c false p i) × (j ≡ 0 → p ≡ end_place)

-- so it is for what the area is read as
abbrev pub StoodIn : Measures → ℕ → List ℕ → Bool → (Content → ℕ) → Place → Type 0
StoodIn m n area forward j p = (c : Content) → read_area m n area ≡ whole c → Stood m n area c forward (j c) p

-- ---- how a walk begins

-- what was sought is a place of an entry's interval
pub record Sits (m : Measures) (n : ℕ) (area : List ℕ) (s : KeyPlace) : Type 0 where
  pub inside : s.entry < length (read_index (width_for n) n (index_in m area)).entries
  pub number : s.number ≡ get_or (numbers (read_index (width_for n) n (index_in m area)).entries) s.entry 0
  pub within : s.number < n
  pub place : Within (length (records_in (data_in m area s.number))) (displacement (data_in m area s.number)) s.found

-- how many records of that interval lie before the first at or above the place, and how many up to the last at or below it
abbrev pub from_found : Found → ℕ
from_found (found.At i start len) = i
from_found (found.Gap i start) = i

abbrev pub upto_found : Found → ℕ
upto_found (found.At i start len) = i + 1
upto_found (found.Gap i start) = i

-- the record of an ordinal, or none past the last
abbrev pub FirstFrom : Measures → List ℕ → ℕ → Option Spot → Type 0
FirstFrom m ci o s = (o < length (records_in ci) → StepTo m ci true s o) × (o ≡ length (records_in ci) → s ≡ None)

-- of all records, how many lie before the first at or above the bytes given; how many are at or below them
abbrev pub begins_from : Measures → Bool → List ℕ → List (List ℕ) → ℕ
begins_from m true given rs = lower m (pad m.key 0 given) rs
begins_from m false given rs = reached m (pad m.key 255 given) rs

-- A walk that begins at a place begins at the one for that.
abbrev pub BeginsAt : Measures → List ℕ → Bool → List ℕ → Begun → Type 0
BeginsAt m area forward given r =
    (p : Place) → r ≡ Ok p → (n : ℕ) → judged_of m (length area) ≡ passed m n
    → StoodIn m n area forward (λ (c : Content). begins_from m forward given (records_of c.filled)) p

-- what a walk from an end begins with, by how the area was opened
abbrev pub ended_by : List ℕ → Bool → Opened → Begun
ended_by area forward (Err a) = Err a
ended_by area forward (Ok w) = Ok (end_in area w.measures.size w.count w.free forward)

-- what a walk from the bytes of a key begins with: the refusal; or the place where the walk from that end stands
-- once it has passed the records that this one leaves out
abbrev pub begun_by : List ℕ → Bool → Opened → Walk → Begun
begun_by area forward o (refused_with a) = Err a
begun_by area forward (Err a) (giving items) = Err a
begun_by area forward (Ok w) (giving items) =
    Ok (steps_from (w.records - length items) area w.measures.size forward (end_in area w.measures.size w.count w.free forward))

abbrev pub begun_from : Measures → List ℕ → Bool → List ℕ → Begun
begun_from m area forward given = begun_by area forward (opened_of m area) (walk_from_of m area forward given)
