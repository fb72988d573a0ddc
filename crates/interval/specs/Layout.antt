-- The layout of a data interval as a grammar, and the writer's form: document 01, 'Data interval'; source document 001, chapter 7.
-- Bytes are put together by concatenation only; nothing here reads.
use Rattle.std.specs.Prelude.{ℕ, ◌-◌, ◌≡◌, true, List, [], ◌∷◌, ◌++◌, map, length, replicate, leb}
use Rattle.fields.specs.Choice.{pick}
use Rattle.fields.specs.Bytes.{digits}
use Rattle.fields.specs.Lists.{concat}
use Rattle.room.specs.Room.{described, Group, all_counted, groups, need}

-- an RDF: control byte and number
abbrev pub rdf_bytes : ℕ → ℕ → List ℕ
rdf_bytes control num = control ∷ digits 2 num

-- a group's RDFs, left to right. X'00': one record of that length. A run: X'08' with the count stands left of X'40' with the length.
unfoldable pub group_bytes : Group → List ℕ
group_bytes g = pick (leb g.count 1) (rdf_bytes 0 g.len) (rdf_bytes 8 g.count ++ rdf_bytes 64 g.len)

-- RDFs run right to left: the first group stands rightmost
unfoldable pub groups_bytes : List Group → List ℕ
groups_bytes [] = []
groups_bytes (g ∷ gs) = groups_bytes gs ++ group_bytes g

-- displacement to the unused space, then its length
abbrev pub cidf : ℕ → ℕ → List ℕ
cidf d u = digits 2 d ++ digits 2 u

-- records, unused space, RDFs, CIDF
unfoldable pub layout : List (List ℕ) → List ℕ → List Group → List ℕ
layout records unused gs =
    concat records ++ (unused ++ (groups_bytes gs ++ cidf (length (concat records)) (length unused)))

-- ci is an interval of size S that holds these records: in any legal grouping, with any bytes in the unused space
pub record LaidOut (S : ℕ) (records : List (List ℕ)) (ci : List ℕ) : Type 0 where
  pub grouping : List Group
  pub unused : List ℕ
  pub counted : all_counted grouping ≡ true
  pub spells : described grouping ≡ map length records
  pub bytes : ci ≡ layout records unused grouping
  pub size : length ci ≡ S

-- the writer's form: grouped as far as possible, zeros in the unused space
unfoldable pub form : ℕ → List (List ℕ) → List ℕ
form S records = layout records (replicate (S - need (map length records)) 0) (groups (map length records))
