-- Aids: the first group that a list of RDFs describes. Contracts between crates cite them; `well_formed` and `lengths` of crate interval are what is
-- believed.
use Rattle.std.specs.Prelude.{ℕ, ◌<◌, ◌≤◌, Option, Some, None, List, [], ◌∷◌, eqb, leb}
use Rattle.fields.specs.Choice.{pick, both}
use Rattle.interval.specs.Records.{within}
use Rattle.interval.specs.Reading.{Rdf}
use Rattle.rdf.specs.declared.Front.{Front}

-- a group
abbrev pub run : ℕ → ℕ → ℕ → Front
run len count used = record { len = len; count = count; used = used }

-- after X'40': X'08' with a count of at least 2
abbrev pub pair_of : ℕ → List Rdf → Option Front
pair_of len [] = None
pair_of len (r ∷ rs) = pick (both (eqb r.control 8) (leb 2 r.num)) (Some (run len r.num 2)) None

abbrev pub front_of : ℕ → ℕ → List Rdf → Option Front
front_of least most [] = None
front_of least most (r ∷ rs) =
    pick (within least most r.num)
    (pick (eqb r.control 0) (Some (run r.num 1 1)) (pick (eqb r.control 64) (pair_of r.num rs) None))
    None

-- its numbers fit 16 bits, and it takes some of the n RDFs
abbrev pub Small : ℕ → Option Front → Type 0
Small n (Some f) = (f.len < 65536) × (f.count < 65536) × (1 ≤ f.used) × (f.used ≤ n) × (1 ≤ f.count)
Small n None = Unit {0}
