-- Which requests there are, and what each must be asked with.
use Rattle.std.specs.Prelude.{ℕ, Bool, true, false, List, length, get_or, eqb, ltb, Option, Some, None}
use Rattle.fields.specs.Choice.{pick, both}
use Rattle.ask.specs.declared.ReadKind.TheVariants.{Check, Get, GetAt, WalkFrom, WalkEnd, Step, Record}
use Rattle.ask.specs.declared.ChangeKind.TheVariants.{Insert, Update, Erase}
use Rattle.ask.specs.declared.Asked.{Asked}
use Rattle.ask.specs.declared.Asked.TheVariants.{Reads, Changes}
use Rattle.ask.specs.declared.Row.{Row}

abbrev pub row : Option Asked → ℕ → Bool → Row
row a n d = record { asks = a; numbers = n; directed = d }

-- The table of kinds: which request it is, how many numbers it must have, and whether the fifth is a direction. The
-- first four are the measures: size, offset, key, most. Behind them a get by address has the address, a walk from bytes
-- or from an end its direction, 0 down and 1 up, a step its direction and its place, a record its place. A place is
-- seven numbers.
abbrev pub row_of : ℕ → Row
row_of k =
    pick (eqb k 1) (row (Some (Reads Check)) 4 false)
    (pick (eqb k 2) (row (Some (Reads Get)) 4 false)
    (pick (eqb k 3) (row (Some (Reads GetAt)) 5 false)
    (pick (eqb k 4) (row (Some (Changes Insert)) 4 false)
    (pick (eqb k 5) (row (Some (Changes Update)) 4 false)
    (pick (eqb k 6) (row (Some (Changes Erase)) 4 false)
    (pick (eqb k 7) (row (Some (Reads WalkFrom)) 5 true)
    (pick (eqb k 8) (row (Some (Reads WalkEnd)) 5 true)
    (pick (eqb k 9) (row (Some (Reads Step)) 12 true)
    (pick (eqb k 10) (row (Some (Reads Record)) 11 false)
    (row None 0 false))))))))))

-- nothing where fewer than eight values are lent, or fewer numbers than it must have, or its direction is neither 0
-- nor 1; more of either are as good
abbrev pub if_served : Row → List ℕ → ℕ → Option Asked
if_served r ns values =
    pick (ltb values 8) None
    (pick (ltb (length ns) r.numbers) None (pick (both r.directed (ltb 1 (get_or ns 4 0))) None r.asks))

abbrev pub asked_of : ℕ → List ℕ → ℕ → Option Asked
asked_of kind ns values = if_served (row_of kind) ns values
