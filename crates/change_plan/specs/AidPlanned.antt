-- Aids: how an edit is spread, by value, as it stands for the definition's plan, which is a list of stores.
use Rattle.std.specs.Prelude.{ℕ, ◌+◌, ◌-◌, ◌≤◌, ◌<◌, ◌≡◌, List, [], length, get_or, ltb, Result, Ok, Err}
use Rattle.fields.specs.Choice.{pick}
use Rattle.measures.specs.declared.Measures.{Measures}
use Rattle.sections.specs.Form.{index_size}
use Rattle.interval_edit.specs.declared.Site.{Site}
use Rattle.area.specs.Content.{Content, width_in}
use Rattle.area.specs.Reading.{whole, read_area}
use Rattle.change.specs.Parts.{Edit, divided, taken}
use Rattle.change.specs.Plan.{Plan, no_interval, no_room, stores, plan_of, index_after}
use Rattle.change.specs.declared.Full.{Full}
use Rattle.change.specs.declared.Full.TheVariants.{NoInterval, NoRoom}
use Rattle.change_plan.specs.AidParts.{parts_at, three_of}
use Rattle.change_plan.specs.declared.Parts.{Parts}
use Rattle.change_plan.specs.declared.Spread.{Spread}

-- how many parts, and where they are cut; where there are fewer than three, the second cut is the first
abbrev pub parts_for : List (List (List ℕ)) → Parts
parts_for ps =
    let first = length (get_or ps 0 []) in
    record { many = length ps; first = first; second = pick (ltb 2 (length ps)) (first + length (get_or ps 1 [])) first }

-- the plan of an edit: its parts, the free numbers that they take, and the size of the new index record; 0 for what is not taken or written
abbrev pub spread_for : Measures → Content → Site → Edit → Spread
spread_for m c site e =
    let ps = divided m c.filled e in
    let ks = taken (length ps - 1) c.free in
    record {
      site = site;
      parts = parts_for ps;
      a = get_or ks 0 0;
      b = get_or ks 1 0;
      index = pick (ltb 1 (length ps)) (index_size (width_in c) (index_after m c e)) 0;
    }

abbrev pub planned_as : Plan → Spread → Result Spread Full
planned_as no_interval p = Err NoInterval
planned_as no_room p = Err NoRoom
planned_as (stores ss) p = Ok p

abbrev pub planned_of : Measures → Content → Site → Edit → Result Spread Full
planned_of m c site e = planned_as (plan_of m c e) (spread_for m c site e)

-- What the functions say is said of the content that the area reads as: there is one at most.

abbrev pub FreeCounted : Measures → ℕ → List ℕ → ℕ → Type 0
FreeCounted m n area r = (c : Content) → read_area m n area ≡ whole c → r ≡ length c.free

abbrev pub EnoughFree : Measures → ℕ → List ℕ → ℕ → Type 0
EnoughFree m n area k = (c : Content) → read_area m n area ≡ whole c → k ≤ length c.free

-- the k-th free number from the right end, which is below n
abbrev pub TakenAt : Measures → ℕ → List ℕ → ℕ → ℕ → Type 0
TakenAt m n area k r = (c : Content) → read_area m n area ≡ whole c → (r ≡ get_or c.free (length c.free - (k + 1)) 0) × (r < n)

-- that edit is planned so
abbrev pub PlannedAs : Measures → ℕ → List ℕ → Site → Edit → Result Spread Full → Type 0
PlannedAs m n area site e r = (c : Content) → read_area m n area ≡ whole c → r ≡ planned_of m c site e

-- an edit of the site's entry that divides these records so is planned so
abbrev pub PlannedDivided : Measures → ℕ → List ℕ → Site → List (List ℕ) → Parts → Result Spread Full → Type 0
PlannedDivided m n area site rs p r =
    (c : Content) (e : Edit) → read_area m n area ≡ whole c → e.entry ≡ site.entry
    → divided m c.filled e ≡ parts_at (three_of p) p.first p.second rs → r ≡ planned_of m c site e
