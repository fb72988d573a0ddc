-- What it is that a change was accepted: document 01, 'What each number tells the depot'.
use Rattle.std.specs.Prelude.{ℕ, ◌+◌, ◌≡◌, List, ◌++◌, length, take, drop, Ok}
use Rattle.measures.specs.Judgement.{judged_of, passed}
use Rattle.measures.specs.declared.Measures.{Measures}
use Rattle.area.specs.Content.{Content, records_of, Filled}
use Rattle.area.specs.Reading.{whole, read_area}
use Rattle.change.specs.Stores.{Store, stored}
use Rattle.change.specs.Parts.{Edit, edited}
use Rattle.change.specs.Plan.{stores, plan_of}
use Rattle.change.specs.Fitting.{Proper}
use Rattle.requests.specs.Model.{Change, make_change, Legal}
use Rattle.requests.specs.Changing.{Outcome, edit_of}
use Rattle.change.specs.Written.{written_of}
use Rattle.requests.specs.declared.Done.TheVariants.{Changed}

-- all records with the edit made
abbrev pub remade : List Filled → Edit → List (List ℕ)
remade fs e = records_of (take e.entry fs) ++ (edited fs e ++ records_of (drop (e.entry + 1) fs))

-- An accepted change: the measures are fine, the area is whole, the change may be made in the plain list of its records; the edit is one that its interval
-- can bear and makes that change; its stores were planned, and the area is left with them made.
pub record Accepted (m : Measures) (area : List ℕ) (ch : Change) (o : Outcome) : Type 0 where
  pub n : ℕ
  pub c : Content
  pub ss : List Store
  pub judges : judged_of m (length area) ≡ passed m n
  pub reads : read_area m n area ≡ whole c
  pub legal : Legal m ch (records_of c.filled)
  pub proper : Proper m c.filled (edit_of m c ch)
  pub makes : remade c.filled (edit_of m c ch) ≡ make_change m ch (records_of c.filled)
  pub planned : plan_of m c (edit_of m c ch) ≡ stores ss
  pub answers : o.answer ≡ (Ok (Changed (written_of ss)))
  pub leaves : o.area ≡ stored m.size area ss
