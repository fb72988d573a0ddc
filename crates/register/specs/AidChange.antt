-- Aids: the change that a kind and some bytes ask for, and where a search says that it is made.
use Rattle.std.specs.Prelude.{ℕ, ◌≡◌, true, List, [], Err, Ok, Result}
use Rattle.measures.specs.declared.Measures.{Measures}
use Rattle.interval.specs.declared.Found.{Found}
use Rattle.interval.specs.declared.Found.TheVariants.{At, Gap}
use Rattle.area.specs.Content.{Content, records_of}
use Rattle.area_find.specs.declared.KeyPlace.{KeyPlace}
use Rattle.interval_edit.specs.declared.Site.{Site}
use Rattle.change.specs.Plan.{plan_of}
use Rattle.requests.specs.Records.{with_key}
use Rattle.requests.specs.Model.{Change, insert, update, erase}
use Rattle.requests.specs.Changing.{Outcome, key_in, length_fine, edit_of, carry_out, if_keyed}
use Rattle.requests.specs.Answers.{Answer}
use Rattle.requests.specs.declared.Refusal.{Refusal}
use Rattle.requests.specs.declared.Refusal.TheVariants.{Present, Absent}
use Rattle.register.specs.AidTold.{MakesIn}
use Rattle.register.specs.declared.Kind.{Kind}
use Rattle.register.specs.declared.Kind.TheVariants.{Insert, Update, Erase}

-- the change with the bytes that are handed over
abbrev pub change_for : Kind → List ℕ → Change
change_for Insert given = insert given
change_for Update given = update given
change_for Erase given = erase given

-- the change with a key and the bytes of the record that comes, none for an erase
abbrev pub change_at : Kind → List ℕ → List ℕ → Change
change_at Insert key new = insert new
change_at Update key new = update new
change_at Erase key new = erase key

-- it has that key and a fine length, and an erase brings nothing
abbrev pub BringsNothing : Kind → List ℕ → Type 0
BringsNothing Insert new = Unit {0}
BringsNothing Update new = Unit {0}
BringsNothing Erase new = new ≡ []

pub record Asked (m : Measures) (kind : Kind) (key new : List ℕ) : Type 0 where
  pub is : key ≡ key_in m (change_at kind key new)
  pub fine : length_fine m (change_at kind key new) ≡ true
  pub none : BringsNothing kind new

-- what it comes to once its length is found fine
abbrev pub keyed_in : Measures → Content → List ℕ → Change → Outcome
keyed_in m c area ch = if_keyed ch (with_key m (key_in m ch) (records_of c.filled)) area (carry_out m area (plan_of m c (edit_of m c ch)))

-- the site at a gap, where nothing goes, and at a record, which goes
abbrev pub gap_site : ℕ → ℕ → ℕ → ℕ → Site
gap_site entry number i s = record { entry = entry; number = number; ordinal = i; start = s; gone = 0; span = 0 }

abbrev pub record_site : ℕ → ℕ → ℕ → ℕ → ℕ → Site
record_site entry number i s l = record { entry = entry; number = number; ordinal = i; start = s; gone = 1; span = l }

-- an insert is made at a gap, the others at a record
abbrev pub aim_at : Kind → ℕ → ℕ → Found → Result Site Refusal
aim_at Insert entry number (Gap i s) = Ok (gap_site entry number i s)
aim_at Insert entry number (At i s l) = Err Present
aim_at Update entry number (Gap i s) = Err Absent
aim_at Update entry number (At i s l) = Ok (record_site entry number i s l)
aim_at Erase entry number (Gap i s) = Err Absent
aim_at Erase entry number (At i s l) = Ok (record_site entry number i s l)

abbrev pub aim_of : Kind → KeyPlace → Result Site Refusal
aim_of kind spot = aim_at kind spot.entry spot.number spot.found

-- what that is, in a sound area
abbrev pub MakesKeyed : Measures → ℕ → List ℕ → Change → Answer → List ℕ → Type 0
MakesKeyed m n area ch r after = MakesIn m n area (λ c. keyed_in m c area ch) r after
