-- Aids: a plan carried out: what is answered, and what the area holds afterwards. The requests' contracts say it without these.
use Rattle.std.specs.Prelude.{ℕ, ◌+◌, ◌≤◌, ◌<◌, ◌≡◌, List, [], ◌∷◌, eqb, Result, Ok, Err}
use Rattle.fields.specs.Choice.{pick}
use Rattle.measures.specs.Judgement.{limit}
use Rattle.measures.specs.declared.Measures.{Measures}
use Rattle.area.specs.Content.{Content}
use Rattle.area.specs.Reading.{read_area, whole}
use Rattle.change.specs.Stores.{stored}
use Rattle.change.specs.Parts.{Edit}
use Rattle.change.specs.Plan.{Plan, no_interval, no_room, stores, plan_of}
use Rattle.change.specs.Written.{in_order, carrying, written_of}
use Rattle.change.specs.declared.Full.{Full}
use Rattle.change.specs.declared.Full.TheVariants.{NoInterval, NoRoom}
use Rattle.change.specs.declared.Written.{Written}
use Rattle.change_plan.specs.declared.Spread.{Spread}

-- which intervals were written, or why none was
abbrev pub made_of : Plan → Result Written Full
made_of no_interval = Err NoInterval
made_of no_room = Err NoRoom
made_of (stores ss) = Ok (written_of ss)

-- a refusal leaves every byte
abbrev pub left_by : Measures → List ℕ → Plan → List ℕ
left_by m area no_interval = area
left_by m area no_room = area
left_by m area (stores ss) = stored m.size area ss

pub record Carries (m : Measures) (area : List ℕ) (plan : Plan) (made : Result Written Full) (after : List ℕ) : Type 0 where
  pub answers : made ≡ made_of plan
  pub leaves : after ≡ left_by m area plan

-- What the functions say is said of the content that the area reads as: there is one at most.

-- that edit is carried out
abbrev pub MadeEdit : Measures → ℕ → List ℕ → Edit → Result Written Full → List ℕ → Type 0
MadeEdit m n area e made after = (c : Content) → read_area m n area ≡ whole c → Carries m area (plan_of m c e) made after

-- and with these intervals written
abbrev pub Applied : Measures → ℕ → List ℕ → Edit → Written → List ℕ → Type 0
Applied m n area e written after = MadeEdit m n area e (Ok written) after

-- There are one to three parts; their intervals are the old one and those taken, which are others than the old one and than each other.
pub record SpreadApart (s : Spread) : Type 0 where
  pub some : 1 ≤ s.parts.many
  pub few : s.parts.many ≤ 3
  pub old_below : s.site.number < limit
  pub a-below : 2 ≤ s.parts.many → s.a < limit
  pub b-below : 3 ≤ s.parts.many → s.b < limit
  pub a-other : 2 ≤ s.parts.many → s.a ≡ s.site.number → ⊥
  pub b-other : 3 ≤ s.parts.many → s.b ≡ s.site.number → ⊥
  pub two-taken : 3 ≤ s.parts.many → s.a ≡ s.b → ⊥

-- the numbers of the stores of a spread, in their order: the intervals taken, the index record, the old interval
abbrev pub numbers_for : Spread → List ℕ
numbers_for s =
    let old = s.site.number + 1 in
    pick (eqb s.parts.many 1) (old ∷ [])
    (pick (eqb s.parts.many 2) ((s.a + 1) ∷ 0 ∷ old ∷ []) ((s.a + 1) ∷ (s.b + 1) ∷ 0 ∷ old ∷ []))

abbrev pub written_for : Spread → Written
written_for s = carrying (in_order (numbers_for s))
