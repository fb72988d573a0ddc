-- No loop. By what is asked for and what was found: an insert aims at a gap and is refused at a record, as the clauses of aim_at say (aims-as). The others
-- are refused at a gap and aim at a record (other-gap, other-record).
use Rattle.std.specs.Prelude.{Err, Ok}
use Prim.Native.Nat.{ℕ}
use mathlib.Core.Path.{◌≡◌, refl, ◌∙◌, sym}
use Rattle.interval.specs.declared.Found.{Found}
use Rattle.interval.specs.declared.Found.TheVariants.{At, Gap}
use Rattle.area_find.specs.declared.KeyPlace.{KeyPlace}
use Rattle.requests.specs.declared.Refusal.TheVariants.{Absent}
use Rattle.register.specs.AidChange.{record_site, aim_at, aim_of}
use Rattle.register.specs.declared.Kind.{Kind}
use Rattle.register.specs.declared.Kind.TheVariants.{Insert, Update, Erase}
use Rattle.register.proofs.take_aim.Goals as goal

-- what is found and what is asked for, by their names
aims-as : (kind k : Kind) (spot : KeyPlace) (f : Found) → kind ≡ k → spot.found ≡ f → aim_at k spot.entry spot.number f ≡ aim_of kind spot
aims-as kind k spot f e h = sym (rw (e, h))

-- an update and an erase
other-gap : (kind : Kind) (entry number i s : ℕ) → (kind ≡ Insert → ⊥) → Err Absent ≡ aim_at kind entry number (Gap i s)
other-gap Insert entry number i s h = absurd (h refl)
other-gap Update entry number i s h = refl
other-gap Erase entry number i s h = refl

other-record : (kind : Kind) (entry number i s l : ℕ) → (kind ≡ Insert → ⊥)
    → Ok (record_site entry number i s l) ≡ aim_at kind entry number (At i s l)
other-record Insert entry number i s l h = absurd (h refl)
other-record Update entry number i s l h = refl
other-record Erase entry number i s l h = refl

pub returns-in_default : goal.returns-in_default
returns-in_default c =
    let a = c.args in
    other-gap a.kind a.spot.entry a.spot.number c.in-Gap.ordinal c.in-Gap.start c.in_default.not-Insert ∙ aims-as a.kind a.kind a.spot (Gap c.in-Gap.ordinal c.in-Gap.start) refl c.in-Gap.is

pub returns-in-Insert-kind : goal.returns-in-Insert-kind
returns-in-Insert-kind c =
    let a = c.args in
    aims-as a.kind Insert a.spot (At c.in-At.ordinal c.in-At.start c.in-At.length) c.in-Insert-kind.is c.in-At.is

pub returns-in-Insert : goal.returns-in-Insert
returns-in-Insert c =
    let a = c.args in
    aims-as a.kind Insert a.spot (Gap c.in-Gap.ordinal c.in-Gap.start) c.in-Insert.is c.in-Gap.is

pub returns-in_default-kind : goal.returns-in_default-kind
returns-in_default-kind c =
    let a = c.args in
    other-record a.kind a.spot.entry a.spot.number c.in-At.ordinal c.in-At.start c.in-At.length c.in_default-kind.not-Insert
    ∙ aims-as a.kind a.kind a.spot (At c.in-At.ordinal c.in-At.start c.in-At.length) refl c.in-At.is
