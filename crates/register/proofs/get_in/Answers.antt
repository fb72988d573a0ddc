-- No loop. A key of another length is answered by the index record alone, with the output untouched (get-wrong). Else the search says all (get-looked): damage at the
-- index record or at the interval that the key leads to, no record there, or one that lies within the area (Inside) and is handed out.
use Rattle.std.specs.Prelude.{Option, Some, None, Result, Ok, Err}
use Prim.Native.Nat.{ℕ}
use mathlib.Core.List.{List}
use mathlib.Core.Path.{◌≡◌, refl, ◌∙◌, ap}
use lib.ListN.{length}
use Rattle.measures.specs.Judgement.{Fits}
use Rattle.measures.specs.declared.Measures.{Measures}
use Rattle.area.specs.declared.Lying.{Lying}
use Rattle.area.specs.declared.Damage.{Damage}
use Rattle.area_seek.specs.AidLooked.{looked_of}
use Rattle.requests.specs.Reading.{get_in}
use Rattle.requests.specs.declared.Refusal.TheVariants.{Damaged}
use Rattle.requests.proofs.Exits.{handed_on}
use Rattle.register.proofs.Reading.{gives_as, gives-same, given_by, get-wrong, get-looked}
use Rattle.register.proofs.get_in.Goals as goal

-- what the search told is what is to be given
given : (m : Measures) (n : ℕ) (area wanted out : List ℕ) → Fits m n (length area) → (length wanted ≡ m.key)
    → (r : Result (Option Lying) Damage) → r ≡ looked_of m n area wanted → given_by area out r ≡ get_in m n area wanted out
given m n area wanted out o long r is = ap (given_by area out) is ∙ get-looked m n area wanted out o long

pub returns-then-wanted-m : goal.returns-then-wanted-m
returns-then-wanted-m c =
    let a = c.args in
    get-wrong a.m a.n a.area.now a.wanted.now a.out.now c.if-wanted-m.true c.wrong_length.result c.wrong_length.ensures

pub returns-in_err-lying : goal.returns-in_err-lying
returns-in_err-lying c =
    let a = c.args in
    let damage = c.in_err-lying.field-0.0 in
    gives-same (handed_on c.from_residual.result (Damaged damage.place) c.from_residual.ensures.1)
    (gives_as (given a.m a.n a.area.now a.wanted.now a.out.now c.requires c.if-wanted-m.false (Err damage) c.in_err-lying.ensures.is) (record { answers = refl; outputs = refl }))

pub hand_out-requires : goal.hand_out-requires
hand_out-requires c = rw c.in-Some.is at c.in_ok-lying.ensures.inside

pub returns-in_default : goal.returns-in_default
returns-in_default c =
    let a = c.args in
    gives_as (given a.m a.n a.area.now a.wanted.now a.out.now c.requires c.if-wanted-m.false (Ok None) (rw c.in_default.is at c.in_ok-lying.ensures.is)) (record { answers = refl; outputs = refl })

pub returns : goal.returns
returns c =
    let a = c.args in
    gives_as (given a.m a.n a.area.now a.wanted.now a.out.now c.requires c.if-wanted-m.false (Ok (Some c.in-Some.lying)) (rw c.in-Some.is at c.in_ok-lying.ensures.is)) c.hand_out.ensures
