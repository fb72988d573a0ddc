-- No loop. sought-lies does the work: each number is named once, so that the record which the search finds in one interval is all that lies there.
-- An interval with another number doesn't reach the address, and a free one has no record. What was found ends within the area (Inside).
use Rattle.std.specs.Prelude.{Option, Some, None, Err}
use mathlib.Core.Path.{◌≡◌, refl, sym, ap}
use mathlib.Core.List.{List}
use Prim.Native.Nat.{ℕ}
use lib.ListN.{length}
use Rattle.measures.specs.Judgement.{Fits}
use Rattle.measures.specs.declared.Measures.{Measures}
use Rattle.area.specs.Content.{Content, base_of}
use Rattle.area.specs.Reading.{read_area, whole}
use Rattle.area.specs.declared.Lying.{Lying}
use Rattle.area_find.specs.AidSought.{sought_at}
use Rattle.requests.specs.Records.{lying_at}
use Rattle.requests.specs.Reading.{hand_out}
use Rattle.requests.specs.declared.Refusal.TheVariants.{NoRecord}
use Rattle.register.proofs.AddressFound.{LiesAs, sought-lies}
use Rattle.register.proofs.Reading.{gives_as}
use Rattle.register.proofs.get_at_in.Goals as goal

-- what the search told of the address is what lies there
lies : (m : Measures) (n : ℕ) (area : List ℕ) → Fits m n (length area) → (address : ℕ) (d : Content) → read_area m n area ≡ whole d
    → (r : Option Lying) → r ≡ sought_at m n area address → LiesAs area (lying_at m (base_of d) address d.filled) r
lies m n area o address d h r t = rw t (sought-lies m n area o (record { content = d; reads = h }) address)

pub returns-in_default : goal.returns-in_default
returns-in_default c =
    let a = c.args in
    λ (d : Content) (h : read_area a.m a.n a.area.now ≡ whole d).
    gives_as (ap (λ (rs : List (List ℕ)). hand_out (Err NoRecord) rs a.out.now) (sym (lies a.m a.n a.area.now c.requires.0 a.address d h None c.in_default.ensures.is))) (record { answers = refl; outputs = refl })

pub hand_out-requires : goal.hand_out-requires
hand_out-requires c = c.in-Some.ensures.inside

pub returns : goal.returns
returns c =
    let a = c.args in
    λ (d : Content) (h : read_area a.m a.n a.area.now ≡ whole d).
    gives_as (ap (λ (rs : List (List ℕ)). hand_out (Err NoRecord) rs a.out.now) (sym (lies a.m a.n a.area.now c.requires.0 a.address d h (Some c.in-Some.lying) c.in-Some.ensures.is))) c.hand_out.ensures
