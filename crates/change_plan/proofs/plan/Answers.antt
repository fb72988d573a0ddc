-- No loop. Each of the three answers of the division is planned (planned-stays, planned-two, planned-three in Telling); two or three parts by
-- plan_divided, which asks that they lie between records (two-inside, three-inside). What is neither Stays nor Two is Three (is-three).
use Rattle.change_plan.proofs.plan.Lts
use Rattle.change_plan.proofs.plan.Reads
use Rattle.change_plan.proofs.plan.Tie
use mathlib.Core.Path.{◌≡◌, ◌∙◌, sym}
use native.Mathlib.Omega.{arith}
use Rattle.division.specs.Division.{division_of}
use Rattle.division.specs.declared.Division.TheVariants.{Stays, Two, Three}
use Rattle.change_plan.specs.AidEdited.{Seen}
use Rattle.change_plan.proofs.Telling.{told-seen, two-inside, three-inside, planned-stays, planned-two, planned-three, is-three}
use Rattle.change_plan.proofs.plan.Goals as goal

abbrev Start-state : Type 0
Start-state = Lts.Start Tie.the-claims Reads.Pre Reads.Post

abbrev After-enum_told-state : Type 0
After-enum_told-state = Lts.Past-After-enum_told Tie.the-claims Reads.Pre Reads.Post

abbrev After-known_told-state : Type 0
After-known_told-state = Lts.Past-After-known_told Tie.the-claims Reads.Pre Reads.Post

abbrev After-struct_known-state : Type 0
After-struct_known-state = Lts.After-struct_known Tie.the-claims Reads.Pre Reads.Post

-- the three answers of the division
stays : (k : After-enum_told-state) → division_of k.args.m.size k.args.lens.now ≡ Stays
stays k = sym k.divide-division.ensures ∙ k.in-Stays.is

two : (k : After-known_told-state) → division_of k.args.m.size k.args.lens.now ≡ Two k.in-Two.cut
two k = sym k.divide-division.ensures ∙ k.in-Two.is

three : (k : After-struct_known-state) → division_of k.args.m.size k.args.lens.now ≡ Three
three k = sym k.divide-division.ensures ∙ is-three k.divide-division.result k.in_default.not-Stays k.in_default-division.not-Two

-- what of the edit is seen in the interval
seen : (s : Start-state) → Seen s.args.m s.args.area.now s.args.site s.args.new.now s.args.lens.now
seen s = let a = s.args in told-seen a.m a.n a.area.now a.site a.new.now a.lens.now s.requires

pub divide-division-requires : goal.divide-division-requires
divide-division-requires c =
    let a = c.args in
    (seen c.before.before.before.before).few

pub returns-in-Stays : goal.returns-in-Stays
returns-in-Stays c =
    let a = c.args in
    planned-stays a.m a.n a.area.now a.site a.new.now a.lens.now c.requires (stays c.before)

pub overflow_add-three : goal.overflow_add-three
overflow_add-three c =
    let a = c.args in
    omega (arith, (three-inside a.m a.n a.area.now a.site a.new.now a.lens.now c.requires (three c.before)).inside, (seen c.before.before.before.before.before.before.before.before).few)

pub plan_divided-requires : goal.plan_divided-requires
plan_divided-requires c =
    let a = c.args in
    (c.requires.edits.entered, seen c.before.before.before.before.before.before.before.before, three-inside a.m a.n a.area.now a.site a.new.now a.lens.now c.requires (three c.before))

pub returns-in_default-division : goal.returns-in_default-division
returns-in_default-division c =
    let a = c.args in
    planned-three a.m a.n a.area.now a.site a.new.now a.lens.now c.requires (three c.before.before) c.plan_divided.result c.plan_divided.ensures

pub plan_divided-requires-2 : goal.plan_divided-requires-2
plan_divided-requires-2 c =
    let a = c.args in
    (c.requires.edits.entered, seen c.before.before.before.before.before.before.before, two-inside a.m a.n a.area.now a.site a.new.now a.lens.now c.requires c.in-Two.cut (two c.before))

pub returns : goal.returns
returns c =
    let a = c.args in
    planned-two a.m a.n a.area.now a.site a.new.now a.lens.now c.requires
    c.in-Two.cut (two c.before.before) c.plan_divided-2.result c.plan_divided-2.ensures
