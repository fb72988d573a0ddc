-- No loop. A place that does not lie in the area has the empty part (place-past, place-cut, shown-none); any other has its own (place_in, shown-part).
use Rattle.walk.proofs.walk_record.Lts
use Rattle.walk.proofs.walk_record.Reads
use Prim.Native.Nat.{◌-◌, ◌≤◌}
use mathlib.Core.Path.{refl}
use mathlib.Core.Logic.{⊎_elim}
use lib.ListN.{length}
use native.Mathlib.Omega.{arith}
use borrow.Author.Tests.{ltb-true, ltb-false}
use borrow.Author.Rules.{rules}
use Rattle.fields.proofs.Splices.{part-is}
use Rattle.walk.proofs.Ways.{place-past, place-cut, place_in, shown-none, shown-part}
use Rattle.walk.proofs.walk_record.Goals as goal

abbrev After-struct_known4-state : Type 0
After-struct_known4-state = Lts.After-struct_known4 Reads.Pre Reads.Post

-- the record lies in the area
lies : (d : After-struct_known4-state) → (d.args.p.start ≤ length d.args.area.now) × (d.args.p.length ≤ length d.args.area.now - d.args.p.start)
lies d = (d.if-area-p.false, ltb-false _ _ d.if-area-p-2.false-raw)

pub returns-then-area-p : goal.returns-then-area-p
returns-then-area-p c =
    let a = c.args in
    shown-none a.area a.p _
    (⊎_elim (λ w. place-past a.area.now a.p w.if-area-p.true) (λ w. place-cut a.area.now a.p w.if-area-p.false (ltb-true _ _ w.if-area-p-2.true-raw)) c.then-area-p.branch-raw) refl refl

pub overflow_add-e : goal.overflow_add-e
overflow_add-e c = omega (arith, lies c.before)

pub slice_bounds-result-end-2 : goal.slice_bounds-result-end-2
slice_bounds-result-end-2 c =
    let l = lies c.before in
    search rules

pub returns : goal.returns
returns c =
    let a = c.args in
    shown-part a.area a.p _ (place_in a.area.now a.p (lies c.before.before).0 (lies c.before.before).1) (part-is a.area.now a.p.start a.p.length) refl
