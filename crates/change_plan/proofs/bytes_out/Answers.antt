-- Three ways out, one for each place where the bytes can lie: piece-before, piece-behind, piece-new. That they lie in one of them is asked for.
use Rattle.change_plan.proofs.bytes_out.Lts
use Rattle.change_plan.proofs.bytes_out.Reads
use Rattle.change_plan.proofs.bytes_out.Tie
use Prim.Native.Nat.{◌+◌, ◌-◌, ◌≤◌, ◌<◌}
use mathlib.Core.Path.{◌≡◌, ◌∙◌, sym}
use mathlib.Core.Logic.{⊎_elim}
use lib.ListN.{length, drop, length-drop}
use native.Mathlib.Omega.{arith}
use Rattle.change_plan.proofs.Pieces.{part-drop, piece-before, piece-behind, piece-new, copied}
use Rattle.change_plan.proofs.bytes_out.Goals as goal

abbrev Start-state : Type 0
Start-state = Lts.Start Tie.the-claims Reads.Pre Reads.Post Tie.handed_clauses

-- what is asked, in numbers
bounds : (s : Start-state) → (s.args.base + length (drop s.args.base s.args.area.now) ≡ length s.args.area.now)
    × (s.args.base + length (drop s.args.base s.args.area.now) + length s.args.new.now < 8589934592)
    × (s.args.site.start + s.args.site.span ≤ length (drop s.args.base s.args.area.now))
    × (s.args.x + length s.args.out.now + s.args.site.span ≤ length (drop s.args.base s.args.area.now) + length s.args.new.now)
bounds s =
    let l = length-drop s.args.base s.args.area.now in
    (omega (arith, l, s.requires.small.0), omega (arith, l, s.requires.small), s.requires.piece.inside, s.requires.piece.ends)

-- what lies neither before nor behind lies among what comes in
among : (s : Start-state) → s.args.site.start < s.args.x + length s.args.out.now → s.args.x < s.args.site.start + length s.args.new.now
    → (s.args.site.start ≤ s.args.x) × (s.args.x + length s.args.out.now ≤ s.args.site.start + length s.args.new.now)
among s h g = ⊎_elim (λ f. absurd (omega (arith, f))) (λ f. ⊎_elim (λ k. absurd (omega (arith, k))) (λ k. k) f) s.requires.piece.place

pub overflow_add-z : goal.overflow_add-z
overflow_add-z c =
    omega (arith, bounds c.before.before.before.before)

pub overflow_add-s : goal.overflow_add-s
overflow_add-s c =
    omega (arith, bounds c.before.before.before.before.before.before)

pub overflow_add-e : goal.overflow_add-e
overflow_add-e c =
    omega (arith, bounds c.before.before.before.before.before.before)

pub slice_bounds-copy-end : goal.slice_bounds-copy-end
slice_bounds-copy-end c =
    omega (arith, bounds c.before.before.before.before.before.before.before)

pub returns-then-z-site : goal.returns-then-z-site
returns-then-z-site c =
    let a = c.args in
    let o = length a.out.now in
    copied a.out.now a.area.now c.copy.new.b (a.base + a.x) (omega (arith, bounds c.before.before.before.before.before.before.before.before.before.before.before)) c.copy.ensures
    ∙ sym (part-drop a.area.now a.base a.x o)
    ∙ sym (piece-before a.site.start a.site.span a.new.now (drop a.base a.area.now) (omega (arith, bounds c.before.before.before.before.before.before.before.before.before.before.before)) a.x o (omega arith))

pub overflow_add-end : goal.overflow_add-end
overflow_add-end c = omega (arith, bounds c.before.before.before.before.before.before.before)

pub overflow_add-s-then-end-x : goal.overflow_add-s-then-end-x
overflow_add-s-then-end-x c = omega (arith, bounds c.before.before.before.before.before.before.before.before.before)

pub overflow_add-s-then-end-x-2 : goal.overflow_add-s-then-end-x-2
overflow_add-s-then-end-x-2 c = omega (arith, bounds c.before.before.before.before.before.before.before.before.before.before)

pub overflow_add-s-then-end-x-3 : goal.overflow_add-s-then-end-x-3
overflow_add-s-then-end-x-3 c = omega (arith, bounds c.before.before.before.before.before.before.before.before.before.before)

pub overflow_add-e-then-end-x : goal.overflow_add-e-then-end-x
overflow_add-e-then-end-x c = omega (arith, bounds c.before.before.before.before.before.before.before.before.before.before)

pub slice_bounds-copy-end-then-end-x : goal.slice_bounds-copy-end-then-end-x
slice_bounds-copy-end-then-end-x c = omega (arith, bounds c.before.before.before.before.before.before.before.before.before.before.before)

pub returns-then-end-x : goal.returns-then-end-x
returns-then-end-x c =
    let a = c.args in
    let o = length a.out.now in
    let p = a.site.start + a.site.span + (a.x - (a.site.start + length a.new.now)) in
    let e : a.base + a.site.start + a.site.span + (a.x - (a.site.start + length a.new.now)) ≡ a.base + p = omega arith in
    copied a.out.now a.area.now c.copy-then-end-x.new.b (a.base + p) (omega (arith, bounds c.before.before.before.before.before.before.before.before.before.before.before.before.before.before.before)) (rw (← e) c.copy-then-end-x.ensures)
    ∙ sym (part-drop a.area.now a.base p o)
    ∙ sym (piece-behind a.site.start a.site.span a.new.now (drop a.base a.area.now) (omega (arith, bounds c.before.before.before.before.before.before.before.before.before.before.before.before.before.before.before)) a.x o (omega arith))

pub overflow_sub-s-2 : goal.overflow_sub-s-2
overflow_sub-s-2 c = omega (arith, among c.before.before.before.before.before.before.before.before.before (omega arith) (omega arith))

pub slice_bounds-copy-end-2 : goal.slice_bounds-copy-end-2
slice_bounds-copy-end-2 c = omega (arith, among c.before.before.before.before.before.before.before.before.before.before (omega arith) (omega arith))

pub returns : goal.returns
returns c =
    let a = c.args in
    let o = length a.out.now in
    let i = among c.before.before.before.before.before.before.before.before.before.before.before.before.before.before (omega arith) (omega arith) in
    copied a.out.now a.new.now c.copy-2.new.b (a.x - a.site.start) (omega (arith, i)) c.copy-2.ensures
    ∙ sym (piece-new a.site.start a.site.span a.new.now (drop a.base a.area.now) (omega (arith, bounds c.before.before.before.before.before.before.before.before.before.before.before.before.before.before)) a.x o i.0 i.1)
