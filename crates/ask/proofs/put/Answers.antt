-- No loop. Eight stores one after another are one splice (sets-splice).
use mathlib.Core.List.{[], ◌∷◌}
use lib.ListN.{length-set}
use native.Mathlib.Omega.{arith}
use Rattle.fields.proofs.Splices.{sets-splice}
use Rattle.ask.proofs.put.Goals as goal

pub bounds-values-1 : goal.bounds-values-1
bounds-values-1 c = simp (length-set) (omega (arith, c.requires))

pub bounds-values-2 : goal.bounds-values-2
bounds-values-2 c = simp (length-set, length-set) (omega (arith, c.requires))

pub bounds-values-3 : goal.bounds-values-3
bounds-values-3 c = simp (length-set, length-set, length-set) (omega (arith, c.requires))

pub bounds-values-4 : goal.bounds-values-4
bounds-values-4 c = simp (length-set, length-set, length-set, length-set) (omega (arith, c.requires))

pub bounds-values-5 : goal.bounds-values-5
bounds-values-5 c = simp (length-set, length-set, length-set, length-set, length-set) (omega (arith, c.requires))

pub bounds-values-6 : goal.bounds-values-6
bounds-values-6 c = simp (length-set, length-set, length-set, length-set, length-set, length-set) (omega (arith, c.requires))

pub bounds-values-7 : goal.bounds-values-7
bounds-values-7 c =
    simp (length-set, length-set, length-set, length-set, length-set, length-set, length-set) (omega (arith, c.requires))

pub returns : goal.returns
returns c = let a = c.args in
    let t = a.t in
    sets-splice (t.first ∷ t.second ∷ t.third ∷ t.fourth ∷ t.fifth ∷ t.sixth ∷ t.seventh ∷ t.eighth ∷ []) a.values.now 0 c.requires
