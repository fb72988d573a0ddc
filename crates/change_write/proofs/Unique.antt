-- For each public function: any two results that its contract allows are equal, the area too.
-- `Learnt` of a function is its contract's `ensures`, as every caller reads it, and `Asked` its `requires`.
use Prim.Native.Nat.{ℕ}
use mathlib.Core.Path.{◌≡◌}
use mathlib.Core.List.{List}
use Rattle.std.specs.Prelude.{Result, Ok}
use Rattle.fields.proofs.Choices.{agree}
use Rattle.measures.specs.declared.Measures.{Measures}
use Rattle.area.specs.Content.{Content}
use Rattle.area.specs.Reading.{read_area, whole}
use Rattle.change.specs.Parts.{Edit}
use Rattle.change.specs.declared.Full.{Full}
use Rattle.change.specs.declared.Written.{Written}
use Rattle.change_write.specs.AidCarried.{MadeEdit}
use Rattle.change_write.proofs.apply.Reads as apply
use Rattle.change_write.proofs.change.Reads as change

-- an area that has a content leaves one answer and one area after
only : (m : Measures) (n : ℕ) (area : List ℕ) (e : Edit) (r s : Result Written Full) (after other : List ℕ) (c : Content) → read_area m n area ≡ whole c → MadeEdit m n area e r after
    → MadeEdit m n area e s other → (r ≡ s) × (after ≡ other)
only m n area e r s after other c w p q =
    let a = p c w in
    let b = q c w in
    (agree a.answers b.answers, agree a.leaves b.leaves)

-- the area is the first parameter
pub unique-apply : (κs : _) (args : _) (r s : Written) (e f : _) → apply.Asked κs args → apply.Learnt κs args r e → apply.Learnt κs args s f → (r ≡ s) × (e.0.now ≡ f.0.now)
unique-apply κs args r s e f d p q =
    let o = only _ _ _ _ (Ok r) (Ok s) _ _ d.0.edits.entered.content d.0.edits.entered.reads p q in
    (cc o.0, o.1)

pub unique-change : (κs : _) (args : _) (r s : Result Written Full) (e f : _) → change.Asked κs args → change.Learnt κs args r e → change.Learnt κs args s f → (r ≡ s) × (e.0.now ≡ f.0.now)
unique-change κs args r s e f d p q = only _ _ _ _ r s _ _ d.entered.content d.entered.reads p q
