-- For each public function: any two results that its contract allows are equal.
use Prim.Native.Nat.{ℕ}
use mathlib.Core.Path.{◌≡◌, ◌∙◌, ap}
use Rattle.fields.proofs.Choices.{agree}
use Rattle.index_find.specs.declared.Located.{Located}
use Rattle.index_find.proofs.locate.Reads as locate

pub unique-locate : (κs : _) (args : _) (r s : Located) (e f : _) → locate.Learnt κs args r e → locate.Learnt κs args s f → r ≡ s
unique-locate κs args r s e f p q =
    ap (λ (x : ℕ). record { ordinal = x; number = r.number }) (agree p.ordinal q.ordinal)
    ∙ ap (λ (x : ℕ). record { ordinal = s.ordinal; number = x }) (agree p.number q.number)
