-- For each public function: any two results that its contract allows are equal. `Learnt` is the contract as a caller reads it.
use Rattle.std.specs.Prelude.{Option}
use Prim.Native.Nat.{ℕ}
use mathlib.Core.Path.{◌≡◌, ap, sym, ◌∙◌}
use mathlib.Core.List.{List}
use Rattle.fields.proofs.Choices.{agree}
use Rattle.measures.specs.declared.Measures.{Measures}
use Rattle.interval.specs.Search.{place_of}
use Rattle.interval.specs.Reading.{records_in}
use Rattle.interval.specs.declared.Found.{Found}
use Rattle.area.specs.Content.{data_in}
use Rattle.area_find.specs.AidSought.{Sought}
use Rattle.area_find.specs.declared.KeyPlace.{KeyPlace}
use Rattle.area_find.proofs.find.Reads as find
use Rattle.area_find.proofs.record_at.Reads as record-at
use Rattle.area.specs.declared.Lying.{Lying}

abbrev spot : ℕ → ℕ → Found → KeyPlace
spot e n f = record { entry = e; number = n; found = f }

-- spots with the same parts are the same
spot-same : (r s : KeyPlace) → r.entry ≡ s.entry → r.number ≡ s.number → r.found ≡ s.found → r ≡ s
spot-same r s a b c =
    ap (λ (e : ℕ). spot e r.number r.found) a ∙ ap (λ (n : ℕ). spot s.entry n r.found) b ∙ ap (λ (f : Found). spot s.entry s.number f) c

only : (m : Measures) (n : ℕ) (area key : List ℕ) (r s : KeyPlace) → Sought m n area key r → Sought m n area key s → r ≡ s
only m n area key r s p q =
    let e : r.number ≡ s.number = agree p.number q.number in
    spot-same r s (agree p.entry q.entry) e (p.found ∙ ap (λ (k : ℕ). place_of m key (records_in (data_in m area k))) e ∙ sym q.found)

pub unique-find : (κs : _) (args : _) (r s : KeyPlace) (e f : _) → find.Learnt κs args r e → find.Learnt κs args s f → r ≡ s
unique-find κs args r s e f p q = only _ _ _ _ r s p q

pub unique-record-at : (κs : _) (args : _) (r s : Option Lying) (e f : _) → record-at.Learnt κs args r e → record-at.Learnt κs args s f → r ≡ s
unique-record-at κs args r s e f p q = agree p.0 q.0
