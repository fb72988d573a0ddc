-- The chain of sections, as a reader follows it: where the last entry closes a section and its field is zero, every field leads to the next section's highest.
use Prim.Native.Nat.{ℕ, zero, suc, ◌+◌, ◌-◌, ◌<◌}
use mathlib.Core.Path.{◌≡◌, refl, ◌∙◌, sym, ap}
use mathlib.Core.Bool.{Bool, true, false}
use mathlib.Core.List.{List, [], ◌∷◌}
use lib.Dec.{eqb}
use native.Mathlib.Omega.{arith}
use borrow.Author.Tests.{eq-eqb, eqb-true}
use Rattle.fields.specs.Choice.{pick}
use Rattle.fields.specs.Bytes.{number}
use Rattle.fields.proofs.Choices.{false-true, both-join}
use Rattle.index.specs.Pieces.{piece_size}
use Rattle.index.specs.Reading.{piece_at}
use Rattle.sections.specs.Parts.{Part, part_size, parts_size, sections_in, ends_closed}
use Rattle.sections.specs.Layout.{ahead, field_of}
use Rattle.sections.specs.Reading.{parts_at, fields_true}
use Rattle.sections.proofs.Laying.{ahead-most, field-more}

-- what is known of a chain that was followed from a place with an end to be met
pub record Followed (w : ℕ) (ib : List ℕ) (r end : ℕ) (ps : List Part) : Type 0 where
  pub fields : fields_true w ib r ps ≡ true
  pub met : end + ahead w ps ≡ r

-- one entry before others that were followed
module _ (w : ℕ) (ib : List ℕ) (r end : ℕ) (p : Part) (ps : List Part) (at : p.closes ≡ eqb (r - (w + 2)) end) (closed : ends_closed ps ≡ true)
    (room : part_size w p + parts_size w ps < r) where
  followed-next : Followed w ib (r - part_size w p) (pick p.closes (end - number 2 ib (r - part_size w p)) end) ps → Followed w ib r end (p ∷ ps)
  unfolding fields_true ahead
  followed-next f = go p.closes refl
    where
      go : (t : Bool) → p.closes ≡ t → Followed w ib r end (p ∷ ps)
      go true c =
          let e : r - (w + 2) ≡ end = eqb-true (r - (w + 2)) end (sym at ∙ c) in
          let sz : part_size w p ≡ piece_size w p.piece + 2 = rw c in
          let m : end - number 2 ib (r - part_size w p) + ahead w ps ≡ r - part_size w p = ap (λ (u : Bool). pick u (end - number 2 ib (r - part_size w p)) end + ahead w ps) (sym c) ∙ f.met in
          let d : number 2 ib (r - part_size w p) ≡ field_of w p ps = omega (arith, e, m, sz, field-more w p ps closed, ahead-most w ps, room) in
          record {
            fields = both-join _ _ (ap (λ (u : Bool). pick u (eqb (number 2 ib (r - part_size w p)) (field_of w p ps)) true) c ∙ eq-eqb _ _ d) f.fields;
            met = rw c (omega (arith, e, sz, room));
          }
      go false c =
          let sz : part_size w p ≡ piece_size w p.piece + 0 = rw c in
          let m : end + ahead w ps ≡ r - part_size w p = ap (λ (u : Bool). pick u (end - number 2 ib (r - part_size w p)) end + ahead w ps) (sym c) ∙ f.met in
          record {
            fields = both-join _ _ (ap (λ (u : Bool). pick u (eqb (number 2 ib (r - part_size w p)) (field_of w p ps)) true) c) f.fields;
            met = rw c (omega (arith, m, sz, room));
          }

-- the last entry
followed-last : (w : ℕ) (ib : List ℕ) (r end : ℕ) (p : Part) → p.closes ≡ eqb (r - (w + 2)) end → p.closes ≡ true → part_size w p < r
    → number 2 ib (r - part_size w p) ≡ 0 → Followed w ib r end (p ∷ [])
unfolding fields_true ahead sections_in
followed-last w ib r end p at c room z =
    let e : r - (w + 2) ≡ end = eqb-true (r - (w + 2)) end (sym at ∙ c) in
    let sz : part_size w p ≡ piece_size w p.piece + 2 = rw c in
    record {
      fields = both-join _ _ (ap (λ (u : Bool). pick u (eqb (number 2 ib (r - part_size w p)) 0) true) c ∙ eq-eqb _ _ z) refl;
      met = rw c (omega (arith, e, sz, room));
    }

-- All of them. Nothing reaches to the record's first byte.
pub followed : (w : ℕ) (ib : List ℕ) (r end e : ℕ) → parts_size w (parts_at w ib r end e) < r → ends_closed (parts_at w ib r end e) ≡ true
    → number 2 ib (r - parts_size w (parts_at w ib r end e)) ≡ 0 → Followed w ib r end (parts_at w ib r end e)
unfolding parts_at parts_size ends_closed
followed w ib r end zero room h z = absurd (false-true h)
followed w ib r end (suc zero) room h z =
    let p : Part = record { piece = piece_at w ib r; closes = eqb (r - (w + 2)) end } in
    let a : r - (part_size w p + 0) ≡ r - part_size w p = omega arith in
    followed-last w ib r end p refl h (omega (arith, room)) (rw a at z)
followed w ib r end (suc (suc e)) room h z =
    let p : Part = record { piece = piece_at w ib r; closes = eqb (r - (w + 2)) end } in
    let end' : ℕ = pick p.closes (end - number 2 ib (r - part_size w p)) end in
    let size : ℕ = parts_size w (parts_at w ib (r - part_size w p) end' (suc e)) in
    let a : r - (part_size w p + size) ≡ r - part_size w p - size = omega arith in
    followed-next w ib r end p (parts_at w ib (r - part_size w p) end' (suc e)) refl h room
    (followed w ib (r - part_size w p) end' (suc e) (omega (arith, room)) h (rw a at z))
