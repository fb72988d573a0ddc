-- The longest F of an old entry, the buffers past one, and an entry put after another.
use Prim.Native.Nat.{ℕ, ◌+◌, ◌-◌, ◌≤◌}
use mathlib.Core.Path.{◌≡◌, refl, ◌∙◌, sym, ap}
use mathlib.Core.Bool.{true, false}
use mathlib.Core.List.{List, ◌++◌}
use lib.ListN.{length, take, drop}
use lib.Seq.{length-take-le, take-add}
use native.Mathlib.Omega.{arith}
use Rattle.fields.specs.Order.{common}
use Rattle.fields.proofs.Fronts.{common-prefix}
use Rattle.index_step.specs.declared.Step.{Step}
use Rattle.index_step.specs.AidStep.{joined_of, reach, extended_by, copied_from, Renewed}
use Rattle.index_step.proofs.Reaching.{reach-most, extended-chars}
use Rattle.index_pen.specs.declared.Pen.{Pen}
use Rattle.index_pen.specs.AidPen.{Puts, part_at, pen_on, top_on, bytes_on}
use Rattle.index_write.specs.AidStream.{renewed_by}

-- The longest F: what the separator before goes on with behind the F bytes that were found.
pub longest-is : (buf chars : List ℕ) (f len k : ℕ) → f ≤ len → len ≤ length buf → k ≡ common (take (len - f) (drop f buf)) chars
    → f + k ≡ common (take len buf) (take f buf ++ chars)
longest-is buf chars f len k h i e =
    let z : f + (len - f) ≡ len = omega arith in
    let t : take len buf ≡ take f buf ++ take (len - f) (drop f buf) = ap (λ (x : ℕ). take x buf) (sym z) ∙ take-add f (len - f) buf in
    let c : common (take f buf ++ take (len - f) (drop f buf)) (take f buf ++ chars) ≡ length (take f buf) + common (take (len - f) (drop f buf)) chars =
    common-prefix (take f buf) (take (len - f) (drop f buf)) chars in
    rw t (omega (arith, c, e, length-take-le f buf (omega arith)))

-- ---- the buffers past an old entry

module _ (ib : List ℕ) (s : Step) (buf high : List ℕ) (len f : ℕ) where
  -- one that is no section's highest
  pub renewed-inner : s.closes ≡ false → f ≡ common (take len buf) (joined_of s.front buf ib s.at s.len) → (buf' : List ℕ) → buf' ≡ extended_by ib s buf
      → (f ≡ common (take len buf) (renewed_by ib s buf high)) × Renewed ib s buf high buf' high
  renewed-inner h f-is buf' new = rw h (f-is, (new, refl))

  -- a section's highest: its separator is made in the other buffer first
  pub renewed-highest : s.closes ≡ true → s.front + s.len + 8 ≤ length high → s.at + reach s.len ≤ length ib → (high' : List ℕ) → high' ≡ extended_by ib s high
      → f ≡ common (take len buf) (take (s.front + s.len) high') → (buf' : List ℕ) → buf' ≡ copied_from high' (s.front + s.len) buf
      → (f ≡ common (take len buf) (renewed_by ib s buf high)) × Renewed ib s buf high buf' high'
  renewed-highest h fits inside high' high_is f-is buf' new =
      let e = extended-chars ib high high' s.front s.len s.at (omega (arith, fits, reach-most s.len)) inside high_is in
      rw h (f-is ∙ ap (λ (y : List ℕ). common (take len buf) y) e, (new ∙ ap (λ (y : List ℕ). copied_from y (s.front + s.len) buf) high_is, high_is))

-- ---- an entry after one with the separator prev

module _ (b : List ℕ) (pen : Pen) (top prev sep : List ℕ) (number f : ℕ) (is : f ≡ common prev sep) where
  pub after_puts : Puts b pen sep (part_at pen top (common prev sep) sep number) → Puts b pen sep (part_at pen top f sep number)
  after_puts p = rw is p

  pub after_on : (r : Pen) (top' b' : List ℕ) → r ≡ pen_on (length b - 7) pen (part_at pen top f sep number) → top' ≡ top_on pen sep top
      → b' ≡ bytes_on b pen (part_at pen top f sep number)
      → (r ≡ pen_on (length b - 7) pen (part_at pen top (common prev sep) sep number))
      × ((top' ≡ top_on pen sep top) × (b' ≡ bytes_on b pen (part_at pen top (common prev sep) sep number)))
  after_on r top' b' r-is top-is b-is = (rw is at r-is, (top-is, rw is at b-is))
