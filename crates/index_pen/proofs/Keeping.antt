-- What the pen holds is where the writer stands: the part that it puts is the writer's, and it stands where the writer does then.
use Prim.Native.Nat.{ℕ, ◌+◌, ◌≤◌}
use mathlib.Core.Path.{◌≡◌, refl, ◌∙◌, sym}
use mathlib.Core.Bool.{Bool, true, false}
use mathlib.Core.List.{List}
use lib.ListN.{length, take, drop, length-drop}
use lib.Dec.{eqb, ltb}
use native.Mathlib.Omega.{arith}
use Rattle.fields.specs.Choice.{pick}
use Rattle.fields.specs.Bytes.{splice}
use Rattle.fields.specs.Order.{common}
use Rattle.fields.proofs.Fronts.{common-right}
use Rattle.fields.proofs.Splices.{length-splice, take-front}
use Rattle.index.specs.Meaning.{entry}
use Rattle.sections.specs.Parts.{Part}
use Rattle.index_pen.specs.declared.Pen.{Pen}
use Rattle.index_pen.specs.AidPen.{part_after, part_at, pen_moved, pen_linked, control_at, pen_on, top_on}
use Rattle.index_pen.specs.AidStream.{Reached, part_next, reached_next}
use Rattle.index_pen.specs.AidHeld.{Kept}

-- the same pen, but for the places of fields
pub record Alike (q m : Pen) : Type 0 where
  pub width : q.width ≡ m.width
  pub most : q.most ≡ m.most
  pub left : q.left ≡ m.left
  pub rest : q.rest ≡ m.rest
  pub high : q.high ≡ m.high
  pub size : q.size ≡ m.size

alike_self : (m : Pen) → Alike m m
alike_self m = record { width = refl; most = refl; left = refl; rest = refl; high = refl; size = refl }

-- whatever is stored, the pen moves so
pub moves : (edge : ℕ) (pen : Pen) (p : Part) → Alike (pen_on edge pen p) (pen_moved pen p)
moves edge pen p = go (ltb 0 edge) p.closes
  where
    go : (t u : Bool) → Alike (pick t (pick u (pen_linked edge (pen_moved pen p) (control_at edge pen)) (pen_moved pen p)) (pen_moved pen p)) (pen_moved pen p)
    go true true = record { width = refl; most = refl; left = refl; rest = refl; high = refl; size = refl }
    go true false = alike_self (pen_moved pen p)
    go false u = alike_self (pen_moved pen p)

-- ---- one entry

module _ (pen : Pen) (top : List ℕ) (s : Reached) (k : Kept pen top s) (front : ℕ) (sep : List ℕ) (num : ℕ) (is : front ≡ common s.ref sep) where
  abbrev p : Part
  p = part_at pen top front sep num

  -- it is put as the writer puts it
  pub kept-part : part_at pen top front sep num ≡ part_next s (entry sep num)
  kept-part = rw (k.left, k.high, is) (go (eqb s.left 1))
    where
      go : (t : Bool)
          → part_after t (pick t (common s.high sep) (common s.ref sep)) sep num
          ≡ pick t (part_after true (common s.high sep) sep num) (part_after false (common s.ref sep) sep num)
      go true = refl
      go false = refl

  -- and the pen then stands where the writer does
  pub kept_on : (edge : ℕ) → length sep ≤ 255 → Kept (pen_on edge pen (part_at pen top front sep num)) (top_on pen sep top) (reached_next pen.most s (entry sep num))
  kept_on edge short = go (eqb pen.left 1) refl
    where
      a : Alike (pen_on edge pen p) (pen_moved pen p)
      a = moves edge pen p

      long : common (take pen.high top) sep + length (drop (common (take pen.high top) sep) sep) ≡ length sep
      long = omega (arith, length-drop (common (take pen.high top) sep) sep, common-right (take pen.high top) sep)

      go : (t : Bool) → eqb pen.left 1 ≡ t → Kept (pen_on edge pen (part_at pen top front sep num)) (top_on pen sep top) (reached_next pen.most s (entry sep num))
      go true c =
          let d : eqb s.left 1 ≡ true = rw k.left at c in
          let h : (pen_on edge pen p).high ≡ length sep = a.high ∙ rw c long in
          let t : top_on pen sep top ≡ splice top 0 sep = rw c in
          rw (t, d)
          (record {
            left = a.left ∙ rw (c, k.rest);
            rest = a.rest ∙ rw k.rest;
            high = rw h (take-front top sep (length sep) refl);
            tall = sym h;
            short = omega (arith, h, short);
            whole = omega (arith, length-splice top 0 sep (omega (arith, short, k.whole)), k.whole);
          })
      go false c =
          let d : eqb s.left 1 ≡ false = rw k.left at c in
          let h : (pen_on edge pen p).high ≡ pen.high = a.high ∙ rw c in
          let t : top_on pen sep top ≡ top = rw c in
          rw (t, d)
          (record {
            left = a.left ∙ rw (c, k.left);
            rest = a.rest ∙ rw k.rest;
            high = rw h k.high;
            tall = k.tall ∙ sym h;
            short = omega (arith, h, k.short);
            whole = k.whole;
          })
