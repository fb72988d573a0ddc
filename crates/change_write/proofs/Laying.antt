-- Bytes of the edited records, laid within an area: what is carried there from before the edit or from behind it, and what comes in, are that part of them.
-- Where all three are laid, from the right, each store ends where the one before begins, so that they are one; the last is read from where nothing was stored.
use Prim.Native.Nat.{ℕ, ◌+◌, ◌-◌, ◌≤◌, ◌<◌}
use mathlib.Core.Path.{◌≡◌, ◌∙◌, sym, ap}
use mathlib.Core.List.{List, ◌++◌}
use mathlib.Core.Logic.{⊎_elim}
use lib.ListN.{length, drop, length-append, length-drop}
use lib.Seq.{take-length, take-add, drop-drop}
use native.Mathlib.Omega.{arith}
use Rattle.fields.specs.Bytes.{part, splice}
use Rattle.fields.specs.Lists.{swap}
use Rattle.fields.proofs.Splices.{splice-splice, length-mid, part_left, part_right}
use Rattle.interval_edit.specs.declared.Site.{Site}
use Rattle.change_plan.proofs.Pieces.{part-drop, piece-before, piece-behind, piece-new}
use Rattle.change_write.specs.declared.Span.{Span}
use Rattle.change_write.specs.AidStored.{Layable}

-- Two parts, one after the other, are one.
part-on : (b : List ℕ) (x i k : ℕ) → part b x i ++ part b (x + i) k ≡ part b x (i + k)
part-on b x i k = sym (take-add i k (drop x b) ∙ rw drop-drop)

module _ (area new : List ℕ) (at base : ℕ) (site : Site) (s : Span) (l : Layable (length area) at base site (length new) s) where
  abbrev all : List ℕ
  all = swap site.start site.span new (drop base area)

  abbrev wanted : List ℕ
  wanted = part all s.from (s.to - s.from)

  inside : site.start ≤ length (drop base area)
  inside = omega (arith, l.inside, l.there, length-drop base area)

  -- all of them lie before the edit
  pub laid-before : (x : List ℕ) → s.to ≤ site.start → x ≡ splice area at (part area (base + s.from) (s.to - s.from)) → x ≡ splice area at wanted
  laid-before x h f =
      f ∙ ap (splice area at) (sym (piece-before site.start site.span new (drop base area) inside s.from (s.to - s.from) (omega (arith, l.order))
      ∙ part-drop area base s.from (s.to - s.from)))

  -- or behind it
  pub laid-behind : (x : List ℕ) → site.start + length new ≤ s.from
      → x ≡ splice area at (part area (base + site.start + site.span + (s.from - (site.start + length new))) (s.to - s.from))
      → x ≡ splice area at wanted
  laid-behind x h f =
      let p : ℕ = s.from - (site.start + length new) in
      let e : base + (site.start + site.span + p) ≡ base + site.start + site.span + p = omega arith in
      f ∙ ap (splice area at) (sym (piece-behind site.start site.span new (drop base area) inside s.from (s.to - s.from) h
      ∙ part-drop area base (site.start + site.span + p) (s.to - s.from) ∙ ap (λ (y : ℕ). part area y (s.to - s.from)) e))

  -- what lies neither before nor behind holds all that comes in
  pub around : site.start < s.to → s.from < site.start + length new → (s.from ≤ site.start) × (site.start + length new ≤ s.to)
  around h g = ⊎_elim (λ f. absurd (omega (arith, f))) (λ f. ⊎_elim (λ k. absurd (omega (arith, k))) (λ k. k) f) l.pieces

  module _ (before : s.from ≤ site.start) (behind : site.start + length new ≤ s.to) where
    abbrev end : ℕ
    end = site.start + length new

    abbrev front : List ℕ
    front = part area (base + s.from) (site.start - s.from)

    abbrev back : List ℕ
    back = part area (base + site.start + site.span) (s.to - end)

    front_long : length front ≡ site.start - s.from
    front_long = length-mid area (base + s.from) (site.start - s.from) (omega (arith, l.inside, l.there))

    back_long : length back ≡ s.to - end
    back_long = length-mid area (base + site.start + site.span) (s.to - end) (omega (arith, l.ends, l.there))

    -- the bytes that are wanted are those three
    three-parts : wanted ≡ front ++ (new ++ back)
    three-parts =
        let xs : List ℕ = drop base area in
        let a : part all s.from (site.start - s.from) ≡ front =
        piece-before site.start site.span new xs inside s.from (site.start - s.from) (omega arith) ∙ part-drop area base s.from (site.start - s.from) in
        let z : site.start - site.start ≡ 0 = omega arith in
        let b : part all site.start (length new) ≡ new =
        piece-new site.start site.span new xs inside site.start (length new) (omega arith) (omega arith) ∙ rw (z, take-length) in
        let y : base + (site.start + site.span + (end - end)) ≡ base + site.start + site.span = omega arith in
        let c : part all end (s.to - end) ≡ back =
        piece-behind site.start site.span new xs inside end (s.to - end) (omega arith)
        ∙ part-drop area base (site.start + site.span + (end - end)) (s.to - end) ∙ rw y in
        let d : part all site.start (s.to - site.start) ≡ new ++ back =
        let e : s.to - site.start ≡ length new + (s.to - end) = omega arith in
        rw e (sym (part-on all site.start (length new) (s.to - end)) ∙ rw (b, c)) in
        let e : s.to - s.from ≡ (site.start - s.from) + (s.to - site.start) = omega arith in
        let f : s.from + (site.start - s.from) ≡ site.start = omega arith in
        rw e (sym (part-on all s.from (site.start - s.from) (s.to - site.start)) ∙ rw (a, f, d))

    -- what is laid before the last bytes are read, and that these are still the old ones
    two-stored : (x y : List ℕ) → x ≡ splice area (at + (end - s.from)) back → y ≡ splice x (at + (site.start - s.from)) new
        → y ≡ splice area (at + (site.start - s.from)) (new ++ back)
    two-stored x y e f =
        f ∙ rw e (splice-splice area (at + (site.start - s.from)) (at + (end - s.from)) new back (omega arith) (omega (arith, back_long, l.fits)))

    still : part (splice area (at + (site.start - s.from)) (new ++ back)) (base + s.from) (site.start - s.from) ≡ front
    still =
        let q : ℕ = at + (site.start - s.from) in
        let i : q ≤ length area = omega (arith, l.fits) in
        let left : base + s.from + (site.start - s.from) ≤ q → part (splice area q (new ++ back)) (base + s.from) (site.start - s.from) ≡ front =
        part_left area q (new ++ back) (base + s.from) (site.start - s.from) i in
        ⊎_elim (λ f. left (omega (arith, f)))
        (λ f. ⊎_elim
        (λ k. part_right area q (new ++ back) (base + s.from) (site.start - s.from) i (omega (arith, k, length-append new back, back_long)))
        (λ k. left (omega (arith, k, l.inside))) f)
        l.apart

    pub laid-around : (x y z : List ℕ) → x ≡ splice area (at + (end - s.from)) back → y ≡ splice x (at + (site.start - s.from)) new
        → z ≡ splice y at (part y (base + s.from) (site.start - s.from)) → z ≡ splice area at wanted
    laid-around x y z e f g =
        g ∙ rw (two-stored x y e f, still, three-parts)
        (splice-splice area at (at + (site.start - s.from)) front (new ++ back) (omega (arith, front_long)) (omega (arith, length-append new back, back_long, l.fits)))
