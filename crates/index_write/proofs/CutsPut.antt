-- Laws of the parts of an entry but for the last: one cut makes one of them, two make two.
use Prim.Native.Nat.{ℕ, ◌-◌, ◌≤◌}
use mathlib.Core.Path.{◌≡◌, refl, sym, ap, subst}
use mathlib.Core.List.{List, [], ◌∷◌}
use lib.ListN.{length}
use native.Mathlib.Omega.{arith}
use Rattle.std.specs.Prelude.{Option, Some, None, is_some}
use Rattle.fields.specs.Choice.{pick}
use Rattle.fields.specs.Order.{common}
use Rattle.fields.proofs.Splices.{length-mid}
use Rattle.index.specs.Meaning.{Entry, entry}
use Rattle.index_pen.specs.declared.Pen.{Pen}
use Rattle.index_pen.specs.AidPen.{Puts, part_at, pen_on, top_on, bytes_on}
use Rattle.index_write.specs.declared.Cut.{Cut}
use Rattle.index_write.specs.declared.Division.{Division}
use Rattle.index_write.specs.AidStream.{CutLies, cut_in, told_in, first_cut, cut_entries, Draft, draft_put, draft_all, draft_of, Drawn, Puttable, Cuttable}
use Rattle.index_write.proofs.Drafting.{draft-puts, draft-room, draft-on, draft-fits, ref-put}

-- the separators of the cuts are short
pub cut-short : (c : Cut) (bytes : List ℕ) → CutLies c bytes → length (cut_in c bytes) ≤ 255
cut-short c bytes l = omega (arith, l.order, l.short, length-mid bytes c.from (c.to - c.from) (omega (arith, l.order, l.inside)))

module _ (b : List ℕ) (pen : Pen) (top prev bytes : List ℕ) (d : Division) (can : Cuttable b pen top prev bytes d) where
  abbrev x : Draft
  x = draft_of b pen top prev

  abbrev first : List ℕ
  first = first_cut d.cuts bytes

  abbrev others : Option Cut → List Entry
  others o = pick (is_some o) (entry (told_in o bytes) d.taken ∷ []) []

  -- the first of them
  pub first-puts : Puts b pen (first_cut d.cuts bytes) (part_at pen top (common prev (first_cut d.cuts bytes)) (first_cut d.cuts bytes) d.number)
      × ((1 ≤ pen.left) × (pen.high ≤ length top) × (length (first_cut d.cuts bytes) ≤ length top))
  first-puts =
      let short = cut-short d.cuts.first bytes can.lie.first in (
        (draft-puts x b pen top can.drawn (common prev first) first d.number (others d.cuts.second) refl short can.fitting).0,
        draft-room x b pen top can.drawn (common prev first) first d.number (others d.cuts.second) refl short can.fitting,
      )

  module _ (one : Pen) (top₁ b₁ : List ℕ)
      (one-is : one ≡ pen_on (length b - 7) pen (part_at pen top (common prev (first_cut d.cuts bytes)) (first_cut d.cuts bytes) d.number))
      (top-is : top₁ ≡ top_on pen (first_cut d.cuts bytes) top)
      (b-is : b₁ ≡ bytes_on b pen (part_at pen top (common prev (first_cut d.cuts bytes)) (first_cut d.cuts bytes) d.number)) where
    abbrev y : Draft
    y = draft_put x (entry first d.number)

    on : Drawn (draft_put (draft_of b pen top prev) (entry (first_cut d.cuts bytes) d.number)) b₁ one top₁
    on =
        draft-on x b pen top can.drawn (common prev first) first d.number (others d.cuts.second) refl (cut-short d.cuts.first bytes can.lie.first) can.fitting one top₁ b₁
        one-is top-is b-is

    -- it is the only one
    pub one-drawn : d.cuts.second ≡ None → Drawn (draft_all (draft_of b pen top prev) (cut_entries d bytes)) b₁ one top₁
    unfolding draft_all
    one-drawn h = subst (λ (o : Option Cut). Drawn (draft_all y (others o)) b₁ one top₁) (sym h) on

    -- the second
    module _ (s : Cut) (h : d.cuts.second ≡ Some s) where
      abbrev second : List ℕ
      second = cut_in s bytes

      fits : Puttable (draft_put (draft_of b pen top prev) (entry (first_cut d.cuts bytes) d.number)) (entry (cut_in s bytes) d.taken ∷ [])
      fits =
          subst (λ (o : Option Cut). Puttable y (others o)) h
          (draft-fits x b pen top can.drawn (common prev first) first d.number (others d.cuts.second) refl (cut-short d.cuts.first bytes can.lie.first) can.fitting)

      is : common (first_cut d.cuts bytes) (cut_in s bytes)
          ≡ common (draft_put (draft_of b pen top prev) (entry (first_cut d.cuts bytes) d.number)).reached.ref (cut_in s bytes)
      is = ap (λ (r : List ℕ). common r second) (sym (ref-put x (entry first d.number)))

      pub second-puts : Puts b₁ one (cut_in s bytes)
          (part_at one top₁ (common (first_cut d.cuts bytes) (cut_in s bytes)) (cut_in s bytes) d.taken)
          × ((1 ≤ one.left) × (one.high ≤ length top₁) × (length (cut_in s bytes) ≤ length top₁))
      second-puts =
          let short = cut-short s bytes (can.lie.second s h) in (
            (draft-puts y b₁ one top₁ on (common first second) second d.taken [] is short fits).0,
            draft-room y b₁ one top₁ on (common first second) second d.taken [] is short fits,
          )

      pub two-drawn : (r : Pen) (top' b' : List ℕ)
          → r ≡ pen_on (length b₁ - 7) one (part_at one top₁ (common (first_cut d.cuts bytes) (cut_in s bytes)) (cut_in s bytes) d.taken)
          → top' ≡ top_on one (cut_in s bytes) top₁
          → b' ≡ bytes_on b₁ one (part_at one top₁ (common (first_cut d.cuts bytes) (cut_in s bytes)) (cut_in s bytes) d.taken)
          → Drawn (draft_all (draft_of b pen top prev) (cut_entries d bytes)) b' r top'
      unfolding draft_all
      two-drawn r top' b' r-is top-is' b-is' =
          subst (λ (o : Option Cut). Drawn (draft_all y (others o)) b' r top') (sym h)
          (draft-on y b₁ one top₁ on (common first second) second d.taken [] is (cut-short s bytes (can.lie.second s h)) fits r top' b' r-is top-is' b-is')
