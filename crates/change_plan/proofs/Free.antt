-- Laws of the free intervals of a whole area: how many there are, and which are taken.
use Prim.Native.Nat.{ℕ, ◌+◌, ◌-◌, ◌*◌, ◌≤◌, ◌<◌}
use mathlib.Core.Path.{◌≡◌, ◌∙◌, sym, ap}
use mathlib.Core.List.{[], List}
use lib.ListN.{length, get_or}
use native.Mathlib.Omega.{arith}
use Rattle.measures.specs.Judgement.{width_for}
use Rattle.measures.specs.declared.Measures.{Measures}
use Rattle.measures.proofs.Width.{width_some, width-most}
use Rattle.index.specs.Meaning.{Meaning}
use Rattle.index.specs.Reading.{unused_at, free_count, numbers_at}
use Rattle.sections.proofs.Sounding.{sound-apart as record_apart}
use Rattle.sections.proofs.Free.{free-many, free-lie, free-below}
use Rattle.index_write.specs.AidStream.{FreeLie}
use Rattle.index_write.proofs.Taking.{taken_free}
use Rattle.area.specs.Content.{Content, index_in}
use Rattle.area.specs.Reading.{read_area, whole}
use Rattle.area.proofs.Sounding.{Sound, sound-apart, sound-reads}
use Rattle.area_find.specs.AidSought.{Whole}
use Rattle.change_plan.specs.AidPlanned.{FreeCounted, EnoughFree, TakenAt}

-- ---- the free numbers of a whole area

module _ (m : Measures) (n : ℕ) (area : List ℕ) (c : Content) (e : read_area m n area ≡ whole c) where
  s : Sound m n area c
  s = sound-apart m n area c e

  free-length : free_count (width_for n) (index_in m area) ≡ length c.free
  free-length = sym (free-many (width_for n) n (index_in m area)) ∙ ap (λ (x : Meaning). length x.free) (sound-reads m n area c s)

  unused-is : 24 + width_for n * free_count (width_for n) (index_in m area) ≡ unused_at (index_in m area)
  unused-is = (record_apart (width_for n) m.key n [] [] (index_in m area) s.index).placed.unused

  unused-inside : unused_at (index_in m area) ≤ length (index_in m area)
  unused-inside = omega (arith, unused-is, free-lie (width_for n) m.key n [] [] (index_in m area) s.index)

  -- the k-th from the right end
  module _ (k r : ℕ) (h : k < length c.free)
      (is : r ≡ get_or (numbers_at (width_for n) (index_in m area) 24 (free_count (width_for n) (index_in m area))) (free_count (width_for n) (index_in m area) - (k + 1)) 0) where
    taken-number : r ≡ get_or c.free (length c.free - (k + 1)) 0
    taken-number =
        taken_free (width_for n) n (index_in m area) k r is
        ∙ ap (λ (x : Meaning). get_or x.free (length x.free - (k + 1)) 0) (sound-reads m n area c s)

    taken-below : r < n
    taken-below =
        omega (arith, is, free-below (width_for n) m.key n [] [] (index_in m area) (free_count (width_for n) (index_in m area) - (k + 1)) s.index (omega (arith, free-length, h)))

module _ (m : Measures) (n : ℕ) (area : List ℕ) where
  pub header-before : Whole m n area → 24 ≤ unused_at (index_in m area)
  header-before w = omega (arith, unused-is m n area w.content w.reads)

  pub free-counted : (r : ℕ) → r ≡ free_count (width_for n) (index_in m area) → FreeCounted m n area r
  free-counted r is c e = is ∙ free-length m n area c e

  -- A number can be taken,
  pub takable : Whole m n area → (k : ℕ) → EnoughFree m n area (k + 1) → (1 ≤ width_for n) × (width_for n ≤ 4) × (k < free_count (width_for n) (index_in m area)) × FreeLie (width_for n) (index_in m area)
  takable w k h = (
    width_some n,
    width-most n,
    omega (arith, free-length m n area w.content w.reads, h w.content w.reads),
    (unused-is m n area w.content w.reads, unused-inside m n area w.content w.reads),
  )

  -- and it is a free one.
  pub taken_is : (k r : ℕ) → EnoughFree m n area (k + 1)
      → r ≡ get_or (numbers_at (width_for n) (index_in m area) 24 (free_count (width_for n) (index_in m area))) (free_count (width_for n) (index_in m area) - (k + 1)) 0 → TakenAt m n area k r
  taken_is k r h is c e = (taken-number m n area c e k r (omega (arith, h c e)) is, taken-below m n area c e k r (omega (arith, h c e)) is)
