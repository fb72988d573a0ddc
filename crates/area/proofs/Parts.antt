-- The intervals as parts of the lent bytes: their lengths, and what a store of one interval does to each.
use Prim.Native.Nat.{ℕ, ◌+◌, ◌*◌, ◌≤◌, ◌<◌}
use mathlib.Core.Path.{◌≡◌, refl}
use mathlib.Core.Bool.{Bool, true, false}
use mathlib.Core.List.{List}
use lib.ListN.{length}
use lib.Dec.{ltb}
use native.Mathlib.Omega.{arith}
use native.Mathlib.Nat.{mul-le-mul_right}
use borrow.Author.Tests.{ltb-true, ltb-false}
use Rattle.fields.specs.Bytes.{Octets, splice}
use Rattle.fields.proofs.Splices.{length-mid, length-splice, part-here, part_left, part_right}
use Rattle.fields.proofs.Octets.{octets-part, octets-store}
use Rattle.measures.specs.declared.Measures.{Measures}
use Rattle.area.specs.Content.{index_in, data_in}
use Rattle.area.specs.Layout.{Lent}

-- ---- where each interval ends, and its length

module _ (m : Measures) (n : ℕ) (area : List ℕ) (long : length area ≡ (n + 1) * m.size) where
  -- Every data interval ends within the area.
  pub data-inside : (k : ℕ) → k < n → (k + 1) * m.size + m.size ≤ length area
  data-inside k h =
      let l : k + 2 ≤ n + 1 = omega arith in
      omega (arith, mul-le-mul_right m.size l)

  -- The index interval has the size that the measures give,
  pub length-index : length (index_in m area) ≡ m.size
  length-index = length-mid area 0 m.size (omega arith)

  -- and so has each data interval.
  pub length-data : (k : ℕ) → k < n → length (data_in m area k) ≡ m.size
  length-data k h = length-mid area ((k + 1) * m.size) m.size (data-inside k h)

-- Both are bytes where the area is.
pub octets-index : (m : Measures) (area : List ℕ) → Octets area → Octets (index_in m area)
octets-index m area o = octets-part area 0 m.size o

-- The same of a data interval.
pub octets-data : (m : Measures) (area : List ℕ) (k : ℕ) → Octets area → Octets (data_in m area k)
octets-data m area k o = octets-part area ((k + 1) * m.size) m.size o

-- ---- an area in which one interval was stored

module _ (m : Measures) (n : ℕ) (area : List ℕ) (long : length area ≡ (n + 1) * m.size) (new : List ℕ) (size : length new ≡ m.size) where
  -- Data interval k is stored.
  module _ (k : ℕ) (inside : k < n) where
    -- It is then the new bytes.
    pub data-splice-here : data_in m (splice area ((k + 1) * m.size) new) k ≡ new
    data-splice-here = part-here area ((k + 1) * m.size) m.size new (omega (arith, data-inside m n area long k inside)) size

    -- Every other data interval is as it was.
    pub data-splice-other : (j : ℕ) → (j ≡ k → ⊥) → data_in m (splice area ((k + 1) * m.size) new) j ≡ data_in m area j
    data-splice-other j d = go (ltb j k) refl
      where
        at : (k + 1) * m.size ≤ length area
        at = omega (arith, data-inside m n area long k inside)

        go : (t : Bool) → ltb j k ≡ t → data_in m (splice area ((k + 1) * m.size) new) j ≡ data_in m area j
        go true e =
            let l : j + 2 ≤ k + 1 = omega (arith, ltb-true j k e) in
            part_left area ((k + 1) * m.size) new ((j + 1) * m.size) m.size at (omega (arith, mul-le-mul_right m.size l))
        go false e =
            let l : k + 2 ≤ j + 1 = omega (arith, ltb-false j k e) in
            part_right area ((k + 1) * m.size) new ((j + 1) * m.size) m.size at (omega (arith, mul-le-mul_right m.size l))

    -- So is the index record.
    pub data-splice-index : index_in m (splice area ((k + 1) * m.size) new) ≡ index_in m area
    data-splice-index = part_left area ((k + 1) * m.size) new 0 m.size (omega (arith, data-inside m n area long k inside)) (omega arith)

    -- And the area's length.
    pub data-splice-length : length (splice area ((k + 1) * m.size) new) ≡ length area
    data-splice-length = length-splice area ((k + 1) * m.size) new (omega (arith, data-inside m n area long k inside))

  -- The index record is stored: it is then the new bytes,
  pub index-splice-here : index_in m (splice area 0 new) ≡ new
  index-splice-here = part-here area 0 m.size new (omega arith) size

  -- and every data interval is as it was,
  pub index-splice-data : (j : ℕ) → data_in m (splice area 0 new) j ≡ data_in m area j
  index-splice-data j = part_right area 0 new ((j + 1) * m.size) m.size (omega arith) (omega arith)

  -- and the area's length.
  pub index-splice-length : length (splice area 0 new) ≡ length area
  index-splice-length = length-splice area 0 new (omega arith)

-- An area that was lent as the laws ask still is, with other bytes of the same length;
pub lent_other : (m : Measures) (n : ℕ) (area after : List ℕ) → Lent m n area → Octets after → length after ≡ length area → Lent m n after
lent_other m n area after lent o e = record { octets = o; fits = rw e lent.fits }

-- so too after bytes of one interval's size were stored as an interval.
module _ (m : Measures) (n : ℕ) (area : List ℕ) (lent : Lent m n area) (new : List ℕ) (size : length new ≡ m.size) (o : Octets new) where
  lent-stored : (a : ℕ) → length (splice area a new) ≡ length area → Lent m n (splice area a new)
  lent-stored a e = lent_other m n area (splice area a new) lent (octets-store area a new lent.octets o) e

  -- as a data interval,
  pub lent-data : (k : ℕ) → k < n → Lent m n (splice area ((k + 1) * m.size) new)
  lent-data k h = lent-stored ((k + 1) * m.size) (data-splice-length m n area lent.fits.bytes new size k h)

  -- or as the index interval.
  pub lent-index : Lent m n (splice area 0 new)
  lent-index = lent-stored 0 (index-splice-length m n area lent.fits.bytes new size)
