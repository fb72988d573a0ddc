-- Where an interval lies in the area, and that it lies there.
use Prim.Native.Nat.{ℕ, ◌+◌, ◌-◌, ◌*◌, ◌≤◌, ◌<◌}
use mathlib.Core.Path.{◌≡◌, ◌∙◌, ap}
use mathlib.Core.List.{List}
use lib.ListN.{length, take, drop}
use native.Mathlib.Omega.{arith}
use native.Mathlib.Nat.{mul-le-mul, add-mul, one-mul}
use Rattle.fields.proofs.Splices.{part-is}
use Rattle.measures.specs.Judgement.{Fits, limit}
use Rattle.measures.specs.declared.Measures.{Measures}
use Rattle.measures.proofs.Fine.{fits-small}
use Rattle.area.specs.Content.{index_in, data_in}
use Rattle.area.proofs.Parts.{data-inside, length-data as data-long, length-index as index-long}

module _ (m : Measures) (n : ℕ) (area : List ℕ) (o : Fits m n (length area)) where
  -- data interval k ends within the area
  pub data-ends : (k : ℕ) → k < n → (k + 1) * m.size + m.size ≤ length area
  data-ends k h = data-inside m n area o.bytes k h

  pub data-small : (k : ℕ) → k < n → (k + 1) * m.size ≤ limit * 32768
  data-small k h =
      let b : k + 1 ≤ limit = omega (arith, o.few) in
      let a : (k + 1) * m.size ≤ limit * 32768 = mul-le-mul b (fits-small o) in
      omega arith

  -- and has the size of an interval
  pub length-data : (k : ℕ) → k < n → length (data_in m area k) ≡ m.size
  length-data k h = data-long m n area o.bytes k h

  pub index-ends : m.size ≤ length area
  index-ends = omega (arith, o.bytes, add-mul n 1 m.size, one-mul m.size)

  pub length-index : length (index_in m area) ≡ m.size
  length-index = index-long m n area o.bytes

-- a data interval as it is lent
pub lent-data : (m : Measures) (n : ℕ) (area : List ℕ) → Fits m n (length area) → (k : ℕ) → k < n
    → take ((k + 1) * m.size + m.size - (k + 1) * m.size) (drop ((k + 1) * m.size) area) ≡ data_in m area k
lent-data m n area o k h = part-is area ((k + 1) * m.size) m.size

pub length-lent : (m : Measures) (n : ℕ) (area : List ℕ) → Fits m n (length area) → (k : ℕ) → k < n
    → length (take ((k + 1) * m.size + m.size - (k + 1) * m.size) (drop ((k + 1) * m.size) area)) ≡ m.size
length-lent m n area o k h = ap length (lent-data m n area o k h) ∙ length-data m n area o k h
