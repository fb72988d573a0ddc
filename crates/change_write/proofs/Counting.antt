-- How many records an interval has at most, by the bytes that they have: the CIDF says how many these are, and no record has fewer than the least.
use Prim.Native.Nat.{ℕ, ◌+◌, ◌-◌, ◌*◌, ◌/◌, ◌≤◌, ◌<◌}
use mathlib.Core.Path.{◌≡◌, ◌∙◌, sym, ap}
use mathlib.Core.Bool.{true}
use mathlib.Core.List.{List, [], ◌∷◌, map}
use lib.ListN.{length, drop, length-map}
use lib.Seq.{get_or-take, get_or-drop}
use native.Mathlib.Omega.{arith}
use native.Mathlib.Nat.{le-div_iff_mul-le, mul-le-mul_left}
use Rattle.fields.specs.Bytes.{part, number}
use Rattle.fields.specs.Lists.{sum}
use Rattle.fields.proofs.Numbers.{number-2}
use Rattle.fields.proofs.Splices.{length-mid}
use Rattle.fields.proofs.Lists.{sum-lengths}
use Rattle.measures.specs.declared.Measures.{Measures}
use Rattle.interval.specs.Records.{all_within}
use Rattle.interval.specs.Reading.{displacement, records_in, Readable}
use Rattle.interval.proofs.Backward.{read-lengths-fine}
use Rattle.interval.proofs.Lengths.{within_low, within-rest}
use Rattle.interval.proofs.Readable.{readable-form, readable-bytes}
use Rattle.area.specs.Content.{data_in}

-- two bytes of a part are two bytes of the whole
number-inside : (xs : List ℕ) (a n i : ℕ) → i + 2 ≤ n → number 2 (part xs a n) i ≡ number 2 xs (a + i)
number-inside xs a n i h =
    let e : a + (i + 1) ≡ a + i + 1 = omega arith in
    number-2 (part xs a n) i
    ∙ rw (get_or-take n (drop a xs) i 0 (omega arith), get_or-take n (drop a xs) (i + 1) 0 (omega arith), get_or-drop a xs i 0, get_or-drop a xs (i + 1) 0, e)
    (sym (number-2 xs (a + i)))

-- lengths that are at least the least add up to as many times that
many-times : (least most : ℕ) (ls : List ℕ) → all_within least most ls ≡ true → length ls * least ≤ sum ls
unfolding sum
many-times least most [] h = omega arith
many-times least most (l ∷ ls) h =
    omega (arith, within_low least most l ls h, many-times least most ls (within-rest least most l ls h))

module _ (m : Measures) (area : List ℕ) (num : ℕ) (there : (num + 1) * m.size + m.size ≤ length area) (r : Readable m (data_in m area num)) where
  abbrev ci : List ℕ
  ci = data_in m area num

  long : length ci ≡ m.size
  long = length-mid area ((num + 1) * m.size) m.size there

  -- the interval ends with its CIDF, within the area
  pub cidf-inside : (4 ≤ (num + 2) * m.size) × ((num + 2) * m.size - 4 + 2 ≤ length area)
  cidf-inside = (omega (arith, long, r.sized), omega (arith, long, r.sized, there))

  pub number_small : length area < 4294967296 → num < 4294967296
  number_small h =
      let a : (num + 1) * 1 ≤ (num + 1) * m.size = mul-le-mul_left (num + 1) (omega (arith, long, r.sized)) in
      omega (arith, a, there)

  -- the bytes of the records, as they are read in the area
  pub displacement-there : number 2 area ((num + 2) * m.size - 4) ≡ displacement ci
  displacement-there =
      let e : (num + 1) * m.size + (m.size - 4) ≡ (num + 2) * m.size - 4 = omega (arith, long, r.sized) in
      sym (ap (λ (n : ℕ). number 2 ci (n - 4)) long ∙ number-inside area ((num + 1) * m.size) m.size (m.size - 4) (omega (arith, long, r.sized)) ∙ rw e)

  pub records-least : 1 ≤ m.least → length (records_in ci) ≤ displacement ci / m.least
  records-least h =
      let a = many-times m.least m.most (map length (records_in ci)) (read-lengths-fine m ci (readable-form m ci r)) in
      let b : length (map length (records_in ci)) ≡ length (records_in ci) = length-map (records_in ci) length in
      let d : length (records_in ci) * m.least ≤ displacement ci =
      rw (b, sum-lengths (records_in ci), readable-bytes m ci r) at a in
      (le-div_iff_mul-le {k = m.least} {x = length (records_in ci)} {y = displacement ci} h).1 d

  -- so there are fewer than that and one more
  pub fewer : (x : ℕ) → 1 ≤ m.least → x ≡ number 2 area ((num + 2) * m.size - 4) → length (records_in ci) + 1 ≤ x / m.least + 1
  fewer x h e =
      let a : x ≡ displacement ci = e ∙ displacement-there in
      rw a (omega (arith, records-least h))
