-- All parts stored: with the later ones stored the index record is as it was, so that it can be divided in the room that was found for it; and so is the old
-- interval, also with the index record written anew, so that the edit is still seen there and the first part can be stored over it.
use Prim.Native.Nat.{ℕ, ◌+◌, ◌-◌, ◌*◌, ◌≤◌, ◌<◌}
use mathlib.Core.Path.{◌≡◌, refl, ◌∙◌, ap}
use mathlib.Core.Bool.{Bool, true, false}
use mathlib.Core.List.{List, ◌++◌}
use lib.ListN.{length, take, drop}
use lib.Seq.{length-take-le}
use native.Mathlib.Omega.{arith}
use native.Mathlib.Nat.{mul-le-mul_right}
use Rattle.fields.specs.Choice.{pick}
use Rattle.fields.specs.Bytes.{splice}
use Rattle.fields.proofs.Splices.{length-splice, mid-splice, part_right}
use Rattle.measures.specs.Judgement.{width_for}
use Rattle.measures.specs.declared.Measures.{Measures}
use Rattle.room.specs.Room.{need}
use Rattle.interval.specs.Layout.{form}
use Rattle.sections.specs.Form.{index_size, index_bytes}
use Rattle.index.specs.Divided.{cuts}
use Rattle.sections.specs.Divided.{new_meaning}
use Rattle.index_write.specs.AidStream.{CutsLie, cuts_in}
use Rattle.index_write.specs.AidDivided.{Divisible, new_record}
use Rattle.index_write.specs.declared.Cuts.{Cuts}
use Rattle.area.specs.Content.{data_in}
use Rattle.area.proofs.Places.{index-ends}
use Rattle.change_plan.specs.AidEdited.{edited_records, Seen}
use Rattle.change_plan.specs.AidParts.{stretch, parts_at, three_of, CutInside, left_key_at, separator_at, left_keys, cuts_at}
use Rattle.change_plan.specs.declared.Spread.{Spread}
use Rattle.change_plan.proofs.Seeing.{many-seen}
use Rattle.change_plan.proofs.Keys.{key-long}
use Rattle.change_plan.proofs.Cutting.{cuts-in}
use Rattle.change_plan.proofs.Planning.{size-asks, size-told}
use Rattle.change_write.specs.AidStored.{AllFit, Takes, taken_left, Parted, index_left, parts_left}
use Rattle.change_write.proofs.Keeping.{store_long, store-front, store_apart, records-kept, seen-kept, stretch-end, form-long, fit-later, fit-last}

-- ---- with the later parts stored

-- What is as it was: how long the area is, the index record, the old interval.
record Kept (m : Measures) (number : ℕ) (area after : List ℕ) : Type 0 where
  long : length after ≡ length area
  index : take m.size after ≡ take m.size area
  own : data_in m after number ≡ data_in m area number

kept_on : (m : Measures) (number : ℕ) (area x y : List ℕ) → Kept m number area x → Kept m number x y → Kept m number area y
kept_on m number area x y f g = record { long = g.long ∙ f.long; index = g.index ∙ f.index; own = g.own ∙ f.own }

kept_store : (m : Measures) (number : ℕ) (area : List ℕ) (k : ℕ) (bs : List ℕ) → (k + 1) * m.size + m.size ≤ length area → length bs ≡ m.size → (k ≡ number → ⊥)
    → Kept m number area (splice area ((k + 1) * m.size) bs)
kept_store m number area k bs h l other =
    record {
      long = store_long m.size area k bs h l;
      index = store-front m.size area k bs h l;
      own = store_apart m.size area k bs h l number other;
    }

module _ (m : Measures) (area new lens : List ℕ) (s : Spread) (t : Takes m area new lens s) where
  abbrev rs : List (List ℕ)
  rs = edited_records m area s.site new

  taken-kept : Kept m s.site.number area (taken_left m.size area s rs)
  taken-kept = go (three_of s.parts) refl t.fit
    where
      many : length lens ≡ length rs
      many = many-seen m area s.site new lens t.seen

      to_end : (k : ℕ) → need (stretch k (length lens) lens) ≤ m.size → length (form m.size (drop k rs)) ≡ m.size
      to_end k h = rw (← stretch-end k (length lens) rs many) (form-long m area new lens s t k (length lens) h)

      go : (three : Bool) → three_of s.parts ≡ three → AllFit m.size (parts_at three s.parts.first s.parts.second lens)
          → Kept m s.site.number area
          (pick three
          (splice (splice area ((s.a + 1) * m.size) (form m.size (stretch s.parts.first s.parts.second rs))) ((s.b + 1) * m.size) (form m.size (drop s.parts.second rs)))
          (splice area ((s.a + 1) * m.size) (form m.size (drop s.parts.first rs))))
      go true z f =
          let xs : List ℕ = form m.size (stretch s.parts.first s.parts.second rs) in
          let ys : List ℕ = form m.size (drop s.parts.second rs) in
          let x : List ℕ = splice area ((s.a + 1) * m.size) xs in
          let k : Kept m s.site.number area x =
          kept_store m s.site.number area s.a xs t.a-there (form-long m area new lens s t s.parts.first s.parts.second (fit-later m area new lens s t true f)) t.a-other in
          kept_on m s.site.number area x (splice x ((s.b + 1) * m.size) ys) k
          (kept_store m s.site.number x s.b ys (rw k.long (t.b_there z)) (to_end s.parts.second (fit-last m area new lens s t true refl f)) (t.b-other z))
      go false z f =
          kept_store m s.site.number area s.a (form m.size (drop s.parts.first rs)) t.a-there (to_end s.parts.first (fit-later m area new lens s t false f)) t.a-other

-- ---- the index record, and the first part

module _ (m : Measures) (n : ℕ) (area new lens : List ℕ) (s : Spread) (p : Parted m n area new lens s) where
  abbrev records : List (List ℕ)
  records = edited_records m area s.site new

  abbrev separators : List (List ℕ)
  separators = cuts (three_of s.parts) (separator_at m records s.parts.first) (separator_at m records s.parts.second)

  inside : CutInside s.parts (length records)
  inside =
      let e = many-seen m area s.site new lens p.takes.seen in
      let i = p.takes.cut in
      record { two = i.two; three = i.three; some = i.some; one = i.one; order = i.order; inside = omega (arith, i.inside, e) }

  key_of : (k : ℕ) → 0 < k → k < length lens → length (left_key_at m records k) ≡ m.key
  key_of k h g = key-long m area s.site new lens p.takes.seen (k - 1) (omega (arith, h, g))

  first_key : length (left_key_at m records s.parts.first) ≡ m.key
  first_key = key_of s.parts.first p.takes.cut.some (omega (arith, p.takes.cut.order, p.takes.cut.inside))

  second_key : length (left_key_at m records s.parts.second) ≡ m.key
  second_key = key_of s.parts.second (omega (arith, p.takes.cut.some, p.takes.cut.order)) p.takes.cut.inside

  -- the first part fits its interval
  pub first_fits : (s.parts.first ≤ length lens) × (need (take s.parts.first lens) ≤ m.size)
  first_fits = (omega (arith, p.takes.cut.order, p.takes.cut.inside), go (three_of s.parts) p.takes.fit)
    where
      go : (three : Bool) → AllFit m.size (parts_at three s.parts.first s.parts.second lens) → need (take s.parts.first lens) ≤ m.size
      go true f = f.0
      go false f = f.0

  module _ (x : List ℕ) (taken : x ≡ taken_left m.size area s records) where
    kept : Kept m s.site.number area x
    kept = rw taken (taken-kept m area new lens s p.takes)

    index-inside : m.size ≤ length x
    index-inside = omega (arith, kept.long, index-ends m n area p.entered.fits)

    pub index-long : length (take m.size x) ≡ m.size
    index-long = length-take-le m.size x index-inside

    module _ (cs : Cuts) (bytes : List ℕ) (cs-are : cs ≡ cuts_at m records s.parts) (bytes-are : bytes ≡ left_keys m records s.parts) where
      -- it can be divided, in the room that was found
      pub divide-asks : (Divisible n s.site.entry (cuts_in cs bytes) (take m.size x) × CutsLie cs bytes)
          × (index_size (width_for n) (new_record n (take m.size x) s.site.entry cs bytes) ≤ length (take m.size x) - 7)
      divide-asks =
          let size = size-told m n area s.site.entry records s.parts inside p.takes.seen.key-most first_key second_key cs bytes cs-are bytes-are (take m.size area)
          (index_size (width_for n) (new_record n (take m.size area) s.site.entry cs bytes)) refl in
          let asked = size-asks m n area s.site.entry records s.parts inside p.takes.seen.key-most first_key second_key cs bytes cs-are bytes-are
          s.site.number p.entered p.enough in
          (rw kept.index asked, omega (arith, index-long, ap (λ (ib : List ℕ). index_size (width_for n) (new_record n ib s.site.entry cs bytes)) kept.index, size, p.room))

      -- and is then the prescribed one
      pub index-made : (ib : List ℕ) → ib ≡ index_bytes (width_for n) (length (take m.size x)) (new_record n (take m.size x) s.site.entry cs bytes)
          → ib ≡ index_bytes (width_for n) m.size (index_left m n area s records)
      index-made ib e =
          let c : cuts_in cs bytes ≡ separators = rw (cs-are, bytes-are) (cuts-in m records s.parts p.takes.seen.key-most first_key second_key) in
          e ∙ ap (λ (k : ℕ). index_bytes (width_for n) k (new_record n (take m.size x) s.site.entry cs bytes)) index-long
          ∙ ap (λ (b : List ℕ). index_bytes (width_for n) m.size (new_record n b s.site.entry cs bytes)) kept.index
          ∙ ap (λ (seps : List (List ℕ)). index_bytes (width_for n) m.size (new_meaning (width_for n) n (take m.size area) s.site.entry seps)) c

    module _ (ib : List ℕ) (long : length ib ≡ m.size) where
      abbrev middle : List ℕ
      middle = ib ++ drop m.size x

      at_front : middle ≡ splice x 0 ib
      at_front = mid-splice x ib 0 m.size long

      middle-long : length (ib ++ drop m.size x) ≡ length area
      middle-long = ap length at_front ∙ length-splice x 0 ib (omega (arith, long, index-inside)) ∙ kept.long

      same : data_in m middle s.site.number ≡ data_in m area s.site.number
      same =
          let j : 1 ≤ s.site.number + 1 = omega arith in
          ap (λ (b : List ℕ). data_in m b s.site.number) at_front
          ∙ part_right x 0 ib ((s.site.number + 1) * m.size) m.size (omega arith) (omega (arith, long, mul-le-mul_right m.size j)) ∙ kept.own

      -- the edit is still seen
      pub first-seen : Seen m (ib ++ drop m.size x) s.site new lens
      first-seen = seen-kept m area middle s.site new same lens p.takes.seen middle-long

      -- and that is all
      pub all-stored : ib ≡ index_bytes (width_for n) m.size (index_left m n area s records) → (y : List ℕ)
          → y ≡ splice (ib ++ drop m.size x) ((s.site.number + 1) * m.size)
          (form m.size (take s.parts.first (edited_records m (ib ++ drop m.size x) s.site new)))
          → y ≡ parts_left m n area s records
      all-stored made y e =
          e ∙ ap (λ (rs : List (List ℕ)). splice middle ((s.site.number + 1) * m.size) (form m.size (take s.parts.first rs))) (records-kept m area middle s.site new same)
          ∙ ap (λ (b : List ℕ). splice b ((s.site.number + 1) * m.size) (form m.size (take s.parts.first records)))
          (at_front ∙ ap (splice x 0) made ∙ ap (λ (b : List ℕ). splice b 0 (index_bytes (width_for n) m.size (index_left m n area s records))) taken)
