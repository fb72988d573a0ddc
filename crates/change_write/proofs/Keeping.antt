-- What storing in one interval leaves as it was: the area's length, the index record, which lies before all of them, and every other interval, since two intervals
-- are the same or lie apart. So an edit that was seen in its interval still is, with the same records, once later parts are stored elsewhere.
use Prim.Native.Nat.{ℕ, ◌+◌, ◌-◌, ◌*◌, ◌≤◌, ◌<◌}
use mathlib.Core.Path.{◌≡◌, refl, ◌∙◌, ap}
use mathlib.Core.Bool.{Bool, true, false}
use mathlib.Core.List.{List}
use lib.ListN.{length, take, drop, length-drop}
use lib.Seq.{take_all}
use lib.Dec.{ltb}
use native.Mathlib.Omega.{arith}
use native.Mathlib.Nat.{mul-le-mul_left, mul-le-mul_right}
use borrow.Author.Tests.{ltb-true, ltb-false}
use Rattle.fields.specs.Choice.{pick}
use Rattle.fields.specs.Bytes.{part, splice}
use Rattle.fields.proofs.Choices.{false-true}
use Rattle.fields.proofs.Splices.{length-splice, length-mid, part_left, part_right}
use Rattle.measures.specs.declared.Measures.{Measures}
use Rattle.room.specs.Room.{need}
use Rattle.interval.specs.Layout.{form}
use Rattle.interval.proofs.Form.{length-form}
use Rattle.interval_edit.specs.declared.Site.{Site}
use Rattle.area.specs.Content.{data_in}
use Rattle.change_plan.specs.AidEdited.{edited_records, Seen}
use Rattle.change_plan.specs.AidParts.{stretch, parts_at, three_of}
use Rattle.change_plan.specs.declared.Spread.{Spread}
use Rattle.change_write.specs.AidStored.{Storable, AllFit, Takes, taken_left}
use Rattle.change_plan.proofs.Seeing.{bounds-seen, many-seen, stretch-seen}

-- ---- one store

module _ (S : ℕ) (b : List ℕ) (k : ℕ) (bs : List ℕ) (there : (k + 1) * S + S ≤ length b) (long : length bs ≡ S) where
  pub store_long : length (splice b ((k + 1) * S) bs) ≡ length b
  store_long = length-splice b ((k + 1) * S) bs (omega (arith, there, long))

  -- the index record
  pub store-front : take S (splice b ((k + 1) * S) bs) ≡ take S b
  store-front =
      let j : 1 ≤ k + 1 = omega arith in
      part_left b ((k + 1) * S) bs 0 S (omega (arith, there)) (omega (arith, mul-le-mul_right S j))

  -- another interval
  pub store_apart : (i : ℕ) → (k ≡ i → ⊥) → part (splice b ((k + 1) * S) bs) ((i + 1) * S) S ≡ part b ((i + 1) * S) S
  store_apart i h = go (ltb i k) refl
    where
      go : (t : Bool) → ltb i k ≡ t → part (splice b ((k + 1) * S) bs) ((i + 1) * S) S ≡ part b ((i + 1) * S) S
      go true e =
          let j : i + 2 ≤ k + 1 = omega (arith, ltb-true i k e) in
          part_left b ((k + 1) * S) bs ((i + 1) * S) S (omega (arith, there)) (omega (arith, mul-le-mul_right S j))
      go false e =
          let j : k + 2 ≤ i + 1 = omega (arith, h, ltb-false i k e) in
          part_right b ((k + 1) * S) bs ((i + 1) * S) S (omega (arith, there)) (omega (arith, long, mul-le-mul_right S j))

-- ---- an edit that is seen

module _ (m : Measures) (area after : List ℕ) (site : Site) (new : List ℕ) (same : data_in m after site.number ≡ data_in m area site.number) where
  pub records-kept : edited_records m after site new ≡ edited_records m area site new
  records-kept = rw same

  pub seen-kept : (lens : List ℕ) → Seen m area site new lens → length after ≡ length area → Seen m after site new lens
  seen-kept lens o l =
      record {
        there = rw l o.there;
        readable = rw same o.readable;
        goes = rw same o.goes;
        lens-are = rw same o.lens-are;
        fine = o.fine;
        keyed = o.keyed;
        key-most = o.key-most;
        few = o.few;
        new-small = o.new-small;
        area_small = rw l o.area_small;
      }

-- A stretch to the end is what follows its first element.
pub stretch-end : {A : Type 0} (first k : ℕ) (xs : List A) → k ≡ length xs → stretch first k xs ≡ drop first xs
stretch-end first k xs h = take_all (k - first) (drop first xs) (omega (arith, length-drop first xs, h))

-- ---- the later parts

module _ (m : Measures) (area new lens : List ℕ) (s : Spread) (t : Takes m area new lens s) where
  abbrev rs : List (List ℕ)
  rs = edited_records m area s.site new

  many : length lens ≡ length rs
  many = many-seen m area s.site new lens t.seen

  -- a number whose interval lies in the area is small
  pub place-small : (k : ℕ) → (k + 1) * m.size + m.size ≤ length area → k < 4294967296
  place-small k h =
      let l : length (data_in m area s.site.number) ≡ m.size = length-mid area ((s.site.number + 1) * m.size) m.size t.seen.there in
      let i : 1 ≤ m.size = omega (arith, (bounds-seen m area s.site new lens t.seen).0) in
      omega (arith, mul-le-mul_left (k + 1) i, h, t.seen.area_small)

  pub form-long : (first last : ℕ) → need (stretch first last lens) ≤ m.size → length (form m.size (stretch first last rs)) ≡ m.size
  form-long first last h =
      length-form m.size (stretch first last rs) (rw (← (stretch-seen m area s.site new lens t.seen first last).lens-are) h)

  -- each fits an interval
  pub fit-later : (three : Bool) → AllFit m.size (parts_at three s.parts.first s.parts.second lens)
      → need (stretch s.parts.first (pick three s.parts.second (length lens)) lens) ≤ m.size
  fit-later true f = f.1.0
  fit-later false f = rw (stretch-end s.parts.first (length lens) lens refl) f.1.0

  pub fit-last : (three : Bool) → three ≡ true → AllFit m.size (parts_at three s.parts.first s.parts.second lens)
      → need (stretch s.parts.second (length lens) lens) ≤ m.size
  fit-last true z f = rw (stretch-end s.parts.second (length lens) lens refl) f.1.1.0
  fit-last false z f = absurd (false-true z)

  -- where the first of them ends
  later-ends : (three : Bool) → (s.parts.first ≤ pick three s.parts.second (length lens)) × (pick three s.parts.second (length lens) ≤ length lens)
  later-ends true = (t.cut.order, omega (arith, t.cut.inside))
  later-ends false = (omega (arith, t.cut.order, t.cut.inside), omega arith)

  module _ (last : ℕ) (last-is : last ≡ pick (three_of s.parts) s.parts.second (length lens)) where
    fits : need (stretch s.parts.first last lens) ≤ m.size
    fits = rw last-is (fit-later (three_of s.parts) t.fit)

    -- it can be stored
    pub later-storable : Storable m.size (length area) s.site.number lens record { place = s.a + 1; first = s.parts.first; last = last }
    later-storable =
        let e = later-ends (three_of s.parts) in
        record {
          order = rw last-is e.0;
          inside = rw last-is e.1;
          fits = fits;
          small = t.small;
          there = t.a-there;
          apart = λ (h : s.a + 1 ≡ s.site.number + 1). t.a-other (omega (arith, h));
        }

    module _ (x : List ℕ) (stored : x ≡ splice area ((s.a + 1) * m.size) (form m.size (stretch s.parts.first last rs))) where
      -- and where there are two parts, that is all
      pub one-taken : three_of s.parts ≡ false → x ≡ taken_left m.size area s rs
      one-taken z =
          let l : last ≡ length rs = last-is ∙ rw z many in
          stored ∙ rw (z, stretch-end s.parts.first last rs l)

      long : length x ≡ length area
      long = ap length stored ∙ store_long m.size area s.a (form m.size (stretch s.parts.first last rs)) t.a-there (form-long s.parts.first last fits)

      same : data_in m x s.site.number ≡ data_in m area s.site.number
      same =
          ap (λ (b : List ℕ). data_in m b s.site.number) stored
          ∙ store_apart m.size area s.a (form m.size (stretch s.parts.first last rs)) t.a-there (form-long s.parts.first last fits) s.site.number t.a-other

      -- the edit is still seen
      pub later-seen : Seen m x s.site new lens
      later-seen = seen-kept m area x s.site new same lens t.seen long

      module _ (z : three_of s.parts ≡ true) where
        -- where there are three, the last one can be stored
        pub last-storable : Storable m.size (length x) s.site.number lens record { place = s.b + 1; first = s.parts.second; last = length lens }
        last-storable =
            record {
              order = omega (arith, t.cut.inside);
              inside = omega arith;
              fits = fit-last (three_of s.parts) z t.fit;
              small = t.small;
              there = rw long (t.b_there z);
              apart = λ (h : s.b + 1 ≡ s.site.number + 1). t.b-other z (omega (arith, h));
            }

        -- and that is all
        pub two-taken : (y : List ℕ)
            → y ≡ splice x ((s.b + 1) * m.size) (form m.size (stretch s.parts.second (length lens) (edited_records m x s.site new)))
            → y ≡ taken_left m.size area s rs
        two-taken y e =
            let l : last ≡ s.parts.second = last-is ∙ rw z in
            let k : stretch s.parts.second (length lens) (edited_records m x s.site new) ≡ drop s.parts.second rs =
            rw (records-kept m area x s.site new same) (stretch-end s.parts.second (length lens) rs many) in
            e ∙ rw (z, k, stored, l)
