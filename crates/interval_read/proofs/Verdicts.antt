-- What a sound interval's first and last key say of all its keys.
use Prim.Native.Nat.{ℕ, ◌+◌, ◌-◌, ◌≤◌}
use mathlib.Core.Path.{◌≡◌, refl, ◌∙◌, sym, ap}
use mathlib.Core.Bool.{Bool, true, false}
use mathlib.Core.List.{List, [], ◌∷◌, map}
use lib.ListN.{length, take, drop, length-map}
use lib.Seq.{take-take}
use lib.Dec.{eqb}
use native.Mathlib.Omega.{arith}
use borrow.Author.Tests.{eqb-true, eqb-false}
use Rattle.fields.specs.Choice.{pick, no}
use Rattle.fields.specs.Bytes.{part, Octets}
use Rattle.fields.specs.Order.{order_of, is_less, less}
use Rattle.std.specs.declared.cmp.Ordering.{Ordering}
use Rattle.fields.specs.Lists.{sum, every}
use Rattle.fields.proofs.Lists.{sum-cons}
use Rattle.fields.proofs.Octets.{octets-part}
use Rattle.fields.proofs.Splices.{length-mid, part-is}
use Rattle.measures.specs.declared.Measures.{Measures}
use Rattle.interval.specs.Records.{keys_of, all_within, ascending, ascend_from, above, up_to}
use Rattle.interval.specs.Reading.{displacement, rdfs_in, rdfs_many, lengths, records_in, form_sound, sound}
use Rattle.interval.specs.Role.{sound_free}
use Rattle.interval.specs.Bounds.{bound}
use Rattle.interval.proofs.Bounds.{lead-is-bound}
use Rattle.interval.proofs.Backward.{form-tests, read-lengths, read-lengths-fine, form-and-keys}
use Rattle.interval.proofs.Lengths.{within_low, within-rest}
use Rattle.std.specs.Prelude.{Option, Some, None}
use Rattle.interval_read.specs.Verdict.{last_start, verdict, verdict_of}
use Rattle.interval_read.specs.AidWalk.{keys_from}
use Rattle.interval_read.specs.AidOpened.{opened, opened_of}
use Rattle.interval_read.specs.declared.Verdict.{Verdict}
use Rattle.interval_read.proofs.Keys.{empty-below}
use Rattle.interval_read.proofs.Judging.{from_more, keys-are}
use Rattle.interval_read.proofs.Ends.{above-first, up-to-last, last_key, last-from, start-more}

-- the verdict taken apart
pub record Told (m : Measures) (ci : List ℕ) (count last : ℕ) : Type 0 where
  pub stands : sound m ci ≡ true
  pub many : count ≡ length (records_in ci)
  pub final : last ≡ last_start (map length (records_in ci))

abbrev told : Option Verdict → Verdict
told (Some v) = v
told None = verdict 0 0 0 0

pub sound-told : (m : Measures) (ci : List ℕ) (v : Verdict) → Some v ≡ verdict_of m ci → Told m ci v.count v.last
unfolding verdict_of
sound-told m ci v e = go (sound m ci) refl e
  where
    go : (b : Bool) → sound m ci ≡ b
        → Some v ≡ pick b (Some (verdict (length (records_in ci)) (displacement ci) (rdfs_many ci) (last_start (map length (records_in ci))))) None
        → Told m ci v.count v.last
    go true s h = record { stands = s; many = ap (λ o. (told o).count) h; final = ap (λ o. (told o).last) h }
    go false s h = absurd (let z : ◌≡◌ {A = ℕ} 0 1 = cc in omega arith)

pub unsound-told : (m : Measures) (ci : List ℕ) → None ≡ verdict_of m ci → sound m ci ≡ false
unfolding verdict_of
unsound-told m ci e = go (sound m ci) e
  where
    go : (b : Bool) → None ≡ pick b (Some (verdict (length (records_in ci)) (displacement ci) (rdfs_many ci) (last_start (map length (records_in ci))))) None → b ≡ false
    go true h = absurd (let z : ◌≡◌ {A = ℕ} 0 1 = cc in omega arith)
    go false h = refl

-- a free interval
pub free-is : (m : Measures) (ci : List ℕ) (count last : ℕ) → Told m ci count last → eqb count 0 ≡ sound_free m ci
unfolding sound_free
free-is m ci count last t = rw (t.stands, t.many)

pub free-not : (m : Measures) (ci : List ℕ) → sound m ci ≡ false → false ≡ sound_free m ci
unfolding sound_free
free-not m ci e = rw e

start-one : (l : ℕ) → last_start (l ∷ []) ≡ 0
unfolding last_start
start-one l = refl

-- the last record ends within the whole
last-room : (least most l : ℕ) (ls : List ℕ) → all_within least most (l ∷ ls) ≡ true → last_start (l ∷ ls) + least ≤ sum (l ∷ ls)
last-room least most l [] h = omega (arith, start-one l, within_low least most l [] h, sum-cons l [])
last-room least most l (k ∷ ls) h =
    omega (arith, start-more l k ls, sum-cons l (k ∷ ls), last-room least most k ls (within-rest least most l (k ∷ ls) h))

-- the keys of a sound interval by their places
module _ (m : Measures) (ci : List ℕ) (some : 1 ≤ m.key) (inside : m.offset + m.key ≤ m.least) (h : sound m ci ≡ true) where
  form : form_sound m ci ≡ true
  form = (form-and-keys m ci h).0

  rises : ascending (keys_of m (records_in ci)) ≡ true
  rises = (form-and-keys m ci h).1

  keys_from_lem : keys_of m (records_in ci) ≡ keys_from m.offset m.key ci 0 (map length (records_in ci))
  unfolding records_in
  keys_from_lem =
      let r = read-lengths m ci form in
      sym (rw r (keys-are m ci 0 (lengths (rdfs_in ci)) inside (rw r at (read-lengths-fine m ci form))))

  sums : sum (map length (records_in ci)) ≤ length ci
  sums = rw (read-lengths m ci form) (omega (arith, (form-tests m ci form).sums, (form-tests m ci form).adds-up))

  rises-from : (k : List ℕ) (ks : List (List ℕ)) → ascending (k ∷ ks) ≡ true → ascend_from k ks ≡ true
  unfolding ascending
  rises-from k ks a = a

  -- there are some: the first and the last key, and that they lie in the interval
  pub record Ends : Type 0 where
    pub first_key : List ℕ
    pub others : List (List ℕ)
    pub first-is : first_key ≡ part ci m.offset m.key
    pub last-is : last_key first_key others ≡ part ci (last_start (map length (records_in ci)) + m.offset) m.key
    pub keys : keys_of m (records_in ci) ≡ first_key ∷ others
    pub ascends : ascend_from first_key others ≡ true
    pub first-in : m.offset + m.key ≤ length ci
    pub last-in : last_start (map length (records_in ci)) + m.offset + m.key ≤ length ci

  pub there : (length (records_in ci) ≡ 0 → ⊥) → Ends
  there n = go (map length (records_in ci)) refl
    where
      go : (ls : List ℕ) → map length (records_in ci) ≡ ls → Ends
      go [] e = absurd (n (sym (length-map (records_in ci) length) ∙ ap length e))
      go (l ∷ ls) e =
          let w : all_within m.least m.most (l ∷ ls) ≡ true = rw e at (read-lengths-fine m ci form) in
          let s : sum (l ∷ ls) ≤ length ci = rw e at sums in
          let k : keys_of m (records_in ci) ≡ part ci (0 + m.offset) m.key ∷ keys_from m.offset m.key ci (0 + l) ls =
          keys_from_lem ∙ rw e (from_more m.offset m.key ci 0 l ls) in
          let z : 0 + m.offset ≡ m.offset = omega arith in
          let y : 0 + last_start (l ∷ ls) ≡ last_start (l ∷ ls) = omega arith in
          let lo = within_low m.least m.most l ls w in
          record {
            first_key = part ci (0 + m.offset) m.key;
            others = keys_from m.offset m.key ci (0 + l) ls;
            first-is = rw z;
            last-is = last-from m.offset m.key ci 0 l ls ∙ rw (y, e);
            keys = k;
            ascends = rises-from (part ci (0 + m.offset) m.key) (keys_from m.offset m.key ci (0 + l) ls) (rw k at rises);
            first-in = omega (arith, sum-cons l ls);
            last-in = rw e (omega (arith, last-room m.least m.most l ls w));
          }

  opened-by : (low : List ℕ) (b : Bool) → above low (keys_of m (records_in ci)) ≡ b
      → opened_of m low ci ≡ pick b (Some (opened (length (records_in ci)) (last_start (map length (records_in ci))))) None
  unfolding opened_of
  opened-by low b e = rw (h, e)

  none_above : (low : List ℕ) → length (records_in ci) ≡ 0 → above low (keys_of m (records_in ci)) ≡ true
  none_above low e = go (records_in ci) e
    where
      go : (rs : List (List ℕ)) → length rs ≡ 0 → above low (keys_of m rs) ≡ true
      go [] z = unfold every in refl
      go (r ∷ rs) z = absurd (omega arith)

  none-up-to : (high : List ℕ) → length (records_in ci) ≡ 0 → up_to high (keys_of m (records_in ci)) ≡ true
  none-up-to high e = go (records_in ci) e
    where
      go : (rs : List (List ℕ)) → length rs ≡ 0 → up_to high (keys_of m rs) ≡ true
      go [] z = unfold every in refl
      go (r ∷ rs) z = absurd (omega arith)

  -- no records: it opens, and closes
  pub opens-empty : (low : List ℕ) → length (records_in ci) ≡ 0 → opened_of m low ci ≡ Some (opened (length (records_in ci)) (last_start (map length (records_in ci))))
  opens-empty low e = opened-by low true (none_above low e)

  pub closes-empty : (high : List ℕ) → length (records_in ci) ≡ 0 → true ≡ up_to high (keys_of m (records_in ci))
  closes-empty high e = sym (none-up-to high e)

  -- records: the first key against the bound before, the last against its own
  module _ (n : length (records_in ci) ≡ 0 → ⊥) where
    first-decides : (low : List ℕ) → above low (keys_of m (records_in ci)) ≡ less low (part ci m.offset m.key)
    first-decides low =
        let s = there n in
        rw s.keys (above-first low s.first_key s.others s.ascends ∙ rw s.first-is)

    pub last-decides : (high : List ℕ) → up_to high (keys_of m (records_in ci)) ≡ no (less high (part ci (last_start (map length (records_in ci)) + m.offset) m.key))
    last-decides high =
        let s = there n in
        rw s.keys (up-to-last high s.first_key s.others s.ascends ∙ rw s.last-is)

    pub opens-above : (low : List ℕ) (b : Bool) → less low (part ci m.offset m.key) ≡ b
        → opened_of m low ci ≡ pick b (Some (opened (length (records_in ci)) (last_start (map length (records_in ci))))) None
    opens-above low b e = opened-by low b (first-decides low ∙ e)

    first_some : less [] (part ci m.offset m.key) ≡ true
    first_some = empty-below m.key ci m.offset some (there n).first-in

  -- no bound before: it opens
  pub opens-first : opened_of m [] ci ≡ Some (opened (length (records_in ci)) (last_start (map length (records_in ci))))
  opens-first = go (eqb (length (records_in ci)) 0) refl
    where
      go : (b : Bool) → eqb (length (records_in ci)) 0 ≡ b → opened_of m [] ci ≡ Some (opened (length (records_in ci)) (last_start (map length (records_in ci))))
      go true e = opens-empty [] (eqb-true (length (records_in ci)) 0 e)
      go false e = opens-above (eqb-false (length (records_in ci)) 0 e) [] true (first_some (eqb-false (length (records_in ci)) 0 e))

-- an unsound interval does not open
pub opens_not : (m : Measures) (low ci : List ℕ) → sound m ci ≡ false → None ≡ opened_of m low ci
unfolding opened_of
opens_not m low ci e = rw e

-- A separator was compared with as many bytes of the key from place a on as it has: that is how its bound stands to the whole key.
pub compared : (K : ℕ) (ci sep : List ℕ) (a : ℕ) (o : Ordering) → length sep ≤ K → a + K ≤ length ci → Octets ci
    → o ≡ order_of sep (take (a + length sep - a) (drop a ci)) → less (bound K sep) (part ci a K) ≡ is_less o
compared K ci sep a o h i b e =
    let t : take (a + length sep - a) (drop a ci) ≡ take (length sep) (part ci a K) = part-is ci a (length sep) ∙ sym (take-take (length sep) K (drop a ci) h) in
    sym (ap is_less e ∙ rw t (lead-is-bound K sep (part ci a K) h (length-mid ci a K i) (octets-part ci a K b)))

-- the ways out of `opens` and of `closes`, as they are left
module _ (m : Measures) (ci : List ℕ) (some : 1 ≤ m.key) (inside : m.offset + m.key ≤ m.least) (count last : ℕ) (t : Told m ci count last) where
  told_is : Some (opened (length (records_in ci)) (last_start (map length (records_in ci)))) ≡ Some (opened count last)
  told_is = rw (t.many, t.final)

  pub way-first : (first : Bool) (low : List ℕ) → first ≡ true → Some (opened count last) ≡ opened_of m (pick first [] low) ci
  way-first first low e = rw e (sym (opens-first m ci some inside t.stands ∙ told_is))

  pub way-empty : (low : List ℕ) → count ≡ 0 → Some (opened count last) ≡ opened_of m low ci
  way-empty low e = sym (opens-empty m ci some inside t.stands low (sym t.many ∙ e) ∙ told_is)

  pub shut-empty : (high : List ℕ) → count ≡ 0 → true ≡ up_to high (keys_of m (records_in ci))
  shut-empty high e = closes-empty m ci some inside t.stands high (sym t.many ∙ e)

  module _ (n : count ≡ 0 → ⊥) where
    pub some-there : Ends m ci some inside t.stands
    some-there = there m ci some inside t.stands (λ e. n (t.many ∙ e))

    pub way_above : (first : Bool) (low : List ℕ) → first ≡ false → less low (part ci m.offset m.key) ≡ true → Some (opened count last) ≡ opened_of m (pick first [] low) ci
    way_above first low f e = rw f (sym (opens-above m ci some inside t.stands (λ z. n (t.many ∙ z)) low true e ∙ told_is))

    pub way-below : (first : Bool) (low : List ℕ) → first ≡ false → less low (part ci m.offset m.key) ≡ false → None ≡ opened_of m (pick first [] low) ci
    way-below first low f e = rw f (sym (opens-above m ci some inside t.stands (λ z. n (t.many ∙ z)) low false e))

    pub last-inside : last + m.offset + m.key ≤ length ci
    last-inside = rw t.final some-there.last-in

    pub shut_by : (high : List ℕ) (b : Bool) → less high (part ci (last + m.offset) m.key) ≡ b → no b ≡ up_to high (keys_of m (records_in ci))
    shut_by high b e = sym (last-decides m ci some inside t.stands (λ z. n (t.many ∙ z)) high ∙ rw (← t.final, e))
