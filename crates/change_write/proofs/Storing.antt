-- Some of the edited records, stored in an interval: that their bytes can be laid there, and that the interval, closed behind them, is the writer's form of them.
-- The cuts lie between records, so that the bytes hold all that comes in or nothing of it. An interval that is not theirs lies apart from it; their own is written
-- from its first byte on, and seen alone.
use Prim.Native.Nat.{ℕ, ◌+◌, ◌-◌, ◌*◌, ◌≤◌, ◌<◌}
use mathlib.Core.Path.{◌≡◌, refl, ◌∙◌, sym, ap}
use mathlib.Core.Bool.{Bool, true, false}
use mathlib.Core.List.{List, ◌++◌, append_assoc}
use mathlib.Core.Logic.{◌⊎◌, inl, inr}
use lib.ListN.{length, take, drop, length-append, length-take, length-drop}
use lib.Seq.{take-take, take_at, drop-append-add, drop-drop, length-take-le, take-length}
use lib.Dec.{ltb}
use native.Mathlib.Omega.{arith}
use native.Mathlib.Nat.{mul-le-mul_right}
use borrow.Author.Tests.{ltb-true, ltb-false}
use Rattle.fields.specs.Bytes.{part, splice}
use Rattle.fields.specs.Lists.{sum, swap}
use Rattle.fields.proofs.Splices.{length-mid, length-splice, part-here, part-is, mid-splice, take-front}
use Rattle.fields.proofs.Lists.{sum-lengths}
use Rattle.measures.specs.declared.Measures.{Measures}
use Rattle.room.specs.Room.{need}
use Rattle.interval.specs.Records.{Flat}
use Rattle.interval.specs.Layout.{form}
use Rattle.interval.specs.Reading.{displacement, cut}
use Rattle.interval.proofs.Changed.{cut-flat, swap-length, sum-all, flat-part}
use Rattle.interval.proofs.Form.{length-form}
use Rattle.interval_write.proofs.Stores.{closed-lent}
use Rattle.interval_edit.specs.declared.Site.{Site}
use Rattle.area.specs.Content.{data_in}
use Rattle.change_plan.specs.AidEdited.{edited_records, Seen}
use Rattle.change_plan.specs.AidParts.{stretch}
use Rattle.change_write.specs.declared.Stretch.{Stretch}
use Rattle.change_write.specs.AidStored.{Layable, Rewritable, rewritten, Storable}
use Rattle.change_plan.proofs.Seeing.{swap-take, sum-up, size-seen, bounds-seen, flat-seen, sum-seen, before-sum, behind_sum, stretch-ends, stretch-seen}

-- What is stored over an earlier store, from its place on and no shorter, leaves nothing of it.
splice-over : (b : List ℕ) (at : ℕ) (xs ys : List ℕ) → at ≤ length b → length xs ≤ length ys → splice (splice b at xs) at ys ≡ splice b at ys
unfolding splice
splice-over b at xs ys h k =
    let r : List ℕ = drop (at + length xs) b in
    let p : List ℕ = take at b ++ xs in
    let n : ℕ = length ys - length xs in
    let t : length (take at b) ≡ at = length-take-le at b h in
    let l : length p + n ≡ at + length ys = omega (arith, length-append (take at b) xs) in
    let q : at + length xs + n ≡ at + length ys = omega arith in
    let front : take at (take at b ++ (xs ++ r)) ≡ take at b = take_at (take at b) (xs ++ r) at t in
    let back : drop (at + length ys) (take at b ++ (xs ++ r)) ≡ drop (at + length ys) b =
    rw (← append_assoc (take at b) xs r, ← l, drop-append-add p r n, drop-drop n (at + length xs) b, q, l) in
    rw (front, back)

sum-need : (ls : List ℕ) → sum ls ≤ need ls
unfolding need
sum-need ls = omega arith

-- ---- where the bytes of some of the records lie, and where they can be laid

module _ (m : Measures) (area : List ℕ) (site : Site) (new lens : List ℕ) (seen : Seen m area site new lens) (first last : ℕ) where
  abbrev begins : ℕ
  begins = sum (take first lens)

  abbrev ends : ℕ
  ends = sum (take last lens)

  -- before the edit, or behind it, or on both sides of what comes in
  pieces : (ends ≤ site.start) ⊎ ((site.start + length new ≤ begins) ⊎ ((begins ≤ site.start) × (site.start + length new ≤ ends)))
  pieces = go (ltb site.ordinal last) (ltb site.ordinal first) refl refl
    where
      go : (t u : Bool) → ltb site.ordinal last ≡ t → ltb site.ordinal first ≡ u
          → (ends ≤ site.start) ⊎ ((site.start + length new ≤ begins) ⊎ ((begins ≤ site.start) × (site.start + length new ≤ ends)))
      go false u e f = inl (before-sum m area site new lens seen last (ltb-false site.ordinal last e))
      go true true e f = inr (inl (behind_sum m area site new lens seen first (ltb-true site.ordinal first f)))
      go true false e f =
          inr (inr (
            before-sum m area site new lens seen first (ltb-false site.ordinal first f),
            behind_sum m area site new lens seen last (ltb-true site.ordinal last e),
          ))

  -- in a buffer that has the interval from `base` on
  layable-in : (long at base : ℕ) → first ≤ last → base + m.size ≤ long → at + (ends - begins) ≤ long
      → ((at ≡ base) × (begins ≡ 0)) ⊎ ((at + (ends - begins) ≤ base) ⊎ (base + displacement (data_in m area site.number) ≤ at))
      → long < 4294967296 → Layable long at base site (length new) record { from = begins; to = ends }
  layable-in long at base order there fits apart small =
      let b = bounds-seen m area site new lens seen in
      record {
        room = displacement (data_in m area site.number);
        order = sum-up first last lens order;
        pieces = pieces;
        inside = b.3;
        ends = omega (arith, b, sum-all last lens, sum-seen m area site new lens seen);
        there = omega (arith, b, there);
        fits = fits;
        apart = apart;
        new-small = seen.new-small;
        small = small;
      }

-- ---- an interval that is not theirs

module _ (m : Measures) (area : List ℕ) (site : Site) (new lens : List ℕ) (seen : Seen m area site new lens)
    (s : Stretch) (o : Storable m.size (length area) site.number lens s) (from len : ℕ)
    (from_is : from ≡ sum (take s.first lens)) (len_is : len ≡ sum (take (s.last - s.first) (stretch s.first s.last lens))) where
  abbrev at : ℕ
  at = s.place * m.size

  abbrev base : ℕ
  base = (site.number + 1) * m.size

  abbrev mine : List ℕ
  mine = stretch s.first s.last lens

  abbrev bytes : List ℕ
  bytes = part (swap site.start site.span new (drop base area)) from len

  abbrev records : List (List ℕ)
  records = stretch s.first s.last (edited_records m area site new)

  len-all : sum mine ≡ len
  len-all = sym (len_is ∙ ap sum (take-take (s.last - s.first) (s.last - s.first) (drop s.first lens) (omega arith)))

  len-fits : len ≤ m.size
  len-fits = omega (arith, len-all, sum-need mine, o.fits)

  to_is : from + len ≡ sum (take s.last lens)
  to_is = omega (arith, from_is, len-all, stretch-ends m area site new lens seen s.first s.last o.order)

  -- it lies before theirs, or behind it
  apart : (k : ℕ) → k ≤ m.size → (at + k ≤ base) ⊎ (base + displacement (data_in m area site.number) ≤ at)
  apart k h = go (ltb s.place (site.number + 1)) refl
    where
      go : (t : Bool) → ltb s.place (site.number + 1) ≡ t → (at + k ≤ base) ⊎ (base + displacement (data_in m area site.number) ≤ at)
      go true e =
          let l : s.place + 1 ≤ site.number + 1 = omega (arith, ltb-true s.place (site.number + 1) e) in
          inl (omega (arith, mul-le-mul_right m.size l))
      go false e =
          let l : site.number + 2 ≤ s.place = omega (arith, o.apart, ltb-false s.place (site.number + 1) e) in
          inr (omega (arith, mul-le-mul_right m.size l, bounds-seen m area site new lens seen))

  -- the bytes of those records can be laid
  pub layable : Layable (length area) at base site (length new) record { from = from; to = from + len }
  layable =
      let k : ℕ = sum (take s.last lens) - sum (take s.first lens) in
      let h : k ≤ m.size = omega (arith, from_is, to_is, len-fits) in
      rw (to_is, from_is)
      (layable-in m area site new lens seen s.first s.last (length area) at base o.order seen.there (omega (arith, h, o.there)) (inr (apart k h)) seen.area_small)

  -- what the lent interval has to be for it to be closed
  pub closable : (c : List ℕ) → length c ≡ length area → (need mine ≤ length (take (at + m.size - at) (drop at c)))
      × (length (take (at + m.size - at) (drop at c)) ≤ 32768) × (sum mine ≡ len) × (length mine < 65536)
  closable c h =
      let e : at + m.size - at ≡ m.size = omega arith in
      let l : length (take (at + m.size - at) (drop at c)) ≡ m.size = rw e (length-mid c at m.size (omega (arith, o.there))) in
      let f : length mine < 65536 = omega (arith, length-take (s.last - s.first) (drop s.first lens), length-drop s.first lens, seen.few) in
      (rw l o.fits, rw l o.small, len-all, f)

  flat : Flat bytes mine records
  flat = rw (from_is, ← len-all) (stretch-seen m area site new lens seen s.first s.last)

  bytes-long : length bytes ≡ len
  bytes-long = ap length flat.bytes-are ∙ sym (sum-lengths records) ∙ sym (ap sum flat.lens-are) ∙ len-all

  -- laid and closed, the interval is the form of the records
  pub stored : (c ys : List ℕ)
      → c ≡ splice area at (part (swap site.start site.span new (drop base area)) from (from + len - from))
      → ys ≡ form (length (take (at + m.size - at) (drop at c))) (cut (take len (take (at + m.size - at) (drop at c))) mine)
      → take at c ++ (ys ++ drop (at + m.size - at) (drop at c)) ≡ splice area at (form m.size records)
  stored c ys e f =
      let z : from + len - from ≡ len = omega arith in
      let g : c ≡ splice area at bytes = rw z at e in
      let i : at + length bytes ≤ length area = omega (arith, bytes-long, len-fits, o.there) in
      let l : length c ≡ length area = ap length g ∙ length-splice area at bytes i in
      let b : take len (drop at c) ≡ bytes = rw g (part-here area at len bytes (omega (arith, i)) bytes-long) in
      let n : length (form m.size records) ≡ m.size = length-form m.size records (rw (← flat.lens-are) o.fits) in
      closed-lent c at m.size len bytes mine ys (omega (arith, l, o.there)) len-fits o.fits (omega (arith, len-all, bytes-long)) b f
      ∙ rw (cut-flat bytes mine records flat, g) (splice-over area at bytes (form m.size records) (omega (arith, i)) (omega (arith, n, bytes-long, len-fits)))

-- ---- an interval seen alone

module _ (ci : List ℕ) (site : Site) (new lens : List ℕ) (r : Rewritable (length ci) site (length new) lens) (len : ℕ) (len_is : len ≡ sum (take (length lens) lens)) where
  all_of : sum lens ≡ len
  all_of = sym (len_is ∙ rw take-length)

  abbrev laid : List ℕ
  laid = take len (swap site.start site.span new ci)

  pub front-layable : Layable (length ci) 0 0 site (length new) record { from = 0; to = len }
  front-layable = rw (← all_of) r.lays

  pub front-closable : (c : List ℕ) → length c ≡ length ci → (need lens ≤ length c) × (length c ≤ 32768) × (sum lens ≡ len) × (length lens < 65536)
  front-closable c h = (omega (arith, r.fits), omega (arith, r.small), all_of, omega (arith, r.few))

  laid-long : length laid ≡ len
  laid-long =
      let l = r.lays in
      let n = swap-length site.start site.span new ci (omega (arith, l.inside, l.there)) in
      length-take-le len (swap site.start site.span new ci) (omega (arith, n, l.inside, l.there, l.ends, all_of))

  -- laid and closed, it is what the lengths cut out of its edited bytes
  pub front-written : (c z : List ℕ) → c ≡ splice ci 0 (part (swap site.start site.span new (drop 0 ci)) 0 (len - 0))
      → z ≡ form (length c) (cut (take len c) lens) → z ≡ rewritten ci site new lens
  front-written c z e f =
      let d : len - 0 ≡ len = omega arith in
      let g : c ≡ splice ci 0 laid = rw d at e in
      let n : length c ≡ length ci = ap length g ∙ length-splice ci 0 laid (omega (arith, laid-long, all_of, sum-need lens, r.fits)) in
      let t : take len c ≡ laid = ap (take len) g ∙ take-front ci laid len (sym laid-long) in
      f ∙ rw (n, t, all_of)

-- ---- their own interval

module _ (m : Measures) (area : List ℕ) (site : Site) (new lens : List ℕ) (seen : Seen m area site new lens)
    (last : ℕ) (fits : need (take last lens) ≤ m.size) where
  abbrev own : ℕ
  own = (site.number + 1) * m.size

  abbrev ci : List ℕ
  ci = data_in m area site.number

  abbrev firsts : List (List ℕ)
  firsts = take last (edited_records m area site new)

  as_lent : take (own + m.size - own) (drop own area) ≡ ci
  as_lent = part-is area own m.size

  -- it can be written anew
  pub rewritable : Rewritable (length (take (own + m.size - own) (drop own area))) site (length new) (take last lens)
  unfolding sum
  rewritable =
      let b = bounds-seen m area site new lens seen in
      let l : length (take (own + m.size - own) (drop own area)) ≡ m.size = ap length as_lent ∙ size-seen m area site new lens seen in
      let k : sum (take last lens) ≤ m.size = omega (arith, sum-need (take last lens), fits) in
      rw l (record {
        lays = layable-in m area site new lens seen 0 last m.size 0 0 (omega arith) (omega arith) (omega (arith, k)) (inl (refl, refl)) (omega (arith, b));
        fits = fits;
        small = b.1;
        few = omega (arith, length-take last lens, seen.few);
      })

  -- the first lengths cut the first records out of its edited bytes
  first_flat : Flat (take (sum (take last lens)) (swap site.start site.span new ci)) (take last lens) firsts
  unfolding sum
  first_flat =
      let b = bounds-seen m area site new lens seen in
      let all : List ℕ = swap site.start site.span new ci in
      let e : swap site.start site.span new (take (displacement ci) ci) ≡ take (sum lens) all =
      swap-take site.start site.span new ci (displacement ci) b.3 (omega (arith, b, size-seen m area site new lens seen))
      ∙ ap (λ (n : ℕ). take n all) (sym (sum-seen m area site new lens seen)) in
      let t : take (sum (take last lens)) (take (sum lens) all) ≡ take (sum (take last lens)) all = take-take (sum (take last lens)) (sum lens) all (sum-all last lens) in
      let f = flat-part (swap site.start site.span new (take (displacement ci) ci)) lens (edited_records m area site new) 0 last (flat-seen m area site new lens seen) in
      record { bytes-are = sym (ap (take (sum (take last lens))) e ∙ t) ∙ f.bytes-are; lens-are = f.lens-are }

  -- and so it is the form of these
  pub own-written : (ys : List ℕ) → ys ≡ rewritten (take (own + m.size - own) (drop own area)) site new (take last lens)
      → take own area ++ (ys ++ drop (own + m.size - own) (drop own area)) ≡ splice area own (form m.size firsts)
  own-written ys e =
      let z : own + m.size - own ≡ m.size = omega arith in
      let n : length (form m.size firsts) ≡ m.size = length-form m.size firsts (rw (← first_flat.lens-are) fits) in
      let f : ys ≡ form m.size firsts =
      e ∙ ap (λ (b : List ℕ). rewritten b site new (take last lens)) as_lent
      ∙ rw (size-seen m area site new lens seen, cut-flat (take (sum (take last lens)) (swap site.start site.span new ci)) (take last lens) firsts first_flat) in
      rw (z, f) (mid-splice area (form m.size firsts) own m.size n)
