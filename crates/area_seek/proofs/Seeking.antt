-- From what the index record tells of a key to the answer: the interval's judgement between two separators, the bound before an entry, and the ways out.
use Rattle.std.specs.Prelude.{Ok, None}
use Prim.Native.Nat.{ℕ, zero, suc, ◌+◌, ◌*◌, ◌≤◌, ◌<◌}
use mathlib.Core.Path.{◌≡◌, refl, ◌∙◌, sym, ap}
use mathlib.Core.Bool.{Bool, true, false}
use mathlib.Core.List.{List, [], ◌∷◌, map}
use lib.ListN.{length, take}
use lib.Dec.{eqb}
use native.Mathlib.Omega.{arith}
use borrow.Author.Tests.{ne_eqb}
use Rattle.fields.specs.Choice.{pick, both}
use Rattle.fields.specs.Order.{less}
use Rattle.fields.proofs.Choices.{both-split, false-true, pick_true, pick-false}
use Rattle.measures.specs.Judgement.{Fits}
use Rattle.measures.specs.declared.Measures.{Measures}
use Rattle.interval.specs.Records.{keys_of, above, up_to}
use Rattle.interval.specs.Reading.{records_in, sound, displacement, Readable}
use Rattle.interval.specs.Role.{sound_used}
use Rattle.interval.specs.Search.{place_of, Within}
use Rattle.interval.specs.declared.Found.{Found}
use Rattle.interval.specs.declared.Found.TheVariants.{At, Gap}
use Rattle.interval.proofs.Readable.{fits-checkable, checked-readable, readable-rdfs}
use Rattle.interval_read.specs.Verdict.{last_start}
use Rattle.interval_read.specs.AidOpened.{opened, opened_of, Inside as Told}
use Rattle.std.specs.Prelude.{Option, Some, None}
use Rattle.interval_read.specs.declared.Opened.{Opened}
use Rattle.index.specs.Bounds.{bound}
use Rattle.index.specs.Meaning.{Entry, separator_before}
use Rattle.index.specs.Rules.{bound_before}
use Rattle.index.specs.Search.{leads_to, entry_for}
use Rattle.std.specs.Prelude.{Option, Some}
use Rattle.index_read.specs.Check.{sound_with, LeadWithin}
use Rattle.index_read.specs.declared.Lead.{Lead}
use Rattle.index_read.proofs.Answers.{Led}
use Rattle.area.specs.Content.{index_in, data_in}
use Rattle.area.specs.Leads.{index_sound, entries_for, number_for, interval_for, sound_for}
use Rattle.area.proofs.Intervals.{used-apart}
use Rattle.area.proofs.Places.{length-data, data-ends}
use Rattle.area_seek.specs.AidLooked.{looked_at, looked_of}
use Rattle.area.specs.Checked.{damaged_at, lies_at}

-- ---- an interval between two bounds

-- what opening told of an interval that opened well
pub opened-told : (m : Measures) (ci : List ℕ) (o : Option Opened) (count last : ℕ) → o ≡ Some (opened count last) → Told m ci o → Told m ci (Some (opened count last))
opened-told m ci o count last e t = rw e at t

sound-bad : (count last : ℕ) → None ≡ Some (opened count last) → ⊥
sound-bad count last e = let z : ◌≡◌ {A = ℕ} 0 1 = cc in omega arith

module _ (m : Measures) (low high ci : List ℕ) where
  -- Where it opened well, its own bound decides.
  pub closes-well : (o : Option Opened) (count last : ℕ) → o ≡ Some (opened count last) → o ≡ opened_of m low ci → up_to high (keys_of m (records_in ci)) ≡ sound_used m low high ci
  unfolding opened_of sound_used
  closes-well o count last e is =
      let t = both (sound m ci) (above low (keys_of m (records_in ci))) in
      let s = Some (opened (length (records_in ci)) (last_start (map length (records_in ci)))) in
      let p = pick_true t s None (Some (opened count last)) (sym is ∙ e) (sound-bad count last) in
      let b = both-split (sound m ci) (above low (keys_of m (records_in ci))) p.0 in
      sym (rw (b.0, b.1))

  -- Where it did not, it is unsound.
  pub opens-badly : (o : Option Opened) → o ≡ None → o ≡ opened_of m low ci → false ≡ sound_used m low high ci
  unfolding opened_of sound_used
  opens-badly o e is =
      let s = Some (opened (length (records_in ci)) (last_start (map length (records_in ci)))) in
      sym (go (sound m ci) (above low (keys_of m (records_in ci))) (pick-false (both (sound m ci) (above low (keys_of m (records_in ci)))) s None None (sym is ∙ e) (λ z. sound-bad (length (records_in ci)) (last_start (map length (records_in ci))) (sym z))).0)
    where
      go : (x y : Bool) → both x y ≡ false → both x (both y (up_to high (keys_of m (records_in ci)))) ≡ false
      go true true z = absurd (false-true (sym z))
      go true false z = refl
      go false y z = refl

-- ---- the bound before an entry

bounds-along : (K : ℕ) (ref : List ℕ) (es : List Entry) → bound_before K (bound K ref) es ≡ bound K (separator_before ref es)
unfolding bound_before separator_before
bounds-along K ref [] = refl
bounds-along K ref (e ∷ es) = bounds-along K e.sep es

-- It is that of the separator before; the first entry has none.
bound-there : (K : ℕ) (es : List Entry) (i : ℕ) → i ≤ length es → bound_before K [] (take i es) ≡ pick (eqb i 0) [] (bound K (separator_before [] (take i es)))
unfolding bound_before separator_before
bound-there K es zero h = refl
bound-there K [] (suc i) h = absurd (omega arith)
bound-there K (e ∷ es) (suc i) h = rw (ne_eqb (suc i) 0 (omega arith)) (bounds-along K e.sep (take i es))

leads-most : (key : List ℕ) (es : List Entry) → leads_to key es ≤ length es
unfolding leads_to
leads-most key [] = omega arith
leads-most key (e ∷ es) = go (less e.sep (take (length e.sep) key)) (leads-most key es)
  where
    go : (t : Bool) → leads_to key es ≤ length es → pick t (suc (leads_to key es)) 0 ≤ suc (length es)
    go true h = omega arith
    go false h = omega arith

-- ---- what the index record told

-- what was found lies within its limits
pub spot-within : (n K : ℕ) (r : Option Lead) (spot : Lead) → r ≡ Some spot → LeadWithin n K r → (spot.number < n) × (spot.before ≤ K) × (spot.own ≤ K)
spot-within n K r spot e w = rw e at w

-- the index record is unsound
pub way-unsound : (m : Measures) (n : ℕ) (area key : List ℕ) → length key ≡ m.key → sound_with n (index_in m area) key ≡ false → damaged_at 0 ≡ looked_of m n area key
unfolding looked_of
way-unsound m n area key long h = let t : index_sound m n area ≡ false = rw long at h in sym (rw t)

-- it is sound and leads the key to an entry
module _ (m : Measures) (n : ℕ) (area key : List ℕ) (spot : Lead) (before own : List ℕ) (long : length key ≡ m.key) (l : Led n (index_in m area) key spot before own) where
  pub index-stands : index_sound m n area ≡ true
  index-stands = rw long at l.sound

  pub number_is : spot.number ≡ number_for m n area key
  number_is = ap (λ (x : Lead). x.number) l.spot

  bounds-are : sound_used m (pick (eqb spot.ordinal 0) [] (bound m.key (take spot.before before))) (bound m.key (take spot.own own)) (data_in m area spot.number)
      ≡ sound_for m (entries_for m n area) key (interval_for m n area key)
  unfolding sound_for
  bounds-are =
      let es = entries_for m n area in
      rw (l.low, l.high, bound-there m.key es (leads_to key es) (leads-most key es), l.spot)

  -- The entry's interval, lent as ci, is sound between the two separators exactly if it is sound in its role.
  pub judged-by : (ci : List ℕ) → ci ≡ data_in m area spot.number
      → (ok : Bool) → ok ≡ sound_used m (pick (eqb spot.ordinal 0) [] (bound m.key (take spot.before before))) (bound m.key (take spot.own own)) ci
      → ok ≡ sound_for m (entries_for m n area) key (interval_for m n area key)
  judged-by ci lent ok is = is ∙ rw lent bounds-are

-- ---- the search's ways out, where the index record is sound and the key leads to interval k

module _ (m : Measures) (n : ℕ) (area key : List ℕ) (h : index_sound m n area ≡ true) (k : ℕ) (number : k ≡ number_for m n area key) where
  -- that interval is unsound
  pub way-damaged : sound_for m (entries_for m n area) key (interval_for m n area key) ≡ false → damaged_at (k + 1) ≡ looked_of m n area key
  unfolding looked_of
  way-damaged t = sym (rw (h, t, number))

  -- it is sound; ci is that interval as it was lent
  module _ (t : sound_for m (entries_for m n area) key (interval_for m n area key) ≡ true) (ci : List ℕ) (lent : ci ≡ data_in m area k) where
    there : (f : Found) → f ≡ place_of m key (records_in ci) → looked_at ((k + 1) * m.size) f ≡ looked_of m n area key
    unfolding looked_of
    there f is = rw (h, t, is, lent, number)

    pub way-found : (f : Found) (i start len : ℕ) → f ≡ At i start len → f ≡ place_of m key (records_in ci) → Ok (lies_at ((k + 1) * m.size + start) len) ≡ looked_of m n area key
    way-found f i start len e is = ap (looked_at ((k + 1) * m.size)) (sym e) ∙ there f is

    pub way-absent : (f : Found) (i start : ℕ) → f ≡ Gap i start → f ≡ place_of m key (records_in ci) → (Ok None) ≡ looked_of m n area key
    way-absent f i start e is = ap (looked_at ((k + 1) * m.size)) (sym e) ∙ there f is

    module _ (o : Fits m n (length area)) (within : k < n) where
      size_is : length ci ≡ m.size
      size_is = ap length lent ∙ length-data m n area o k within

      -- it can be searched
      pub lent-readable : Readable m ci
      unfolding sound_for
      lent-readable =
          let es = entries_for m n area in
          let u = used-apart m (bound_before m.key [] (take (leads_to key es) es)) (bound m.key (entry_for key es).sep) (interval_for m n area key) t in
          checked-readable (fits-checkable o ci size_is) (rw (lent, number) u.0)

      -- a record that was found ends within it, and so within the area
      pub record-inside : (f : Found) (i start len : ℕ) → f ≡ At i start len → Within (length (records_in ci)) (displacement ci) f
          → (start + len ≤ m.size) × ((k + 1) * m.size + start + len ≤ length area)
      record-inside f i start len e w =
          let q : Within (length (records_in ci)) (displacement ci) (At i start len) = rw e at w in
          let z : start + len ≤ m.size = omega (arith, q.1, readable-rdfs m ci lent-readable, size_is) in
          (z, omega (arith, data-ends m n area o k within))
