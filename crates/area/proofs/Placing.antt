-- Where an area is called damaged: the index record if it is not laid out, else the lowest data interval that is not laid out in its role.
use Prim.Native.Nat.{ℕ, ◌+◌, ◌≤◌, ◌<◌}
use mathlib.Core.Path.{◌≡◌, refl, ◌∙◌, sym, ap}
use mathlib.Core.Bool.{Bool, true, false}
use mathlib.Core.List.Memᴰ
use mathlib.Core.List.{List, [], Memᴰ}
use mathlib.Core.Logic.{◌↔◌}
use lib.Dec.{ltb, leb}
use native.Mathlib.Omega.{arith}
use borrow.Author.Tests.{ltb-true, lt-ltb, leb-true, leb-false}
use Rattle.fields.specs.Choice.{pick}
use Rattle.fields.proofs.Choices.{false-true}
use Rattle.measures.specs.Judgement.{width_for}
use Rattle.measures.specs.declared.Measures.{Measures}
use Rattle.measures.proofs.Fine.{fits-small}
use Rattle.index.specs.Meaning.{Meaning}
use Rattle.sections.specs.Reading.{read_index, sound_index}
use Rattle.area.specs.Content.{Content, index_in, data_in, content_of}
use Rattle.area.specs.Soundness.{unsound_data, lowest}
use Rattle.area.specs.Reading.{Reading, damaged, whole, read_area}
use Rattle.area.specs.Layout.{Lent, IndexInterval}
use Rattle.area.specs.Roles.{Role, InRole, DamagedAt}
use Rattle.area.proofs.Lowest.{lowest-least, lowest-among, lowest-is}
use Rattle.area.proofs.Laying.{index-sound, index_read, index-laid}
use Rattle.area.proofs.Roles.{role_sound, role-laid, laid-role, role-listed, listed-role}

-- the ways of a reading: s says of the index record, t of the data intervals, l is the lowest
abbrev told : Bool → Bool → ℕ → Content → Reading
told s t l w = pick s (pick t (damaged (l + 1)) (whole w)) (damaged 0)

told-index : (s t : Bool) (l : ℕ) (w : Content) → told s t l w ≡ damaged 0 → s ≡ false
told-index true true l w e = absurd (let z : l + 1 ≡ 0 = cc in omega arith)
told-index true false l w e = absurd (let z : ◌≡◌ {A = ℕ} 0 1 = cc in omega arith)
told-index false t l w e = refl

told-data : (s t : Bool) (l k : ℕ) (w : Content) → told s t l w ≡ damaged (k + 1) → (s ≡ true) × (t ≡ true) × (l ≡ k)
told-data true true l k w e = let z : l + 1 ≡ k + 1 = cc in (refl, refl, omega arith)
told-data true false l k w e = absurd (let z : ◌≡◌ {A = ℕ} 0 1 = cc in omega arith)
told-data false t l k w e = absurd (let z : 0 ≡ k + 1 = cc in omega arith)

module _ (m : Measures) (n : ℕ) (area : List ℕ) where
  abbrev read : Meaning
  read = read_index (width_for n) n (index_in m area)

  abbrev sound_record : Bool
  sound_record = sound_index (width_for n) m.key n [] [] (index_in m area)

  abbrev low : Meaning → ℕ
  low ix = lowest n (unsound_data m [] area ix)

  reading : read_area m n area ≡ told sound_record (ltb (low read) n) (low read) (content_of m area read)
  unfolding read_area
  reading = refl

module _ (m : Measures) (n : ℕ) (area : List ℕ) (lent : Lent m n area) where
  some : 1 ≤ m.least
  some = omega (arith, lent.fits.key-some, lent.fits.key-inside)

  -- ---- the index record

  -- Place 0 is told exactly if no meaning that keeps the rules is laid out in the index interval.
  pub index-damaged : (read_area m n area ≡ damaged 0) ↔ ((ix : Meaning) → IndexInterval m n ix (index_in m area) → ⊥)
  index-damaged = (there, back (sound_record m n area) refl)
    where
      there : read_area m n area ≡ damaged 0 → (ix : Meaning) → IndexInterval m n ix (index_in m area) → ⊥
      there e ix i =
          let s : sound_record m n area ≡ false = told-index (sound_record m n area) (ltb (low m n area (read m n area)) n) (low m n area (read m n area))
          (content_of m area (read m n area)) (sym (reading m n area) ∙ e) in
          false-true (sym s ∙ index-sound m area some (fits-small lent.fits) n lent.fits.few ix i)

      back : (t : Bool) → sound_record m n area ≡ t → ((ix : Meaning) → IndexInterval m n ix (index_in m area) → ⊥) → read_area m n area ≡ damaged 0
      back true s none = absurd (none (read m n area) (index-laid m n area lent s))
      back false s none = reading m n area ∙ rw s

  -- ---- the data intervals

  -- below the lowest, every interval is laid out in its role
  lower-laid : (ix : Meaning) (k j : ℕ) → low m n area ix ≡ k → k < n → j < k → (r : Role ix j) → InRole m ix j r (data_in m area j)
  lower-laid ix k j e h l r = go (role_sound m ix j r (data_in m area j)) refl
    where
      go : (t : Bool) → role_sound m ix j r (data_in m area j) ≡ t → InRole m ix j r (data_in m area j)
      go true s = role-laid m ix j r n area lent (omega arith) s
      go false s = absurd (omega (arith, lowest-least n j (unsound_data m [] area ix) (role-listed m area ix j r s)))

  -- from the place that is told to the lowest interval
  there : (k : ℕ) → read_area m n area ≡ damaged (k + 1) → DamagedAt m n area k
  there k e =
      let ix : Meaning = read m n area in
      let t = told-data (sound_record m n area) (ltb (low m n area ix) n) (low m n area ix) k (content_of m area ix) (sym (reading m n area) ∙ e) in
      let h : k < n = omega (arith, ltb-true (low m n area ix) n t.1, t.2) in
      let r = listed-role m area ix k (Memᴰ.cast (sym t.2) (lowest-among n (unsound_data m [] area ix) (ltb-true (low m n area ix) n t.1))) in
      record {
        meaning = ix;
        index = index-laid m n area lent t.0;
        inside = h;
        role = r.0;
        unsound = λ (l : InRole m ix k r.0 (data_in m area k)). false-true (sym r.1 ∙ laid-role m ix k r.0 (data_in m area k) some (fits-small lent.fits) l);
        lower = λ (j : ℕ) (l : j < k) (q : Role ix j). lower-laid ix k j t.2 h l q;
      }

  -- and from the lowest interval to the place that is told
  module _ (k : ℕ) (d : DamagedAt m n area k) where
    listed : Memᴰ k (unsound_data m [] area d.meaning)
    listed = go (role_sound m d.meaning k d.role (data_in m area k)) refl
      where
        go : (t : Bool) → role_sound m d.meaning k d.role (data_in m area k) ≡ t → Memᴰ k (unsound_data m [] area d.meaning)
        go true s = absurd (d.unsound (role-laid m d.meaning k d.role n area lent d.inside s))
        go false s = role-listed m area d.meaning k d.role s

    least : (j : ℕ) → Memᴰ j (unsound_data m [] area d.meaning) → k ≤ j
    least j i = go (leb k j) refl
      where
        go : (t : Bool) → leb k j ≡ t → k ≤ j
        go true e = leb-true k j e
        go false e =
            let r = listed-role m area d.meaning j i in
            absurd (false-true (sym r.1 ∙ laid-role m d.meaning j r.0 (data_in m area j) some (fits-small lent.fits) (d.lower j (leb-false k j e) r.0)))

    back : read_area m n area ≡ damaged (k + 1)
    back =
        let s : sound_record m n area ≡ true = index-sound m area some (fits-small lent.fits) n lent.fits.few d.meaning d.index in
        let q : low m n area (read m n area) ≡ k =
        ap (λ (x : Meaning). low m n area x) (index_read m area some (fits-small lent.fits) n lent.fits.few d.meaning d.index) ∙ lowest-is n k
        (unsound_data m [] area d.meaning) listed d.inside least in
        reading m n area ∙ rw (s, q, lt-ltb k n d.inside)

  -- Place k + 1 is told exactly if the index record is laid out and k is the lowest number whose interval is not laid out in its role.
  pub data-damaged : (k : ℕ) → (read_area m n area ≡ damaged (k + 1)) ↔ DamagedAt m n area k
  data-damaged k = (there k, back k)

  -- Damage is told exactly where it is: place 0 if the index interval has no layout, whatever the data intervals are; else 1 more than the lowest number
  -- of a data interval that has no layout in its role.
  pub damage-placed : ((read_area m n area ≡ damaged 0) ↔ ((ix : Meaning) → IndexInterval m n ix (index_in m area) → ⊥))
      × ((k : ℕ) → (read_area m n area ≡ damaged (k + 1)) ↔ DamagedAt m n area k)
  damage-placed = (index-damaged, data-damaged)
