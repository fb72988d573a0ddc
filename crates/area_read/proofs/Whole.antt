-- The check's ways out, against the reading of the whole area.
use Prim.Native.Nat.{ℕ, ◌+◌, ◌*◌, ◌≤◌, ◌<◌}
use mathlib.Core.Path.{◌≡◌, refl, ◌∙◌, sym, ap}
use mathlib.Core.Bool.{Bool, true, false}
use mathlib.Core.List.{List, [], ◌∷◌}
use lib.ListN.{length}
use lib.Dec.{ltb}
use native.Mathlib.Omega.{arith}
use borrow.Author.Tests.{lt-ltb, le-ltb}
use Rattle.fields.specs.Choice.{pick}
use Rattle.fields.specs.Lists.{every}
use Rattle.fields.proofs.Choices.{both-split}
use Rattle.measures.specs.Judgement.{width_for}
use Rattle.measures.specs.declared.Measures.{Measures}
use Rattle.interval.specs.Role.{sound_used}
use Rattle.index.specs.Meaning.{Entry, Meaning, numbers, below}
use Rattle.index.specs.Bounds.{bound}
use Rattle.index.specs.Reading.{numbers_at, free_count}
use Rattle.index.proofs.Apart.{length-numbers_at}
use Rattle.sections.specs.Reading.{read_index, sound_index}
use Rattle.sections.proofs.Sounding.{Sound, sound-apart, sound-below}
use Rattle.sections.proofs.Apart.{free-are}
use Rattle.area.specs.Content.{index_in, data_in}
use Rattle.area.specs.Soundness.{unsound_free, unsound_used, unsound_data, lowest}
use Rattle.area.specs.Reading.{read_area}
use Rattle.area.specs.Checked.{checked_of}
use Rattle.area_read.specs.AidEntries.{Counted}
use Rattle.area_read.proofs.Lows.{lowest-append, none-low}
use Rattle.area.specs.Checked.{sound_with, damaged_at}

-- the numbers of a sound record are below n
module _ (w K n : ℕ) (ib : List ℕ) (h : sound_index w K n [] [] ib ≡ true) where
  numbers-below : (below n (read_index w n ib).free ≡ true) × (below n (numbers (read_index w n ib).entries) ≡ true)
  numbers-below = sound-below w K n [] [] ib h

  -- the free ones, as they are read and as the walk asks them
  pub record Frees (free : ℕ) : Type 0 where
    pub lie : 24 + w * free ≤ length ib
    pub small : below n (numbers_at w ib 24 free) ≡ true
    pub are : numbers_at w ib 24 free ≡ (read_index w n ib).free

  pub frees : (free : ℕ) → free ≡ length (read_index w n ib).free → Frees free
  frees free e =
      let q : free ≡ free_count w ib = e ∙ ap length (free-are w n ib) ∙ length-numbers_at w ib 24 (free_count w ib) in
      let s : Sound w K n [] [] ib = sound-apart w K n [] [] ib h in
      record {
        lie = rw q (omega (arith, s.placed.unused, s.placed.apart));
        small = rw (q, ← free-are w n ib) numbers-below.0;
        are = rw q (sym (free-are w n ib));
      }

unsound-below : (m : Measures) (area low : List ℕ) (n : ℕ) (es : List Entry) → below n (numbers es) ≡ true → below n (unsound_used m area low es) ≡ true
unfolding unsound_used every
unsound-below m area low n [] h = refl
unsound-below m area low n (e ∷ es) h =
    let s = both-split (ltb e.num n) (below n (numbers es)) h in
    go (sound_used m low (bound m.key e.sep) (data_in m area e.num)) s.0 (unsound-below m area (bound m.key e.sep) n es s.1)
  where
    go : (b : Bool) → ltb e.num n ≡ true → below n (unsound_used m area (bound m.key e.sep) es) ≡ true
        → below n (pick b (unsound_used m area (bound m.key e.sep) es) (e.num ∷ unsound_used m area (bound m.key e.sep) es)) ≡ true
    go true p q = q
    go false p q = rw p q

module _ (m : Measures) (n : ℕ) (area : List ℕ) where
  abbrev ix : Meaning
  ix = read_index (width_for n) n (index_in m area)

  -- the index record is unsound
  pub index-damaged : sound_index (width_for n) m.key n [] [] (index_in m area) ≡ false → damaged_at 0 ≡ checked_of (read_area m n area)
  unfolding read_area
  index-damaged e = rw e

  module _ (h : sound_index (width_for n) m.key n [] [] (index_in m area) ≡ true) (low records : ℕ)
      (is : low ≡ lowest (lowest n (unsound_free m area ix.free)) (unsound_used m area [] ix.entries)) where
    low-is : lowest n (unsound_data m [] area ix) ≡ low
    unfolding unsound_data
    low-is = lowest-append n (unsound_free m area ix.free) (unsound_used m area [] ix.entries) ∙ sym is

    -- some data interval is
    pub data-damaged : low < n → damaged_at (low + 1) ≡ checked_of (read_area m n area)
    unfolding read_area
    data-damaged l = rw (h, low-is, lt-ltb low n l)

    -- none is
    pub intact : n ≤ low → Counted m area [] ix.entries records → (free : ℕ) → free ≡ length ix.free → sound_with records free ≡ checked_of (read_area m n area)
    unfolding read_area
    intact l c free f =
        let b : below n (unsound_used m area [] ix.entries) ≡ true = unsound-below m area [] n ix.entries (numbers-below (width_for n) m.key n (index_in m area) h).1 in
        let z : unsound_used m area [] ix.entries ≡ [] = none-low n (lowest n (unsound_free m area ix.free)) (unsound_used m area [] ix.entries) b (omega arith) in
        rw (h, low-is, le-ltb low n l, c z, f)
