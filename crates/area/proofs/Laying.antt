-- A whole area and the grammars: whatever is laid out is read, as what was laid out; and whatever is read was laid out so.
use Prim.Native.Nat.{ℕ, ◌≤◌}
use mathlib.Core.Path.{◌≡◌, refl, ◌∙◌, sym}
use mathlib.Core.Bool.{true}
use mathlib.Core.List.{List, [], ◌∷◌}
use lib.ListN.{length}
use lib.Dec.{ltb}
use native.Mathlib.Omega.{arith}
use borrow.Author.Tests.{ltb-true}
use Rattle.fields.specs.Lists.{every}
use Rattle.fields.proofs.Choices.{both-split}
use Rattle.measures.specs.Judgement.{width_for, limit}
use Rattle.measures.proofs.Width.{width_some, width-holds}
use Rattle.measures.specs.declared.Measures.{Measures}
use Rattle.measures.proofs.Fine.{fits-large}
use Rattle.index.specs.Bounds.{bound}
use Rattle.index.specs.Meaning.{Entry, Meaning, numbers, below}
use Rattle.index.proofs.Naming.{both_below}
use Rattle.sections.specs.Reading.{read_index, sound_index}
use Rattle.sections.proofs.NeverDamaged.{index_reads, index-never-damaged}
use Rattle.sections.proofs.OnlyLaidOut.{index-only-laid-out, index-keeps-rules}
use Rattle.area.specs.Content.{Filled, Content, index_in, data_in, fill, entries_of, meaning_of}
use Rattle.area.specs.Reading.{whole, read_area}
use Rattle.area.specs.Layout.{Lent, IndexInterval, FreeIntervals, UsedIntervals, AreaLaidOut}
use Rattle.area.proofs.Sounding.{AllFree, AllUsed, sound-apart, sound-together, sound-reads, sound-rules, sound-filled}
use Rattle.area.proofs.Intervals.{laid-free, laid-used, laid-used-reads, free-laid, used-laid}
use Rattle.area.proofs.Parts.{length-index, length-data, octets-index, octets-data}

-- ---- from the grammars to the reading

module _ (m : Measures) (area : List ℕ) (some : 1 ≤ m.least) (small : m.size ≤ 32768) where
  laid-all-free : (ks : List ℕ) → FreeIntervals m area ks → AllFree m area ks
  laid-all-free [] l = tt
  laid-all-free (k ∷ ks) l = (laid-free m (data_in m area k) some small l.0, laid-all-free ks l.1)

  laid-all-used : (low : List ℕ) (fs : List Filled) → UsedIntervals m area low fs → AllUsed m area low (entries_of fs)
  laid-all-used low [] l = tt
  laid-all-used low (f ∷ fs) l =
      let high : List ℕ = bound m.key f.sep in
      (laid-used m (data_in m area f.num) some small low high f.records l.0, laid-all-used high fs l.1)

  laid-fill : (low : List ℕ) (fs : List Filled) → UsedIntervals m area low fs → fill m area (entries_of fs) ≡ fs
  laid-fill low [] l = refl
  laid-fill low (f ∷ fs) l =
      let high : List ℕ = bound m.key f.sep in
      rw (laid-used-reads m (data_in m area f.num) some small low high f.records l.0, laid-fill high fs l.1)

  module _ (n : ℕ) (few : n ≤ limit) where
    -- An index interval that is laid out is sound and is read as its meaning.
    pub index-sound : (ix : Meaning) → IndexInterval m n ix (index_in m area) → sound_index (width_for n) m.key n [] [] (index_in m area) ≡ true
    index-sound ix i = index-never-damaged (width_for n) m.size m.key n [] [] ix (index_in m area) (width_some n) (width-holds n few) small i.laid i.rules

    pub index_read : (ix : Meaning) → IndexInterval m n ix (index_in m area) → read_index (width_for n) n (index_in m area) ≡ ix
    index_read ix i = index_reads (width_for n) m.size m.key n [] [] ix (index_in m area) (width_some n) (width-holds n few) small i.laid i.rules

    -- An area whose index interval and data intervals are laid out as c, each by its grammar and in its role, is never called damaged, and is read as c.
    pub area-never-damaged : (c : Content) → AreaLaidOut m n area c → read_area m n area ≡ whole c
    area-never-damaged c l =
        sound-together m n area c
        (record {
          index = index-sound (meaning_of c) l.index;
          content = rw (index_read (meaning_of c) l.index, laid-fill [] c.filled l.used);
          free = laid-all-free c.free l.free;
          used = laid-all-used [] c.filled l.used;
        })

    -- So no area is laid out as two contents.
    pub area-one : (c c' : Content) → AreaLaidOut m n area c → AreaLaidOut m n area c' → c ≡ c'
    area-one c c' l l' = let e : whole c ≡ whole c' = sym (area-never-damaged c l) ∙ area-never-damaged c' l' in cc

-- ---- from the reading to the grammars

module _ (m : Measures) (n : ℕ) (area : List ℕ) (lent : Lent m n area) where
  all-free-laid : (ks : List ℕ) → below n ks ≡ true → AllFree m area ks → FreeIntervals m area ks
  unfolding every
  all-free-laid [] b a = tt
  all-free-laid (k ∷ ks) b a =
      let s = both-split (ltb k n) (below n ks) b in
      (free-laid m (data_in m area k) (octets-data m area k lent.octets) (length-data m n area lent.fits.bytes k (ltb-true k n s.0)) a.0, all-free-laid ks s.1 a.1)

  all-used-laid : (low : List ℕ) (es : List Entry) → below n (numbers es) ≡ true → AllUsed m area low es → UsedIntervals m area low (fill m area es)
  unfolding every
  all-used-laid low [] b a = tt
  all-used-laid low (e ∷ es) b a =
      let high : List ℕ = bound m.key e.sep in
      let s = both-split (ltb e.num n) (below n (numbers es)) b in (
        used-laid m (data_in m area e.num) (octets-data m area e.num lent.octets) (length-data m n area lent.fits.bytes e.num (ltb-true e.num n s.0)) low high
            a.0,
        all-used-laid high es s.1 a.1,
      )

  -- A sound index interval was laid out as what it is read as, and that keeps the rules.
  pub index-laid : sound_index (width_for n) m.key n [] [] (index_in m area) ≡ true → IndexInterval m n (read_index (width_for n) n (index_in m area)) (index_in m area)
  index-laid s =
      let l : length (index_in m area) ≡ m.size = length-index m n area lent.fits.bytes in
      let o = octets-index m area lent.octets in
      let g : 31 ≤ length (index_in m area) = omega (arith, fits-large lent.fits) in
      record {
        laid = rw l at (index-only-laid-out (width_for n) m.key n [] [] (index_in m area) o g s);
        rules = rw l at (index-keeps-rules (width_for n) m.key n [] [] (index_in m area) o g s);
      }

  -- An area that is read as c was laid out as c, each interval by its grammar and in its role.
  pub area-only-laid-out : (c : Content) → read_area m n area ≡ whole c → AreaLaidOut m n area c
  area-only-laid-out c e =
      let s = sound-apart m n area c e in
      let p = both_below n (meaning_of c) (sound-rules m n area c s).naming in
      record {
        index = rw (sound-reads m n area c s) at (index-laid s.index);
        free = all-free-laid c.free p.0 s.free;
        used = rw (sound-filled m n area c s) (all-used-laid [] (entries_of c.filled) p.1 s.used);
      }
