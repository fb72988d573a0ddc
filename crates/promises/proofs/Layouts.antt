-- Reading and writing follow the published layouts: demand 2. The laws stand in the crates of the layouts; here they are said once more, side by side.
-- A layout builds bytes by putting lists together and names nothing of a reader.
use Prim.Native.Nat.{ℕ, ◌+◌, ◌-◌, ◌≤◌}
use mathlib.Core.Path.{◌≡◌}
use mathlib.Core.Bool.{true}
use mathlib.Core.List.{List, [], map}
use mathlib.Core.Logic.{◌↔◌}
use lib.ListN.{length}
use native.Mathlib.Omega.{arith}
use Rattle.fields.specs.Bytes.{Octets}
use Rattle.measures.specs.Judgement.{width_for, limit}
use Rattle.measures.proofs.Width.{width_some, width-holds}
use Rattle.measures.specs.declared.Measures.{Measures}
use Rattle.measures.proofs.Fine.{fits-small}
use Rattle.room.specs.Room.{need}
use Rattle.interval.specs.Records.{lengths_fine}
use Rattle.interval.specs.Layout.{LaidOut, form}
use Rattle.interval.specs.Reading.{records_in, form_sound}
use Rattle.interval.proofs.Form as form-laws
use Rattle.interval.proofs.Forward as forward
use Rattle.interval.proofs.Backward as backward
use Rattle.index.specs.Meaning.{Meaning}
use Rattle.index.specs.Rules.{keeps_rules}
use Rattle.sections.specs.Layout as index-layout
use Rattle.sections.specs.Form.{index_size, index_bytes}
use Rattle.sections.specs.Reading.{read_index, sound_index}
use Rattle.sections.proofs.ReadsBack as reads-back
use Rattle.sections.proofs.NeverDamaged as never
use Rattle.sections.proofs.OnlyLaidOut as only
use Rattle.area.specs.Content.{Content, index_in}
use Rattle.area.specs.Reading.{read_area, whole, damaged}
use Rattle.area.specs.Layout.{Lent, IndexInterval, AreaLaidOut}
use Rattle.area.specs.Roles.{DamagedAt}
use Rattle.area.specs.Example.{depot, bytes, held}
use Rattle.area.proofs.Laying as laying
use Rattle.area.proofs.Placing as placing
use Rattle.area.proofs.Example as example

-- ---- one data interval

module _ (m : Measures) (some : 1 ≤ m.least) where
  -- What the register writes into an interval is read back as the same records.
  pub interval-reads-back : (S : ℕ) (rs : List (List ℕ)) → need (map length rs) ≤ S → S ≤ 32768 → lengths_fine m rs ≡ true → records_in (form S rs) ≡ rs
  interval-reads-back S rs fits small fine = form-laws.interval-reads-back S rs fits m some small fine

  -- An interval that keeps the rules, in any legal grouping and with anything in its unused space, is not called damaged, and is read as what it holds.
  pub interval-never-damaged : (S : ℕ) (rs : List (List ℕ)) (ci : List ℕ) → S ≤ 32768 → lengths_fine m rs ≡ true → LaidOut S rs ci
      → (form_sound m ci ≡ true) × (records_in ci ≡ rs)
  interval-never-damaged S rs ci small fine l = forward.interval-never-damaged m S rs ci some small fine l

  -- Bytes that are taken for an interval keep the rules, with the records that are read.
  pub interval-only-laid-out : (ci : List ℕ) → form_sound m ci ≡ true → Octets ci → LaidOut (length ci) (records_in ci) ci
  interval-only-laid-out ci s o = backward.interval-only-laid-out m ci s o

-- ---- the index record, in sections, with pointers of the width that n has

module _ (S K n : ℕ) (ix : Meaning) (rules : keeps_rules S K n [] [] ix ≡ true) (few : n ≤ limit) (small : S ≤ 32768) where
  -- The index record that the register writes is read back as the same entries and free numbers.
  pub index-reads-back : length ix.kept ≡ 12 → index_size (width_for n) ix ≤ S - 7 → K ≤ 255 → read_index (width_for n) n (index_bytes (width_for n) S ix) ≡ ix
  index-reads-back twelve room short = reads-back.index-reads-back (width_for n) S K n [] [] ix (width_some n) (width-holds n few) small short twelve room rules

  -- An index record that keeps the rules, in any legal sections, with any legal compression and with anything in its unused space, is not called damaged.
  pub index-never-damaged : (ib : List ℕ) → index-layout.LaidOut (width_for n) S ix ib → sound_index (width_for n) K n [] [] ib ≡ true
  index-never-damaged ib l = never.index-never-damaged (width_for n) S K n [] [] ix ib (width_some n) (width-holds n few) small l rules

-- An index record that is taken for sound keeps the rules, with the meaning that is read.
pub index-only-laid-out : (K n : ℕ) (ib : List ℕ) → Octets ib → 31 ≤ length ib → sound_index (width_for n) K n [] [] ib ≡ true
    → index-layout.LaidOut (width_for n) (length ib) (read_index (width_for n) n ib) ib
index-only-laid-out K n ib o g s = only.index-only-laid-out (width_for n) K n [] [] ib o g s

-- ---- a whole area

module _ (m : Measures) (n : ℕ) (area : List ℕ) (lent : Lent m n area) where
  -- An area that keeps the rules is never called damaged, and is read as exactly what was laid out.
  pub area-never-damaged : (c : Content) → AreaLaidOut m n area c → read_area m n area ≡ whole c
  area-never-damaged c l = laying.area-never-damaged m area (omega (arith, lent.fits.key-some, lent.fits.key-inside)) (fits-small lent.fits) n lent.fits.few c l

  -- An area that is taken for sound keeps the rules, with the content that is read.
  pub area-only-laid-out : (c : Content) → read_area m n area ≡ whole c → AreaLaidOut m n area c
  area-only-laid-out c e = laying.area-only-laid-out m n area lent c e

  -- Damage is told where it is: place 0 exactly if no index layout fits, else the place of the lowest interval that no layout explains in its role. So a check, a
  -- get by address and a change tell it; what a get by key tells, which judges two places only, is `get-damage-placed` (proofs/Local.antt).
  pub damage-placed : ((read_area m n area ≡ damaged 0) ↔ ((ix : Meaning) → IndexInterval m n ix (index_in m area) → ⊥))
      × ((k : ℕ) → (read_area m n area ≡ damaged (k + 1)) ↔ DamagedAt m n area k)
  damage-placed = placing.damage-placed m n area lent

-- None of this speaks of nothing: here is a sound area with records, byte by byte.
pub some-sound : read_area depot 2 bytes ≡ whole held
some-sound = example.some-sound
