-- One data interval in its role: its tests one by one, and the grammar on both sides of them.
use Prim.Native.Nat.{ℕ, ◌≤◌}
use mathlib.Core.Path.{◌≡◌, refl}
use mathlib.Core.Bool.{true}
use mathlib.Core.List.{List, [], ◌∷◌}
use lib.ListN.{length}
use lib.Dec.{eqb}
use native.Mathlib.Omega.{arith}
use borrow.Author.Tests.{eqb-true}
use Rattle.fields.specs.Choice.{both}
use Rattle.fields.specs.Bytes.{Octets}
use Rattle.fields.proofs.Choices.{both-split}
use Rattle.measures.specs.declared.Measures.{Measures}
use Rattle.interval.specs.Records.{keys_of, ascending, above, up_to}
use Rattle.interval.specs.Layout.{LaidOut}
use Rattle.interval.specs.Reading.{records_in, form_sound, sound}
use Rattle.interval.specs.Role.{sound_free, sound_used}
use Rattle.interval.proofs.Forward.{laid-out-reads, laid-out-sound}
use Rattle.interval.proofs.Backward.{read-lengths-fine, interval-only-laid-out, form-and-keys}
use Rattle.interval.proofs.Lengths.{none-fine}
use Rattle.area.specs.Layout.{FreeInterval, UsedInterval}

-- ---- the tests

-- An interval that is sound in use is sound, with its keys above the bound before and at most its own.
pub used-apart : (m : Measures) (low high ci : List ℕ) → sound_used m low high ci ≡ true
    → (sound m ci ≡ true) × (above low (keys_of m (records_in ci)) ≡ true) × (up_to high (keys_of m (records_in ci)) ≡ true)
unfolding sound_used
used-apart m low high ci h =
    let a = both-split (sound m ci) (both (above low (keys_of m (records_in ci))) (up_to high (keys_of m (records_in ci)))) h in
    let b = both-split (above low (keys_of m (records_in ci))) (up_to high (keys_of m (records_in ci))) a.1 in
    (a.0, b.0, b.1)

-- And these three make it so.
pub used-together : (m : Measures) (low high ci : List ℕ) → sound m ci ≡ true → above low (keys_of m (records_in ci)) ≡ true
    → up_to high (keys_of m (records_in ci)) ≡ true → sound_used m low high ci ≡ true
unfolding sound_used
used-together m low high ci s a u = rw (s, a, u)

no-records : (rs : List (List ℕ)) → length rs ≡ 0 → rs ≡ []
no-records [] e = refl
no-records (r ∷ rs) e = absurd (omega arith)

-- An interval that is sound as a free one is sound and has no record.
pub free-apart : (m : Measures) (ci : List ℕ) → sound_free m ci ≡ true → (sound m ci ≡ true) × (records_in ci ≡ [])
unfolding sound_free
free-apart m ci h =
    let a = both-split (sound m ci) (eqb (length (records_in ci)) 0) h in
    (a.0, no-records (records_in ci) (eqb-true (length (records_in ci)) 0 a.1))

-- And these two make it so.
pub free-together : (m : Measures) (ci : List ℕ) → sound m ci ≡ true → records_in ci ≡ [] → sound_free m ci ≡ true
unfolding sound_free
free-together m ci s e = rw (s, e)

-- ---- the grammar

none-ascend : (m : Measures) → ascending (keys_of m []) ≡ true
unfolding ascending
none-ascend m = refl

-- What is laid out in its role passes the tests of that role, and is read as what was laid out.
module _ (m : Measures) (ci : List ℕ) (some : 1 ≤ m.least) (small : m.size ≤ 32768) where
  -- A free interval that is laid out empty is sound as a free one.
  pub laid-free : FreeInterval m ci → sound_free m ci ≡ true
  laid-free l =
      free-together m ci (laid-out-sound m m.size [] ci some small (none-fine m) l (none-ascend m)) (laid-out-reads m m.size [] ci some small (none-fine m) l)

  module _ (low high : List ℕ) (rs : List (List ℕ)) (u : UsedInterval m low high rs ci) where
    -- An interval in use that is laid out is read as its records,
    pub laid-used-reads : records_in ci ≡ rs
    laid-used-reads = laid-out-reads m m.size rs ci some small u.lengths u.laid

    -- and is sound between its bounds.
    pub laid-used : sound_used m low high ci ≡ true
    laid-used =
        used-together m low high ci (laid-out-sound m m.size rs ci some small u.lengths u.laid u.ascend) (rw laid-used-reads u.after) (rw laid-used-reads u.within)

-- What passes the tests of its role was laid out in it.
module _ (m : Measures) (ci : List ℕ) (o : Octets ci) (size : length ci ≡ m.size) where
  laid-there : form_sound m ci ≡ true → LaidOut m.size (records_in ci) ci
  laid-there h = rw size at (interval-only-laid-out m ci h o)

  -- A free interval that is sound was laid out empty.
  pub free-laid : sound_free m ci ≡ true → FreeInterval m ci
  free-laid h = let a = free-apart m ci h in rw a.1 at (laid-there (form-and-keys m ci a.0).0)

  -- An interval in use that is sound was laid out with the records that are read.
  pub used-laid : (low high : List ℕ) → sound_used m low high ci ≡ true → UsedInterval m low high (records_in ci) ci
  used-laid low high h =
      let a = used-apart m low high ci h in
      let f = form-and-keys m ci a.0 in
      record { laid = laid-there f.0; lengths = read-lengths-fine m ci f.0; ascend = f.1; after = a.1; within = a.2 }
