-- From the grammar to the reading: whatever is laid out is sound and is read as what was laid out.
use Prim.Native.Nat.{ℕ, ◌+◌, ◌-◌, ◌*◌, ◌/◌, ◌%◌, ◌≤◌}
use mathlib.Core.Path.{◌≡◌, ◌∙◌, sym, ap}
use mathlib.Core.Bool.{true, false}
use mathlib.Core.List.{List, [], ◌++◌, map, append_assoc, append-nil}
use lib.ListN.{length, length-append}
use native.Mathlib.Omega.{arith}
use borrow.Author.Tests.{eq-eqb, ne_eqb}
use Rattle.fields.specs.Bytes.{digits}
use Rattle.fields.specs.Lists.{sum, concat}
use Rattle.fields.proofs.Numbers.{length_digits, number-seam}
use Rattle.fields.proofs.Lists.{sum-lengths}
use Rattle.measures.specs.declared.Measures.{Measures}
use Rattle.room.specs.Room.{described, Group, rdf_count}
use Rattle.interval.specs.Records.{all_within, keys_of, ascending, lengths_fine}
use Rattle.interval.specs.Layout.{cidf, groups_bytes, layout, LaidOut}
use Rattle.interval.specs.Reading.{displacement, unused_field, busy, unused_length, rdfs_at, rdfs_many, rdfs_in, well_formed, lengths, records_in, form_sound, sound}
use Rattle.interval.proofs.Cutting.{cut-front}
use Rattle.interval.proofs.Groups.{rdfs_of, groups-bytes, length-rdfs_of, lengths-rdfs_of, formed-rdfs_of, small-rdfs_of}
use Rattle.interval.proofs.Written.{length-rdfs_bytes, rdfs-seam}

-- three bytes for each RDF that the groups count
pub length-groups_bytes : (gs : List Group) → length (groups_bytes gs) ≡ 3 * rdf_count gs
length-groups_bytes gs = rw (groups-bytes gs, length-rdfs_bytes (rdfs_of gs), length-rdfs_of gs)

-- records, unused space, RDFs, and four bytes
pub layout-length : (rs : List (List ℕ)) (unused : List ℕ) (gs : List Group)
    → length (layout rs unused gs) ≡ length (concat rs) + length unused + 3 * rdf_count gs + 4
unfolding layout
layout-length rs unused gs =
    simp length-append
    (omega (arith, length-groups_bytes gs, length_digits 2 (length (concat rs)), length_digits 2 (length unused)))

-- an interval's size is what its parts take
pub laid-out-size : (S : ℕ) (rs : List (List ℕ)) (ci : List ℕ) (l : LaidOut S rs ci)
    → S ≡ length (concat rs) + length l.unused + 3 * rdf_count l.grouping + 4
laid-out-size S rs ci l = sym l.size ∙ ap length l.bytes ∙ layout-length rs l.unused l.grouping

-- What stands in the CIDF, and before it, of an interval that is laid out.
module _ (S : ℕ) (rs : List (List ℕ)) (ci : List ℕ) (small : S ≤ 32768) (l : LaidOut S rs ci) where
  -- the displacement is the bytes of the records
  pub laid-out-displacement : displacement ci ≡ length (concat rs)
  unfolding layout
  laid-out-displacement =
      number-seam 2 ci (concat rs ++ (l.unused ++ groups_bytes l.grouping)) (digits 2 (length l.unused)) (length (concat rs)) (length ci - 4)
      (omega (arith, laid-out-size S rs ci l)) (l.bytes ∙ simp append_assoc)
      (simp length-append (omega (arith, laid-out-size S rs ci l, l.size, length-groups_bytes l.grouping)))

  -- the other field is the unused bytes, with no flag set
  pub laid-out-unused : unused_field ci ≡ length l.unused
  unfolding layout
  laid-out-unused =
      number-seam 2 ci (concat rs ++ (l.unused ++ (groups_bytes l.grouping ++ digits 2 (length (concat rs))))) [] (length l.unused) (length ci - 2)
      (omega (arith, laid-out-size S rs ci l)) (l.bytes ∙ simp (append_assoc, append-nil))
      (simp length-append (omega (arith, laid-out-size S rs ci l, l.size, length-groups_bytes l.grouping, length_digits 2 (length (concat rs)))))

  not-busy : busy ci ≡ false
  not-busy =
      let n : ℕ = length l.unused in
      let z : n / 32768 % 2 ≡ 1 → ⊥ = λ (e : n / 32768 % 2 ≡ 1). omega (arith, laid-out-size S rs ci l) in
      rw laid-out-unused (ne_eqb (n / 32768 % 2) 1 z)

  unused-length : unused_length ci ≡ length l.unused
  unused-length = rw laid-out-unused (omega (arith, laid-out-size S rs ci l))

  rdfs-at : rdfs_at ci ≡ length (concat rs) + length l.unused
  rdfs-at = omega (arith, laid-out-displacement, unused-length)

  rdfs-many : rdfs_many ci ≡ rdf_count l.grouping
  rdfs-many = rw (rdfs-at, l.size) (omega (arith, laid-out-size S rs ci l))

module _ (m : Measures) (S : ℕ) (rs : List (List ℕ)) (ci : List ℕ) (some : 1 ≤ m.least) (small : S ≤ 32768) (fine : lengths_fine m rs ≡ true) (l : LaidOut S rs ci) where
  spelt-fine : all_within m.least m.most (described l.grouping) ≡ true
  spelt-fine = rw l.spells fine

  spelt-sum : sum (described l.grouping) ≡ length (concat rs)
  spelt-sum = rw l.spells (sum-lengths rs)

  -- the RDFs that are read are those of the groups
  pub laid-out-rdfs : rdfs_in ci ≡ rdfs_of l.grouping
  unfolding rdfs_in layout
  laid-out-rdfs =
      rdfs-seam ci (concat rs ++ l.unused) (rdfs_of l.grouping) (cidf (length (concat rs)) (length l.unused)) (rdfs_at ci) (rdfs_many ci)
      (small-rdfs_of m.least m.most l.grouping some l.counted spelt-fine (omega (arith, spelt-sum, laid-out-size S rs ci l)))
      (l.bytes ∙ rw (groups-bytes l.grouping) (simp append_assoc))
      (length-append (concat rs) l.unused ∙ sym (rdfs-at S rs ci small l))
      (length-rdfs_of l.grouping ∙ sym (rdfs-many S rs ci small l))

  laid-out-lengths : lengths (rdfs_in ci) ≡ map length rs
  laid-out-lengths = ap lengths laid-out-rdfs ∙ lengths-rdfs_of l.grouping l.counted ∙ l.spells

  -- an interval that is laid out is read as the records that were laid out
  pub laid-out-reads : records_in ci ≡ rs
  unfolding records_in layout
  laid-out-reads = rw (laid-out-lengths, l.bytes) (cut-front rs (l.unused ++ (groups_bytes l.grouping ++ cidf (length (concat rs)) (length l.unused))))

  -- and its form is sound
  pub laid-out-form : form_sound m ci ≡ true
  unfolding form_sound
  laid-out-form =
      let q : rdfs_at ci + 3 * rdfs_many ci + 4 ≡ length ci = omega (arith, rdfs-at S rs ci small l, rdfs-many S rs ci small l, laid-out-size S rs ci l, l.size) in
      let f : well_formed m.least m.most (rdfs_in ci) ≡ true = rw laid-out-rdfs (formed-rdfs_of m.least m.most l.grouping l.counted spelt-fine) in
      let s : sum (lengths (rdfs_in ci)) ≡ displacement ci = rw laid-out-lengths (sum-lengths rs ∙ sym (laid-out-displacement S rs ci small l)) in
      rw (not-busy S rs ci small l, eq-eqb _ _ q, f, eq-eqb _ _ s)

  -- whatever the grammar lays out, in any legal grouping and with any bytes in the unused space, is read, and as what was laid out
  pub interval-never-damaged : (form_sound m ci ≡ true) × (records_in ci ≡ rs)
  interval-never-damaged = (laid-out-form, laid-out-reads)

  -- with keys that strictly ascend it is sound
  pub laid-out-sound : ascending (keys_of m rs) ≡ true → sound m ci ≡ true
  unfolding sound
  laid-out-sound up = rw (laid-out-form, laid-out-reads) up

-- no bytes are laid out as two lists of records
pub records-unique : (m : Measures) (S : ℕ) (rs rs' : List (List ℕ)) (ci : List ℕ) → 1 ≤ m.least → S ≤ 32768
    → lengths_fine m rs ≡ true → lengths_fine m rs' ≡ true → LaidOut S rs ci → LaidOut S rs' ci → rs ≡ rs'
records-unique m S rs rs' ci some small f f' l l' =
    sym (laid-out-reads m S rs ci some small f l) ∙ laid-out-reads m S rs' ci some small f' l'
