-- From the reading to the grammar: whatever is read as sound was laid out so.
use Prim.Native.Nat.{ℕ, ◌+◌, ◌-◌, ◌*◌, ◌/◌, ◌%◌, ◌≤◌}
use mathlib.Core.Path.{◌≡◌, refl, ◌∙◌, sym, ap}
use mathlib.Core.Bool.{true, false}
use mathlib.Core.List.{List, ◌++◌, map}
use lib.ListN.{length, take, drop, take-append-drop, length-drop}
use lib.Seq.{take_all, length-take-le, drop-drop}
use lib.Dec.{eqb}
use native.Mathlib.Omega.{arith}
use borrow.Author.Tests.{eqb-true, eqb-false}
use Rattle.fields.specs.Choice.{no}
use Rattle.fields.specs.Bytes.{Octets, part, digits}
use Rattle.fields.specs.Lists.{sum, concat}
use Rattle.fields.proofs.Choices.{both-split, no_true}
use Rattle.fields.proofs.Splices.{length-mid}
use Rattle.fields.proofs.Numbers.{number-below, digits_number}
use Rattle.fields.proofs.Lists.{sum-lengths}
use Rattle.measures.specs.declared.Measures.{Measures}
use Rattle.room.specs.Room.{described, Group}
use Rattle.interval.specs.Records.{lengths_fine, keys_of, ascending}
use Rattle.interval.specs.Layout.{groups_bytes, layout, LaidOut}
use Rattle.interval.specs.Reading.{displacement, unused_field, busy, unused_length, rdfs_at, rdfs_many, rdfs_in, well_formed, lengths, records_in, form_sound, sound}
use Rattle.interval.proofs.Cutting.{concat-cut, map-length-cut}
use Rattle.interval.proofs.Groups.{rdfs_bytes, groups-bytes, lengths-rdfs_of, Grouped, grouped}
use Rattle.interval.proofs.Written.{rdfs-there}

-- a part and what follows it
part-drop : (b : List ℕ) (a n : ℕ) → part b a n ++ drop (a + n) b ≡ drop a b
part-drop b a n = rw (← drop-drop n a b) (take-append-drop n (drop a b))

five-parts : (b : List ℕ) (d u k : ℕ) → d + u + k + 4 ≡ length b
    → take d b ++ (part b d u ++ (part b (d + u) k ++ (part b (length b - 4) 2 ++ part b (length b - 2) 2))) ≡ b
five-parts b d u k h =
    let e : length b - 4 ≡ d + u + k = omega arith in
    let f : length b - 2 ≡ d + u + k + 2 = omega arith in
    let g : part b (d + u + k + 2) 2 ≡ drop (d + u + k + 2) b = take_all 2 (drop (d + u + k + 2) b) (simp length-drop (omega arith)) in
    rw (e, f, g, part-drop b (d + u + k) 2, part-drop b (d + u) k, part-drop b d u) (take-append-drop d b)

-- bytes that are made of these five parts are laid out
laid : (b : List ℕ) (rs : List (List ℕ)) (gs : List Group) (d u k : ℕ) → d + u + k + 4 ≡ length b → concat rs ≡ take d b
    → groups_bytes gs ≡ part b (d + u) k → digits 2 d ≡ part b (length b - 4) 2 → digits 2 u ≡ part b (length b - 2) 2
    → b ≡ layout rs (part b d u) gs
unfolding layout
laid b rs gs d u k h c g p q =
    let i : length (take d b) ≡ d = length-take-le d b (omega arith) in
    let j : length (part b d u) ≡ u = length-mid b d u (omega arith) in
    rw (c, g, i, j, p, q) (sym (five-parts b d u k h))

-- A sound interval has a sound form and ascending keys.
pub form-and-keys : (m : Measures) (ci : List ℕ) → sound m ci ≡ true → (form_sound m ci ≡ true) × (ascending (keys_of m (records_in ci)) ≡ true)
unfolding sound
form-and-keys m ci h = both-split (form_sound m ci) (ascending (keys_of m (records_in ci))) h

-- The tests of a sound form, one by one.
pub record Tests (m : Measures) (ci : List ℕ) : Type 0 where
  pub quiet : busy ci ≡ false
  pub adds-up : rdfs_at ci + 3 * rdfs_many ci + 4 ≡ length ci
  pub formed : well_formed m.least m.most (rdfs_in ci) ≡ true
  pub sums : sum (lengths (rdfs_in ci)) ≡ displacement ci

-- a sound form passes each of them
pub form-tests : (m : Measures) (ci : List ℕ) → form_sound m ci ≡ true → Tests m ci
unfolding form_sound
form-tests m ci h =
    let a = both-split (no (busy ci)) _ h in
    let b = both-split (eqb (rdfs_at ci + 3 * rdfs_many ci + 4) (length ci)) _ a.1 in
    let c = both-split (well_formed m.least m.most (rdfs_in ci)) (eqb (sum (lengths (rdfs_in ci))) (displacement ci)) b.1 in
    record { quiet = no_true _ a.0; adds-up = eqb-true _ _ b.0; formed = c.0; sums = eqb-true _ _ c.1 }

module _ (m : Measures) (ci : List ℕ) (h : form_sound m ci ≡ true) where
  tests : Tests m ci
  tests = form-tests m ci h

  legal : Grouped m.least m.most (rdfs_in ci)
  legal = grouped m.least m.most (rdfs_in ci) tests.formed

  inside : sum (lengths (rdfs_in ci)) ≤ length ci
  inside = omega (arith, tests.sums, tests.adds-up)

  spelt-lengths : described legal.grouping ≡ lengths (rdfs_in ci)
  spelt-lengths = sym (lengths-rdfs_of legal.grouping legal.counted) ∙ ap lengths legal.same

  -- the records that are read have the lengths that the RDFs give
  pub read-lengths : map length (records_in ci) ≡ lengths (rdfs_in ci)
  unfolding records_in
  read-lengths = map-length-cut ci (lengths (rdfs_in ci)) inside

  -- take the bytes up to the unused space
  pub read-bytes : length (concat (records_in ci)) ≡ displacement ci
  read-bytes = sym (sum-lengths (records_in ci)) ∙ ap sum read-lengths ∙ tests.sums

  -- and each of them is one that the measures allow
  pub read-lengths-fine : lengths_fine m (records_in ci) ≡ true
  read-lengths-fine = rw (read-lengths, ← spelt-lengths) legal.fine

  -- the records that are read are the bytes up to the unused space
  pub read-concat : concat (records_in ci) ≡ take (displacement ci) ci
  unfolding records_in
  read-concat = concat-cut ci (lengths (rdfs_in ci)) inside ∙ ap (λ (n : ℕ). take n ci) tests.sums

  module _ (o : Octets ci) where
    whole-field : unused_length ci ≡ unused_field ci
    whole-field = omega (arith, eqb-false (unused_field ci / 32768 % 2) 1 tests.quiet, number-below 2 ci (length ci - 2) o)

    groups-there : groups_bytes legal.grouping ≡ part ci (rdfs_at ci) (3 * rdfs_many ci)
    unfolding rdfs_in
    groups-there =
        groups-bytes legal.grouping ∙ ap rdfs_bytes legal.same ∙ rdfs-there ci (rdfs_at ci) (rdfs_many ci) o (omega (arith, tests.adds-up))

    -- whatever is read was laid out, as what is read
    pub interval-only-laid-out : LaidOut (length ci) (records_in ci) ci
    interval-only-laid-out =
        record {
          grouping = legal.grouping;
          unused = part ci (displacement ci) (unused_length ci);
          counted = legal.counted;
          spells = spelt-lengths ∙ sym read-lengths;
          bytes = laid ci (records_in ci) legal.grouping (displacement ci) (unused_length ci) (3 * rdfs_many ci) tests.adds-up read-concat groups-there
              (digits_number 2 ci (length ci - 4) o (omega (arith, tests.adds-up)))
              (ap (digits 2) whole-field ∙ digits_number 2 ci (length ci - 2) o (omega (arith, tests.adds-up)));
          size = refl;
        }

-- A sound interval's records have lengths that the measures allow, and leave room for its control bytes.
pub in_size : (m : Measures) (ci : List ℕ) → sound m ci ≡ true → (lengths_fine m (records_in ci) ≡ true) × (length (concat (records_in ci)) + 4 ≤ length ci)
in_size m ci h =
    let f = (form-and-keys m ci h).0 in
    (read-lengths-fine m ci f, omega (arith, read-bytes m ci f, (form-tests m ci f).adds-up))
