-- Whatever is sound was laid out so: what is read, in the sections that are found, is what the grammar lays out as just these bytes.
use Prim.Native.Nat.{ℕ, ◌+◌, ◌-◌, ◌^◌, ◌≤◌}
use mathlib.Core.Path.{◌≡◌, refl, ◌∙◌}
use mathlib.Core.Bool.{true}
use mathlib.Core.List.{List, [], ◌∷◌, ◌++◌, append_assoc}
use lib.ListN.{length, drop}
use native.Mathlib.Omega.{arith}
use Rattle.fields.specs.Bytes.{Octets, part, digits}
use Rattle.fields.proofs.Splices.{length-mid}
use Rattle.index.specs.Meaning.{Meaning}
use Rattle.index.specs.Rules.{keeps_rules}
use Rattle.index.specs.Pieces.{one_byte_each}
use Rattle.index.specs.Layout.{free_bytes, unused_place, trailer}
use Rattle.index.specs.Reading.{unused_at, last_at, section_at, free_count}
use Rattle.index.proofs.Apart.{part_at, byte_at, field_at, length-numbers_at, free-at, trailer-at}
use Rattle.sections.specs.Parts.{Part, spell_all, parts_size}
use Rattle.sections.specs.Layout.{parts_bytes, last_place, record_length, section_place, header, layout, pieces_of, LaidOut}
use Rattle.sections.specs.Reading.{parts_in, read_index, sound_index}
use Rattle.sections.proofs.Sounding.{Sound, sound-apart}
use Rattle.sections.proofs.Apart.{parts-at, small-parts}

module _ (w K n : ℕ) (low end ib : List ℕ) (o : Octets ib) (some : 31 ≤ length ib) (sound : sound_index w K n low end ib ≡ true) where
  s : Sound w K n low end ib
  s = sound-apart w K n low end ib sound

  abbrev S : ℕ
  S = length ib

  abbrev R : ℕ
  R = S - 7

  abbrev U : ℕ
  U = unused_at ib

  abbrev E : ℕ
  E = last_at ib

  abbrev F : ℕ
  F = section_at ib

  abbrev ps : List Part
  ps = parts_in w n ib

  -- where the leftmost entry's field begins, and what lies left of it
  abbrev B : ℕ
  B = R - parts_size w ps

  abbrev unused : List ℕ
  unused = part ib U (B - U)

  abbrev m : Meaning
  m = read_index w n ib

  length-gap : length unused ≡ B - U
  length-gap = length-mid ib U (B - U) (omega (arith, s.placed.apart))

  from_entries : drop B ib ≡ parts_bytes w ps ++ trailer R
  unfolding parts_in
  from_entries =
      parts-at w ib R F (n - free_count w ib) (trailer R) o (omega arith) (omega (arith, s.placed.apart)) s.placed.fields (trailer-at w ib o some s.framed)

  from-unused : drop U ib ≡ unused ++ (parts_bytes w ps ++ trailer R)
  from-unused = part_at ib U (B - U) B _ (omega (arith, s.placed.apart)) from_entries

  from-free : drop 24 ib ≡ free_bytes w m.free ++ (unused ++ (parts_bytes w ps ++ trailer R))
  unfolding read_index
  from-free = free-at w ib 24 (free_count w ib) U _ o s.placed.unused (omega (arith, s.placed.apart)) from-unused

  abbrev body : List ℕ
  body = free_bytes w m.free ++ (unused ++ (parts_bytes w ps ++ trailer R))

  from-header : ib ≡ header w m R U E F ++ body
  unfolding header read_index
  from-header =
      let f = s.framed in
      let d22 : drop 22 ib ≡ digits 2 F ++ body = field_at 2 ib 22 24 F body o refl (omega arith) refl from-free in
      let d20 : drop 20 ib ≡ digits 2 E ++ (digits 2 F ++ body) = field_at 2 ib 20 22 E _ o refl (omega arith) refl d22 in
      let d18 : drop 18 ib ≡ digits 2 U ++ (digits 2 E ++ (digits 2 F ++ body)) = field_at 2 ib 18 20 U _ o refl (omega arith) refl d20 in
      let d17 : drop 17 ib ≡ m.spare ∷ (digits 2 U ++ (digits 2 E ++ (digits 2 F ++ body))) = byte_at ib 17 18 m.spare _ refl (omega arith) refl d18 in
      let d16 : drop 16 ib ≡ 1 ∷ m.spare ∷ (digits 2 U ++ (digits 2 E ++ (digits 2 F ++ body))) = byte_at ib 16 17 1 _ refl (omega arith) f.level d17 in
      let d4 : drop 4 ib ≡ m.kept ++ (1 ∷ m.spare ∷ (digits 2 U ++ (digits 2 E ++ (digits 2 F ++ body)))) = part_at ib 4 12 16 _ refl d16 in
      let d3 : drop 3 ib ≡ (2 ^ w - 1) ∷ (m.kept ++ (1 ∷ m.spare ∷ (digits 2 U ++ (digits 2 E ++ (digits 2 F ++ body))))) =
      byte_at ib 3 4 (2 ^ w - 1) _ refl (omega arith) f.indicator d4 in
      let d2 : drop 2 ib ≡ (w + 2) ∷ (2 ^ w - 1) ∷ (m.kept ++ (1 ∷ m.spare ∷ (digits 2 U ++ (digits 2 E ++ (digits 2 F ++ body))))) =
      byte_at ib 2 3 (w + 2) _ refl (omega arith) f.control d3 in
      field_at 2 ib 0 2 R _ o refl (omega arith) f.long d2 ∙ simp append_assoc

  -- the fields are what the lengths of what lies there make them
  free-many : length m.free ≡ free_count w ib
  unfolding read_index
  free-many = length-numbers_at w ib 24 (free_count w ib)

  unused-is : unused_place w m ≡ U
  unused-is = rw free-many s.placed.unused

  last-is : last_place w m unused ps ≡ E
  last-is = omega (arith, unused-is, length-gap, s.placed.apart, s.placed.last)

  record_is : record_length w m unused ps ≡ R
  record_is = omega (arith, unused-is, length-gap, s.placed.apart)

  section-is : section_place w m unused ps ≡ F
  section-is = omega (arith, record_is, s.placed.section)

  laid : ib ≡ layout w m unused ps
  unfolding layout
  laid = rw (section-is, record_is, last-is, unused-is) from-header

  small : one_byte_each (pieces_of ps) ≡ true
  unfolding parts_in
  small = small-parts w ib R F (n - free_count w ib) o

  twelve : length m.kept ≡ 12
  unfolding read_index
  twelve = length-mid ib 4 12 (omega arith)

  spells : spell_all [] [] ps ≡ m.entries
  unfolding read_index
  spells = refl

  -- Bytes that are called sound were laid out as what they are read as.
  pub index-only-laid-out : LaidOut w (length ib) (read_index w n ib) ib
  index-only-laid-out =
      record {
        parts = ps;
        unused = unused;
        twelve = twelve;
        closed = s.placed.closed;
        spread = s.spread;
        fits = s.fronts;
        small = small;
        spells = spells;
        bytes = laid;
        size = refl;
      }

  -- And what they are read as keeps the rules.
  pub index-keeps-rules : keeps_rules (length ib) K n low end (read_index w n ib) ≡ true
  index-keeps-rules = s.rules
