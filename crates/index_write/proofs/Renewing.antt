-- Laws of the whole record that is written anew: what was stored over the old one makes the writer's form of the new meaning, byte for byte.
use Prim.Native.Nat.{ℕ, ◌+◌, ◌-◌, ◌*◌, ◌^◌, ◌≤◌, ◌<◌}
use mathlib.Core.Path.{◌≡◌, refl, ◌∙◌, sym, ap, subst}
use mathlib.Core.Bool.{true}
use mathlib.Core.List.{List, [], ◌∷◌, ◌++◌, append_assoc}
use lib.ListN.{length, get_or, take, drop, replicate, length-append, length-replicate}
use lib.Seq.{length-take-le, take_at, drop_at, take-append-le, drop-append-le, take-take, take-add}
use native.Mathlib.Nat.{mul-le-mul_left}
use native.Mathlib.Omega.{arith}
use Rattle.fields.specs.Bytes.{Octets, part, splice, digits}
use Rattle.fields.proofs.Numbers.{length_digits}
use Rattle.fields.proofs.Splices.{length-splice, length-mid, splice-splice, splice-after, take-front}
use Rattle.measures.specs.Judgement.{width_for}
use Rattle.index.specs.Meaning.{Entry, Meaning}
use Rattle.index.specs.Layout.{free_bytes}
use Rattle.index.specs.Reading.{unused_at, free_count, numbers_at}
use Rattle.index.specs.Divided.{divided_at}
use Rattle.index.proofs.Sounding.{Framed}
use Rattle.index.proofs.Apart.{part_at, byte_at, field_at, free-at, length-numbers_at, trailer-at}
use Rattle.index.proofs.Compressing.{length-free_bytes}
use Rattle.index.proofs.DividedEntries.{rebuilt}
use Rattle.sections.specs.Parts.{Part, parts_size, ends_closed}
use Rattle.sections.specs.Layout.{ahead, last_long, parts_bytes, header, layout}
use Rattle.sections.specs.Form.{packed_all, index_size, index_bytes}
use Rattle.sections.specs.Reading.{read_index}
use Rattle.sections.specs.Divided.{new_meaning}
use Rattle.sections.proofs.Sounding.{Sound, sound-apart}
use Rattle.sections.proofs.Sizes.{length-parts_bytes}
use Rattle.sections.proofs.Laying.{closed_some}
use Rattle.sections.proofs.Forming.{all_closed}
use Rattle.index_pen.specs.declared.Pen.{Pen}
use Rattle.index_pen.specs.AidHeld.{Holds}
use Rattle.index_pen.proofs.Fielding.{bytes_whole, lead-last, lead-most}
use Rattle.index_write.specs.AidStream.{cuts_in}
use Rattle.index_write.specs.AidDivided.{Divisible, new_size, AllFit, AllPut}
use Rattle.index_write.specs.declared.Cuts.{Cuts}
use Rattle.index_write.proofs.Taking.{take-numbers_at}
use Rattle.index_write.proofs.Dividing.{new-many, free-enough, there}

-- ---- over a record with its frame

splice-six : (b h : List ℕ) → length h ≡ 6 → splice b 18 h ≡ take 18 b ++ (h ++ drop 24 b)
unfolding splice
splice-six b h e = rw e

module _ (w : ℕ) (b : List ℕ) (o : Octets b) (large : 31 ≤ length b) (f : Framed w b) where
  abbrev S : ℕ
  S = length b

  abbrev R : ℕ
  R = length b - 7

  -- the first 18 bytes
  abbrev head : List ℕ
  head = digits 2 R ++ ((w + 2) ∷ (2 ^ w - 1) ∷ (part b 4 12 ++ (1 ∷ get_or b 17 0 ∷ [])))

  length-head : length head ≡ 18
  length-head = simp (length-append, length_digits) (omega (arith, length-mid b 4 12 (omega arith)))

  top : take 18 b ≡ head
  top =
      let d17 : drop 17 b ≡ get_or b 17 0 ∷ drop 18 b = byte_at b 17 18 (get_or b 17 0) (drop 18 b) refl (omega arith) refl refl in
      let d16 : drop 16 b ≡ 1 ∷ get_or b 17 0 ∷ drop 18 b = byte_at b 16 17 1 _ refl (omega arith) f.level d17 in
      let d4 : drop 4 b ≡ part b 4 12 ++ (1 ∷ get_or b 17 0 ∷ drop 18 b) = part_at b 4 12 16 _ refl d16 in
      let d3 : drop 3 b ≡ (2 ^ w - 1) ∷ (part b 4 12 ++ (1 ∷ get_or b 17 0 ∷ drop 18 b)) = byte_at b 3 4 (2 ^ w - 1) _ refl (omega arith) f.indicator d4 in
      let d2 : drop 2 b ≡ (w + 2) ∷ (2 ^ w - 1) ∷ (part b 4 12 ++ (1 ∷ get_or b 17 0 ∷ drop 18 b)) = byte_at b 2 3 (w + 2) _ refl (omega arith) f.control d3 in
      let d0 : b ≡ digits 2 R ++ ((w + 2) ∷ (2 ^ w - 1) ∷ (part b 4 12 ++ (1 ∷ get_or b 17 0 ∷ drop 18 b))) = field_at 2 b 0 2 R _ o refl (omega arith) f.long d2 in
      let d : b ≡ head ++ drop 18 b = d0 ∙ simp append_assoc in
      ap (λ (x : List ℕ). take 18 x) d ∙ take_at head (drop 18 b) 18 length-head

  module _ (c : ℕ) (es : List Entry) (some : 1 ≤ length es) (room : 24 + w * c + parts_size w (packed_all es) ≤ R) where
    -- what is written: the kept bytes as found, the first c of the free numbers, and these entries
    abbrev m : Meaning
    m = record { kept = part b 4 12; spare = get_or b 17 0; free = numbers_at w b 24 c; entries = es }

    abbrev ps : List Part
    ps = packed_all es

    abbrev u : ℕ
    u = 24 + w * c

    -- where the entries begin, where the last one's control information lies, and that of the first section's highest
    abbrev e : ℕ
    e = R - parts_size w ps

    abbrev last : ℕ
    last = e + 2 + last_long ps

    abbrev first : ℕ
    first = R - ahead w ps

    abbrev EB : List ℕ
    EB = parts_bytes w ps

    abbrev Z : List ℕ
    Z = replicate (e - u) 0

    length-Z : length {A = ℕ} (replicate (e - u) 0) ≡ e - u
    length-Z = length-replicate (e - u) 0

    length-body : u + length (Z ++ EB) ≡ R
    length-body = rw (length-append, length-Z, length-parts_bytes w ps) (omega (arith, room))

    size : index_size w m ≡ u + parts_size w ps
    unfolding index_size
    size = rw (length-numbers_at w b 24 c)

    -- the free numbers that are left lie where they lay
    free_bytes_lem : part b 24 (w * c) ≡ free_bytes w (numbers_at w b 24 c)
    free_bytes_lem =
        let d : drop 24 b ≡ free_bytes w (numbers_at w b 24 c) ++ drop u b = free-at w b 24 c u (drop u b) o refl (omega arith) refl in
        let k : length (free_bytes w (numbers_at w b 24 c)) ≡ w * c = length-free_bytes w (numbers_at w b 24 c) ∙ rw (length-numbers_at w b 24 c) in
        ap (λ (x : List ℕ). take (w * c) x) d ∙ take_at (free_bytes w (numbers_at w b 24 c)) (drop u b) (w * c) k

    abbrev H : List ℕ
    H = (digits 2 u ++ digits 2 last) ++ digits 2 first

    length-H : length H ≡ 6
    length-H = simp (length-append, length_digits)

    -- the writer's form, over the old record
    header_is : header w m R u last first ≡ take 18 b ++ H
    unfolding header
    header_is = rw top (simp append_assoc)

    form : index_bytes w S m ≡ take 18 b ++ (H ++ (part b 24 (w * c) ++ ((Z ++ EB) ++ drop R b)))
    unfolding index_bytes layout
    form =
        let a1 : 24 + w * length (numbers_at w b 24 c) ≡ u = rw (length-numbers_at w b 24 c) in
        let a3 : R - index_size w m ≡ e - u = omega (arith, size) in
        let a4 : 24 + w * length (numbers_at w b 24 c) + length {A = ℕ} (replicate (e - u) 0) + parts_size w ps ≡ R = omega (arith, a1, length-Z, room) in
        let a5 : 24 + w * length (numbers_at w b 24 c) + length {A = ℕ} (replicate (e - u) 0) + 2 + last_long ps ≡ last = omega (arith, a1, length-Z, room) in
        rw (a3, a4, a5, a1, header_is, ← free_bytes_lem, ← (trailer-at w b o large f)) (simp append_assoc)

    -- ---- the stores

    abbrev B2 : List ℕ
    B2 = splice b u (Z ++ EB)

    length-u : length (take u b) ≡ u
    length-u = length-take-le u b (omega arith)

    take-B2 : take 18 B2 ≡ take 18 b
    unfolding splice
    take-B2 = take-append-le 18 (take u b) _ (omega (arith, length-u)) ∙ take-take 18 u b (omega arith)

    part_free : drop 24 (take u b) ≡ part b 24 (w * c)
    part_free = rw (take-add 24 (w * c) b) (drop_at (take 24 b) (part b 24 (w * c)) 24 (length-take-le 24 b (omega arith)))

    drop-B2 : drop 24 B2 ≡ part b 24 (w * c) ++ ((Z ++ EB) ++ drop R b)
    unfolding splice
    drop-B2 = drop-append-le 24 (take u b) _ (omega (arith, length-u)) ∙ rw (part_free, length-body)

    length-B2 : length B2 ≡ S
    length-B2 = length-splice b u (Z ++ EB) (omega (arith, length-body))

    over : splice B2 18 H ≡ index_bytes w S m
    over = splice-six B2 H length-H ∙ rw (take-B2, drop-B2) (sym form)

    -- The entries, zeros up to them and the three displacements, stored over the old record, make the new one.
    renewed-is : (b1 b2 b3 b4 b5 : List ℕ) → b1 ≡ splice b e (parts_bytes w ps) → b2 ≡ splice b1 u (replicate (e - u) 0)
        → b3 ≡ splice b2 18 (digits 2 u) → b4 ≡ splice b3 20 (digits 2 last) → b5 ≡ splice b4 22 (digits 2 first)
        → b5 ≡ index_bytes w (length b) (record { kept = part b 4 12; spare = get_or b 17 0; free = numbers_at w b 24 c; entries = es })
    renewed-is b1 b2 b3 b4 b5 h1 h2 h3 h4 h5 =
        let c2 : b2 ≡ B2 = h2 ∙ rw h1 (splice-splice b u e Z EB (omega (arith, length-Z, room)) (omega (arith, length-parts_bytes w ps, room))) in
        let l2 : length b2 ≡ S = ap length c2 ∙ length-B2 in
        let c4 : b4 ≡ splice b2 18 (digits 2 u ++ digits 2 last) =
        h4 ∙ rw h3 (splice-after b2 18 20 (digits 2 u) (digits 2 last) (rw (length_digits 2 u)) (rw (length_digits 2 last, l2) (omega arith))) in
        let c5 : b5 ≡ splice b2 18 H =
        h5 ∙ rw c4 (splice-after b2 18 22 (digits 2 u ++ digits 2 last) (digits 2 first) (rw (length-append, length_digits 2 u, length_digits 2 last)) (rw (length_digits 2 first, l2) (omega arith))) in
        c5 ∙ rw c2 over

-- ---- over a sound record, of which an entry can be divided

-- the copy at the scratch's front is the old record
pub copied : (z : List ℕ) {ib old : List ℕ} → old ≡ splice z 0 ib → take (length ib) old ≡ ib
copied z {ib = ib} e = rw e (take-front z ib (length ib) refl)

module _ (n i : ℕ) (cut : Cuts) (bytes ib : List ℕ) (d : Divisible n i (cuts_in cut bytes) ib) where
  abbrev W : ℕ
  W = width_for n

  abbrev seps : List (List ℕ)
  seps = cuts_in cut bytes

  abbrev new : Meaning
  new = new_meaning (width_for n) n ib i (cuts_in cut bytes)

  -- how many numbers stay free
  abbrev left : ℕ
  left = free_count (width_for n) ib - length (cuts_in cut bytes)

  sound : Sound (width_for n) d.key n [] [] ib
  sound = sound-apart (width_for n) d.key n [] [] ib d.sound

  many : length (numbers_at (width_for n) ib 24 (free_count (width_for n) ib)) ≡ free_count (width_for n) ib
  many = length-numbers_at (width_for n) ib 24 (free_count (width_for n) ib)

  pub unused-there : 24 ≤ unused_at ib
  unused-there = omega (arith, sound.placed.unused)

  -- what the division makes of the free numbers
  free-left : (new_meaning (width_for n) n ib i (cuts_in cut bytes)).free ≡ numbers_at (width_for n) ib 24 (free_count (width_for n) ib - length (cuts_in cut bytes))
  unfolding divided_at read_index
  free-left =
      let t : take left (numbers_at W ib 24 (free_count W ib)) ≡ numbers_at W ib 24 left = take-numbers_at W ib 24 (free_count W ib) left (omega arith) in
      rw (many, t)

  new_is : new_meaning (width_for n) n ib i (cuts_in cut bytes)
      ≡ record { kept = part ib 4 12; spare = get_or ib 17 0; free = numbers_at (width_for n) ib 24 (free_count (width_for n) ib - length (cuts_in cut bytes)); entries = (new_meaning (width_for n) n ib i (cuts_in cut bytes)).entries }
  unfolding divided_at read_index
  new_is = rebuilt new (numbers_at W ib 24 left) new.entries free-left refl

  new-size : index_size (width_for n) (new_meaning (width_for n) n ib i (cuts_in cut bytes))
      ≡ 24 + width_for n * (free_count (width_for n) ib - length (cuts_in cut bytes)) + parts_size (width_for n) (packed_all (new_meaning (width_for n) n ib i (cuts_in cut bytes)).entries)
  unfolding index_size
  new-size = rw (free-left, length-numbers_at W ib 24 left)

  some-new : 1 ≤ length new.entries
  some-new = omega (arith, new-many n i cut bytes ib d, there n i cut bytes ib d)

  -- ---- by what the code has: the width, how many numbers are free and how many of them go

  module _ (w count more : ℕ) (w-is : w ≡ width_for n) (count-is : count ≡ free_count w ib) (more-as : more ≡ length (cuts_in cut bytes)) where
    u-is : 24 + w * (count - more) ≡ 24 + width_for n * (free_count (width_for n) ib - length (cuts_in cut bytes))
    u-is = rw (count-is, more-as, w-is)

    pub taken-enough : more ≤ count
    taken-enough = omega (arith, free-enough n i cut bytes ib d, more-as, count-is ∙ ap (λ (x : ℕ). free_count x ib) w-is)

    -- the record's size, from what is counted
    pub divided-size : (size : ℕ) → size ≡ new_size (record { n = n; i = i }) ib cut bytes
        → 24 + w * (count - more) + size ≡ index_size (width_for n) (new_meaning (width_for n) n ib i (cuts_in cut bytes))
    divided-size size size_is = omega (arith, u-is, size_is, new-size)

    pub left-small : 24 + w * (count - more) ≤ 32768
    left-small = omega (arith, u-is, unused-most)
      where
        unused-most : 24 + width_for n * (free_count (width_for n) ib - length (cuts_in cut bytes)) ≤ 32768
        unused-most = omega (arith, fewer-times, sound.placed.unused, sound.placed.apart, d.small)
          where
            fewer-times : width_for n * (free_count (width_for n) ib - length (cuts_in cut bytes)) ≤ width_for n * free_count (width_for n) ib
            fewer-times = mul-le-mul_left (width_for n) (omega arith)

    module _ (room : index_size (width_for n) (new_meaning (width_for n) n ib i (cuts_in cut bytes)) ≤ length ib - 7) where
      new-fits : 24 + w * (count - more) + parts_size (width_for n) (packed_all new.entries) ≤ length ib - 7
      new-fits = omega (arith, u-is, new-size, room)

      -- the copy of the old record, and what is made from it
      module _ (old : List ℕ) (old-is : old ≡ ib) where
        pub copy-divisible : Divisible n i (cuts_in cut bytes) old
        copy-divisible = rw old-is d

        pub copy-room : AllFit (record { n = n; i = i }) old cut bytes ib
        copy-room = λ (h : 7 < length ib). rw old-is (omega (arith, new-fits, d.large), d.small)

        module _ (pen : Pen) (b1 : List ℕ) (put : AllPut (record { n = n; i = i }) old cut bytes ib pen b1) where
          put-here : AllPut (record { n = n; i = i }) ib cut bytes ib pen b1
          put-here = subst (λ (x : List ℕ). AllPut (record { n = n; i = i }) x cut bytes ib pen b1) old-is put

          holds : Holds (width_for n) (length ib - 7) ib (packed_all new.entries) pen b1
          holds = put-here.holds (omega (arith, d.large))

          closed : ends_closed (packed_all new.entries) ≡ true
          closed = all_closed new.entries some-new

          pub written-fits : 24 + w * (count - more) + pen.size ≤ length ib - 7
          written-fits = omega (arith, put-here.size, new-fits)

          last-is : pen.last ≡ length ib - 7 - parts_size (width_for n) (packed_all new.entries) + 2 + last_long (packed_all new.entries)
          last-is = omega (arith, holds.last (closed_some (packed_all new.entries) closed), lead-last W (packed_all new.entries) closed)

          first-is : pen.first ≡ length ib - 7 - ahead (width_for n) (packed_all new.entries)
          first-is = omega (arith, holds.first (closed_some (packed_all new.entries) closed))

          pub divided-is : (b2 b3 b4 b5 : List ℕ) → Octets ib
              → b2 ≡ splice b1 (24 + w * (count - more)) (replicate (length ib - 7 - pen.size - (24 + w * (count - more))) 0)
              → b3 ≡ splice b2 18 (digits 2 (24 + w * (count - more))) → b4 ≡ splice b3 20 (digits 2 pen.last) → b5 ≡ splice b4 22 (digits 2 pen.first)
              → b5 ≡ index_bytes (width_for n) (length ib) (new_meaning (width_for n) n ib i (cuts_in cut bytes))
          divided-is b2 b3 b4 b5 o h2 h3 h4 h5 =
              rw new_is
              (renewed-is (width_for n) ib o d.large sound.framed left new.entries some-new (omega (arith, new-size, room)) b1 b2 b3 b4 b5
              (holds.bytes ∙ ap (λ (x : List ℕ). splice ib (length ib - 7 - parts_size W (packed_all new.entries)) x) (bytes_whole W (packed_all new.entries)))
              (rw (put-here.size, u-is) at h2) (rw u-is at h3) (rw last-is at h4) (rw first-is at h5))
