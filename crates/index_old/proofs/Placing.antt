-- Where everything lies in a layout of the old form: each field and number that is read there is what was laid.
use Prim.Native.Nat.{ℕ, ◌+◌, ◌-◌, ◌*◌, ◌^◌, ◌≤◌, ◌<◌}
use mathlib.Core.Path.{◌≡◌, refl, ◌∙◌, sym, ap}
use mathlib.Core.Bool.{true}
use mathlib.Core.List.{List, [], ◌∷◌, ◌++◌, append_assoc, append-nil}
use lib.ListN.{length, get_or, length-append, get_or-append}
use lib.Seq.{get_or-append-add}
use native.Mathlib.Omega.{arith}
use native.Mathlib.Nat.{mul-div_cancel_left}
use borrow.Author.Tests.{le-leb, eq-eqb}
use Rattle.fields.specs.Bytes.{part, number, digits}
use Rattle.fields.proofs.Numbers.{length_digits, at-seam, part-seam, number-seam}
use Rattle.index.specs.Meaning.{Meaning, numbers, below}
use Rattle.index.specs.Pieces.{Piece}
use Rattle.index.specs.Layout.{free_bytes, unused_place, trailer}
use Rattle.index.specs.Reading.{unused_at, last_at, section_at, free_count, numbers_at, frame}
use Rattle.index.proofs.Compressing.{length-free_bytes}
use Rattle.index.proofs.Laying.{free-there}
use Rattle.index_old.specs.Pieces.{spell, pieces_size, last_chars}
use Rattle.index_old.specs.Layout.{pieces_bytes, last_place, record_length, header, layout}
use Rattle.index_old.specs.Reading.{pieces_in, read_index, places}
use Rattle.index_old.proofs.Laying.{length-pieces_bytes, pieces-there}

last-short : (ps : List Piece) (w : ℕ) → length (last_chars ps) ≤ pieces_size w ps
unfolding last_chars pieces_size
last-short [] w = omega arith
last-short (p ∷ []) w = omega arith
last-short (p ∷ q ∷ ps) w = omega (arith, last-short (q ∷ ps) w)

-- ---- where everything lies in a layout

module _ (w : ℕ) (m : Meaning) (unused : List ℕ) (ps : List Piece) (kept12 : length m.kept ≡ 12) where
  abbrev b : List ℕ
  b = layout w m unused ps

  abbrev U : ℕ
  U = unused_place w m

  abbrev E : ℕ
  E = last_place w m unused ps

  abbrev R : ℕ
  R = record_length w m unused ps

  abbrev body : List ℕ
  body = free_bytes w m.free ++ (unused ++ (pieces_bytes w ps ++ trailer R))

  -- what follows place 22, 20, 18, 16 and 4
  abbrev t22 : List ℕ
  t22 = digits 2 E ++ body

  abbrev t20 : List ℕ
  t20 = digits 2 E ++ t22

  abbrev t18 : List ℕ
  t18 = digits 2 U ++ t20

  abbrev t16 : List ℕ
  t16 = 1 ∷ m.spare ∷ t18

  abbrev t4 : List ℕ
  t4 = m.kept ++ t16

  opened : b ≡ digits 2 R ++ ((w + 2) ∷ (2 ^ w - 1) ∷ t4)
  unfolding layout header
  opened = simp append_assoc

  abbrev front : List ℕ
  front = digits 2 R ++ ((w + 2) ∷ (2 ^ w - 1) ∷ m.kept)

  length_front : length front ≡ 16
  length_front = simp (length-append, length_digits) (omega (arith, kept12))

  abbrev head18 : List ℕ
  head18 = front ++ (1 ∷ m.spare ∷ [])

  length-18 : length head18 ≡ 18
  length-18 = length-append front (1 ∷ m.spare ∷ []) ∙ rw length_front

  length-20 : length (head18 ++ digits 2 U) ≡ 20
  length-20 = length-append head18 (digits 2 U) ∙ rw (length-18, length_digits)

  length-22 : length (head18 ++ (digits 2 U ++ digits 2 E)) ≡ 22
  length-22 = length-append head18 (digits 2 U ++ digits 2 E) ∙ rw (length-18, length-append, length_digits 2 U, length_digits 2 E)

  at-2 : get_or b 2 0 ≡ w + 2
  at-2 = at-seam b (digits 2 R) ((2 ^ w - 1) ∷ t4) (w + 2) 2 opened (length_digits 2 R)

  at-3 : get_or b 3 0 ≡ 2 ^ w - 1
  at-3 = at-seam b (digits 2 R ++ ((w + 2) ∷ [])) t4 (2 ^ w - 1) 3 (opened ∙ simp append_assoc) (simp (length-append, length_digits))

  kept_there : part b 4 12 ≡ m.kept
  kept_there =
      part-seam b (digits 2 R ++ ((w + 2) ∷ (2 ^ w - 1) ∷ [])) m.kept t16 4 12 (opened ∙ simp append_assoc) (simp (length-append, length_digits)) kept12

  at-16 : get_or b 16 0 ≡ 1
  at-16 = at-seam b front (m.spare ∷ t18) 1 16 (opened ∙ simp append_assoc) length_front

  at-17 : get_or b 17 0 ≡ m.spare
  at-17 = at-seam b (front ++ (1 ∷ [])) t18 m.spare 17 (opened ∙ simp append_assoc) (length-append front (1 ∷ []) ∙ rw length_front)

  abbrev head24 : List ℕ
  head24 = header w m R U E

  length-24 : length head24 ≡ 24
  unfolding header
  length-24 = simp (length-append, length_digits) (omega (arith, kept12))

  parted : b ≡ head24 ++ body
  unfolding layout
  parted = refl

  abbrev left : List ℕ
  left = head24 ++ (free_bytes w m.free ++ unused)

  length-left : length left ≡ U + length unused
  length-left =
      omega
      (arith, length-append head24 (free_bytes w m.free ++ unused), length-24, length-append (free_bytes w m.free) unused, length-free_bytes w m.free)

  abbrev most : List ℕ
  most = left ++ pieces_bytes w ps

  length_most : length most ≡ R
  length_most = omega (arith, length-append left (pieces_bytes w ps), length-left, length-pieces_bytes w ps)

  ended : b ≡ most ++ (0 ∷ (digits 2 R ++ (digits 2 R ++ digits 2 0)))
  unfolding trailer
  ended = parted ∙ simp append_assoc

  -- The bytes laid are the record and the seven of RDF and CIDF.
  pub length-layout : length b ≡ R + 7
  length-layout =
      let t : List ℕ = 0 ∷ (digits 2 R ++ (digits 2 R ++ digits 2 0)) in
      let e : length t ≡ 7 = simp (length-append, length_digits) in
      ap length ended ∙ length-append most t ∙ omega (arith, length_most, e)

  -- A byte of the unused space lies past the free numbers.
  pub gap-there : (i : ℕ) → i < length unused → get_or b (U + i) 0 ≡ get_or unused i 0
  gap-there i h =
      let p : List ℕ = head24 ++ free_bytes w m.free in
      let t : List ℕ = pieces_bytes w ps ++ trailer R in
      let l : length p ≡ U = omega (arith, length-append head24 (free_bytes w m.free), length-24, length-free_bytes w m.free) in
      let q : b ≡ p ++ (unused ++ t) = parted ∙ simp append_assoc in
      ap (λ (x : List ℕ). get_or x (U + i) 0) q
      ∙ ap (λ (k : ℕ). get_or (p ++ (unused ++ t)) (k + i) 0) (sym l)
      ∙ get_or-append-add p (unused ++ t) i 0
      ∙ get_or-append unused t 0 i h

  at-rdf : get_or b R 0 ≡ 0
  at-rdf = at-seam b most (digits 2 R ++ (digits 2 R ++ digits 2 0)) 0 R ended length_most

  module _ (small : R < 65536) where
    len-there : number 2 b 0 ≡ R
    len-there = number-seam 2 b [] ((w + 2) ∷ (2 ^ w - 1) ∷ t4) R 0 (omega arith) opened refl

    pub unused-there : unused_at b ≡ U
    unused-there = number-seam 2 b head18 t20 U 18 (omega arith) (opened ∙ simp append_assoc) length-18

    last-there : last_at b ≡ E
    last-there = number-seam 2 b (head18 ++ digits 2 U) t22 E 20 (omega (arith, last-short ps w)) (opened ∙ simp append_assoc) length-20

    section-there : section_at b ≡ E
    section-there =
        number-seam 2 b (head18 ++ (digits 2 U ++ digits 2 E)) body E 22 (omega (arith, last-short ps w)) (opened ∙ simp append_assoc) length-22

    rdf-there : number 2 b (R + 1) ≡ R
    rdf-there =
        number-seam 2 b (most ++ (0 ∷ [])) (digits 2 R ++ digits 2 0) R (R + 1) (omega arith) (ended ∙ simp append_assoc)
        (length-append most (0 ∷ []) ∙ omega (arith, length_most))

    cidf-there : number 2 b (R + 3) ≡ R
    cidf-there =
        number-seam 2 b (most ++ (0 ∷ digits 2 R)) (digits 2 0) R (R + 3) (omega arith) (ended ∙ simp append_assoc)
        (length-append most (0 ∷ digits 2 R) ∙ omega (arith, length_most, length_digits 2 R))

    none-there : number 2 b (R + 5) ≡ 0
    none-there =
        number-seam 2 b (most ++ (0 ∷ (digits 2 R ++ digits 2 R))) [] 0 (R + 5) (omega arith) (ended ∙ simp (append_assoc, append-nil))
        (length-append most (0 ∷ (digits 2 R ++ digits 2 R)) ∙ omega (arith, length_most, length-append (digits 2 R) (digits 2 R), length_digits 2 R))

    -- The header values, the RDF and the CIDF are as they must be.
    pub frame-there : frame w b ≡ true
    unfolding frame
    frame-there =
        let r7 : length b - 7 ≡ R = omega (arith, length-layout) in
        let r6 : length b - 6 ≡ R + 1 = omega (arith, length-layout) in
        let r4 : length b - 4 ≡ R + 3 = omega (arith, length-layout) in
        let r2 : length b - 2 ≡ R + 5 = omega (arith, length-layout) in
        rw
        (r7, r6, r4, r2, eq-eqb _ _ len-there, eq-eqb _ _ at-2, eq-eqb _ _ at-3, eq-eqb _ _ at-16, eq-eqb _ _ at-rdf, eq-eqb _ _ rdf-there, eq-eqb _ _ cidf-there, eq-eqb _ _ none-there)

    module _ (n : ℕ) (width : 1 ≤ w) (wide : n ≤ 256 ^ w) (spells : spell [] ps ≡ m.entries) (all : length m.free + length ps ≡ n)
        (free-below : below n m.free ≡ true) (used-below : below n (numbers (spell [] ps)) ≡ true) where
      counted : free_count w b ≡ length m.free
      counted =
          let z : U - 24 ≡ w * length m.free = omega arith in
          rw (unused-there, z) (mul-div_cancel_left (length m.free) width)

      frees-there : numbers_at w b 24 (length m.free) ≡ m.free
      frees-there = free-there w n b head24 m.free (unused ++ (pieces_bytes w ps ++ trailer R)) 24 wide free-below parted length-24

      -- The pieces that were laid are read.
      pub all_there : pieces_in w n b ≡ ps
      unfolding pieces_in
      all_there =
          let r7 : length b - 7 ≡ R = omega (arith, length-layout) in
          let e : n - length m.free ≡ length ps = omega arith in
          rw (r7, counted, e)
          (pieces-there w n b left (trailer R) [] ps R wide used-below (parted ∙ simp append_assoc) (omega (arith, length-left)))

      -- What is read is what was laid.
      pub read-there : read_index w n b ≡ m
      unfolding read_index
      read-there = rw (kept_there, at-17, all_there, spells, counted, frees-there)

      -- The displacements agree with what lies there.
      pub places-there : places w n b ≡ true
      unfolding places
      places-there =
          let r7 : length b - 7 ≡ R = omega (arith, length-layout) in
          rw (
            all_there,
            counted,
            r7,
            section-there,
            unused-there,
            last-there,
            eq-eqb U U refl,
            le-leb (length m.free) n (omega arith),
            le-leb (U + pieces_size w ps) R
                (omega arith),
            eq-eqb (E + pieces_size w ps) (R + length (last_chars ps)) (omega arith),
            eq-eqb E E refl,
          )
