-- What lies at a place of bytes that were laid: entries with their sections are read back.
use Prim.Native.Nat.{ℕ, suc, ◌+◌, ◌-◌, ◌^◌, ◌≤◌, ◌<◌}
use mathlib.Core.Path.{◌≡◌, refl, ◌∙◌, sym, ap}
use mathlib.Core.Bool.{Bool, true, false}
use mathlib.Core.List.{List, [], ◌∷◌, ◌++◌, append_assoc}
use lib.ListN.{length, length-append}
use lib.Dec.{ltb, eqb}
use native.Mathlib.Omega.{arith}
use borrow.Author.Tests.{ltb-true, eq-eqb, ne_eqb}
use Rattle.fields.specs.Choice.{pick}
use Rattle.fields.specs.Bytes.{number, digits}
use Rattle.fields.specs.Lists.{every}
use Rattle.fields.proofs.Choices.{both-split, both-join, false-true}
use Rattle.fields.proofs.Numbers.{length_digits, number-seam}
use Rattle.index.specs.Meaning.{numbers, below}
use Rattle.index.specs.Pieces.{piece_size}
use Rattle.index.specs.Layout.{piece_bytes}
use Rattle.index.specs.Reading.{piece_at}
use Rattle.index.proofs.Laying.{piece-there}
use Rattle.sections.specs.Parts.{Part, sep_of, high_after, spell_all, part_size, parts_size, sections_in, ends_closed}
use Rattle.sections.specs.Layout.{ahead, field_of, part_bytes, parts_bytes}
use Rattle.sections.specs.Reading.{parts_at, fields_true}
use Rattle.sections.proofs.Sizes.{length-parts_bytes}

-- ---- entries of which the last closes a section

-- some section follows
pub closed_some : (ps : List Part) → ends_closed ps ≡ true → 1 ≤ sections_in ps
unfolding ends_closed sections_in
closed_some [] h = absurd (false-true h)
closed_some (p ∷ []) h = rw h (omega arith)
closed_some (p ∷ q ∷ ps) h = omega (arith, closed_some (q ∷ ps) h)

-- its highest lies ahead, within the entries' bytes
pub ahead-some : (w : ℕ) (ps : List Part) → ends_closed ps ≡ true → w + 2 ≤ ahead w ps
unfolding ends_closed ahead
ahead-some w [] h = absurd (false-true h)
ahead-some w (p ∷ []) h = rw h (omega arith)
ahead-some w (p ∷ q ∷ ps) h = go p.closes
  where
    go : (t : Bool) → w + 2 ≤ pick t (w + 2) (piece_size w p.piece + ahead w (q ∷ ps))
    go true = omega arith
    go false = omega arith

pub ahead-most : (w : ℕ) (ps : List Part) → ahead w ps ≤ parts_size w ps
unfolding ahead parts_size
ahead-most w [] = omega arith
ahead-most w (p ∷ ps) = go p.closes (ahead-most w ps)
  where
    go : (t : Bool) → ahead w ps ≤ parts_size w ps → pick t (w + 2) (piece_size w p.piece + ahead w ps) ≤ piece_size w p.piece + pick t 2 0 + parts_size w ps
    go true i = omega arith
    go false i = omega arith

-- the field of an entry that closes a section before others
pub field-more : (w : ℕ) (p : Part) (ps : List Part) → ends_closed ps ≡ true → field_of w p ps ≡ length p.piece.chars + 2 + ahead w ps
field-more w p ps h = rw (ne_eqb (sections_in ps) 0 (omega (arith, closed_some ps h)))

pub field-most : (w : ℕ) (p : Part) (ps : List Part) → field_of w p ps ≤ length p.piece.chars + 2 + parts_size w ps
field-most w p ps = go (eqb (sections_in ps) 0)
  where
    go : (t : Bool) → pick t 0 (length p.piece.chars + 2 + ahead w ps) ≤ length p.piece.chars + 2 + parts_size w ps
    go true = omega arith
    go false = omega (arith, ahead-most w ps)

-- ---- reading

part-is : (w : ℕ) (b : List ℕ) (r end : ℕ) (x : Part) → piece_at w b r ≡ x.piece → eqb (r - (w + 2)) end ≡ x.closes
    → record { piece = piece_at w b r; closes = eqb (r - (w + 2)) end } ≡ x
part-is w b r end x p c = rw (p, c)

pub parts-cons : (w : ℕ) (b : List ℕ) (r end e : ℕ) (x : Part) → piece_at w b r ≡ x.piece → eqb (r - (w + 2)) end ≡ x.closes
    → parts_at w b r end (suc e) ≡ x ∷ parts_at w b (r - part_size w x) (pick x.closes (end - number 2 b (r - part_size w x)) end) e
unfolding parts_at
parts-cons w b r end e x p c =
    ap (λ (y : Part). y ∷ parts_at w b (r - part_size w y) (pick y.closes (end - number 2 b (r - part_size w y)) end) e) (part-is w b r end x p c)

-- All entries that were laid up to r are read from there, each from the right edge that the one before left, and each section's end from the field of the one
-- before.
module _ (w n : ℕ) (b : List ℕ) (wide : n ≤ 256 ^ w) where
  -- one entry
  module _ (p t : List ℕ) (x : Part) (ps : List Part) (r end : ℕ) (laid : b ≡ p ++ ((parts_bytes w ps ++ part_bytes w x ps) ++ t))
      (edge : length p + (part_size w x + parts_size w ps) ≡ r) where
    abbrev before : List ℕ
    before = p ++ parts_bytes w ps

    before-long : length before ≡ length p + parts_size w ps
    before-long = length-append p (parts_bytes w ps) ∙ omega (arith, length-parts_bytes w ps)

    -- the piece
    piece-read : x.piece.num < n → piece_at w b r ≡ x.piece
    unfolding part_bytes
    piece-read below-n = go x.closes refl
      where
        go : (c : Bool) → x.closes ≡ c → piece_at w b r ≡ x.piece
        go true e =
            let g : length p + (piece_size w x.piece + 2 + parts_size w ps) ≡ r = rw e at edge in
            piece-there w b (before ++ digits 2 (field_of w x ps)) t x.piece r (omega arith) ((rw e at laid) ∙ simp append_assoc)
            (omega (arith, length-append before (digits 2 (field_of w x ps)), before-long, length_digits 2 (field_of w x ps), g))
        go false e =
            let g : length p + (piece_size w x.piece + 0 + parts_size w ps) ≡ r = rw e at edge in
            piece-there w b before t x.piece r (omega arith) ((rw e at laid) ∙ simp append_assoc) (omega (arith, before-long, g))

    -- the field of a section's highest
    field-read : x.closes ≡ true → field_of w x ps < 65536 → number 2 b (r - part_size w x) ≡ field_of w x ps
    unfolding part_bytes
    field-read e small =
        number-seam 2 b before (piece_bytes w x.piece ++ t) (field_of w x ps) (r - part_size w x) (omega (arith, small)) ((rw e at laid) ∙ simp append_assoc)
        (omega (arith, before-long, edge))

    -- it is read, and those after it where they are read from its left edge on
    part-read : x.piece.num < n → ends_closed ps ≡ true → part_size w x + parts_size w ps < 65536 → end ≡ r - pick x.closes (w + 2) (piece_size w x.piece + ahead w ps)
        → ((end' : ℕ) → end' ≡ r - part_size w x - ahead w ps → parts_at w b (r - part_size w x) end' (length ps) ≡ ps) → parts_at w b r end (suc (length ps)) ≡ x ∷ ps
    part-read l h small f next = go x.closes refl
      where
        k : field_of w x ps ≡ length x.piece.chars + 2 + ahead w ps
        k = field-more w x ps h

        go : (c : Bool) → x.closes ≡ c → parts_at w b r end (suc (length ps)) ≡ x ∷ ps
        go true c =
            let f' : end ≡ r - (w + 2) = rw c at f in
            let sz : part_size w x ≡ piece_size w x.piece + 2 = rw c in
            let d : number 2 b (r - part_size w x) ≡ field_of w x ps = field-read c (omega (arith, k, ahead-most w ps, small, sz)) in
            let d' : number 2 b (r - (piece_size w x.piece + 2)) ≡ field_of w x ps = rw c at d in
            let g : pick x.closes (end - number 2 b (r - part_size w x)) end ≡ r - part_size w x - ahead w ps = rw (c, d') (omega (arith, f', k)) in
            parts-cons w b r end (length ps) x (piece-read l) (eq-eqb (r - (w + 2)) end (sym f') ∙ sym c) ∙ ap (λ (zs : List Part). x ∷ zs) (next _ g)
        go false c =
            let f' : end ≡ r - (piece_size w x.piece + ahead w ps) = rw c at f in
            let sz : part_size w x ≡ piece_size w x.piece + 0 = rw c in
            let g : pick x.closes (end - number 2 b (r - part_size w x)) end ≡ r - part_size w x - ahead w ps = rw c (omega (arith, f')) in
            let away : r - (w + 2) ≡ end → ⊥ = λ (u : r - (w + 2) ≡ end). omega (arith, u, f', ahead-some w ps h, ahead-most w ps, edge, sz) in
            parts-cons w b r end (length ps) x (piece-read l) (ne_eqb (r - (w + 2)) end away ∙ sym c) ∙ ap (λ (zs : List Part). x ∷ zs) (next _ g)

  pub parts-there : (p t high ref : List ℕ) (ps : List Part) (r end : ℕ) → below n (numbers (spell_all high ref ps)) ≡ true → ends_closed ps ≡ true
      → parts_size w ps < 65536 → b ≡ p ++ (parts_bytes w ps ++ t) → length p + parts_size w ps ≡ r → end ≡ r - ahead w ps → parts_at w b r end (length ps) ≡ ps
  unfolding ends_closed parts_bytes parts_size spell_all every ahead parts_at
  parts-there p t high ref [] r end l h small q e f = refl
  parts-there p t high ref (x ∷ []) r end l h small q e f =
      let s = both-split (ltb x.piece.num n) true l in
      let f' : end ≡ r - (w + 2) = rw h at f in
      parts-cons w b r end 0 x (piece-read p t x [] r end q e (ltb-true x.piece.num n s.0)) (eq-eqb (r - (w + 2)) end (sym f') ∙ sym h)
  parts-there p t high ref (x ∷ y ∷ ps) r end l h small q e f =
      let s = both-split (ltb x.piece.num n) (below n (numbers (spell_all (high_after high ref x) (sep_of high ref x) (y ∷ ps)))) l in
      part-read p t x (y ∷ ps) r end q e (ltb-true x.piece.num n s.0) h small f
      (λ (end' : ℕ) (g : end' ≡ r - part_size w x - ahead w (y ∷ ps)).
      parts-there p (part_bytes w x (y ∷ ps) ++ t) (high_after high ref x) (sep_of high ref x) (y ∷ ps) (r - part_size w x) end' s.1 h (omega (arith, small))
      (q ∙ simp append_assoc) (omega (arith, e)) g)

  -- The fields of sections that were laid are the ones that lead on.
  pub fields-there : (p t : List ℕ) (ps : List Part) (r : ℕ) → parts_size w ps < 65536 → b ≡ p ++ (parts_bytes w ps ++ t) → length p + parts_size w ps ≡ r → fields_true w b r ps ≡ true
  unfolding parts_bytes parts_size fields_true
  fields-there p t [] r small q e = refl
  fields-there p t (x ∷ ps) r small q e =
      both-join _ _ (go x.closes refl)
      (fields-there p (part_bytes w x ps ++ t) ps (r - part_size w x) (omega (arith, small)) (q ∙ simp append_assoc) (omega (arith, e)))
    where
      go : (c : Bool) → x.closes ≡ c → pick x.closes (eqb (number 2 b (r - part_size w x)) (field_of w x ps)) true ≡ true
      go true c =
          let sz : part_size w x ≡ piece_size w x.piece + 2 = rw c in
          let d = eq-eqb _ _ (field-read p t x ps r 0 q e c (omega (arith, field-most w x ps, small, sz))) in
          ap (λ (u : Bool). pick u (eqb (number 2 b (r - part_size w x)) (field_of w x ps)) true) c ∙ d
      go false c = rw c
