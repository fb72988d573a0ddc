-- What becomes of index records in the old form (document 02, L5): they are read as one section, so those of three entries or more are refused, and those of one or
-- two are sound exactly if their unused space ends with two zero bytes; and a key leads where it led.
use Prim.Native.Nat.{ℕ, ◌+◌, ◌-◌, ◌*◌, ◌^◌, ◌≤◌}
use mathlib.Core.Path.{◌≡◌, refl, ◌∙◌, sym, ap}
use mathlib.Core.Bool.{Bool, true, false}
use mathlib.Core.List.{List, [], ◌∷◌}
use mathlib.Core.Logic.{◌↔◌}
use lib.ListN.{length, get_or}
use lib.Dec.{leb}
use native.Mathlib.Omega.{arith}
use borrow.Author.Tests.{eq-eqb, eqb-true, lt-leb, le-leb, leb-true}
use Rattle.fields.specs.Bytes.{number}
use Rattle.fields.proofs.Choices.{false-true, both-join}
use Rattle.fields.proofs.Numbers.{number-2}
use Rattle.index.specs.Meaning.{Entry, Meaning}
use Rattle.index.specs.Rules.{closed, keeps_rules}
use Rattle.index.specs.Pieces.{Piece}
use Rattle.index.specs.Layout.{unused_place}
use Rattle.index.specs.Reading.{unused_at, last_at, section_at, free_count}
use Rattle.index.specs.Search.{leads_to}
use Rattle.index.proofs.Keeping.{rules-apart}
use Rattle.sections.specs.Parts.{spell_all, fronts_in, parts_size, sections_in, spread_fine}
use Rattle.sections.specs.Layout.{ahead, last_long, LaidOut}
use Rattle.sections.specs.Reading.{parts_at, parts_in, read_index, fields_true, places, sound_index}
use Rattle.sections.proofs.Sounding.{sound-apart}
use Rattle.sections.proofs.NeverDamaged.{index_reads}
use Rattle.index_old.specs.Pieces.{spell, pieces_size, last_chars}
use Rattle.index_old.specs.Layout as old-layout
use Rattle.index_old.specs.Reading as old
use Rattle.index_old.specs.Section.{last_only, EndsInZeros, entries_from, ZerosLast}
use Rattle.index_old.proofs.Laying.{length-spell, length-pieces_at}
use Rattle.index_old.proofs.Sounding as old-sounding
use Rattle.index_old.proofs.NeverDamaged.{pieces-read, unused-read, gap-read, whole-read, old-reads, old-never-damaged}
use Rattle.index_old.proofs.Section.{only-length, only-sections, only-size, only-last, only-ahead, only-closed, only-fields, only-read, few-same}

-- ---- records that the old reading called sound, for keys above low, with the separator end at the last

module _ (w K n : ℕ) (low end ib : List ℕ) (sound : old.sound_index w K n low end ib ≡ true) where
  was : old-sounding.Sound w K n low end ib
  was = old-sounding.sound-apart w K n low end ib sound

  abbrev ps : List Piece
  ps = old.pieces_in w n ib

  abbrev R : ℕ
  R = length ib - 7

  many : n - free_count w ib ≡ length ps
  unfolding old.pieces_in
  many = sym (length-pieces_at w ib R (n - free_count w ib))

  read_again : old.pieces_at w ib R (length ps) ≡ ps
  unfolding old.pieces_in
  read_again = ap (λ (e : ℕ). old.pieces_at w ib R e) (sym many)

  -- They are read as a single section.
  pub old-form-section : parts_in w n ib ≡ last_only ps
  unfolding parts_in
  old-form-section =
      ap (λ (x : ℕ). parts_at w ib R x (n - free_count w ib)) was.placed.section
      ∙ ap (λ (e : ℕ). parts_at w ib R (last_at ib) e) many
      ∙ only-read w ib ps R (last_at ib) read_again (omega (arith, was.placed.apart)) was.placed.last

  entries-many : length (old.read_index w n ib).entries ≡ length ps
  unfolding old.read_index
  entries-many = length-spell [] ps

  spread-is : spread_fine (parts_in w n ib) ≡ leb (length ps) 2
  spread-is =
      rw (old-form-section, le-leb (sections_in (last_only ps)) 1 (only-sections ps), only-length ps)

  -- With three entries or more such a record is refused, whatever lies left of its entries.
  pub old-form-refused : 3 ≤ length (old.read_index w n ib).entries → sound_index w K n low end ib ≡ false
  old-form-refused h = go (sound_index w K n low end ib) refl
    where
      go : (t : Bool) → sound_index w K n low end ib ≡ t → t ≡ false
      go false s = refl
      go true s =
          let l : leb (length ps) 2 ≡ false = lt-leb (length ps) 2 (omega (arith, h, entries-many)) in
          absurd (false-true (sym l ∙ sym spread-is ∙ (sound-apart w K n low end ib s).spread))

-- ---- and in the base, where the last separator is empty

some-pieces : (end : List ℕ) (ref : List ℕ) (xs : List Piece) → closed end (spell ref xs) ≡ true → 1 ≤ length xs
unfolding closed spell
some-pieces end ref [] h = absurd (false-true h)
some-pieces end ref (x ∷ xs) h = omega arith

module _ (w K n : ℕ) (ib : List ℕ) (sound : old.sound_index w K n [] [] ib ≡ true) where
  had : old-sounding.Sound w K n [] [] ib
  had = old-sounding.sound-apart w K n [] [] ib sound

  abbrev qs : List Piece
  qs = old.pieces_in w n ib

  abbrev Z : ℕ
  Z = length ib - 7

  section : parts_in w n ib ≡ last_only qs
  section = old-form-section w K n [] [] ib sound

  closing : closed [] (spell [] qs) ≡ true
  unfolding old.read_index
  closing = (rules-apart (length ib) K n [] [] (old.read_index w n ib) had.rules).closing

  some : 1 ≤ length qs
  some = some-pieces [] [] qs closing

  -- the place of the field, counted either way
  field-place : Z - pieces_size w qs - 2 ≡ Z - (pieces_size w qs + 2)
  field-place = omega arith

  zeros-only : sound_index w K n [] [] ib ≡ true → ZerosLast w n ib
  zeros-only h =
      let s = sound-apart w K n [] [] ib h in
      let a : unused_at ib + parts_size w (last_only qs) ≤ Z = rw section at s.placed.apart in
      let t : fields_true w ib Z (last_only qs) ≡ true = rw section at s.placed.fields in
      let z : number 2 ib (Z - (pieces_size w qs + 2)) ≡ 0 = eqb-true _ _ (sym (only-fields w ib qs Z some) ∙ t) in
      record { two = omega (arith, a, only-size w qs some); zeros = rw field-place z }

  places-true : ZerosLast w n ib → places w n ib ≡ true
  unfolding places
  places-true f =
      let l : last_at ib + pieces_size w qs ≡ Z + length (last_chars qs) = had.placed.last in
      let a : unused_at ib + pieces_size w qs ≤ Z = had.placed.apart in
      let z : number 2 ib (Z - (pieces_size w qs + 2)) ≡ 0 = rw field-place at f.zeros in
      let b1 : unused_at ib + parts_size w (last_only qs) ≤ Z = omega (arith, f.two, a, only-size w qs some) in
      let b2 : last_at ib + parts_size w (last_only qs) ≡ Z + 2 + last_long (last_only qs) = omega (arith, l, only-size w qs some, only-last qs) in
      let b3 : section_at ib + ahead w (last_only qs) ≡ Z = omega (arith, l, a, had.placed.section, only-ahead w qs) in
      rw section
      (both-join _ _ (eq-eqb _ _ had.placed.unused)
      (both-join _ _ (le-leb _ _ had.placed.few)
      (both-join _ _ (le-leb _ _ b1)
      (both-join _ _ (only-closed qs some)
      (both-join _ _ (only-fields w ib qs Z some ∙ eq-eqb _ _ z) (both-join _ _ (eq-eqb _ _ b2) (eq-eqb _ _ b3)))))))

  module _ (few : length (old.read_index w n ib).entries ≤ 2) where
    few-pieces : length qs ≤ 2
    few-pieces = omega (arith, few, entries-many w K n [] [] ib sound)

    same : (fronts_in [] [] (last_only qs) ≡ true) × (spell_all [] [] (last_only qs) ≡ spell [] qs)
    same = few-same qs few-pieces had.fronts closing

    -- With one entry or two such a record means what it meant.
    old-form-same : read_index w n ib ≡ old.read_index w n ib
    unfolding read_index old.read_index
    old-form-same = rw (section, same.1)

    zeros-sound : ZerosLast w n ib → sound_index w K n [] [] ib ≡ true
    unfolding sound_index
    zeros-sound f =
        let a : spread_fine (parts_in w n ib) ≡ true = spread-is w K n [] [] ib sound ∙ le-leb (length qs) 2 few-pieces in
        let b : fronts_in [] [] (parts_in w n ib) ≡ true = rw section same.0 in
        let c : keeps_rules (length ib) K n [] [] (read_index w n ib) ≡ true = rw old-form-same had.rules in
        both-join _ _ had.framed (both-join _ _ (places-true f) (both-join _ _ a (both-join _ _ b c)))

  -- A record in the old form is sound exactly if it has no more than two entries, its unused space at least two bytes, and the last two of these are zero; with no more
  -- than two entries it means what it meant.
  pub old-form : ((sound_index w K n [] [] ib ≡ true) ↔ ((length (old.read_index w n ib).entries ≤ 2) × ZerosLast w n ib))
      × (length (old.read_index w n ib).entries ≤ 2 → read_index w n ib ≡ old.read_index w n ib)
  old-form = ((only, λ (f : (length (old.read_index w n ib).entries ≤ 2) × ZerosLast w n ib). zeros-sound f.0 f.1), old-form-same)
    where
      only : sound_index w K n [] [] ib ≡ true → (length (old.read_index w n ib).entries ≤ 2) × ZerosLast w n ib
      only h = (
        omega (arith, entries-many w K n [] [] ib sound, leb-true (length qs) 2 (sym (spread-is w K n [] [] ib sound) ∙ (sound-apart w K n [] [] ib h).spread)),
        zeros-only h,
      )

-- ---- and so of whatever the old grammar lays out

module _ (w S K n : ℕ) (m : Meaning) (ib : List ℕ) (width : 1 ≤ w) (wide : n ≤ 256 ^ w) (size : S ≤ 32768) (laid : old-layout.LaidOut w S m ib) where
  -- With three entries or more it is refused, with any legal F and any bytes in the unused space.
  pub old-laid-refused : (low end : List ℕ) → keeps_rules S K n low end m ≡ true → 3 ≤ length m.entries → sound_index w K n low end ib ≡ false
  old-laid-refused low end rules h =
      let e : length (old.read_index w n ib).entries ≡ length m.entries =
      ap (λ (x : Meaning). length x.entries) (old-reads w S K n low end m ib width wide size laid rules) in
      old-form-refused w K n low end ib (old-never-damaged w S K n low end m ib width wide size laid rules) (omega (arith, h, e))

  module _ (rules : keeps_rules S K n [] [] m ≡ true) where
    abbrev gap : List ℕ
    gap = laid.unused

    abbrev U : ℕ
    U = unused_place w m

    gap_ends : entries_from w n ib ≡ U + length gap
    gap_ends = rw (pieces-read w S K n [] [] m ib width wide size laid rules) (omega (arith, whole-read w S K n [] [] m ib width wide size laid rules))

    -- its last two bytes as a number
    two-last : 2 ≤ length gap → number 2 ib (entries_from w n ib - 2) ≡ get_or gap (length gap - 2) 0 * 256 + get_or gap (length gap - 1) 0
    two-last h =
        let a : entries_from w n ib - 2 ≡ U + (length gap - 2) = omega (arith, gap_ends) in
        let c : U + (length gap - 2) + 1 ≡ U + (length gap - 1) = omega arith in
        ap (λ (x : ℕ). number 2 ib x) a
        ∙ number-2 ib (U + (length gap - 2))
        ∙ ap (λ (x : ℕ). get_or ib (U + (length gap - 2)) 0 * 256 + get_or ib x 0) c
        ∙ ap (λ (x : ℕ). x * 256 + get_or ib (U + (length gap - 1)) 0) (gap-read w S K n [] [] m ib width wide size laid rules (length gap - 2) (omega arith))
        ∙ ap (λ (x : ℕ). get_or gap (length gap - 2) 0 * 256 + x) (gap-read w S K n [] [] m ib width wide size laid rules (length gap - 1) (omega arith))

    zeros-found : EndsInZeros gap → ZerosLast w n ib
    zeros-found z =
        record {
          two = omega (arith, z.two, gap_ends, unused-read w S K n [] [] m ib width wide size laid rules);
          zeros = two-last z.two ∙ omega (arith, z.next, z.last);
        }

    zeros-laid : ZerosLast w n ib → EndsInZeros gap
    zeros-laid z =
        let t : 2 ≤ length gap = omega (arith, z.two, gap_ends, unused-read w S K n [] [] m ib width wide size laid rules) in
        let s : get_or gap (length gap - 2) 0 * 256 + get_or gap (length gap - 1) 0 ≡ 0 = sym (two-last t) ∙ z.zeros in
        record { two = t; next = omega (arith, s); last = omega (arith, s) }

    -- In the base it is sound exactly if it has no more than two entries, and the unused space at least two bytes of which the last two are zero; with no more than two
    -- entries it means what it meant.
    pub old-laid-sound : ((sound_index w K n [] [] ib ≡ true) ↔ ((length m.entries ≤ 2) × EndsInZeros laid.unused)) × (length m.entries ≤ 2 → read_index w n ib ≡ m)
    old-laid-sound = ((only, so), means)
      where
        reads : old.read_index w n ib ≡ m
        reads = old-reads w S K n [] [] m ib width wide size laid rules

        was-sound : old.sound_index w K n [] [] ib ≡ true
        was-sound = old-never-damaged w S K n [] [] m ib width wide size laid rules

        many-same : length (old.read_index w n ib).entries ≡ length m.entries
        many-same = ap (λ (x : Meaning). length x.entries) reads

        only : sound_index w K n [] [] ib ≡ true → (length m.entries ≤ 2) × EndsInZeros laid.unused
        only h = let f = (old-form w K n ib was-sound).0.0 h in (omega (arith, f.0, many-same), zeros-laid f.1)

        so : (length m.entries ≤ 2) × EndsInZeros laid.unused → sound_index w K n [] [] ib ≡ true
        so f = (old-form w K n ib was-sound).0.1 (omega (arith, f.0, many-same), zeros-found f.1)

        means : length m.entries ≤ 2 → read_index w n ib ≡ m
        means h = (old-form w K n ib was-sound).1 (omega (arith, h, many-same)) ∙ reads

-- ---- where keys lead

-- Let the old grammar lay out a record, in any width, with any legal F and any bytes in the unused space, and the new one any record with the same entries, in any
-- sections. Then the old reading gives these entries, the new reading gives these entries, and each key leads where it led.
pub leads-unchanged : (w S K n : ℕ) (low end : List ℕ) (m : Meaning) (ib : List ℕ) → 1 ≤ w → n ≤ 256 ^ w → S ≤ 32768
    → old-layout.LaidOut w S m ib → keeps_rules S K n low end m ≡ true
    → (v T n' : ℕ) (m' : Meaning) (jb : List ℕ) → 1 ≤ v → n' ≤ 256 ^ v → T ≤ 32768 → LaidOut v T m' jb → keeps_rules T K n' low end m' ≡ true
    → m'.entries ≡ m.entries
    → ((old.read_index w n ib).entries ≡ m.entries)
    × ((read_index v n' jb).entries ≡ m.entries)
    × ((key : List ℕ) → leads_to key (read_index v n' jb).entries ≡ leads_to key (old.read_index w n ib).entries)
leads-unchanged w S K n low end m ib a b c laid rules v T n' m' jb a' b' c' new rules' e = (before, after, λ (key : List ℕ). ap (λ (es : List Entry). leads_to key es) (after ∙ sym before))
  where
    before : (old.read_index w n ib).entries ≡ m.entries
    before = ap (λ (x : Meaning). x.entries) (old-reads w S K n low end m ib a b c laid rules)

    after : (read_index v n' jb).entries ≡ m.entries
    after = ap (λ (x : Meaning). x.entries) (index_reads v T K n' low end m' jb a' b' c' new rules') ∙ e
