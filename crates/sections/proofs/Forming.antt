-- The writer's form with sections: its parts spell the entries, their F are legal, its sections are closed and spread as they must be, and the whole is laid
-- out as the grammar says.
use Prim.Native.Nat.{ℕ, ◌-◌, ◌≤◌, ◌<◌}
use mathlib.Core.Path.{◌≡◌, refl, ◌∙◌}
use mathlib.Core.Bool.{Bool, true, false}
use mathlib.Core.List.{List, [], ◌∷◌}
use lib.ListN.{length, drop, replicate, length-replicate, length-drop}
use lib.Dec.{leb}
use native.Mathlib.Omega.{arith}
use borrow.Author.Tests.{leb-true, leb-false, le-leb, lt-leb, lt-ltb}
use Rattle.fields.specs.Choice.{pick}
use Rattle.fields.specs.Order.{common}
use Rattle.fields.specs.Lists.{every}
use Rattle.fields.proofs.Choices.{both-split, false-true}
use Rattle.fields.proofs.Fronts.{common-left, common-right}
use Rattle.index.specs.Bounds.{bound}
use Rattle.index.specs.Meaning.{Entry, Meaning}
use Rattle.index.specs.Rules.{rises}
use Rattle.index.specs.Pieces.{one_byte_each}
use Rattle.index.specs.Form.{pack}
use Rattle.index.proofs.Compressing.{spelt-pack}
use Rattle.index.proofs.Keeping.{separator-short, rises-apart}
use Rattle.sections.specs.Parts.{Part, spell_all, fronts_in, sections_in, ends_closed, spread_fine}
use Rattle.sections.specs.Layout.{record_length, pieces_of, LaidOut}
use Rattle.sections.specs.Form.{section_for, packed_in, packed_all, index_size, index_bytes}
use Rattle.sections.proofs.Roots.{root-some, root_below}
use Rattle.sections.proofs.Sizes.{length-layout}

-- the writer's part for an entry: the highest of a section, and any other
abbrev pub top : List ℕ → Entry → Part
top high e = record { piece = pack high e.sep e.num; closes = true }

abbrev pub inner : List ℕ → Entry → Part
inner ref e = record { piece = pack ref e.sep e.num; closes = false }

-- what follows them
abbrev past_top : ℕ → Entry → List Entry → List Part
past_top c e es = packed_in c c e.sep e.sep es

abbrev past-inner : ℕ → ℕ → List ℕ → Entry → List Entry → List Part
past-inner c left high e es = packed_in c (left - 1) high e.sep es

-- ---- one part more

spells-top : (high ref : List ℕ) (e : Entry) (ps : List Part) (es : List Entry)
    → spell_all e.sep e.sep ps ≡ es → spell_all high ref (top high e ∷ ps) ≡ e ∷ es
unfolding spell_all
spells-top high ref e ps es i = rw (spelt-pack high e.sep e.num, i)

spells-inner : (high ref : List ℕ) (e : Entry) (ps : List Part) (es : List Entry)
    → spell_all high e.sep ps ≡ es → spell_all high ref (inner ref e ∷ ps) ≡ e ∷ es
unfolding spell_all
spells-inner high ref e ps es i = rw (spelt-pack ref e.sep e.num, i)

fits-top : (high ref : List ℕ) (e : Entry) (ps : List Part) → fronts_in e.sep e.sep ps ≡ true → fronts_in high ref (top high e ∷ ps) ≡ true
unfolding fronts_in
fits-top high ref e ps i =
    rw (le-leb (common high e.sep) (length high) (common-left high e.sep), spelt-pack high e.sep e.num, i)

fits-inner : (high ref : List ℕ) (e : Entry) (ps : List Part) → fronts_in high e.sep ps ≡ true → fronts_in high ref (inner ref e ∷ ps) ≡ true
unfolding fronts_in
fits-inner high ref e ps i =
    rw (le-leb (common ref e.sep) (length ref) (common-left ref e.sep), spelt-pack ref e.sep e.num, i)

ends_more : (p : Part) (ps : List Part) → ends_closed ps ≡ true → ends_closed (p ∷ ps) ≡ true
unfolding ends_closed
ends_more p [] h = absurd (false-true h)
ends_more p (q ∷ ps) h = h

-- ---- what the writer's parts are

-- They spell the entries that they were made from.
pub packed-spells : (c left : ℕ) (high ref : List ℕ) (es : List Entry) → spell_all high ref (packed_in c left high ref es) ≡ es
unfolding packed_in
packed-spells c left high ref [] = unfold spell_all in refl
packed-spells c left high ref (e ∷ []) = spells-top high ref e [] [] (unfold spell_all in refl)
packed-spells c left high ref (e ∷ f ∷ es) =
    go (leb left 1) (packed-spells c c e.sep e.sep (f ∷ es)) (packed-spells c (left - 1) high e.sep (f ∷ es))
  where
    go : (t : Bool) → spell_all e.sep e.sep (past_top c e (f ∷ es)) ≡ f ∷ es → spell_all high e.sep (past-inner c left high e (f ∷ es)) ≡ f ∷ es
        → spell_all high ref (pick t (top high e ∷ (past_top c e (f ∷ es))) (inner ref e ∷ (past-inner c left high e (f ∷ es)))) ≡ e ∷ f ∷ es
    go true i j = spells-top high ref e (past_top c e (f ∷ es)) (f ∷ es) i
    go false i j = spells-inner high ref e (past-inner c left high e (f ∷ es)) (f ∷ es) j

-- Their F are legal.
pub packed-fits : (c left : ℕ) (high ref : List ℕ) (es : List Entry) → fronts_in high ref (packed_in c left high ref es) ≡ true
unfolding packed_in
packed-fits c left high ref [] = unfold fronts_in in refl
packed-fits c left high ref (e ∷ []) = fits-top high ref e [] (unfold fronts_in in refl)
packed-fits c left high ref (e ∷ f ∷ es) =
    go (leb left 1) (packed-fits c c e.sep e.sep (f ∷ es)) (packed-fits c (left - 1) high e.sep (f ∷ es))
  where
    go : (t : Bool) → fronts_in e.sep e.sep (past_top c e (f ∷ es)) ≡ true → fronts_in high e.sep (past-inner c left high e (f ∷ es)) ≡ true
        → fronts_in high ref (pick t (top high e ∷ (past_top c e (f ∷ es))) (inner ref e ∷ (past-inner c left high e (f ∷ es)))) ≡ true
    go true i j = fits-top high ref e (past_top c e (f ∷ es)) i
    go false i j = fits-inner high ref e (past-inner c left high e (f ∷ es)) j

-- The last entry closes a section.
pub packed-closed : (c left : ℕ) (high ref : List ℕ) (es : List Entry) → 1 ≤ length es → ends_closed (packed_in c left high ref es) ≡ true
unfolding packed_in
packed-closed c left high ref [] h = absurd (omega arith)
packed-closed c left high ref (e ∷ []) h = unfold ends_closed in refl
packed-closed c left high ref (e ∷ f ∷ es) h =
    go (leb left 1) (packed-closed c c e.sep e.sep (f ∷ es) (omega arith)) (packed-closed c (left - 1) high e.sep (f ∷ es) (omega arith))
  where
    go : (t : Bool) → ends_closed (past_top c e (f ∷ es)) ≡ true → ends_closed (past-inner c left high e (f ∷ es)) ≡ true
        → ends_closed (pick t (top high e ∷ (past_top c e (f ∷ es))) (inner ref e ∷ (past-inner c left high e (f ∷ es)))) ≡ true
    go true i j = ends_more (top high e) (past_top c e (f ∷ es)) i
    go false i j = ends_more (inner ref e) (past-inner c left high e (f ∷ es)) j

-- There are as many as entries.
pub packed-length : (c left : ℕ) (high ref : List ℕ) (es : List Entry) → length (packed_in c left high ref es) ≡ length es
unfolding packed_in
packed-length c left high ref [] = refl
packed-length c left high ref (e ∷ []) = refl
packed-length c left high ref (e ∷ f ∷ es) =
    go (leb left 1) (packed-length c c e.sep e.sep (f ∷ es)) (packed-length c (left - 1) high e.sep (f ∷ es))
  where
    go : (t : Bool) → length (past_top c e (f ∷ es)) ≡ length (f ∷ es) → length (past-inner c left high e (f ∷ es)) ≡ length (f ∷ es)
        → length (pick t (top high e ∷ (past_top c e (f ∷ es))) (inner ref e ∷ (past-inner c left high e (f ∷ es)))) ≡ length (e ∷ f ∷ es)
    go true i j = omega arith
    go false i j = omega arith

-- ---- how many sections there are

-- some, where there are entries
pub packed-some : (c left : ℕ) (high ref : List ℕ) (es : List Entry) → 1 ≤ length es → 1 ≤ sections_in (packed_in c left high ref es)
unfolding packed_in sections_in
packed-some c left high ref [] h = absurd (omega arith)
packed-some c left high ref (e ∷ []) h = omega arith
packed-some c left high ref (e ∷ f ∷ es) h =
    go (leb left 1) (packed-some c (left - 1) high e.sep (f ∷ es) (omega arith))
  where
    go : (t : Bool) → 1 ≤ sections_in (past-inner c left high e (f ∷ es))
        → 1 ≤ sections_in (pick t (top high e ∷ (past_top c e (f ∷ es))) (inner ref e ∷ (past-inner c left high e (f ∷ es))))
    go true j = omega arith
    go false j = omega arith

-- two at least, where the open one does not take them all
pub packed-two : (c left : ℕ) (high ref : List ℕ) (es : List Entry) → 1 ≤ left → left < length es → 2 ≤ sections_in (packed_in c left high ref es)
unfolding packed_in sections_in
packed-two c left high ref [] s h = absurd (omega arith)
packed-two c left high ref (e ∷ []) s h = absurd (omega arith)
packed-two c left high ref (e ∷ f ∷ es) s h =
    go (leb left 1) refl (packed-some c c e.sep e.sep (f ∷ es) (omega arith)) (packed-two c (left - 1) high e.sep (f ∷ es))
  where
    go : (t : Bool) → leb left 1 ≡ t → 1 ≤ sections_in (past_top c e (f ∷ es)) → (1 ≤ left - 1 → left - 1 < length (f ∷ es) → 2 ≤ sections_in (past-inner c left high e (f ∷ es)))
        → 2 ≤ sections_in (pick t (top high e ∷ (past_top c e (f ∷ es))) (inner ref e ∷ (past-inner c left high e (f ∷ es))))
    go true q i j = omega arith
    go false q i j =
        let l : 1 < left = leb-false left 1 q in
        let k : 2 ≤ sections_in (past-inner c left high e (f ∷ es)) = j (omega arith) (omega arith) in
        omega arith

-- A single section only where there are at most two entries.
pub packed-spread : (es : List Entry) → spread_fine (packed_all es) ≡ true
packed-spread es = go (leb (length es) 2) refl
  where
    many : length (packed_all es) ≡ length es
    many = packed-length (section_for (length es)) (section_for (length es)) [] [] es

    few : (t : Bool) → leb (length (packed_all es)) 2 ≡ true → pick t (leb (length (packed_all es)) 2) true ≡ true
    few true h = h
    few false h = refl

    go : (t : Bool) → leb (length es) 2 ≡ t → spread_fine (packed_all es) ≡ true
    go true q = few (leb (sections_in (packed_all es)) 1) (rw many q)
    go false q =
        let c : ℕ = section_for (length es) in
        let l : 2 < length es = leb-false (length es) 2 q in
        let b : c < length es = root_below (length es) (omega arith) in
        rw (lt-leb (sections_in (packed_all es)) 1 (omega (arith, packed-two c c [] [] es (root-some (length es)) b)))

-- ---- F and L are one byte each

-- every separator has at most 255 bytes
abbrev pub short_all : List Entry → Bool
short_all es = every (λ (e : Entry). leb (length e.sep) 255) es

-- as it is with keys of at most 255 bytes
pub rises-short : (K : ℕ) (low : List ℕ) (es : List Entry) → K ≤ 255 → rises K low es ≡ true → short_all es ≡ true
unfolding every
rises-short K low [] h r = refl
rises-short K low (e ∷ es) h r =
    let a = rises-apart K low e es r in
    let s : length e.sep ≤ 255 = omega (arith, separator-short K e.sep a.0) in
    rw (le-leb (length e.sep) 255 s, rises-short K (bound K e.sep) es h a.2)

-- either part of an entry, and more of them
small-more : (ref : List ℕ) (e : Entry) (t : Bool) (ps : List Part) → length e.sep ≤ 255 → one_byte_each (pieces_of ps) ≡ true
    → one_byte_each (pieces_of (record { piece = pack ref e.sep e.num; closes = t } ∷ ps)) ≡ true
unfolding every
small-more ref e t ps s i =
    let f : common ref e.sep < 256 = omega (arith, common-right ref e.sep) in
    let l : length (drop (common ref e.sep) e.sep) < 256 = omega (arith, length-drop (common ref e.sep) e.sep) in
    rw (lt-ltb _ _ f, lt-ltb _ _ l, i)

pub packed-small : (c left : ℕ) (high ref : List ℕ) (es : List Entry) → short_all es ≡ true → one_byte_each (pieces_of (packed_in c left high ref es)) ≡ true
unfolding packed_in every
packed-small c left high ref [] h = refl
packed-small c left high ref (e ∷ []) h =
    let s = both-split (leb (length e.sep) 255) (short_all []) h in
    small-more high e true [] (leb-true (length e.sep) 255 s.0) refl
packed-small c left high ref (e ∷ f ∷ es) h =
    let s = both-split (leb (length e.sep) 255) (short_all (f ∷ es)) h in
    go (leb left 1) (leb-true (length e.sep) 255 s.0) (packed-small c c e.sep e.sep (f ∷ es) s.1)
    (packed-small c (left - 1) high e.sep (f ∷ es) s.1)
  where
    go : (t : Bool) → length e.sep ≤ 255 → one_byte_each (pieces_of (past_top c e (f ∷ es))) ≡ true
        → one_byte_each (pieces_of (past-inner c left high e (f ∷ es))) ≡ true
        → one_byte_each (pieces_of (pick t (top high e ∷ past_top c e (f ∷ es)) (inner ref e ∷ past-inner c left high e (f ∷ es)))) ≡ true
    go true l i j = small-more high e true (past_top c e (f ∷ es)) l i
    go false l i j = small-more ref e false (past-inner c left high e (f ∷ es)) l j

-- ---- all of the writer's parts

pub all-spells : (es : List Entry) → spell_all [] [] (packed_all es) ≡ es
all-spells es = packed-spells (section_for (length es)) (section_for (length es)) [] [] es

pub all-fits : (es : List Entry) → fronts_in [] [] (packed_all es) ≡ true
all-fits es = packed-fits (section_for (length es)) (section_for (length es)) [] [] es

pub all_closed : (es : List Entry) → 1 ≤ length es → ends_closed (packed_all es) ≡ true
all_closed es h = packed-closed (section_for (length es)) (section_for (length es)) [] [] es h

pub all-length : (es : List Entry) → length (packed_all es) ≡ length es
all-length es = packed-length (section_for (length es)) (section_for (length es)) [] [] es

pub all_small : (es : List Entry) → short_all es ≡ true → one_byte_each (pieces_of (packed_all es)) ≡ true
all_small es h = packed-small (section_for (length es)) (section_for (length es)) [] [] es h

-- ---- the whole record

module _ (w S : ℕ) (m : Meaning) (room : index_size w m ≤ S - 7) where
  -- the zeros between
  abbrev pub zeros : List ℕ
  zeros = replicate (S - 7 - index_size w m) 0

  -- the record's length is S - 7
  pub form-record : record_length w m zeros (packed_all m.entries) ≡ S - 7
  unfolding index_size
  form-record = omega (arith, room, length-replicate {A = ℕ} (S - 7 - index_size w m) 0)

  module _ (twelve : length m.kept ≡ 12) where
    -- The writer's form has exactly S bytes.
    pub form-length : length (index_bytes w S m) ≡ S
    unfolding index_bytes index_size
    form-length = length-layout w m zeros (packed_all m.entries) twelve ∙ omega (arith, room, form-record)

    -- The writer's form is laid out as the grammar says: the longest F is legal, zeros are bytes like any others.
    pub form-laid-out : 1 ≤ length m.entries → short_all m.entries ≡ true → LaidOut w S m (index_bytes w S m)
    unfolding index_bytes
    form-laid-out some short =
        record {
          parts = packed_all m.entries;
          unused = zeros;
          twelve = twelve;
          closed = all_closed m.entries some;
          spread = packed-spread m.entries;
          fits = all-fits m.entries;
          small = all_small m.entries short;
          spells = all-spells m.entries;
          bytes = refl;
          size = form-length;
        }
