-- An edit of one entry, told by its lengths: what is seen of it in the interval, into which parts its records are divided, and how that is planned.
use Prim.Native.Nat.{ℕ, zero, suc, ◌+◌, ◌-◌, ◌*◌, ◌≤◌, ◌<◌}
use mathlib.Core.Path.{◌≡◌, refl, ◌∙◌, sym, ap}
use mathlib.Core.Bool.{true, false}
use mathlib.Core.List.{List, [], ◌∷◌, map}
use lib.ListN.{length, take, drop, length-map, length-drop}
use lib.Seq.{take_all, drop-drop}
use native.Mathlib.Omega.{arith}
use native.Mathlib.Nat.{mul-le-mul}
use Rattle.std.specs.Prelude.{Result, Ok}
use Rattle.fields.specs.Lists.{swap}
use Rattle.fields.proofs.Lists.{map-take, map-drop}
use Rattle.measures.specs.Judgement.{limit}
use Rattle.measures.specs.declared.Measures.{Measures}
use Rattle.measures.proofs.Fine.{fits-small}
use Rattle.room.specs.Room.{need}
use Rattle.interval.specs.Records.{lengths_fine}
use Rattle.interval.specs.Reading.{records_in}
use Rattle.interval.proofs.Lengths.{within-high}
use Rattle.interval.proofs.Readable.{records-few}
use Rattle.interval.proofs.Changed.{swap-small}
use Rattle.index.specs.Meaning.{Entry}
use Rattle.interval_edit.specs.AidChanged.{fresh_in}
use Rattle.interval_edit.specs.declared.Site.{Site}
use Rattle.division.specs.Division.{division_of, counts, parts, pieces}
use Rattle.division.specs.Fewest.{AllHeld}
use Rattle.division.specs.declared.Division.{Division}
use Rattle.division.specs.declared.Division.TheVariants.{Stays, Two, Three}
use Rattle.division.proofs.Answers.{is-stays, is-two, two-fit}
use Rattle.division.proofs.Spreads.{pieces-2}
use Rattle.division.proofs.Intervals.{held-need}
use Rattle.area.specs.Content.{Filled, Content, data_in, fill, entries_of}
use Rattle.area.specs.Reading.{read_area, whole}
use Rattle.area.proofs.Filled.{length-fill}
use Rattle.area.proofs.Sounding.{sound-apart, sound-filled, same-content}
use Rattle.area.proofs.Places.{data-ends}
use Rattle.area_find.proofs.Readables.{readable}
use Rattle.change.specs.declared.Full.{Full}
use Rattle.change.specs.Parts.{Edit, entry_at, edited, divided, taken}
use Rattle.change.specs.Plan.{Plan}
use Rattle.change.proofs.Parting.{CutsFilled, stays-parting}
use Rattle.change.proofs.Planning.{make-stores}
use Rattle.change.proofs.Fitted.{edited-between, edited-parting}
use Rattle.change_plan.specs.AidEdited.{edit_at, edited_records, Told, Seen}
use Rattle.change_plan.specs.AidParts.{stretch, parts_at, CutInside}
use Rattle.change_plan.specs.AidPlanned.{spread_for, planned_as, PlannedAs, PlannedDivided}
use Rattle.change_plan.specs.declared.Parts.{Parts}
use Rattle.change_plan.specs.declared.Spread.{Spread}

-- ---- an entry holds what its interval holds

fill-at : (m : Measures) (area : List ℕ) (es : List Entry) (i : ℕ) → i < length es
    → (entry_at (fill m area es) i).records ≡ records_in (data_in m area (entry_at (fill m area es) i).num)
fill-at m area [] i h = absurd (omega arith)
fill-at m area (e ∷ es) zero h = refl
fill-at m area (e ∷ es) (suc i) h = fill-at m area es i (omega arith)

pub entry-holds : (m : Measures) (n : ℕ) (area : List ℕ) (c : Content) → read_area m n area ≡ whole c → (i : ℕ) → i < length c.filled
    → (entry_at c.filled i).records ≡ records_in (data_in m area (entry_at c.filled i).num)
entry-holds m n area c w i h =
    let f = sound-filled m n area c (sound-apart m n area c w) in
    let l = ap length f ∙ length-fill m area (entries_of c.filled) in
    ap (λ (fs : List Filled). (entry_at fs i).records) f
    ∙ fill-at m area (entries_of c.filled) i (omega (arith, l))
    ∙ ap (λ (fs : List Filled). records_in (data_in m area (entry_at fs i).num)) (sym f)

-- ---- stretches

-- The lengths of a stretch are the stretch of the lengths.
stretch-lengths : (a b : ℕ) (rs : List (List ℕ)) → map length (stretch a b rs) ≡ stretch a b (map length rs)
stretch-lengths a b rs = map-take length (b - a) (drop a rs) ∙ ap (take (b - a)) (map-drop length a rs)

take-some : {A : Type 0} (k : ℕ) (xs : List A) → 0 < length (take k xs) → 0 < k
take-some zero xs h = absurd (omega arith)
take-some (suc k) xs h = omega arith

pieces-at : {A : Type 0} (at : ℕ) (xs : List A) → pieces (at ∷ 1 ∷ (length xs - (at + 1)) ∷ []) xs ≡ parts_at true at (at + 1) xs
unfolding pieces
pieces-at at xs =
    let z : at + 1 - at ≡ 1 = omega arith in
    rw (z, drop-drop 1 at xs, take_all (length xs - (at + 1)) (drop (at + 1) xs) (omega (arith, length-drop (at + 1) xs)))

-- a record that comes in is small
fresh-small : (m : Measures) (new : List ℕ) → lengths_fine m (fresh_in new) ≡ true → m.most ≤ 32768 → length new ≤ 32768
fresh-small m [] f h = omega arith
fresh-small m (b ∷ bs) f h = omega (arith, within-high m.least m.most (length (b ∷ bs)) [] f, h)

-- A division that is neither the first nor the second is the third.
pub is-three : (d : Division) → (d ≡ Stays → ⊥) → ((k : ℕ) → d ≡ Two k → ⊥) → d ≡ Three
is-three Stays h g = absurd (h refl)
is-three (Two k) h g = absurd (g k refl)
is-three Three h g = refl

-- ---- the edit

abbrev pub two_at : ℕ → Parts
two_at k = record { many = 2; first = k; second = k }

abbrev pub three_at : ℕ → Parts
three_at k = record { many = 3; first = k; second = k + 1 }

-- the plan of one part
abbrev pub one_spread : Site → ℕ → Spread
one_spread site k = record { site = site; parts = record { many = 1; first = k; second = k }; a = 0; b = 0; index = 0 }

module _ (m : Measures) (n : ℕ) (area : List ℕ) (site : Site) (new lens : List ℕ) (t : Told m n area site new lens) where
  abbrev e : Edit
  e = edit_at site (fresh_in new)

  abbrev c : Content
  c = t.edits.entered.content

  abbrev ci : List ℕ
  ci = data_in m area site.number

  abbrev rs : List (List ℕ)
  rs = edited_records m area site new

  holds : (entry_at c.filled site.entry).records ≡ records_in ci
  holds =
      entry-holds m n area c t.edits.entered.reads site.entry t.edits.entered.there
      ∙ ap (λ (k : ℕ). records_in (data_in m area k)) (sym t.edits.entered.is)

  pub edited-is : edited c.filled e ≡ rs
  edited-is = ap (swap site.ordinal site.gone (fresh_in new)) holds

  lens-edited : lens ≡ map length (edited c.filled e)
  lens-edited = t.lens-are ∙ ap (λ (xs : List (List ℕ)). map length xs) (sym edited-is)

  pub many-told : length lens ≡ length rs
  many-told = ap length t.lens-are ∙ length-map rs length

  -- What is seen of it in the interval.
  pub told-seen : Seen m area site new lens
  told-seen =
      let o = t.edits.entered.fits in
      let r = readable m n area o (record { content = c; reads = t.edits.entered.reads }) site.number t.edits.entered.within in
      let i : site.ordinal + site.gone ≤ length (records_in ci) = rw (← holds) t.edits.fitting.proper.inside in
      let k : n + 1 ≤ limit + 1 = omega (arith, o.few) in
      let s : (n + 1) * m.size ≤ (limit + 1) * 32768 = mul-le-mul k (fits-small o) in
      record {
        there = data-ends m n area o site.number t.edits.entered.within;
        readable = r;
        goes = rw (← holds) (record { starts = t.edits.starts; inside = t.edits.fitting.proper.inside; takes = t.edits.takes });
        lens-are = t.lens-are;
        fine = rw lens-edited (edited-between m n area c e t.edits.fitting).lengths;
        keyed = o.key-inside;
        key-most = o.key-most;
        few = omega (arith, many-told, swap-small site.ordinal site.gone (fresh_in new) (records_in ci) (omega (arith, i)), few-fresh new, records-few m ci r, r.small);
        new-small = fresh-small m new t.edits.fitting.proper.lengths (omega (arith, o.most-inside, fits-small o));
        area_small = omega (arith, o.bytes, s);
      }
    where
      few-fresh : (xs : List ℕ) → length (fresh_in xs) ≤ 1
      few-fresh [] = omega arith
      few-fresh (x ∷ xs) = omega arith

  -- ---- the prescribed parts

  by_lengths : division_of m.size (map length (edited c.filled e)) ≡ division_of m.size lens
  by_lengths = ap (division_of m.size) (sym lens-edited)

  pub parts_stay : division_of m.size lens ≡ Stays → divided m c.filled e ≡ rs ∷ []
  unfolding divided
  parts_stay d = stays-parting m.size (edited c.filled e) e.ordinal (by_lengths ∙ d) ∙ ap (λ (xs : List (List ℕ)). xs ∷ []) edited-is

  pub parts-two : (k : ℕ) → division_of m.size lens ≡ Two k → divided m c.filled e ≡ parts_at false k k rs
  unfolding divided parts counts
  parts-two k d = rw (by_lengths ∙ d, length-map (edited c.filled e) (length {A = ℕ}), ← edited-is) (pieces-2 (edited c.filled e) k)

  pub parts-three : division_of m.size lens ≡ Three → divided m c.filled e ≡ parts_at true site.ordinal (site.ordinal + 1) rs
  unfolding divided parts counts
  parts-three d = rw (by_lengths ∙ d, length-map (edited c.filled e) (length {A = ℕ}), ← edited-is) (pieces-at e.ordinal (edited c.filled e))

  -- ---- they lie between records, and fit their intervals

  pub two-inside : (k : ℕ) → division_of m.size lens ≡ Two k → CutInside (two_at k) (length lens)
  two-inside k d =
      let b = (is-two m.size lens k d).1 in
      record { two = omega arith; three = omega arith; some = b.some; one = λ (z : ◌≡◌ {A = ℕ} 2 2). refl; order = omega arith; inside = b.below }

  three-filled : division_of m.size lens ≡ Three → (0 < site.ordinal) × (site.ordinal + 1 < length lens)
  three-filled d =
      let f : CutsFilled (parts_at true site.ordinal (site.ordinal + 1) rs) = rw (parts-three d) at (edited-parting m n area c e t.edits.fitting).filled in
      (take-some site.ordinal rs f.0, omega (arith, f.2.1, length-drop (site.ordinal + 1) rs, many-told))

  pub three-inside : division_of m.size lens ≡ Three → CutInside (three_at site.ordinal) (length lens)
  three-inside d =
      let f = three-filled d in
      record { two = omega arith; three = omega arith; some = f.0; one = λ (z : ◌≡◌ {A = ℕ} 3 2). absurd (omega arith); order = omega arith; inside = f.1 }

  pub stays-fits : division_of m.size lens ≡ Stays → need lens ≤ m.size
  stays-fits d = is-stays m.size lens d

  pub two_fits : (k : ℕ) → division_of m.size lens ≡ Two k → (need (take k lens) ≤ m.size) × (need (drop k lens) ≤ m.size)
  two_fits k d = two-fit m.size lens k d

  pub three-fits : division_of m.size lens ≡ Three
      → (need (take site.ordinal lens) ≤ m.size) × (need (stretch site.ordinal (site.ordinal + 1) lens) ≤ m.size) × (need (drop (site.ordinal + 1) lens) ≤ m.size)
  three-fits d =
      let at : ℕ = site.ordinal in
      let h : AllHeld m.size (parts_at true at (at + 1) rs) = rw (parts-three d) at (edited-parting m n area c e t.edits.fitting).held in
      let x : need (take at (map length rs)) ≤ m.size = rw (map-take length at rs) at (held-need m.size (take at rs) h.0) in
      let y : need (stretch at (at + 1) (map length rs)) ≤ m.size = rw (stretch-lengths at (at + 1) rs) at (held-need m.size (stretch at (at + 1) rs) h.1.0) in
      let z : need (drop (at + 1) (map length rs)) ≤ m.size = rw (map-drop length (at + 1) rs) at (held-need m.size (drop (at + 1) rs) h.1.1.0) in
      rw t.lens-are (x, y, z)

  -- ---- how it is planned

  same : (d : Content) → read_area m n area ≡ whole d → d ≡ c
  same d w = same-content m n area d c w t.edits.entered.reads

  pub planned-stays : division_of m.size lens ≡ Stays → PlannedAs m n area site e (Ok (one_spread site (length lens)))
  unfolding taken
  planned-stays d k w =
      let q : divided m k.filled e ≡ rs ∷ [] = rw (same k w) (parts_stay d) in
      let l : length (divided m k.filled e) ≡ 1 = ap length q in
      let p = make-stores m k e (omega (arith, l), λ (g : 1 < length (divided m k.filled e)). absurd (omega (arith, l))) in
      sym (ap (λ (x : Plan). planned_as x (spread_for m k site e)) p ∙ ap Ok (one-part k q))
    where
      one-part : (k : Content) → divided m k.filled e ≡ rs ∷ [] → spread_for m k site e ≡ one_spread site (length lens)
      one-part k q = rw (q, many-told) refl

  pub planned-two : (k : ℕ) → division_of m.size lens ≡ Two k → (r : Result Spread Full) → PlannedDivided m n area site rs (two_at k) r → PlannedAs m n area site e r
  planned-two k d r p x w = p x e w refl (rw (same x w) (parts-two k d))

  pub planned-three : division_of m.size lens ≡ Three → (r : Result Spread Full) → PlannedDivided m n area site rs (three_at site.ordinal) r → PlannedAs m n area site e r
  planned-three d r p x w = p x e w refl (rw (same x w) (parts-three d))
