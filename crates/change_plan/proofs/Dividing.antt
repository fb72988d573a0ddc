-- The parts of a division: their cuts' separators, how many they are, and the index record that they ask for.
use Prim.Native.Nat.{ℕ, ◌+◌, ◌-◌, ◌≤◌, ◌<◌}
use mathlib.Core.Path.{◌≡◌, refl, ◌∙◌, sym, ap}
use mathlib.Core.Bool.{Bool, true, false}
use mathlib.Core.List.{List, [], ◌∷◌, map}
use lib.ListN.{length, get_or, take, drop, length-drop}
use lib.Seq.{length-take-le, take_all, get_or-take, get_or-drop}
use lib.Dec.{ltb}
use native.Mathlib.Omega.{arith}
use borrow.Author.Tests.{eqb-true, eqb-false, ltb-true, ltb-false}
use Rattle.fields.specs.Choice.{pick}
use Rattle.measures.specs.Judgement.{Fits, width_for}
use Rattle.measures.specs.declared.Measures.{Measures}
use Rattle.measures.proofs.Fine.{fits-small, fits-large}
use Rattle.index.specs.Meaning.{Meaning}
use Rattle.sections.specs.Form.{index_size}
use Rattle.sections.specs.Reading.{read_index}
use Rattle.index.specs.Divided.{cuts, divided_at}
use Rattle.sections.specs.Divided.{new_meaning}
use Rattle.index.specs.Cuts.{last_of, first_of, separators}
use Rattle.index_write.specs.AidDivided.{Divisible}
use Rattle.division.specs.Division.{counts, division_of, parts, pieces}
use Rattle.division.specs.declared.Division.{Division}
use Rattle.division.specs.declared.Division.TheVariants.{Stays, Two, Three}
use Rattle.area.specs.Content.{Filled, Content, meaning_of, width_in}
use Rattle.area.specs.Reading.{read_area, whole}
use Rattle.area.proofs.Sounding.{Sound, sound-apart, sound-reads, sound-rules}
use Rattle.area.proofs.Filled.{length-entries}
use Rattle.area.proofs.Widths.{width-named}
use Rattle.change.specs.Parts.{Edit, edited, divided}
use Rattle.change.specs.Plan.{index_after}
use Rattle.change_plan.specs.AidEdited.{Entered}
use Rattle.change_plan.specs.AidParts.{stretch, parts_at, three_of, CutInside, separator_at}
use Rattle.change_plan.specs.AidPlanned.{EnoughFree}
use Rattle.change_plan.specs.declared.Parts.{Parts}

-- ---- the cuts

-- the records on both sides of a cut
last-take : (rs : List (List ℕ)) (k : ℕ) → 0 < k → k ≤ length rs → last_of (take k rs) ≡ get_or rs (k - 1) []
last-take rs k p h = rw (length-take-le k rs h) (get_or-take k rs (k - 1) [] (omega arith))

first-drop : (rs : List (List ℕ)) (k : ℕ) → first_of (drop k rs) ≡ get_or rs k []
first-drop rs k =
    let z : k + 0 ≡ k = omega arith in
    get_or-drop k rs 0 [] ∙ rw z

last-stretch : (rs : List (List ℕ)) (a b : ℕ) → a < b → b ≤ length rs → last_of (stretch a b rs) ≡ get_or rs (b - 1) []
last-stretch rs a b p h =
    let l : length (take (b - a) (drop a rs)) ≡ b - a = length-take-le (b - a) (drop a rs) (simp length-drop (omega arith)) in
    let z : a + (b - a - 1) ≡ b - 1 = omega arith in
    rw l (get_or-take (b - a) (drop a rs) (b - a - 1) [] (omega arith) ∙ get_or-drop a rs (b - a - 1) [] ∙ rw z)

first-stretch : (rs : List (List ℕ)) (a b : ℕ) → a < b → first_of (stretch a b rs) ≡ get_or rs a []
first-stretch rs a b p = get_or-take (b - a) (drop a rs) 0 [] (omega arith) ∙ first-drop rs a

two-cuts : (m : Measures) (rs : List (List ℕ)) (k : ℕ) → 0 < k → k < length rs → separators m (take k rs ∷ drop k rs ∷ []) ≡ separator_at m rs k ∷ []
unfolding separators
two-cuts m rs k p h = rw (last-take rs k p (omega arith), first-drop rs k)

three-cuts : (m : Measures) (rs : List (List ℕ)) (a b : ℕ) → 0 < a → a < b → b < length rs
    → separators m (take a rs ∷ stretch a b rs ∷ drop b rs ∷ []) ≡ separator_at m rs a ∷ separator_at m rs b ∷ []
unfolding separators
three-cuts m rs a b p q h =
    rw (last-take rs a p (omega arith), first-stretch rs a b q, last-stretch rs a b q (omega arith), first-drop rs b)

-- Where the middle one of three parts is empty, so is the last.
pieces-middle : (d : Division) (n at : ℕ) (rs p r : List (List ℕ)) → pieces (counts d n at) rs ≡ p ∷ [] ∷ r ∷ [] → r ≡ []
unfolding counts pieces
pieces-middle Stays n at rs p r h = absurd (omega (arith, ap length h))
pieces-middle (Two k) n at rs p r h = absurd (omega (arith, ap length h))
pieces-middle Three n at rs p r h =
    let a : take 1 (drop at rs) ≡ [] = cc in
    let b : take (n - (at + 1)) (drop 1 (drop at rs)) ≡ r = cc in
    go (drop at rs) a b
  where
    go : (xs : List (List ℕ)) → take 1 xs ≡ [] → take (n - (at + 1)) (drop 1 xs) ≡ r → r ≡ []
    go [] a b = sym b ∙ take_all (n - (at + 1)) [] (omega arith)
    go (x ∷ xs) a b = absurd (omega (arith, ap length a))

divided-middle : (m : Measures) (filled : List Filled) (e : Edit) (p r : List (List ℕ)) → divided m filled e ≡ p ∷ [] ∷ r ∷ [] → r ≡ []
unfolding divided parts
divided-middle m filled e p r h =
    pieces-middle (division_of m.size (map length (edited filled e))) (length (map length (edited filled e))) e.ordinal (edited filled e) p r h

-- How many parts there are, one more than cuts.
pub many-three : (p : Parts) (k : ℕ) → CutInside p k → p.many ≡ pick {A = ℕ} (three_of p) 2 1 + 1
many-three p k i = go (three_of p) refl
  where
    go : (t : Bool) → three_of p ≡ t → p.many ≡ pick {A = ℕ} t 2 1 + 1
    go true e = eqb-true p.many 3 e
    go false e = omega (arith, eqb-false p.many 3 e, i.two, i.three)

parts-many : (three : Bool) (first second : ℕ) (rs : List (List ℕ)) → length (parts_at three first second rs) ≡ pick {A = ℕ} three 2 1 + 1
parts-many true first second rs = refl
parts-many false first second rs = refl

cuts-many : (three : Bool) (s t : List ℕ) → length (cuts three s t) ≡ pick {A = ℕ} three 2 1
cuts-many true s t = refl
cuts-many false s t = refl

-- Records of so many are divided there: an edit of a content makes these parts.
module _ (m : Measures) (rs : List (List ℕ)) (p : Parts) (i : CutInside p (length rs)) (fs : List Filled) (e : Edit)
    (parted : divided m fs e ≡ parts_at (three_of p) p.first p.second rs) where
  pub divided-many : length (divided m fs e) ≡ p.many
  divided-many = ap length parted ∙ parts-many (three_of p) p.first p.second rs ∙ sym (many-three p (length rs) i)

  -- The separators of the prescribed parts are those of the cuts.
  pub cuts_are : separators m (divided m fs e) ≡ cuts (three_of p) (separator_at m rs p.first) (separator_at m rs p.second)
  cuts_are = ap (separators m) parted ∙ go (three_of p) parted
    where
      apart : (t : Bool) → ltb p.first p.second ≡ t → divided m fs e ≡ take p.first rs ∷ stretch p.first p.second rs ∷ drop p.second rs ∷ [] → p.first < p.second
      apart true q h = ltb-true p.first p.second q
      apart false q h =
          let z : p.second - p.first ≡ 0 = omega (arith, ltb-false p.first p.second q) in
          let d : stretch p.first p.second rs ≡ [] = rw z in
          let n : drop p.second rs ≡ [] = divided-middle m fs e (take p.first rs) (drop p.second rs) (h ∙ rw d) in
          absurd (omega (arith, ap length n, length-drop p.second rs, i.inside))

      go : (t : Bool) → divided m fs e ≡ parts_at t p.first p.second rs
          → separators m (parts_at t p.first p.second rs) ≡ cuts t (separator_at m rs p.first) (separator_at m rs p.second)
      go true h = three-cuts m rs p.first p.second i.some (apart (ltb p.first p.second) refl h) i.inside
      go false h = two-cuts m rs p.first i.some (omega (arith, i.order, i.inside))

-- ---- the index record

-- The new meaning of the record is the one that the plan asks for, and so is its size.
module _ (m : Measures) (n : ℕ) (area : List ℕ) (c : Content) (r : read_area m n area ≡ whole c) (e : Edit) (entry : ℕ) (at : e.entry ≡ entry) (seps : List (List ℕ))
    (are : separators m (divided m c.filled e) ≡ seps) where
  pub index-new : new_meaning (width_for n) n (take m.size area) entry seps ≡ index_after m c e
  index-new = ap (λ (x : Meaning). divided_at x entry seps) (sound-reads m n area c (sound-apart m n area c r)) ∙ rw (are, at)

  pub width_is : width_in c ≡ width_for n
  width_is = width-named n c (sound-rules m n area c (sound-apart m n area c r)).naming

  pub size_is : index_size (width_for n) (new_meaning (width_for n) n (take m.size area) entry seps) ≡ index_size (width_in c) (index_after m c e)
  size_is = ap (index_size (width_for n)) index-new ∙ rw width_is

-- The old one can be divided.
pub divisible : (m : Measures) (n : ℕ) (area : List ℕ) (entry number : ℕ) (three : Bool) (first second : List ℕ) → Entered m n area entry number
    → EnoughFree m n area (pick three 2 1) → Divisible n entry (cuts three first second) (take m.size area)
divisible m n area entry number three first second d enough =
    let c : Content = d.content in
    let o : Sound m n area c = sound-apart m n area c d.reads in
    let b : Fits m n (length area) = d.fits in
    let r : read_index (width_for n) n (take m.size area) ≡ meaning_of c = sound-reads m n area c o in
    let k : length (take m.size area) ≡ m.size = length-take-le m.size area (omega (arith, b.bytes, b.some)) in
    record {
      large = omega (arith, k, fits-large b);
      small = omega (arith, k, fits-small b);
      few = b.few;
      key = m.key;
      short = b.key-most;
      sound = o.index;
      there = rw r (omega (arith, length-entries c.filled, d.there));
      free = rw (r, cuts-many three first second) (enough c d.reads);
    }
