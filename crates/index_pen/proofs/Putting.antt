-- Laws of one entry that is stored: its characters, F, L and the pointer, one behind the other; and of the pen past it.
use Prim.Native.Nat.{ℕ, ◌+◌, ◌-◌, ◌≤◌, ◌<◌, min}
use mathlib.Core.Path.{◌≡◌, refl, sym, ◌∙◌, ap, subst}
use mathlib.Core.Bool.{Bool, true, false}
use mathlib.Core.List.{List, [], ◌∷◌, ◌++◌}
use lib.ListN.{length, take, drop, set, length-drop}
use lib.Seq.{take_all}
use lib.Dec.{eqb, ltb}
use native.Mathlib.Omega.{arith}
use native.Mathlib.Numerals.{add-one}
use borrow.Author.Tests.{eq-eqb, ne_eqb, lt-ltb, le-ltb}
use Rattle.fields.specs.Choice.{pick}
use Rattle.fields.specs.Bytes.{splice, digits}
use Rattle.fields.specs.Order.{common}
use Rattle.fields.proofs.Numbers.{length_digits}
use Rattle.fields.proofs.Splices.{sets-splice, length-splice, splice-after}
use Rattle.index.specs.Layout.{piece_bytes}
use Rattle.sections.specs.Parts.{Part}
use Rattle.index_pen.specs.declared.Pen.{Pen}
use Rattle.index_pen.specs.AidPen.{piece_stored, Linkable, pen_linked, bytes_linked, Puts, part_after, part_at, pen_moved, pen_on, top_on, piece_put, bytes_on}

-- ---- with this F and these characters

pub piece-put : (w : ℕ) (b chars : List ℕ) (r front num : ℕ) → w + 2 + length chars ≤ r → r ≤ length b → (b1 b2 : List ℕ)
    → b1 ≡ splice b (r - (w + 2 + length chars)) chars
    → b2 ≡ splice (set (set b1 (r - (w + 2 + length chars) + length chars) front) (r - (w + 2 + length chars) + length chars + 1) (length chars))
    (r - (w + 2 + length chars) + length chars + 2) (digits w num)
    → b2 ≡ splice b (r - (w + 2 + length chars)) (piece_bytes w (record { front = front; chars = chars; num = num }))
unfolding piece_bytes
piece-put w b chars r front num room inside b1 b2 e g =
    let l : ℕ = length chars in
    let at : ℕ = r - (w + 2 + length chars) in
    let lw : length (digits w num) ≡ w = length_digits w num in
    let l1 : length b1 ≡ length b = ap length e ∙ length-splice b at chars (omega arith) in
    let s : set (set b1 (at + l) front) (at + l + 1) l ≡ splice b1 (at + l) (front ∷ l ∷ []) =
    rw (add-one (at + l)) (sets-splice (front ∷ l ∷ []) b1 (at + l) (omega arith)) in
    let t : splice (splice b1 (at + l) (front ∷ l ∷ [])) (at + l + 2) (digits w num) ≡ splice b1 (at + l) (front ∷ l ∷ digits w num) =
    splice-after b1 (at + l) (at + l + 2) (front ∷ l ∷ []) (digits w num) (omega arith) (omega arith) in
    let u : splice (splice b at chars) (at + l) (front ∷ l ∷ digits w num) ≡ splice b at (chars ++ (front ∷ l ∷ digits w num)) =
    splice-after b at (at + l) chars (front ∷ l ∷ digits w num) (omega arith) (omega arith) in
    g ∙ rw (s, t, e, u)

-- ---- whether entries are stored

stores-in : (b : List ℕ) → 7 < length b → ltb 0 (length b - 7) ≡ true
stores-in b h = lt-ltb 0 (length b - 7) (omega arith)

counts-in : (b : List ℕ) → length b ≤ 7 → ltb 0 (length b - 7) ≡ false
counts-in b h = le-ltb 0 (length b - 7) (omega arith)

-- ---- a section's highest that was stored

-- the pen with this as the place of the first
abbrev pub first_at : ℕ → ℕ → Pen → ℕ → Pen
first_at first edge pen at =
    record {
      width = pen.width;
      most = pen.most;
      left = pen.left;
      rest = pen.rest;
      high = pen.high;
      size = pen.size;
      first = first;
      field = edge - pen.size;
      last = at;
    }

module _ (b : List ℕ) (pen : Pen) (at : ℕ) (b1 : List ℕ) (e : b1 ≡ splice b (length b - 7 - pen.size) (digits 2 0)) where
  -- it is the first
  pub link-first : pen.first ≡ 0 → (first_at at (length b - 7) pen at ≡ pen_linked (length b - 7) pen at) × (b1 ≡ bytes_linked b pen at)
  link-first z = let t : eqb pen.first 0 ≡ true = eq-eqb pen.first 0 z in (rw t, e ∙ rw t)

  -- the one before is told
  pub link-next : (pen.first ≡ 0 → ⊥) → (b2 : List ℕ) → b2 ≡ splice b1 pen.field (digits 2 (pen.last - at))
      → (first_at pen.first (length b - 7) pen at ≡ pen_linked (length b - 7) pen at) × (b2 ≡ bytes_linked b pen at)
  link-next n b2 g = let t : eqb pen.first 0 ≡ false = ne_eqb pen.first 0 n in (rw t, g ∙ rw (e, t))

-- ---- one entry with this F

-- the pen past it
abbrev pub moved_to : Pen → ℕ → ℕ → ℕ → Pen
moved_to pen left high size =
    record {
      width = pen.width;
      most = pen.most;
      left = left;
      rest = pen.rest - 1;
      high = high;
      size = size;
      first = pen.first;
      field = pen.field;
      last = pen.last;
    }

-- the bytes of the separator that F does not take over
pub chars-are : (sep : List ℕ) (f : ℕ) → take (length sep - f) (drop f sep) ≡ drop f sep
chars-are sep f = take_all (length sep - f) (drop f sep) (omega (arith, length-drop f sep))

pub chars-long : (sep : List ℕ) (f : ℕ) → length (take (length sep - f) (drop f sep)) ≡ length sep - f
chars-long sep f = rw (chars-are sep f) (length-drop f sep)

-- it is stored
pub piece_is : (b : List ℕ) (pen : Pen) (sep : List ℕ) (f num : ℕ) (b' : List ℕ)
    → b' ≡ piece_stored pen.width b (length b - 7 - pen.size) f (take (length sep - f) (drop f sep)) num
    → b' ≡ piece_put b pen (part_after false f sep num).piece
piece_is b pen sep f num b' e = e ∙ rw (chars-are sep f)

module _ (b : List ℕ) (pen : Pen) (sep : List ℕ) (t : Bool) (f num : ℕ) (p : Puts b pen sep (part_after t f sep num)) (stores : 7 < length b) where
  -- where the entry ends there is room for it
  pub room-left : pen.size + (pen.width + 2 + (length sep - f)) + 7 ≤ length b
  room-left = omega (arith, p.room stores, length-drop f sep)

  pub piece-fits : f ≤ length sep
      → (pen.width ≤ 4) × (pen.width + 2 + length (take (length sep - f) (drop f sep)) ≤ length b - 7 - pen.size) × (length b - 7 - pen.size ≤ length b) × (f < 256)
      × (length (take (length sep - f) (drop f sep)) < 256)
  piece-fits h =
      let l : length (take (length sep - f) (drop f sep)) ≡ length sep - f = chars-long sep f in
      (p.few, omega (arith, l, room-left), omega arith, omega (arith, p.short), omega (arith, l, p.short))

-- ---- no section's highest

module _ (b : List ℕ) (pen : Pen) (sep : List ℕ) (f num : ℕ) where
  pub inner-moved : moved_to pen (pen.left - 1) pen.high (pen.size + (pen.width + 2 + (length sep - f)))
      ≡ pen_on (length b - 7) pen (part_after false f sep num)
  inner-moved = ap (moved_to pen (pen.left - 1) pen.high) size ∙ go (ltb 0 (length b - 7))
    where
      size : pen.size + (pen.width + 2 + (length sep - f)) ≡ pen.size + (pen.width + 2 + length (drop f sep) + 0)
      size = omega (arith, length-drop f sep)

      go : (t : Bool) → pen_moved pen (part_after false f sep num) ≡ pick t (pen_moved pen (part_after false f sep num)) (pen_moved pen (part_after false f sep num))
      go true = refl
      go false = refl

  pub inner-stored : 7 < length b → (b' : List ℕ) → b' ≡ piece_put b pen (part_after false f sep num).piece → b' ≡ bytes_on b pen (part_after false f sep num)
  inner-stored s b' e = e ∙ rw (stores-in b s)

  pub inner-counted : length b ≤ 7 → (b' : List ℕ) → b' ≡ b → b' ≡ bytes_on b pen (part_after false f sep num)
  inner-counted s b' e = e ∙ rw (counts-in b s)

-- ---- a section's highest

module _ (b : List ℕ) (pen : Pen) (sep : List ℕ) (f num : ℕ) (left : ℕ) (left_is : left ≡ min pen.most (pen.rest - 1)) (short : f ≤ length sep) where
  top-moved : moved_to pen left (length sep) (pen.size + (pen.width + 2 + (length sep - f) + 2)) ≡ pen_moved pen (part_after true f sep num)
  top-moved = rw (left_is, size, high)
    where
      high : length sep ≡ f + length (drop f sep)
      high = omega (arith, length-drop f sep)

      size : pen.size + (pen.width + 2 + (length sep - f) + 2) ≡ pen.size + (pen.width + 2 + length (drop f sep) + 2)
      size = omega (arith, length-drop f sep)

  -- it is counted only
  pub top-counted : length b ≤ 7
      → (moved_to pen left (length sep) (pen.size + (pen.width + 2 + (length sep - f) + 2)) ≡ pen_on (length b - 7) pen (part_after true f sep num))
      × (b ≡ bytes_on b pen (part_after true f sep num))
  top-counted s = (top-moved ∙ rw (counts-in b s), rw (counts-in b s))

  -- it is stored: its field has its place, and what the pen says of the section before holds still
  pub top-fits : Puts b pen sep (part_after true f sep num) → 7 < length b → (b1 : List ℕ) → length b1 ≡ length b
      → Linkable b1 (moved_to pen left (length sep) (pen.size + (pen.width + 2 + (length sep - f) + 2))) (length b - 7 - pen.size - (pen.width + 2))
  top-fits p s b1 l =
      record {
        room = omega (arith, p.room s, length-drop f sep, l);
        field = λ (n : pen.first ≡ 0 → ⊥). omega (arith, p.field s n, l);
        before = λ (n : pen.first ≡ 0 → ⊥). omega (arith, p.before s n);
        near = λ (n : pen.first ≡ 0 → ⊥). p.near s n;
        some = omega arith;
      }

  -- and linked
  pub top-stored : 7 < length b → (b1 : List ℕ) → length b1 ≡ length b → b1 ≡ piece_put b pen (part_after true f sep num).piece → (r : Pen) (b2 : List ℕ)
      → r
      ≡ pen_linked (length b1 - 7) (moved_to pen left (length sep) (pen.size + (pen.width + 2 + (length sep - f) + 2)))
      (length b - 7 - pen.size - (pen.width + 2))
      → b2
      ≡ bytes_linked b1 (moved_to pen left (length sep) (pen.size + (pen.width + 2 + (length sep - f) + 2))) (length b - 7 - pen.size - (pen.width + 2))
      → (r ≡ pen_on (length b - 7) pen (part_after true f sep num)) × (b2 ≡ bytes_on b pen (part_after true f sep num))
  top-stored s b1 l h r b2 e g = (
    e ∙ ap (λ (n : ℕ). pen_linked (n - 7) past at) l ∙ ap (λ (q : Pen). pen_linked (length b - 7) q at) top-moved ∙ rw (stores-in b s),
    g ∙ ap (λ (x : List ℕ). bytes_linked x past at) h ∙ ap (λ (q : Pen). bytes_linked (piece_put b pen (part_after true f sep num).piece) q at) top-moved ∙ rw (stores-in b s),
  )
    where
      past : Pen
      past = moved_to pen left (length sep) (pen.size + (pen.width + 2 + (length sep - f) + 2))

      at : ℕ
      at = length b - 7 - pen.size - (pen.width + 2)

-- ---- the next entry, where it lies in its section

module _ (b : List ℕ) (pen : Pen) (top sep : List ℕ) (front num : ℕ) where
  -- it is not the last to come there
  module _ (n : eqb pen.left 1 ≡ false) where
    inner-part : part_at pen top front sep num ≡ part_after false front sep num
    inner-part = rw n

    pub inner-puts : Puts b pen sep (part_at pen top front sep num) → Puts b pen sep (part_after false front sep num)
    inner-puts p = subst (λ (q : Part). Puts b pen sep q) inner-part p

    pub inner-on : (r : Pen) (b' : List ℕ) → r ≡ pen_on (length b - 7) pen (part_after false front sep num) → b' ≡ bytes_on b pen (part_after false front sep num)
        → (r ≡ pen_on (length b - 7) pen (part_at pen top front sep num)) × ((top ≡ top_on pen sep top) × (b' ≡ bytes_on b pen (part_at pen top front sep num)))
    inner-on r b' e g = (e ∙ rw n, (rw n, g ∙ rw n))

  -- it is the last
  module _ (n : eqb pen.left 1 ≡ true) (f : ℕ) (f-is : f ≡ common (take pen.high top) sep) where
    top_part : part_at pen top front sep num ≡ part_after true f sep num
    top_part = rw (n, f-is)

    pub top-puts : Puts b pen sep (part_at pen top front sep num) → Puts b pen sep (part_after true f sep num)
    top-puts p = subst (λ (q : Part). Puts b pen sep q) top_part p

    pub top-on : (r : Pen) (top' b' : List ℕ) → r ≡ pen_on (length b - 7) pen (part_after true f sep num) → top' ≡ splice top 0 sep
        → b' ≡ bytes_on b pen (part_after true f sep num)
        → (r ≡ pen_on (length b - 7) pen (part_at pen top front sep num)) × ((top' ≡ top_on pen sep top) × (b' ≡ bytes_on b pen (part_at pen top front sep num)))
    top-on r top' b' e h g = (e ∙ ap (pen_on (length b - 7) pen) (sym top_part), (h ∙ rw n, g ∙ ap (bytes_on b pen) (sym top_part)))
