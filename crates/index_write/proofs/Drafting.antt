-- Laws of the new record as far as it has been made: one entry more is put as the writer's form has it, and where all are put it is that form.
use Prim.Native.Nat.{ℕ, ◌+◌, ◌-◌, ◌*◌, ◌≤◌, ◌<◌, min}
use mathlib.Core.Path.{◌≡◌, refl, ◌∙◌, sym, ap, subst}
use mathlib.Core.Bool.{Bool, true, false}
use mathlib.Core.List.{List, [], ◌∷◌, ◌++◌, append_assoc, append-nil}
use lib.ListN.{length, length-drop, length-append}
use lib.Dec.{eqb, leb}
use native.Mathlib.Omega.{arith}
use borrow.Author.Tests.{eqb-false, leb-true}
use Rattle.fields.specs.Choice.{pick}
use Rattle.fields.specs.Lists.{every}
use Rattle.fields.specs.Order.{common}
use Rattle.fields.proofs.Choices.{both-split}
use Rattle.fields.proofs.Fronts.{common-right}
use Rattle.index.specs.Meaning.{Entry, entry, separator_before}
use Rattle.index.specs.Form.{pack}
use Rattle.sections.specs.Parts.{Part, part_size, parts_size}
use Rattle.index_pen.specs.declared.Pen.{Pen}
use Rattle.index_pen.specs.AidPen.{Puts, part_at, pen_moved, pen_on, top_on, bytes_on}
use Rattle.index_pen.specs.AidStream.{Reached, part_next, reached_next, parts_by, reached_after}
use Rattle.index_pen.specs.AidHeld.{Kept, Holds}
use Rattle.index_pen.proofs.Keeping.{Alike, moves, kept-part, kept_on}
use Rattle.index_pen.proofs.Fielding.{size-append}
use Rattle.index_pen.proofs.Drawing.{drawn-append}
use Rattle.index_pen.proofs.Holding.{puts-there, penned-on, bytes-long, holds_on, holds-long}
use Rattle.index_write.specs.AidStream.{Draft, draft_put, draft_all, draft_of, Drawn, Puttable}

-- ---- equals for equals

same-pen : {b b' : List ℕ} {pen pen' : Pen} {p p' : Part} → b ≡ b' → pen ≡ pen' → p ≡ p' → pen_on (length b - 7) pen p ≡ pen_on (length b' - 7) pen' p'
same-pen h i j = rw (h, i, j)

same_bytes : {b b' : List ℕ} {pen pen' : Pen} {p p' : Part} → b ≡ b' → pen ≡ pen' → p ≡ p' → bytes_on b pen p ≡ bytes_on b' pen' p'
same_bytes h i j = rw (h, i, j)

same_size : {pen pen' : Pen} {p p' : Part} → pen ≡ pen' → p ≡ p' → part_size pen.width p ≡ part_size pen'.width p'
same_size i j = rw (i, j)

-- a part takes so many bytes at most
part-most : (w : ℕ) (s : Reached) (e : Entry) → w ≤ 4 → length e.sep ≤ 255 → part_size w (part_next s e) ≤ 263
part-most w s e h k = go (eqb s.left 1)
  where
    go : (t : Bool) → part_size w (pick t (record { piece = pack s.high e.sep e.num; closes = true }) (record { piece = pack s.ref e.sep e.num; closes = false })) ≤ 263
    go true = omega (arith, h, k, length-drop (common s.high e.sep) e.sep)
    go false = omega (arith, h, k, length-drop (common s.ref e.sep) e.sep)

-- ---- one entry

module _ (x : Draft) (b : List ℕ) (pen : Pen) (top : List ℕ) (d : Drawn x b pen top) (front : ℕ) (sep : List ℕ) (num : ℕ) (es : List Entry)
    (is : front ≡ common x.reached.ref sep) (short : length sep ≤ 255) (fit : Puttable x (entry sep num ∷ es)) where
  abbrev s : Reached
  s = x.reached

  abbrev e : Entry
  e = entry sep num

  abbrev p : Part
  p = part_at pen top front sep num

  part-is : part_at pen top front sep num ≡ part_next x.reached (entry sep num)
  part-is = kept-part pen top s d.kept front sep num is

  one_more : 1 ≤ pen.rest
  one_more = rw d.pen-is (omega (arith, fit.more))

  small : pen.size + 300 < 18446744073709551616
  small = rw d.pen-is (omega (arith, fit.small))

  sizes : parts_size x.pen.width (parts_by x.pen.most s (e ∷ es)) ≡ part_size x.pen.width (part_next s e) + parts_size x.pen.width (parts_by x.pen.most (reached_next x.pen.most s e) es)
  unfolding parts_size parts_by
  sizes = refl

  room : 7 < length b → pen.size + part_size pen.width p + 7 < length b
  room h =
      let q : pen.size ≡ x.pen.size = ap (λ (y : Pen). y.size) d.pen-is in
      let t : 7 < length x.bytes = omega (arith, h, ap length d.bytes-are) in
      omega (arith, fit.room t, sizes, same_size d.pen-is part-is, q, ap length d.bytes-are)

  -- for the calls
  pub draft-puts : Puts b pen sep (part_at pen top front sep num) × (front ≤ length sep)
  draft-puts = (puts-there b pen d.penned sep p d.few short one_more small room, omega (arith, is, common-right s.ref sep))

  pub draft-room : (1 ≤ pen.left) × (pen.high ≤ length top) × (length sep ≤ length top)
  draft-room = (d.going one_more, omega (arith, d.kept.short, d.kept.whole), omega (arith, short, d.kept.whole))

  alike : Alike (pen_on (length b - 7) pen p) (pen_moved pen p)
  alike = moves (length b - 7) pen p

  still-going : 1 ≤ (pen_moved pen p).rest → 1 ≤ (pen_moved pen p).left
  still-going r = go (eqb pen.left 1) refl
    where
      go : (t : Bool) → eqb pen.left 1 ≡ t → 1 ≤ pick t (min pen.most (pen.rest - 1)) (pen.left - 1)
      go true h = omega (arith, d.some, r)
      go false h = omega (arith, d.going one_more, eqb-false pen.left 1 h)

  -- what is put is drawn
  pub draft-on : (r : Pen) (top' b' : List ℕ) → r ≡ pen_on (length b - 7) pen (part_at pen top front sep num) → top' ≡ top_on pen sep top
      → b' ≡ bytes_on b pen (part_at pen top front sep num) → Drawn (draft_put x (entry sep num)) b' r top'
  draft-on r top' b' r-is top-is b-is =
      rw (r-is, top-is, b-is)
      (record {
        pen-is = same-pen d.bytes-are d.pen-is part-is;
        bytes-are = same_bytes d.bytes-are d.pen-is part-is;
        kept = ap-kept (kept_on pen top s d.kept front sep num is (length b - 7) short);
        penned = penned-on b pen d.penned sep p d.few short one_more small room;
        few = rw alike.width d.few;
        some = rw alike.most d.some;
        going = λ (h : 1 ≤ (pen_on (length b - 7) pen p).rest). rw alike.left (still-going (rw alike.rest at h));
      })
    where
      ap-kept : Kept (pen_on (length b - 7) pen p) (top_on pen sep top) (reached_next pen.most s e)
          → Kept (pen_on (length b - 7) pen p) (top_on pen sep top) (reached_next x.pen.most s e)
      ap-kept k = subst (λ (q : Pen). Kept (pen_on (length b - 7) pen p) (top_on pen sep top) (reached_next q.most s e)) d.pen-is k

  -- and the others can be put after it
  long-on : length (draft_put x e).bytes ≡ length x.bytes
  long-on =
      ap length (sym (same_bytes d.bytes-are d.pen-is part-is)) ∙ bytes-long b pen d.penned sep p d.few short one_more small room ∙ ap length d.bytes-are

  pub draft-fits : Puttable (draft_put x (entry sep num)) es
  draft-fits =
      let a : Alike (draft_put x e).pen (pen_moved x.pen (part_next s e)) = moves (length x.bytes - 7) x.pen (part_next s e) in
      record {
        more = omega (arith, a.rest, fit.more);
        small = omega (arith, a.size, fit.small, part-few);
        room =
            λ (h : 7 < length (draft_put x e).bytes).
            rw (a.width, a.most, long-on) (omega (arith, a.size, fit.room (omega (arith, h, long-on)), sizes));
      }
    where
      part-few : part_size x.pen.width (part_next s e) ≤ 300
      part-few = omega (arith, part-most x.pen.width s e (omega (arith, d.few, ap (λ (y : Pen). y.width) d.pen-is)) short)

-- ---- some entries

pub draft-append : (x : Draft) (es fs : List Entry) → draft_all x (es ++ fs) ≡ draft_all (draft_all x es) fs
unfolding draft_all
draft-append x [] fs = refl
draft-append x (e ∷ es) fs = draft-append (draft_put x e) es fs

pub ref-put : (x : Draft) (e : Entry) → (draft_put x e).reached.ref ≡ e.sep
ref-put x e = go (eqb x.reached.left 1)
  where
    closed : Reached
    closed = record { left = min x.pen.most (x.reached.rest - 1); rest = x.reached.rest - 1; high = e.sep; ref = e.sep }

    still : Reached
    still = record { left = x.reached.left - 1; rest = x.reached.rest - 1; high = x.reached.high; ref = e.sep }

    go : (t : Bool) → (pick {A = Reached} t closed still).ref ≡ e.sep
    go true = refl
    go false = refl

-- the separator before is that of the last
pub draft-ref : (x : Draft) (es : List Entry) → (draft_all x es).reached.ref ≡ separator_before x.reached.ref es
unfolding draft_all separator_before
draft-ref x [] = refl
draft-ref x (e ∷ es) = draft-ref (draft_put x e) es ∙ ap (λ (r : List ℕ). separator_before r es) (ref-put x e)

-- they are counted
pub draft-size : (x : Draft) (es : List Entry) → (draft_all x es).pen.size ≡ x.pen.size + parts_size x.pen.width (parts_by x.pen.most x.reached es)
unfolding draft_all parts_by parts_size
draft-size x [] = omega arith
draft-size x (e ∷ es) =
    let a : Alike (draft_put x e).pen (pen_moved x.pen (part_next x.reached e)) = moves (length x.bytes - 7) x.pen (part_next x.reached e) in
    let i = rw (a.width, a.most) at (draft-size (draft_put x e) es) in
    omega (arith, i, a.size)

-- the width stays
pub width-put : (x : Draft) (e : Entry) → (draft_put x e).pen.width ≡ x.pen.width
width-put x e = (moves (length x.bytes - 7) x.pen (part_next x.reached e)).width

pub width-all : (x : Draft) (es : List Entry) → (draft_all x es).pen.width ≡ x.pen.width
unfolding draft_all
width-all x [] = refl
width-all x (e ∷ es) = width-all (draft_put x e) es ∙ width-put x e

-- separators are short
abbrev pub Short : List Entry → Type 0
Short es = every (λ (e : Entry). leb (length e.sep) 255) es ≡ true

-- so that so many bytes are enough for them
pub sizes-most : (w c : ℕ) (s : Reached) (es : List Entry) → w ≤ 4 → Short es → parts_size w (parts_by c s es) ≤ 263 * length es
unfolding parts_size parts_by every
sizes-most w c s [] h k = omega arith
sizes-most w c s (e ∷ es) h k =
    let t = both-split (leb (length e.sep) 255) (every (λ (y : Entry). leb (length y.sep) 255) es) k in
    omega (arith, part-most w s e h (leb-true _ _ t.0), sizes-most w c (reached_next c s e) es h t.1)

-- What can be put as a whole can be put in two.
pub fitting-first : (x : Draft) (es fs : List Entry) → Puttable x (es ++ fs) → Puttable x es
fitting-first x es fs f =
    let l : length (es ++ fs) ≡ length es + length fs = length-append es fs in
    let z : parts_size x.pen.width (parts_by x.pen.most x.reached (es ++ fs))
    ≡ parts_size x.pen.width (parts_by x.pen.most x.reached es) + parts_size x.pen.width (parts_by x.pen.most (reached_after x.pen.most x.reached es) fs) =
    ap (λ (ps : List Part). parts_size x.pen.width ps) (drawn-append x.pen.most x.reached es fs)
    ∙ size-append x.pen.width (parts_by x.pen.most x.reached es) (parts_by x.pen.most (reached_after x.pen.most x.reached es) fs) in
    record {
      more = omega (arith, f.more, l);
      small = omega (arith, f.small, l);
      room = λ (h : 7 < length x.bytes). omega (arith, f.room h, z);
    }

pub fitting-second : (x : Draft) (b : List ℕ) (pen : Pen) (top : List ℕ) (es fs : List Entry) → Drawn x b pen top → Short es → Puttable x (es ++ fs) → Puttable (draft_all x es) fs
unfolding draft_all every
fitting-second x b pen top [] fs d s f = f
fitting-second x b pen top (e ∷ es) fs d s f =
    let t = both-split (leb (length e.sep) 255) (every (λ (y : Entry). leb (length y.sep) 255) es) s in
    let l : length e.sep ≤ 255 = leb-true _ _ t.0 in
    let front : ℕ = common x.reached.ref e.sep in
    let on = draft-on x b pen top d front e.sep e.num (es ++ fs) refl l f _ _ _ refl refl refl in
    fitting-second (draft_put x e) _ _ _ es fs on t.1 (draft-fits x b pen top d front e.sep e.num (es ++ fs) refl l f)

-- The code's state tells the draft.
abbrev draft : Pen → List ℕ → ℕ → ℕ → List ℕ → List ℕ → Draft
draft pen b left rest high ref = record { pen = pen; bytes = b; reached = record { left = left; rest = rest; high = high; ref = ref } }

same-draft : {b b' : List ℕ} {pen pen' : Pen} {l l' r r' : ℕ} {h h' f f' : List ℕ} → pen ≡ pen' → b ≡ b' → l ≡ l' → r ≡ r' → h ≡ h' → f ≡ f'
    → draft pen b l r h f ≡ draft pen' b' l' r' h' f'
same-draft a c d i j k = rw (a, c, d, i, j, k)

pub drawn-self : (x : Draft) (b : List ℕ) (pen : Pen) (top ref : List ℕ) → Drawn x b pen top → ref ≡ x.reached.ref → draft_of b pen top ref ≡ x
drawn-self x b pen top ref d h = same-draft d.pen-is d.bytes-are d.kept.left d.kept.rest d.kept.high h

-- Where the pen stores, it holds what the parts of them are.
pub draft-holds : (w edge : ℕ) (b0 : List ℕ) (ps : List Part) (x : Draft) (es : List Entry) → Holds w edge b0 ps x.pen x.bytes
    → parts_size w ps + parts_size w (parts_by x.pen.most x.reached es) < edge
    → Holds w edge b0 (ps ++ parts_by x.pen.most x.reached es) (draft_all x es).pen (draft_all x es).bytes
unfolding draft_all parts_by parts_size
draft-holds w edge b0 ps x [] h room = rw (append-nil ps) h
draft-holds w edge b0 ps x (e ∷ es) h room =
    let p : Part = part_next x.reached e in
    let on : Holds w edge b0 (ps ++ (p ∷ [])) (pen_on edge x.pen p) (bytes_on x.bytes x.pen p) = holds_on w edge b0 ps x.pen x.bytes h p (omega (arith, room)) in
    let l : length x.bytes ≡ length b0 = holds-long w edge b0 ps x.pen x.bytes h (omega (arith, room)) in
    let q : length x.bytes - 7 ≡ edge = omega (arith, l, h.ends) in
    let on' : Holds w edge b0 (ps ++ (p ∷ [])) (draft_put x e).pen (draft_put x e).bytes =
    subst (λ (z : ℕ). Holds w edge b0 (ps ++ (p ∷ [])) (pen_on z x.pen p) (bytes_on x.bytes x.pen p)) (sym q) on in
    let a : Alike (draft_put x e).pen (pen_moved x.pen p) = moves (length x.bytes - 7) x.pen p in
    let s : parts_size w (ps ++ (p ∷ [])) ≡ parts_size w ps + part_size w p = size-append w ps (p ∷ []) ∙ omega arith in
    let rest : List Part = parts_by x.pen.most (reached_next x.pen.most x.reached e) es in
    let i = rw a.most at (draft-holds w edge b0 (ps ++ (p ∷ [])) (draft_put x e) es on' (rw a.most (omega (arith, room, s)))) in
    subst (λ (l : List Part). Holds w edge b0 l (draft_all (draft_put x e) es).pen (draft_all (draft_put x e) es).bytes) (append_assoc ps (p ∷ []) rest) i
