-- What the pen has stored: the bytes of the parts so far, the last section's field still zero; and where it says that first highest, last field and last highest lie.
use Prim.Native.Nat.{ℕ, zero, suc, ◌+◌, ◌-◌, ◌≤◌, ◌<◌}
use mathlib.Core.Path.{◌≡◌, refl, ◌∙◌, sym, ap}
use mathlib.Core.Bool.{Bool, true, false}
use mathlib.Core.List.{List, [], ◌∷◌, ◌++◌, append_assoc}
use lib.ListN.{length, length-append}
use lib.Dec.{eqb, ltb}
use native.Mathlib.Omega.{arith}
use borrow.Author.Tests.{eq-eqb, ne_eqb, lt-ltb, ltb-true}
use Rattle.fields.specs.Choice.{pick}
use Rattle.fields.specs.Bytes.{digits, splice}
use Rattle.fields.proofs.Numbers.{length_digits}
use Rattle.fields.proofs.Splices.{length-splice, splice-splice, splice-nil}
use Rattle.index.specs.Pieces.{piece_size}
use Rattle.index.specs.Layout.{piece_bytes}
use Rattle.index.proofs.Compressing.{length-piece_bytes}
use Rattle.sections.specs.Parts.{Part, part_size, parts_size, sections_in}
use Rattle.sections.specs.Layout.{ahead}
use Rattle.sections.proofs.Laying.{ahead-most}
use Rattle.index_pen.specs.declared.Pen.{Pen}
use Rattle.index_pen.specs.AidPen.{Puts, pen_moved, pen_linked, control_at, pen_on, piece_put, bytes_linked, bytes_on}
use Rattle.index_pen.specs.AidStream.{parts_bytes_by, open_out, lead_out}
use Rattle.index_pen.specs.AidHeld.{Holds, Penned}
use Rattle.index_pen.proofs.Splicing.{splice-right, splice-within}
use Rattle.index_pen.proofs.Fielding.{size-append, sections-append, ahead_past, ahead-among, open-bytes, bytes-append, bytes-open, length-bytes_by, open-most, lead-most, open-past, open-last, field_told}
use Rattle.index_pen.proofs.Keeping.{moves}

-- the same, told otherwise
held-as : (w edge : ℕ) (b0 : List ℕ) (ps : List Part) {pen pen' : Pen} {b b' : List ℕ} → pen ≡ pen' → b ≡ b' → Holds w edge b0 ps pen' b' → Holds w edge b0 ps pen b
held-as w edge b0 ps e f h = rw (e, f) h

first-pick : {A : Type 0} (x y z : A) {t u : Bool} → t ≡ true → u ≡ true → pick t (pick u x y) z ≡ x
first-pick x y z e f = rw (e, f)

second-pick : {A : Type 0} (x y z : A) {t u : Bool} → t ≡ true → u ≡ false → pick t (pick u x y) z ≡ y
second-pick x y z e f = rw (e, f)

-- the record is as long as it was
pub holds-long : (w edge : ℕ) (b0 : List ℕ) (ps : List Part) (pen : Pen) (b : List ℕ) → Holds w edge b0 ps pen b → 0 < edge → length b ≡ length b0
holds-long w edge b0 ps pen b h some =
    ap length h.bytes ∙ length-splice b0 (edge - parts_size w ps) (parts_bytes_by w 0 ps) (omega (arith, length-bytes_by w 0 ps, h.ends, h.room, some))

-- ---- one part more

module _ (w edge : ℕ) (b0 : List ℕ) (ps : List Part) (pen : Pen) (b : List ℕ) (h : Holds w edge b0 ps pen b) (p : Part) (room : parts_size w ps + part_size w p < edge) where
  abbrev qs : List Part
  qs = ps ++ (p ∷ [])

  abbrev old : List ℕ
  old = parts_bytes_by w 0 ps

  long-old : length old ≡ parts_size w ps
  long-old = length-bytes_by w 0 ps

  long : length b ≡ length b0
  long = holds-long w edge b0 ps pen b h (omega (arith, room))

  size-on : parts_size w qs ≡ parts_size w ps + part_size w p
  size-on = size-append w ps (p ∷ []) ∙ unfold parts_size in (omega arith)

  -- the piece itself, left of all
  put_is : piece_put b pen p.piece ≡ splice b0 (edge - parts_size w ps - piece_size w p.piece) (piece_bytes w p.piece ++ old)
  put_is =
      let e : length b - 7 ≡ edge = omega (arith, long, h.ends) in
      let x : edge - parts_size w ps - piece_size w p.piece + length (piece_bytes w p.piece) ≡ edge - parts_size w ps =
      omega (arith, length-piece_bytes w p.piece, room) in
      rw (e, h.size, h.width, h.bytes)
      (splice-splice b0 (edge - parts_size w ps - piece_size w p.piece) (edge - parts_size w ps) (piece_bytes w p.piece) old x (omega (arith, long-old, h.ends, room)))

  -- ---- it closes no section

  module _ (c : p.closes ≡ false) where
    none_here : sections_in (p ∷ []) ≡ 0
    unfolding sections_in
    none_here = rw c

    sized : part_size w p ≡ piece_size w p.piece
    sized = rw c (omega arith)

    one-open : parts_bytes_by w 0 (p ∷ []) ≡ piece_bytes w p.piece
    unfolding parts_bytes_by
    one-open = rw c

    inner-bytes : piece_put b pen p.piece ≡ splice b0 (edge - parts_size w (ps ++ (p ∷ []))) (parts_bytes_by w 0 (ps ++ (p ∷ [])))
    inner-bytes =
        let e : edge - parts_size w ps - piece_size w p.piece ≡ edge - parts_size w qs = omega (arith, size-on, sized) in
        put_is ∙ rw (e, bytes-open w 0 ps (p ∷ []) none_here, one-open)

    sections-same : sections_in qs ≡ sections_in ps
    sections-same = omega (arith, sections-append ps (p ∷ []), none_here)

    past : 1 ≤ sections_in ps → (open_out w qs ≡ open_out w ps + parts_size w (p ∷ [])) × (lead_out w qs ≡ lead_out w ps + parts_size w (p ∷ []))
    past s = open-past w ps (p ∷ []) s none_here

    one_size : parts_size w (p ∷ []) ≡ part_size w p
    one_size = unfold parts_size in (omega arith)

    pub holds-inner : Holds w edge b0 (ps ++ (p ∷ [])) (pen_moved pen p) (piece_put b pen p.piece)
    holds-inner =
        record {
          ends = h.ends;
          some = h.some;
          width = h.width;
          size = rw (h.width, h.size) (sym size-on);
          room = omega (arith, size-on, room);
          bytes = inner-bytes;
          none = λ (z : sections_in qs ≡ 0). h.none (omega (arith, z, sections-same));
          first = λ (s : 1 ≤ sections_in qs). let s' : 1 ≤ sections_in ps = omega (arith, s, sections-same) in rw (ahead-among w ps (p ∷ []) s') (h.first s');
          field = λ (s : 1 ≤ sections_in qs). let s' : 1 ≤ sections_in ps = omega (arith, s, sections-same) in omega (arith, h.field s', (past s').0, one_size, size-on, room);
          last = λ (s : 1 ≤ sections_in qs). let s' : 1 ≤ sections_in ps = omega (arith, s, sections-same) in omega (arith, h.last s', (past s').1, one_size, size-on, room);
        }

  -- ---- it closes one

  module _ (c : p.closes ≡ true) where
    one-here : sections_in (p ∷ []) ≡ 1
    unfolding sections_in
    one-here = rw c

    sized' : part_size w p ≡ piece_size w p.piece + 2
    sized' = rw c

    one-closed : parts_bytes_by w 0 (p ∷ []) ≡ digits 2 0 ++ piece_bytes w p.piece
    unfolding parts_bytes_by sections_in
    one-closed = rw c

    one-ahead : ahead w (p ∷ []) ≡ w + 2
    unfolding ahead
    one-ahead = rw c

    some-on : 1 ≤ sections_in qs
    some-on = omega (arith, sections-append ps (p ∷ []), one-here)

    abbrev Z : List ℕ
    Z = splice (piece_put b pen p.piece) (length (piece_put b pen p.piece) - 7 - (pen.size + part_size pen.width p)) (digits 2 0)

    long-put : length (piece_put b pen p.piece) ≡ length b0
    long-put =
        ap length put_is
        ∙ length-splice b0 (edge - parts_size w ps - piece_size w p.piece) (piece_bytes w p.piece ++ old)
        (omega (arith, length-append (piece_bytes w p.piece) old, length-piece_bytes w p.piece, long-old, h.ends, room))

    width-size : part_size pen.width p ≡ part_size w p
    width-size = rw h.width

    zeroed : Z ≡ splice b0 (edge - parts_size w qs) (digits 2 0 ++ (piece_bytes w p.piece ++ old))
    zeroed =
        let e : length (piece_put b pen p.piece) - 7 - (pen.size + part_size pen.width p) ≡ edge - parts_size w qs = omega (arith, long-put, h.ends, h.size, size-on, width-size) in
        let x : edge - parts_size w qs + length (digits 2 0) ≡ edge - parts_size w ps - piece_size w p.piece = omega (arith, length_digits 2 0, size-on, sized', room) in
        rw (e, put_is)
        (splice-splice b0 (edge - parts_size w qs) (edge - parts_size w ps - piece_size w p.piece) (digits 2 0) (piece_bytes w p.piece ++ old) x
        (omega (arith, length-append (piece_bytes w p.piece) old, length-piece_bytes w p.piece, long-old, h.ends, room)))

    -- the bytes of all, if the last field before is x
    abbrev told : ℕ → List ℕ
    told x = splice b0 (edge - parts_size w (ps ++ (p ∷ []))) ((digits 2 0 ++ piece_bytes w p.piece) ++ parts_bytes_by w x ps)

    told-all : told (lead_out w ps + ahead w (p ∷ [])) ≡ splice b0 (edge - parts_size w (ps ++ (p ∷ []))) (parts_bytes_by w 0 (ps ++ (p ∷ [])))
    told-all = ap (λ (zs : List ℕ). splice b0 (edge - parts_size w qs) zs) (rw (← one-closed) (sym (bytes-append w 0 ps (p ∷ []) (omega (arith, one-here)))))

    plain-told : Z ≡ told 0
    plain-told = zeroed ∙ ap (λ (zs : List ℕ). splice b0 (edge - parts_size w qs) zs) (sym (append_assoc (digits 2 0) (piece_bytes w p.piece) old))

    -- nothing was closed before
    alone : sections_in ps ≡ 0 → Z ≡ splice b0 (edge - parts_size w (ps ++ (p ∷ []))) (parts_bytes_by w 0 (ps ++ (p ∷ [])))
    alone z =
        plain-told ∙ ap (λ (zs : List ℕ). splice b0 (edge - parts_size w qs) ((digits 2 0 ++ piece_bytes w p.piece) ++ zs)) (open-bytes w 0 (lead_out w ps + ahead w (p ∷ [])) ps z)
        ∙ told-all

    -- the field of the section before is told
    abbrev N : List ℕ
    N = digits 2 0 ++ piece_bytes w p.piece

    long-N : length N ≡ part_size w p
    long-N = omega (arith, length-append (digits 2 0) (piece_bytes w p.piece), length_digits 2 0, length-piece_bytes w p.piece, sized')

    linked : 1 ≤ sections_in ps
        → splice Z pen.field (digits 2 (pen.last - (edge - pen.size - (pen.width + 2)))) ≡ splice b0 (edge - parts_size w (ps ++ (p ∷ []))) (parts_bytes_by w 0 (ps ++ (p ∷ [])))
    linked s =
        let x : ℕ = lead_out w ps + ahead w (p ∷ []) in
        let at : ℕ = edge - parts_size w qs in
        let o : ℕ = length N + open_out w ps in
        let f : pen.field ≡ at + o = omega (arith, h.field s, long-N, size-on, room, open-most w ps s) in
        let v : pen.last - (edge - pen.size - (pen.width + 2)) ≡ x = rw (h.size, h.width) (omega (arith, h.last s, one-ahead, room, sized')) in
        let most : o + length (digits 2 x) ≤ length (N ++ old) = omega (arith, length-append N old, long-old, length_digits 2 x, open-most w ps s) in
        let fits : at + length (N ++ old) ≤ length b0 = omega (arith, length-append N old, long-old, long-N, size-on, h.ends, room) in
        rw (f, v, plain-told)
        (splice-within b0 at (N ++ old) o (digits 2 x) fits most
        ∙ ap (λ (zs : List ℕ). splice b0 (edge - parts_size w qs) zs) (splice-right N old (open_out w ps) (digits 2 x) ∙ ap (λ (zs : List ℕ). N ++ zs) (field_told w x 0 ps s))
        ∙ told-all)

    -- what the pen says then
    last_on : (open_out w qs ≡ 0) × (lead_out w qs ≡ length p.piece.chars + 2)
    last_on = open-last w ps p c

    module _ (first : ℕ) (bytes : List ℕ) (first-is : first + ahead w (ps ++ (p ∷ [])) ≡ edge)
        (bytes-are : bytes ≡ splice b0 (edge - parts_size w (ps ++ (p ∷ []))) (parts_bytes_by w 0 (ps ++ (p ∷ [])))) where
      holds-with : Holds w edge b0 (ps ++ (p ∷ []))
          (record {
            width = pen.width;
            most = pen.most;
            left = (pen_moved pen p).left;
            rest = pen.rest - 1;
            high = (pen_moved pen p).high;
            size = pen.size + part_size pen.width p;
            first = first;
            field = edge - (pen.size + part_size pen.width p);
            last = edge - pen.size - (pen.width + 2);
          }) bytes
      holds-with =
          record {
            ends = h.ends;
            some = h.some;
            width = h.width;
            size = omega (arith, width-size, h.size, size-on);
            room = omega (arith, size-on, room);
            bytes = bytes-are;
            none = λ (z : sections_in qs ≡ 0). absurd (omega (arith, z, some-on));
            first = λ (s : 1 ≤ sections_in qs). first-is;
            field = λ (s : 1 ≤ sections_in qs). omega (arith, width-size, h.size, size-on, last_on.0);
            last = λ (s : 1 ≤ sections_in qs). omega (arith, h.width, h.size, size-on, sized', last_on.1, room);
          }

    pub holds-top : Holds w edge b0 (ps ++ (p ∷ [])) (pen_linked edge (pen_moved pen p) (edge - pen.size - (pen.width + 2)))
        (bytes_linked (piece_put b pen p.piece) (pen_moved pen p) (edge - pen.size - (pen.width + 2)))
    holds-top = go (sections_in ps) refl
      where
        go : (k : ℕ) → sections_in ps ≡ k
            → Holds w edge b0 (ps ++ (p ∷ [])) (pen_linked edge (pen_moved pen p) (edge - pen.size - (pen.width + 2)))
            (bytes_linked (piece_put b pen p.piece) (pen_moved pen p) (edge - pen.size - (pen.width + 2)))
        go zero k =
            let t : eqb pen.first 0 ≡ true = eq-eqb pen.first 0 (h.none k) in
            rw t (holds-with (edge - pen.size - (pen.width + 2)) Z (omega (arith, ahead_past w ps (p ∷ []) k, one-ahead, h.size, h.width, room, sized')) (alone k))
        go (suc m) k =
            let s : 1 ≤ sections_in ps = omega (arith, k) in
            let n : pen.first ≡ 0 → ⊥ = λ (z : pen.first ≡ 0). omega (arith, z, h.first s, ahead-most w ps, room) in
            let t : eqb pen.first 0 ≡ false = ne_eqb pen.first 0 n in
            rw t (holds-with pen.first (splice Z pen.field (digits 2 (pen.last - (edge - pen.size - (pen.width + 2))))) (rw (ahead-among w ps (p ∷ []) s) (h.first s)) (linked s))

  -- either way
  pub holds_on : Holds w edge b0 (ps ++ (p ∷ [])) (pen_on edge pen p) (bytes_on b pen p)
  holds_on = go p.closes refl
    where
      same : length b - 7 ≡ edge
      same = omega (arith, long, h.ends)

      stores : ltb 0 edge ≡ true
      stores = lt-ltb 0 edge h.some

      stores-here : ltb 0 (length b - 7) ≡ true
      stores-here = lt-ltb 0 (length b - 7) (omega (arith, same, h.some))

      linked-pen : Pen
      linked-pen = pen_linked edge (pen_moved pen p) (control_at edge pen)

      linked-bytes : ℕ → List ℕ
      linked-bytes e = bytes_linked (piece_put b pen p.piece) (pen_moved pen p) (control_at e pen)

      go : (t : Bool) → p.closes ≡ t → Holds w edge b0 (ps ++ (p ∷ [])) (pen_on edge pen p) (bytes_on b pen p)
      go true c =
          held-as w edge b0 qs (first-pick linked-pen (pen_moved pen p) (pen_moved pen p) stores c)
          (first-pick (linked-bytes (length b - 7)) (piece_put b pen p.piece) b stores-here c ∙ ap linked-bytes same) (holds-top c)
      go false c =
          held-as w edge b0 qs (second-pick linked-pen (pen_moved pen p) (pen_moved pen p) stores c)
          (second-pick (linked-bytes (length b - 7)) (piece_put b pen p.piece) b stores-here c) (holds-inner c)

-- ---- from the first on

pub holds-none : (w edge : ℕ) (b : List ℕ) (pen : Pen) → edge ≡ length b - 7 → 0 < edge → pen.width ≡ w → pen.size ≡ 0 → pen.first ≡ 0 → Holds w edge b [] pen b
unfolding parts_size sections_in parts_bytes_by
holds-none w edge b pen ends some width size first =
    record {
      ends = ends;
      some = some;
      width = width;
      size = size;
      room = omega arith;
      bytes = sym (splice-nil b (edge - 0));
      none = λ (z : ◌≡◌ {A = ℕ} 0 0). first;
      first = λ (s : 1 ≤ 0). absurd (omega (arith, s));
      field = λ (s : 1 ≤ 0). absurd (omega (arith, s));
      last = λ (s : 1 ≤ 0). absurd (omega (arith, s));
    }

-- ---- what a part asks

module _ (b : List ℕ) (pen : Pen) (k : Penned b pen) (sep : List ℕ) (p : Part) (few : pen.width ≤ 4) (short : length sep ≤ 255) (more : 1 ≤ pen.rest)
    (small : pen.size + 300 < 18446744073709551616) (room : 7 < length b → pen.size + part_size pen.width p + 7 < length b) where
  abbrev Held : Type 0
  Held = Holds pen.width (length b - 7) k.before k.parts pen b

  some-closed : Held → (pen.first ≡ 0 → ⊥) → 1 ≤ sections_in k.parts
  some-closed h n = go (sections_in k.parts) refl
    where
      go : (x : ℕ) → sections_in k.parts ≡ x → 1 ≤ sections_in k.parts
      go zero z = absurd (n (h.none z))
      go (suc x) z = omega (arith, z)

  long_same : Held → 7 < length b → length b ≡ length k.before
  long_same h t = holds-long pen.width (length b - 7) k.before k.parts pen b h (omega (arith, room t))

  pub puts-there : Puts b pen sep p
  puts-there =
      record {
        few = few;
        short = short;
        more = more;
        small = small;
        room = λ (s : 7 < length b). omega (arith, room s);
        field =
            λ (s : 7 < length b) (n : pen.first ≡ 0 → ⊥).
            let h = k.holds s in
            let c = some-closed h n in
            omega (arith, h.field c, h.room, open-most pen.width k.parts c, room s);
        before =
            λ (s : 7 < length b) (n : pen.first ≡ 0 → ⊥).
            let h = k.holds s in
            let c = some-closed h n in
            omega (arith, h.last c, h.size, h.room);
        near =
            λ (s : 7 < length b) (n : pen.first ≡ 0 → ⊥).
            let h = k.holds s in
            let c = some-closed h n in
            omega (arith, h.last c, h.room, lead-most pen.width k.parts c, k.short s);
      }

  -- the record is as long as it was
  pub bytes-long : length (bytes_on b pen p) ≡ length b
  bytes-long = go (ltb 0 (length b - 7)) refl
    where
      stored : 7 < length b → length (bytes_on b pen p) ≡ length b
      stored t =
          let h = k.holds t in
          let on = holds_on pen.width (length b - 7) k.before k.parts pen b h p (omega (arith, h.size, room t)) in
          ap length on.bytes
          ∙ length-splice k.before (length b - 7 - parts_size pen.width (k.parts ++ (p ∷ []))) (parts_bytes_by pen.width 0 (k.parts ++ (p ∷ [])))
          (omega (arith, length-bytes_by pen.width 0 (k.parts ++ (p ∷ [])), on.ends, on.room))
          ∙ sym (long_same h t)

      go : (t : Bool) → ltb 0 (length b - 7) ≡ t → length (bytes_on b pen p) ≡ length b
      go true t = stored (omega (arith, ltb-true 0 (length b - 7) t))
      go false t = ap length (not-stored t)
        where
          not-stored : ltb 0 (length b - 7) ≡ false → bytes_on b pen p ≡ b
          not-stored q = rw q

  pub penned-on : Penned (bytes_on b pen p) (pen_on (length b - 7) pen p)
  penned-on =
      record {
        before = k.before;
        parts = k.parts ++ (p ∷ []);
        holds =
            λ (s : 7 < length (bytes_on b pen p)).
            let t : 7 < length b = omega (arith, s, bytes-long) in
            let h = k.holds t in
            let on = holds_on pen.width (length b - 7) k.before k.parts pen b h p (omega (arith, h.size, room t)) in
            rw ((moves (length b - 7) pen p).width, bytes-long) on;
        short = λ (s : 7 < length (bytes_on b pen p)). let t : 7 < length b = omega (arith, s, bytes-long) in omega (arith, bytes-long, k.short t);
      }
