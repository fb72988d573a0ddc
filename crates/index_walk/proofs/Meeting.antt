-- The passes over the entries of a sound index record: from the first edge on each pass meets the next entry, and tells whether it is the last. This is what is to be
-- believed of the definitions: begin with `before-start`; each pass is `before-pass`.
use Prim.Native.Nat.{ℕ, zero, suc, ◌+◌, ◌-◌, ◌≤◌, ◌<◌}
use mathlib.Core.Path.{◌≡◌, refl, ◌∙◌, sym, ap}
use mathlib.Core.Bool.{Bool, true, false}
use mathlib.Core.List.{List, [], ◌∷◌}
use lib.ListN.{length, get_or, drop, get_or-map}
use lib.Seq.{get_or-drop}
use lib.Dec.{eqb}
use native.Mathlib.Omega.{arith}
use native.Mathlib.Numerals.{add-one}
use borrow.Author.Tests.{le-ltb, eq-eqb, ne_eqb, eqb-true, eqb-false}
use Rattle.std.specs.Prelude.{Option, Some}
use Rattle.fields.specs.Choice.{pick}
use Rattle.fields.proofs.Choices.{false-true}
use Rattle.index.specs.Meaning as meaning
use Rattle.index.specs.Meaning.{numbers}
use Rattle.fields.specs.Bytes.{number}
use Rattle.index.specs.Reading.{last_at, length_at, free_count}
use Rattle.sections.specs.Parts.{Part, part_size, parts_size, ends_closed}
use Rattle.sections.specs.Layout.{last_long}
use Rattle.sections.specs.Reading.{parts_at, parts_in, read_index, sound_index}
use Rattle.sections.proofs.Sounding.{Sound, sound-apart}
use Rattle.index_step.specs.AidStep.{chars_at, step_at, place_past}
use Rattle.index_step.specs.AidEntries.{Here, here_first, part_here, entry_here, here_next}
use Rattle.index_step.proofs.Passing.{Next, next-there}
use Rattle.index_step.proofs.Stepping.{Standing, entries-count, standing-start, Stepped, standing-step}
use Rattle.index.specs.Reading.{piece_at}
use Rattle.index_walk.specs.declared.Edge.{Edge}
use Rattle.index_walk.specs.declared.Met.{Met}
use Rattle.index_walk.specs.AidPasses.{edge, met, edge_first, place_of, edge_of, pass_of}
use Rattle.index_walk.proofs.Reading.{pass-is}

-- ---- which entry is the last

pub parts-long : (w : ℕ) (ib : List ℕ) (r end k : ℕ) → length (parts_at w ib r end k) ≡ k
unfolding parts_at
parts-long w ib r end zero = refl
parts-long w ib r end (suc k) =
    let rest = r - part_size w (record { piece = piece_at w ib r; closes = eqb (r - (w + 2)) end }) in
    ap suc (parts-long w ib rest (pick (eqb (r - (w + 2)) end) (end - number 2 ib rest) end) k)

-- the last entry's control information, its characters and its section's field lie among the entries
last-inside : (w : ℕ) (ps : List Part) → ends_closed ps ≡ true → last_long ps + 2 + (w + 2) ≤ parts_size w ps
unfolding last_long parts_size ends_closed
last-inside w [] h = absurd (false-true h)
last-inside w (p ∷ []) h = rw h (omega arith)
last-inside w (p ∷ q ∷ ps) h = omega (arith, last-inside w (q ∷ ps) h)

-- Entries that end at place r, of which the last has its control information at x: where one is alone, it is the last, else not, and the same holds of the others.
pub record Further (w r x : ℕ) (p : Part) (ps : List Part) : Type 0 where
  pub told : eqb (r - (w + 2)) x ≡ eqb (length ps) 0
  pub closes : 0 < length ps → ends_closed ps ≡ true
  pub last : 0 < length ps → x + parts_size w ps ≡ r - part_size w p + 2 + last_long ps

further : (w r x : ℕ) (p : Part) (ps : List Part) → ends_closed (p ∷ ps) ≡ true → x + parts_size w (p ∷ ps) ≡ r + 2 + last_long (p ∷ ps) → parts_size w (p ∷ ps) ≤ r → Further w r x p ps
unfolding last_long parts_size ends_closed
further w r x p [] h e k =
    let z : ◌≡◌ {A = ℕ} (pick p.closes 2 0) 2 = rw h in
    record { told = eq-eqb (r - (w + 2)) x (omega (arith, e, k, z)); closes = λ (s : 0 < 0). absurd (omega arith); last = λ (s : 0 < 0). absurd (omega arith) }
further w r x p (q ∷ ps) h e k =
    record {
      told = ne_eqb (r - (w + 2)) x (λ (s : r - (w + 2) ≡ x). omega (arith, s, e, k, last-inside w (q ∷ ps) h))
          ∙ sym (ne_eqb (suc (length ps)) 0 (λ (s : suc (length ps) ≡ 0). omega (arith, s)));
      closes = λ (s : 0 < suc (length ps)). h;
      last = λ (s : 0 < suc (length ps)). omega (arith, e, k);
    }

-- ---- an edge that stands before entry i of a sound record

pub record Before (w K n : ℕ) (ib : List ℕ) (i : ℕ) (e : Edge) : Type 0 where
  pub here : Here
  pub stands : Standing w K n ib i here
  pub right : e.right ≡ here.right
  pub end : e.end ≡ here.end
  pub room : 24 + parts_size w (parts_at w ib here.right here.end (length (read_index w n ib).entries - i)) ≤ here.right
  pub closes : i < length (read_index w n ib).entries → ends_closed (parts_at w ib here.right here.end (length (read_index w n ib).entries - i)) ≡ true
  pub last : i < length (read_index w n ib).entries
      → last_at ib + parts_size w (parts_at w ib here.right here.end (length (read_index w n ib).entries - i))
      ≡ here.right + 2 + last_long (parts_at w ib here.right here.end (length (read_index w n ib).entries - i))

-- The first edge stands before entry 0.
pub before-start : (w K n : ℕ) (ib : List ℕ) → K ≤ 255 → sound_index w K n [] [] ib ≡ true → Before w K n ib 0 (edge_first ib)
unfolding parts_in
before-start w K n ib few h =
    let s : Sound w K n [] [] ib = sound-apart w K n [] [] ib h in
    let large : 31 ≤ length ib = omega (arith, s.placed.unused, s.placed.apart) in
    let z : length (read_index w n ib).entries - 0 ≡ n - free_count w ib = omega (arith, entries-count w n ib) in
    rw (le-ltb (length ib) 24 (omega (arith, large)))
    (record {
      here = here_first ib;
      stands = standing-start w K n ib (omega (arith, large)) few h;
      right = refl;
      end = refl;
      room = rw z (omega (arith, s.placed.unused, s.placed.apart));
      closes = rw z (λ (_ : 0 < length (read_index w n ib).entries). s.placed.closed);
      last = rw z (λ (_ : 0 < length (read_index w n ib).entries). s.placed.last);
    })

-- ---- one pass

-- the edge past an entry is that before the next
edge-next : (w : ℕ) (ib : List ℕ) (h : Here) → Next w ib h
    → edge_of (place_past ib (step_at w ib h.right h.end) (place_of (edge h.right h.end))) ≡ edge (here_next w ib h).right (here_next w ib h).end
edge-next w ib h x = go (eqb (h.right - (w + 2)) h.end) refl
  where
    go : (t : Bool) → eqb (h.right - (w + 2)) h.end ≡ t
        → edge_of (place_past ib (step_at w ib h.right h.end) (place_of (edge h.right h.end))) ≡ edge (here_next w ib h).right (here_next w ib h).end
    go true c =
        let size : part_size w (part_here w ib h) ≡ w + 2 + length_at w ib h.right + 2 = x.size ∙ rw c in
        let place : h.right - (w + 2 + length_at w ib h.right + 2) ≡ chars_at w ib h.right - 2 = omega arith in
        rw (size, c, place)
    go false c =
        let size : part_size w (part_here w ib h) ≡ w + 2 + length_at w ib h.right + 0 = x.size ∙ rw c in
        let place : h.right - (w + 2 + length_at w ib h.right + 0) ≡ chars_at w ib h.right = omega arith in
        rw (size, c, place)

-- the number of the entry that comes first behind some
number-there : (es : List meaning.Entry) (i : ℕ) (x : meaning.Entry) (ys : List meaning.Entry) → drop i es ≡ x ∷ ys → get_or (numbers es) i 0 ≡ x.num
number-there es i x ys e =
    let z : i + 0 ≡ i = omega arith in
    let f : get_or es i (meaning.entry [] 0) ≡ x =
    ap (λ (j : ℕ). get_or es j (meaning.entry [] 0)) (sym z) ∙ sym (get_or-drop i es 0 (meaning.entry [] 0)) ∙ ap (λ (ys : List meaning.Entry). get_or ys 0 (meaning.entry [] 0)) e in
    get_or-map (λ (y : meaning.Entry). y.num) es i (meaning.entry [] 0) ∙ ap (λ (y : meaning.Entry). y.num) f

-- What a pass meets: entry i, of whose number an interval is; whether it is the last; and the edge before the next, further left in the record.
pub record Passes (w K n : ℕ) (ib : List ℕ) (i : ℕ) (e : Edge) : Type 0 where
  pub next : Edge
  pub met : pass_of w ib e ≡ Some (met (get_or (numbers (read_index w n ib).entries) i 0) next (eqb (i + 1) (length (read_index w n ib).entries)))
  pub named : get_or (numbers (read_index w n ib).entries) i 0 < n
  pub stands : Before w K n ib (i + 1) next
  pub some : 0 < next.right
  pub less : next.right < e.right

same-edge : (e : Edge) (r d : ℕ) → e.right ≡ r → e.end ≡ d → e ≡ edge r d
same-edge e r d a b =
    let f : edge e.right e.end ≡ edge r d = cc in
    f

same_met : {x y : ℕ} {e f : Edge} {t u : Bool} → y ≡ x → e ≡ f → t ≡ u → ◌≡◌ {A = Option Met} (Some (met x e t)) (Some (met y f u))
same_met p q r = rw (p, q, r)

-- none is left exactly behind the last
none_left : (i m : ℕ) → i < m → eqb (m - suc i) 0 ≡ eqb (i + 1) m
none_left i m h = go (eqb (i + 1) m) refl
  where
    go : (t : Bool) → eqb (i + 1) m ≡ t → eqb (m - suc i) 0 ≡ t
    go true e = eq-eqb (m - suc i) 0 (omega (arith, eqb-true (i + 1) m e))
    go false e = ne_eqb (m - suc i) 0 (λ (z : m - suc i ≡ 0). eqb-false (i + 1) m e (omega (arith, z, h)))

module _ (w K n : ℕ) (ib : List ℕ) (i : ℕ) (e : Edge) (narrow : w ≤ 4) (b : Before w K n ib i e) (more : i < length (read_index w n ib).entries) where
  abbrev es : List meaning.Entry
  es = (read_index w n ib).entries

  abbrev h : Here
  h = b.here

  abbrev p : Part
  p = part_here w ib h

  -- those behind it
  abbrev ps : List Part
  ps = parts_at w ib (here_next w ib h).right (here_next w ib h).end (length es - suc i)

  s : Stepped w K n ib i h
  s = standing-step w K n ib i h b.stands more

  parted : parts_at w ib h.right h.end (length es - i) ≡ p ∷ ps
  unfolding parts_at
  parted = let z : length es - i ≡ suc (length es - suc i) = omega (arith, more) in rw z

  size_is : parts_size w (parts_at w ib h.right h.end (length es - i)) ≡ part_size w p + parts_size w ps
  unfolding parts_size
  size_is = rw parted

  room : 24 + (part_size w p + parts_size w ps) ≤ h.right
  room = omega (arith, b.room, size_is)

  on : Further w h.right (last_at ib) p ps
  on =
      let few : parts_size w (parts_at w ib h.right h.end (length es - i)) ≤ h.right = omega (arith, b.room) in
      further w h.right (last_at ib) p ps (rw parted at (b.closes more)) (rw parted at (b.last more)) (rw parted at few)

  there : Next w ib h
  there = next-there w ib h (omega (arith, b.stands.inside)) s.lies

  -- the last entry is told
  last-told : eqb (h.right - (w + 2)) (last_at ib) ≡ eqb (i + 1) (length es)
  last-told = on.told ∙ ap (λ (x : ℕ). eqb x 0) (parts-long w ib (here_next w ib h).right (here_next w ib h).end (length es - suc i)) ∙ none_left i (length es) more

  passed : pass_of w ib e ≡ Some (met (get_or (numbers es) i 0) (edge (here_next w ib h).right (here_next w ib h).end) (eqb (i + 1) (length es)))
  passed =
      let r : ℕ = h.right in
      let q = pass-is w ib (edge r h.end) narrow (omega (arith, room, b.stands.inside)) (omega (arith, b.stands.inside)) (omega (arith, there.room)) (length_at w ib r)
      (pick (eqb (r - (w + 2)) h.end) 2 0)
      refl refl (omega (arith, there.field, there.room)) (step_at w ib r h.end) refl (place_past ib (step_at w ib r h.end) (place_of (edge r h.end))) refl (last_at ib) refl in
      ap (pass_of w ib) (same-edge e r h.end b.right b.end)
      ∙ sym q
      ∙ same_met (number-there es i (entry_here w ib h) (drop (suc i) es) s.here) (edge-next w ib h there) last-told

  pub before-pass : Passes w K n ib i e
  before-pass =
      record {
        next = edge (here_next w ib h).right (here_next w ib h).end;
        met = passed;
        named = rw (number-there es i (entry_here w ib h) (drop (suc i) es) s.here) s.within;
        stands = rw (add-one i)
            (record {
              here = here_next w ib h;
              stands = s.next;
              right = refl;
              end = refl;
              room = omega (arith, room);
              closes = λ (k : suc i < length es). on.closes (omega (arith, k, parts-long w ib (here_next w ib h).right (here_next w ib h).end (length es - suc i)));
              last = λ (k : suc i < length es). on.last (omega (arith, k, parts-long w ib (here_next w ib h).right (here_next w ib h).end (length es - suc i)));
            });
        some = omega (arith, room);
        less = omega (arith, room, b.right);
      }
