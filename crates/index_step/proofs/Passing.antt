-- A pass over entries, one after another. What can be read as a whole can be read in two; and what the code's place and buffers hold past an entry.
use Prim.Native.Nat.{ℕ, zero, suc, ◌+◌, ◌-◌, ◌≤◌, ◌<◌}
use mathlib.Core.Path.{◌≡◌, refl, ◌∙◌, sym, ap}
use mathlib.Core.Bool.{Bool, true, false}
use mathlib.Core.List.{List, [], ◌∷◌, ◌++◌}
use lib.ListN.{length, take, drop, length-append, length-take}
use lib.Seq.{length-take-le, take-take}
use lib.Dec.{eqb, leb}
use native.Mathlib.Omega.{arith}
use borrow.Author.Tests.{leb-true, le-leb}
use Rattle.fields.specs.Choice.{pick, both}
use Rattle.fields.specs.Bytes.{part, number, splice}
use Rattle.fields.proofs.Choices.{both-split, both-join, both-assoc}
use Rattle.index.specs.Bounds.{bound, separator}
use Rattle.index.specs.Meaning.{Entry, entry, separator_before}
use Rattle.index.specs.Rules.{rises}
use Rattle.index.specs.Pieces.{Piece, spelt, piece_size}
use Rattle.index.specs.Reading.{length_at, piece_at}
use Rattle.index.proofs.Keeping.{separator-short, rises-apart}
use Rattle.index.proofs.Apart.{chars-long}
use Rattle.sections.specs.Parts.{Part, against, sep_of, high_after, spell_all, fronts_in, part_size, parts_size}
use Rattle.sections.specs.Reading.{parts_at}
use Rattle.index_step.specs.declared.Step.{Step}
use Rattle.index_step.specs.declared.PassPlace.{PassPlace}
use Rattle.index_step.specs.AidStep.{front_at, chars_at, step_at, place_past, EntryEnds, reach, Renewed, extended_by, copied_from}
use Rattle.index_step.specs.AidEntries.{Here, part_here, sep_here, entry_here, here_next, here_after, entries_here, lies_here, readable, Held}
use Rattle.index_step.proofs.Reaching.{reach-most, extended-chars, extended-length, extended-front}

-- ---- the entries are those of the reading

pub entries-spelt : (w : ℕ) (ib : List ℕ) (h : Here) (k : ℕ) → entries_here w ib h k ≡ spell_all h.high h.ref (parts_at w ib h.right h.end k)
unfolding entries_here spell_all parts_at
entries-spelt w ib h zero = refl
entries-spelt w ib h (suc k) = ap (λ (es : List Entry). entry_here w ib h ∷ es) (entries-spelt w ib (here_next w ib h) k)

pub entries-long : (w : ℕ) (ib : List ℕ) (h : Here) (k : ℕ) → length (entries_here w ib h k) ≡ k
unfolding entries_here
entries-long w ib h zero = refl
entries-long w ib h (suc k) = ap suc (entries-long w ib (here_next w ib h) k)

-- Where they lie in the record, their F are legal and their bounds rise, they can be read.
pub rises-readable : (w K : ℕ) (ib low : List ℕ) (h : Here) (k : ℕ) → K ≤ 255 → parts_size w (parts_at w ib h.right h.end k) ≤ h.right
    → fronts_in h.high h.ref (parts_at w ib h.right h.end k) ≡ true → rises K low (entries_here w ib h k) ≡ true → readable w ib h k ≡ true
unfolding parts_at parts_size fronts_in entries_here readable
rises-readable w K ib low h zero few room fits up = refl
rises-readable w K ib low h (suc k) few room fits up =
    let p : Part = part_here w ib h in
    let a = rises-apart K low (entry_here w ib h) (entries_here w ib (here_next w ib h) k) up in
    let f = both-split (leb p.piece.front (length (against h.high h.ref p))) (fronts_in (here_next w ib h).high (sep_here w ib h) (parts_at w ib (here_next w ib h).right (here_next w ib h).end k)) fits in
    let s : length (sep_here w ib h) ≤ 255 = omega (arith, few, separator-short K (sep_here w ib h) a.0) in
    both-join _ _ (both-join _ _ (le-leb (part_size w p) h.right (omega (arith, room))) (both-join _ _ f.0 (le-leb _ _ s)))
    (rises-readable w K ib (bound K (sep_here w ib h)) (here_next w ib h) k few (omega (arith, room)) f.1 a.2)

-- ---- some entries, and those after them

pub after-append : (w : ℕ) (ib : List ℕ) (h : Here) (i k : ℕ) → here_after w ib h (i + k) ≡ here_after w ib (here_after w ib h i) k
unfolding here_after
after-append w ib h zero k = let z : 0 + k ≡ k = omega arith in rw z
after-append w ib h (suc i) k = let z : suc i + k ≡ suc (i + k) = omega arith in rw z (after-append w ib (here_next w ib h) i k)

pub entries-append : (w : ℕ) (ib : List ℕ) (h : Here) (i k : ℕ) → entries_here w ib h (i + k) ≡ entries_here w ib h i ++ entries_here w ib (here_after w ib h i) k
unfolding entries_here here_after
entries-append w ib h zero k = let z : 0 + k ≡ k = omega arith in rw z
entries-append w ib h (suc i) k =
    let z : suc i + k ≡ suc (i + k) = omega arith in
    rw z (ap (λ (es : List Entry). entry_here w ib h ∷ es) (entries-append w ib (here_next w ib h) i k))

pub readable-append : (w : ℕ) (ib : List ℕ) (h : Here) (i k : ℕ) → readable w ib h (i + k) ≡ both (readable w ib h i) (readable w ib (here_after w ib h i) k)
unfolding readable here_after
readable-append w ib h zero k = let z : 0 + k ≡ k = omega arith in rw z
readable-append w ib h (suc i) k =
    let z : suc i + k ≡ suc (i + k) = omega arith in
    rw (z, readable-append w ib (here_next w ib h) i k) (sym (both-assoc (lies_here w ib h) (readable w ib (here_next w ib h) i) (readable w ib (here_after w ib (here_next w ib h) i) k)))

-- the separator before is that of the last entry passed
pub after-ref : (w : ℕ) (ib : List ℕ) (h : Here) (k : ℕ) → (here_after w ib h k).ref ≡ separator_before h.ref (entries_here w ib h k)
unfolding here_after entries_here separator_before
after-ref w ib h zero = refl
after-ref w ib h (suc k) = after-ref w ib (here_next w ib h) k

-- a pass goes to the left
pub after-right : (w : ℕ) (ib : List ℕ) (h : Here) (k : ℕ) → (here_after w ib h k).right ≤ h.right
unfolding here_after
after-right w ib h zero = omega arith
after-right w ib h (suc k) = omega (arith, after-right w ib (here_next w ib h) k)

-- ---- the next entry

-- what is known of an entry that can be read
pub record Next (w : ℕ) (ib : List ℕ) (h : Here) : Type 0 where
  pub room : w + 2 + length_at w ib h.right ≤ h.right
  pub field : pick (part_here w ib h).closes 2 0 ≤ chars_at w ib h.right
  pub size : part_size w (part_here w ib h) ≡ w + 2 + length_at w ib h.right + pick (part_here w ib h).closes 2 0
  pub front : front_at w ib h.right ≤ length (against h.high h.ref (part_here w ib h))
  pub few : front_at w ib h.right + length_at w ib h.right ≤ 255
  pub long : length (sep_here w ib h) ≡ front_at w ib h.right + length_at w ib h.right

pub next-there : (w : ℕ) (ib : List ℕ) (h : Here) → h.right ≤ length ib → lies_here w ib h ≡ true → Next w ib h
next-there w ib h inside lies =
    let p : Part = part_here w ib h in
    let a = both-split (leb (part_size w p) h.right) _ lies in
    let b = both-split (leb p.piece.front (length (against h.high h.ref p))) (leb (length (sep_here w ib h)) 255) a.1 in
    let room : piece_size w p.piece + pick p.closes 2 0 ≤ h.right = leb-true _ _ a.0 in
    let l : length p.piece.chars ≡ length_at w ib h.right = chars-long w ib h.right inside (omega (arith, room)) in
    let front : p.piece.front ≤ length (against h.high h.ref p) = leb-true _ _ b.0 in
    let long : length (sep_here w ib h) ≡ p.piece.front + length_at w ib h.right =
    length-append (take p.piece.front (against h.high h.ref p)) p.piece.chars ∙ omega (arith, l, length-take-le p.piece.front (against h.high h.ref p) front) in
    record {
      room = omega (arith, l, room);
      field = omega (arith, l, room);
      size = omega (arith, l);
      front = front;
      few = omega (arith, long, leb-true (length (sep_here w ib h)) 255 b.1);
      long = long;
    }

-- ---- the code's place and buffers

module _ (w : ℕ) (ib : List ℕ) (h : Here) (p : PassPlace) (buf high : List ℕ) (held : Held h p buf high) (inside : h.right + 7 ≤ length ib) (lies : lies_here w ib h ≡ true) where
  abbrev r : ℕ
  r = h.right

  next : Next w ib h
  next = next-there w ib h (omega (arith, inside)) lies

  -- for the calls
  pub held-lies : w ≤ 4 → EntryEnds w ib p.right
  held-lies few = rw held.right (few, omega (arith, inside), next.room)

  pub held-step : (s : Step) → s ≡ step_at w ib p.right p.end → s ≡ step_at w ib h.right h.end
  held-step s e = e ∙ rw (held.right, held.end)

  module _ (s : Step) (e : s ≡ step_at w ib h.right h.end) where
    pub step-few : s.front + s.len ≤ 255
    step-few = rw e next.few

    pub step-long : length (sep_here w ib h) ≡ s.front + s.len
    step-long = rw e next.long

    pub step-inside : s.at + reach s.len ≤ length ib
    step-inside = rw e (omega (arith, next.room, inside, reach-most (length_at w ib r)))

    pub step_past : (s.front + s.len ≤ 510) × (s.at ≤ length ib) × (pick s.closes 2 0 ≤ s.at)
    step_past = rw e (omega (arith, next.few), omega (arith, next.room, inside), next.field)

    pub step-renews : (s.front + s.len + 8 ≤ length high) × (s.front + s.len + 8 ≤ length buf) × (s.at + reach s.len ≤ length ib)
    step-renews = (omega (arith, step-few, held.whole'), omega (arith, step-few, held.whole), step-inside)

    -- Past the entry: what the buffers begin with, case by case.
    abbrev sep : List ℕ
    sep = sep_here w ib h

    abbrev F : ℕ
    F = front_at w ib h.right

    abbrev L : ℕ
    L = length_at w ib h.right

    abbrev at : ℕ
    at = chars_at w ib h.right

    chars_inside : at + reach L ≤ length ib
    chars_inside = omega (arith, next.room, inside, reach-most L)

    -- a buffer that begins with what F refers to
    joins : (b : List ℕ) (ref : List ℕ) (len : ℕ) → 263 ≤ length b → take len b ≡ ref → length ref ≡ len → F ≤ length ref
        → take (F + L) (splice b F (part ib at (reach L))) ≡ spelt ref (piece_at w ib h.right)
    joins b ref len whole is long front =
        extended-front ib b (splice b F (part ib at (reach L))) F L at (omega (arith, next.few, whole, reach-most L)) chars_inside refl ref len is (omega (arith, front, long))

    as_long : (b : List ℕ) → 263 ≤ length b → length (splice b F (part ib at (reach L))) ≡ length b
    as_long b whole = extended-length ib b (splice b F (part ib at (reach L))) F L at (omega (arith, next.few, whole, reach-most L)) chars_inside refl

    -- a buffer to whose front another's was copied
    module _ (b other : List ℕ) (whole : 263 ≤ length b) (whole' : 263 ≤ length other) where
      copies : take (F + L) (copied_from other (F + L) b) ≡ take (F + L) other
      copies =
          let z : 0 + (F + L) ≡ F + L = omega arith in
          let m = reach-most (F + L) in
          rw z at (extended-chars other b (copied_from other (F + L) b) 0 (F + L) 0 (omega (arith, next.few, whole, m)) (omega (arith, next.few, whole', m)) refl)

      as-long' : length (copied_from other (F + L) b) ≡ length b
      as-long' =
          let m = reach-most (F + L) in
          extended-length other b (copied_from other (F + L) b) 0 (F + L) 0 (omega (arith, next.few, whole, m)) (omega (arith, next.few, whole', m)) refl

    abbrev On : Bool → Type 0
    On t = Held (here_next w ib h) (place_past ib (step_at w ib h.right h.end) p)
        (pick t (copied_from (splice high F (part ib at (reach L))) (F + L) buf) (splice buf F (part ib at (reach L)))) (pick t (splice high F (part ib at (reach L))) high)

    case : (t : Bool) → eqb (h.right - (w + 2)) h.end ≡ t → On t
    case true c =
        let front : F ≤ length h.high = rw c at next.front in
        let size : part_size w (part_here w ib h) ≡ w + 2 + L + 2 = next.size ∙ rw c in
        let two : 2 ≤ at = rw c at next.field in
        let high' : List ℕ = splice high F (part ib at (reach L)) in
        let is : take (F + L) high' ≡ spelt h.high (piece_at w ib h.right) = joins high h.high p.high held.whole' held.top held.tall front in
        let big : 263 ≤ length high' = omega (arith, as_long high held.whole', held.whole') in
        let place : h.right - (w + 2 + L + 2) ≡ at - 2 = omega arith in
        let long : length (spelt h.high (piece_at w ib h.right)) ≡ F + L = rw c at next.long in
        rw (size, c, place)
        (record {
          right = refl;
          end = rw held.end;
          ref = copies buf high' held.whole big ∙ is;
          top = is;
          long = long;
          tall = long;
          short = next.few;
          low = next.few;
          whole = omega (arith, as-long' buf high' held.whole big, held.whole);
          whole' = big;
        })
    case false c =
        let front : F ≤ length h.ref = rw c at next.front in
        let size : part_size w (part_here w ib h) ≡ w + 2 + L + 0 = next.size ∙ rw c in
        let place : h.right - (w + 2 + L + 0) ≡ at = omega arith in
        let long : length (spelt h.ref (piece_at w ib h.right)) ≡ F + L = rw c at next.long in
        rw (size, c, place)
        (record {
          right = refl;
          end = held.end;
          ref = joins buf h.ref p.len held.whole held.ref held.long front;
          top = held.top;
          long = long;
          tall = held.tall;
          short = next.few;
          low = held.low;
          whole = omega (arith, as_long buf held.whole, held.whole);
          whole' = held.whole';
        })

    pub held_on : (buf' high' : List ℕ) → Renewed ib s buf high buf' high' → Held (here_next w ib h) (place_past ib s p) buf' high'
    held_on buf' high' (is, is') = rw (is, is', e) (case (eqb (h.right - (w + 2)) h.end) refl)

    -- past any entry the separator's own buffer begins with it
    pub held-front : (buf' high' : List ℕ) → Renewed ib s buf high buf' high' → take (s.front + s.len) buf' ≡ sep_here w ib h
    held-front buf' high' new = front s.closes refl
      where
        on : Held (here_next w ib h) (place_past ib s p) buf' high'
        on = held_on buf' high' new

        front : (t : Bool) → s.closes ≡ t → take (s.front + s.len) buf' ≡ sep_here w ib h
        front true c = let q : (place_past ib s p).len ≡ s.front + s.len = rw c in rw q at on.ref
        front false c = let q : (place_past ib s p).len ≡ s.front + s.len = rw c in rw q at on.ref

    -- the separator, as the buffers have it before the entry
    pub held-joined : take s.front (pick s.closes high buf) ++ part ib s.at s.len ≡ sep_here w ib h
    held-joined = rw e (go (eqb (h.right - (w + 2)) h.end) refl)
      where
        chars : List ℕ
        chars = part ib (chars_at w ib h.right) (length_at w ib h.right)

        go : (t : Bool) → eqb (h.right - (w + 2)) h.end ≡ t
            → take (front_at w ib h.right) (pick t high buf) ++ part ib (chars_at w ib h.right) (length_at w ib h.right)
            ≡ take (front_at w ib h.right) (pick t h.high h.ref) ++ part ib (chars_at w ib h.right) (length_at w ib h.right)
        go true c =
            let f : F ≤ length h.high = rw c at next.front in
            ap (λ (xs : List ℕ). xs ++ chars) (sym (take-take F p.high high (omega (arith, f, held.tall))) ∙ ap (λ (xs : List ℕ). take F xs) held.top)
        go false c =
            let f : F ≤ length h.ref = rw c at next.front in
            ap (λ (xs : List ℕ). xs ++ chars) (sym (take-take F p.len buf (omega (arith, f, held.long))) ∙ ap (λ (xs : List ℕ). take F xs) held.ref)

    -- F of an entry that is no section's highest is at most the length of the separator before
    pub step-inner : (s.closes ≡ false) → s.front ≤ p.len
    step-inner c =
        let d : eqb (h.right - (w + 2)) h.end ≡ false = sym (ap (λ (x : Step). x.closes) e) ∙ c in
        let f : F ≤ length h.ref = rw d at next.front in
        rw e (omega (arith, f, held.long))
