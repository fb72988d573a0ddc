-- Laws of the walk over the entries: how far it has come, each way out of it, and one turn.
use Prim.Native.Nat.{ℕ, suc, ◌+◌, ◌-◌, ◌≤◌, ◌<◌}
use mathlib.Core.Path.{◌≡◌, refl, ◌∙◌, sym, ap}
use mathlib.Core.Bool.{Bool, true, false}
use mathlib.Core.List.{List, [], ◌∷◌, ◌++◌}
use mathlib.Core.Logic.{◌⊎◌, inl, inr, ⊎_elim}
use lib.ListN.{length, get_or, take, set, replicate, length-append, length-replicate}
use lib.Seq.{length-take-le, take-take}
use lib.Dec.{eqb, leb, ltb}
use native.Mathlib.Omega.{arith}
use borrow.Author.Tests.{lt-ltb, eq-eqb, ne_eqb, le-leb, ltb-true, eqb-true, eqb-false, leb-true}
use Rattle.std.specs.Prelude.{Option, Some, None}
use Rattle.fields.specs.Choice.{pick, both, no}
use Rattle.fields.specs.Bytes.{number}
use Rattle.fields.specs.Order.{order_of, less}
use Rattle.fields.proofs.Choices.{false-true, both-split, both-join, off, both-none, both_true, both_false}
use Rattle.fields.proofs.Splices.{length-mid}
use Rattle.index.specs.Bounds.{empty, bound, separator}
use Rattle.index.specs.Meaning.{Entry, separator_before}
use Rattle.index.specs.Reading.{length_at}
use Rattle.index.proofs.Keeping.{separator-short}
use Rattle.index.proofs.Apart.{chars-long}
use Rattle.sections.specs.Parts.{Part, against, part_size}
use Rattle.sections.specs.Reading.{parts_at}
use Rattle.index_step.specs.declared.PassPlace.{PassPlace}
use Rattle.index_step.specs.declared.Step.{Step}
use Rattle.index_step.specs.AidStep.{place_start, front_at, chars_at, step_at, place_past, Renewed}
use Rattle.index_step.specs.AidEntries.{Here, here_first, part_here, sep_here, here_next, lies_here, Held}
use Rattle.index_step.proofs.Passing.{held_on}
use Rattle.index_step.proofs.Stepping.{held_start}
use Rattle.index_read.specs.AidParsing.{closes_at, parses}
use Rattle.index_read.specs.AidWalk.{bound_rises, Before, next_in, entry_of, Taken, chain, marking, fine_from}
use Rattle.index_read.specs.AidSeek.{reach_of, reach_past, look_of, aim_of, Search}
use Rattle.index_read.specs.AidStand.{Walkable, fine_at, low_of, Stand, Paused, Stopped}
use Rattle.index_read.specs.declared.Leg.{Leg}
use Rattle.index_read.specs.declared.Limits.{Limits}
use Rattle.index_read.specs.declared.Stop.{Stop}
use Rattle.index_read.proofs.Entry.{Good, good, passes, parses-joined}
use Rattle.index_read.proofs.Next.{closes-is, entry-good, entry-bad, taken_of}
use Rattle.index_read.proofs.Reaching.{Above, Aims, aims-top, aims-inner, search-start, search-on, search-skip, search-look, not-sought-at-end}

-- ---- the tests, entry by entry

fine-first : (by : Limits) (ib seen : List ℕ) (count : ℕ) → fine_from by ib seen count ≡ fine_at by ib seen false [] (here_first ib) count
unfolding fine_from fine_at
fine-first by ib seen count = refl

parts_next : (w : ℕ) (ib : List ℕ) (h : Here) (left : ℕ) → 0 < left
    → parts_at w ib h.right h.end left ≡ part_here w ib h ∷ parts_at w ib (here_next w ib h).right (here_next w ib h).end (left - 1)
unfolding parts_at
parts_next w ib h left more =
    let e : left ≡ suc (left - 1) = omega arith in
    ap (λ (z : ℕ). parts_at w ib h.right h.end z) e

shuffle : (a b c d x p q y : Bool) → both (both a (both b (both c (both d x)))) (both p (both q y)) ≡ both a (both b (both c (both d (both p (both q (both x y))))))
shuffle true true true true true p q y = refl
shuffle true true true true false p q y = sym (both-none p q)
shuffle true true true false x p q y = refl
shuffle true true false d x p q y = refl
shuffle true false c d x p q y = refl
shuffle false b c d x p q y = refl

module _ (by : Limits) (ib seen low : List ℕ) (h : Here) where
  abbrev w : ℕ
  w = by.width

  abbrev next : Part
  next = part_here w ib h

  abbrev sep : List ℕ
  sep = sep_here w ib h

  abbrev num : ℕ
  num = next.piece.num

  -- what is asked of the next entry
  pub record Passed : Type 0 where
    pub room : by.edge + part_size w next ≤ h.right
    pub front : next.piece.front ≤ length (against h.high h.ref next)
    pub fine : separator by.key sep ≡ true
    pub rising : less low (bound by.key sep) ≡ true
    pub small : num < by.n
    pub new : get_or seen num 0 ≡ 0

  abbrev rest : ℕ → Bool
  rest left = fine_at by ib (set seen num 1) next.closes (bound by.key sep) (here_next w ib h) left

  fine-step : (closed : Bool) (left : ℕ) → 0 < left
      → fine_at by ib seen closed low h left
      ≡ both (leb (by.edge + part_size w next) h.right)
      (both (leb next.piece.front (length (against h.high h.ref next)))
      (both (separator by.key sep) (both (less low (bound by.key sep)) (both (ltb num by.n) (both (eqb (get_or seen num 0) 0) (rest (left - 1)))))))
  unfolding fine_at chain marking
  fine-step closed left more =
      rw (parts_next w ib h left more)
      (shuffle (leb (by.edge + part_size w next) h.right) (leb next.piece.front (length (against h.high h.ref next))) (separator by.key sep)
      (less low (bound by.key sep)) _ (ltb num by.n) (eqb (get_or seen num 0) 0) _)

  fine-apart : (closed : Bool) (left : ℕ) → 0 < left → fine_at by ib seen closed low h left ≡ true → Passed
  fine-apart closed left more z =
      let a = both-split _ _ (sym (fine-step closed left more) ∙ z) in
      let b = both-split _ _ a.1 in
      let c = both-split _ _ b.1 in
      let d = both-split _ _ c.1 in
      let f = both-split _ _ d.1 in
      let g = both-split _ _ f.1 in
      record {
        room = leb-true _ _ a.0;
        front = leb-true _ _ b.0;
        fine = c.0;
        rising = d.0;
        small = ltb-true _ _ f.0;
        new = eqb-true _ _ g.0;
      }

  fine-on : (closed : Bool) (left : ℕ) → 0 < left → Passed → fine_at by ib seen closed low h left ≡ rest (left - 1)
  fine-on closed left more x =
      fine-step closed left more
      ∙ rw (
        le-leb (by.edge + part_size w next) h.right x.room,
        le-leb next.piece.front (length (against h.high h.ref next)) x.front,
        x.fine,
        x.rising,
        lt-ltb num by.n x.small,
        eq-eqb (get_or seen num 0) 0 x.new,
      )

  fine_end : (closed : Bool) → fine_at by ib seen closed low h 0 ≡ both (eqb h.right by.edge) (both (empty h.ref) (both (eqb (number 2 ib by.edge) 0) closed))
  unfolding fine_at chain marking parts_at
  fine_end closed = both_true _

  fine-done : (closed : Bool) (left : ℕ) → left ≡ 0
      → fine_at by ib seen closed low h left ≡ both (eqb h.right by.edge) (both (empty h.ref) (both (eqb (number 2 ib by.edge) 0) closed))
  fine-done closed left done = rw done (fine_end closed)

-- whether the entry before closed a section is asked at the end only
fine-open : (by : Limits) (ib seen low : List ℕ) (h : Here) (t u : Bool) (left : ℕ) → 0 < left → fine_at by ib seen t low h left ≡ fine_at by ib seen u low h left
fine-open by ib seen low h t u left more = fine-step by ib seen low h t left more ∙ sym (fine-step by ib seen low h u left more)

-- ---- how far the walk has come

pub reclosed : (ib : List ℕ) (by : Limits) (key old seen buf high : List ℕ) (p : PassPlace) (t u : Bool) (left reach : ℕ) → 0 < left
    → Stand ib by key old seen buf high p t left reach → Stand ib by key old seen buf high p u left reach
reclosed ib by key old seen buf high p t u left reach more st =
    record {
      h = st.h;
      held = st.held;
      whole = st.whole;
      whole' = st.whole';
      short = st.short;
      low = st.low;
      fine = st.fine;
      inside = st.inside;
      off = st.off;
      few = st.few;
      same = st.same ∙ fine-open by ib seen (low_of (eqb left by.count) by.key st.h.ref) st.h t u left more;
      search = st.search;
      keyed = st.keyed;
    }

pub start : (ib : List ℕ) (by : Limits) (key old : List ℕ) (p : PassPlace) (reach : ℕ) → p ≡ place_start ib → 31 ≤ length ib → by.edge + 7 ≤ length ib → 0 < by.count → reach ≤ 1
    → (0 < reach → length key ≡ by.key) → Stand ib by key old old (replicate 263 0) (replicate 263 0) p true by.count reach
start ib by key old p reach is large before some few keyed =
    let k : length {A = ℕ} (replicate 263 0) ≡ 263 = length-replicate {A = ℕ} 263 0 in
    reclosed ib by key old old (replicate 263 0) (replicate 263 0) p false true by.count reach some
    (record {
      h = here_first ib;
      held = rw is (held_start ib (replicate 263 0) (replicate 263 0) (omega (arith, k)) (omega (arith, k)));
      whole = k;
      whole' = k;
      short = omega arith;
      low = omega arith;
      fine = unfold separator in refl;
      inside = omega arith;
      off = omega arith;
      few = omega arith;
      same = fine-first by ib old by.count ∙ rw (eq-eqb by.count by.count refl);
      search = search-start ib by key reach few;
      keyed = keyed;
    })

-- a separator for keys of one length is one for any length that it fits in
separator-own : (K : ℕ) (s : List ℕ) → separator K s ≡ true → separator (length s) s ≡ true
unfolding separator
separator-own K s h =
    let b = both-split (leb (length s) K) (no (eqb (get_or s (length s - 1) 0) 255)) h in
    both-join (leb (length s) (length s)) (no (eqb (get_or s (length s - 1) 0) 255)) (le-leb (length s) (length s) (omega arith)) b.1

-- a bound isn't empty, so it is above no bound at all
less-low : (t : Bool) (K : ℕ) (ref sep : List ℕ) → 1 ≤ K → less (low_of t K ref) (bound K sep) ≡ bound_rises t K ref sep
unfolding bound
less-low t K ref sep h = go t (bound K sep) (omega (arith, length-append sep (replicate (K - length sep) 255), length-replicate {A = ℕ} (K - length sep) 255))
  where
    go : (t : Bool) (x : List ℕ) → 0 < length x → less (low_of t K ref) x ≡ pick t true (less (bound K ref) x)
    go true [] h = absurd (omega arith)
    go true (y ∷ ys) h = unfold order_of in refl
    go false x h = refl

both_yes : (x : Bool) → both x true ≡ x
both_yes true = refl
both_yes false = refl

none-closed : (a b x t : Bool) → t ≡ false → both a (both b (both x t)) ≡ false
none-closed a b x t e = rw (e, both_false x, both_false b) (both_false a)

empty-is : (xs : List ℕ) → empty xs ≡ eqb (length xs) 0
empty-is [] = refl
empty-is (x ∷ xs) = sym (ne_eqb (suc (length xs)) 0 (omega arith))

pick-length : (t : Bool) (a b : List ℕ) → length (pick t a b) ≡ pick t (length a) (length b)
pick-length true a b = refl
pick-length false a b = refl

pick-short : (t : Bool) (a b : List ℕ) (K : ℕ) → length a ≤ K → length b ≤ K → length (pick t a b) ≤ K
pick-short true a b K x y = x
pick-short false a b K x y = y

-- the reach past an entry that is no section's highest: by a look at it where its F is below the reach, else the same
abbrev pub NextReach : List ℕ → PassPlace → Limits → List ℕ → ℕ → ℕ → Type 0
NextReach ib p by key reach r =
    ((front_at by.width ib p.right < reach) × (r ≡ look_of ib p by key reach) × (0 < r)) ⊎ ((reach ≤ front_at by.width ib p.right) × (r ≡ reach))

-- as code finds it: f is the entry's F
module _ (ib : List ℕ) (p : PassPlace) (by : Limits) (key : List ℕ) (reach r f : ℕ) (is : f ≡ front_at by.width ib p.right) where
  pub by-look : (l : ℕ) → f < reach → l ≡ look_of ib p by key reach → (l ≡ 0 → ⊥) → r ≡ l → NextReach ib p by key reach r
  by-look l z l-is some e = inl (omega (arith, z, is), e ∙ l-is, omega (arith, some, e))

  pub by_front : reach ≤ f → r ≡ reach → NextReach ib p by key reach r
  by_front z e = inr (omega (arith, z, is), e)

reached-sought : (ib : List ℕ) (p : PassPlace) (by : Limits) (key : List ℕ) (reach r : ℕ) → NextReach ib p by key reach r → 0 < reach → 0 < r
reached-sought ib p by key reach r x some =
    ⊎_elim (λ (y : (front_at by.width ib p.right < reach) × (r ≡ look_of ib p by key reach) × (0 < r)). y.2)
    (λ (y : (reach ≤ front_at by.width ib p.right) × (r ≡ reach)). rw y.1 some) x

sought-reached : (ib : List ℕ) (p : PassPlace) (by : Limits) (key : List ℕ) (reach r : ℕ) → NextReach ib p by key reach r → 0 < r → 0 < reach
sought-reached ib p by key reach r x some =
    ⊎_elim (λ (y : (front_at by.width ib p.right < reach) × (r ≡ look_of ib p by key reach) × (0 < r)). omega (arith, y.0))
    (λ (y : (reach ≤ front_at by.width ib p.right) × (r ≡ reach)). omega (arith, y.1, some)) x

-- ---- the next entry, by the place and the buffers and by the entries

module _ (by : Limits) (ib : List ℕ) (h : Here) (p : PassPlace) (buf high : List ℕ) (held : Held h p buf high) where
  abbrev r : ℕ
  r = h.right

  abbrev entry-part : Part
  entry-part = part_here by.width ib h

  abbrev F : ℕ
  F = front_at by.width ib r

  abbrev L : ℕ
  L = length_at by.width ib r

  abbrev former : List ℕ
  former = against h.high h.ref entry-part

  -- the buffers begin with what F refers to, so the separator is the same
  next-is : F ≤ length former → next_in ib p by buf high ≡ sep_here by.width ib h
  next-is f = rw (held.right, held.end) (go entry-part.closes f)
    where
      go : (t : Bool) → F ≤ length (pick t h.high h.ref) → take F (pick t high buf) ++ entry-part.piece.chars ≡ take F (pick t h.high h.ref) ++ entry-part.piece.chars
      go true f = let z : take F high ≡ take F h.high = sym (take-take F p.high high (omega (arith, f, held.tall))) ∙ rw held.top in rw z
      go false f = let z : take F buf ≡ take F h.ref = sym (take-take F p.len buf (omega (arith, f, held.long))) ∙ rw held.ref in rw z

  step_is : (s : Step) → Good ib p by s → s ≡ step_at by.width ib r h.end
  step_is s g = g.is ∙ rw (held.right, held.end)

  front-is : F ≤ length former → front_at by.width ib p.right ≤ pick (closes_at by.width p) p.high p.len
  front-is f = rw (held.right, held.end, ← held.tall, ← held.long) (omega (arith, f, pick-length entry-part.closes h.high h.ref))

  is_front : F ≤ pick entry-part.closes p.high p.len → F ≤ length former
  is_front f =
      let y : pick entry-part.closes p.high p.len ≡ pick entry-part.closes (length h.high) (length h.ref) = rw (held.tall, held.long) in
      omega (arith, f, y, pick-length entry-part.closes h.high h.ref)

  sep-size : F ≤ length former → length entry-part.piece.chars ≡ L → length (sep_here by.width ib h) ≡ F + L
  sep-size f c = omega (arith, length-append (take F former) entry-part.piece.chars, length-take-le F former f, c)

  parses-here : h.right + 7 ≤ length ib → by.edge + part_size by.width entry-part ≤ r → F ≤ length former → separator by.key (sep_here by.width ib h) ≡ true
      → parses ib p by ≡ true
  parses-here inside room f fine =
      let long : length entry-part.piece.chars ≡ L = chars-long by.width ib r (omega (arith, inside)) (omega (arith, room)) in
      let a : by.edge + (by.width + 2 + length_at by.width ib p.right + pick (closes_at by.width p) 2 0) ≤ p.right =
      rw (held.right, held.end) (omega (arith, room, long)) in
      let c : front_at by.width ib p.right + length_at by.width ib p.right ≤ by.key =
      rw held.right (omega (arith, sep-size f long, separator-short by.key (sep_here by.width ib h) fine)) in
      parses-joined ib p by a (front-is f) c

  -- the end
  same_end : (x y : Bool) → both (eqb r by.edge) (both (empty h.ref) (both x y)) ≡ both (eqb p.right by.edge) (both (eqb p.len 0) (both x y))
  same_end x y = rw (empty-is h.ref, held.long, held.right)

module _ (ib : List ℕ) (by : Limits) (key old seen buf high : List ℕ) (p : PassPlace) (closed : Bool) (left reach : ℕ) (st : Stand ib by key old seen buf high p closed left reach) where
  abbrev count : ℕ
  count = by.count

  -- for the calls
  pub roomy : Walkable ib by key → by.width + 2 ≤ p.right
  roomy w = omega (arith, w.few, w.far, st.off, st.held.right)

  pub ready : Walkable ib by key → Before ib p by buf
  ready w =
      record {
        some = w.some;
        few = w.few;
        inside = omega (arith, st.inside, st.held.right);
        room = roomy w;
        edge = w.edge;
        whole = omega (arith, st.whole, w.most);
        short = omega (arith, st.short, st.held.long);
        low = omega (arith, st.low, st.held.tall);
        held = rw (st.held.ref, ← st.held.long) st.fine;
      }

  -- before the first entry there is no separator
  pub first-empty : eqb left count ≡ true → p.len ≡ 0
  unfolding separator_before
  first-empty e = go st.search.passed (omega (arith, st.search.many, eqb-true left count e)) st.search.last
    where
      go : (es : List Entry) → length es ≡ 0 → separator_before [] es ≡ st.h.ref → p.len ≡ 0
      go [] none last = omega (arith, ap length last, st.held.long)
      go (x ∷ es) none last = absurd (omega (arith, none))

  pub tall : by.key ≤ 255 → by.key + 8 ≤ length high
  tall most = omega (arith, st.whole')

  pub sighted : Walkable ib by key → 0 < reach
      → (1 ≤ by.width) × (by.width ≤ 4) × (p.right ≤ length ib) × (by.width + 2 ≤ p.right) × (by.edge < 65536) × (length key ≡ by.key)
  sighted w sought = (w.some, w.few, omega (arith, st.inside, st.held.right), roomy w, w.edge, st.keyed sought)

  pub within : p.right + 7 ≤ length ib
  within = omega (arith, st.inside, st.held.right)

  -- L stands behind F
  pub length-is : Walkable ib by key → (l : ℕ) → l ≡ get_or ib (p.right - (by.width + 2) + 1) 0 → l ≡ length_at by.width ib p.right
  length-is w l is =
      let i : p.right - (by.width + 2) + 1 ≡ p.right - (by.width + 1) = omega (arith, roomy w) in
      is ∙ ap (λ (k : ℕ). get_or ib k 0) i

  abbrev all : Bool
  all = fine_from by ib old count

  abbrev h' : Here
  h' = st.h

  abbrev w' : ℕ
  w' = by.width

  abbrev K : ℕ
  K = by.key

  abbrev part' : Part
  part' = part_here w' ib h'

  abbrev sep' : List ℕ
  sep' = sep_here w' ib h'

  abbrev F' : ℕ
  F' = front_at w' ib h'.right

  abbrev L' : ℕ
  L' = length_at w' ib h'.right

  abbrev former' : List ℕ
  former' = against h'.high h'.ref part'

  abbrev low : List ℕ
  low = low_of (eqb left count) K h'.ref

  module _ (more : 0 < left) (least : 1 ≤ K) where
    abbrev here : Bool
    here = fine_at by ib seen closed low h' left

    abbrev Fine : Type 0
    Fine = Passed by ib seen low h'

    not-all : (Fine → ⊥) → false ≡ all
    not-all f = sym (st.same ∙ off here (λ z. f (fine-apart by ib seen low h' closed left more z)))

    -- it lies left of the edge
    pub no_room : (l : ℕ) → l ≡ length_at w' ib p.right → p.right - (w' + 2) < by.edge + l → false ≡ all
    no_room l is z = not-all no
      where
        no : Fine → ⊥
        no x =
            let e : l ≡ L' = is ∙ ap (λ (k : ℕ). length_at w' ib k) st.held.right in
            omega (arith, x.room, z, e, st.held.right, chars-long w' ib h'.right (omega (arith, st.inside)) (omega (arith, x.room)))

    -- its number is too big, or was met before
    module _ (n : ℕ) (is : n ≡ part'.piece.num) where
      pub too-big : by.n ≤ n → false ≡ all
      too-big z = not-all (λ x. omega (arith, x.small, is, z))

      pub again : (get_or seen n 0 ≡ 0 → ⊥) → false ≡ all
      again z = not-all (λ x. z (rw is x.new))

    nexts : F' ≤ length former' → next_in ib p by buf high ≡ sep'
    nexts = next-is by ib h' p buf high st.held

    pub bad-entry : entry_of ib p by (eqb left count) buf high ≡ None → false ≡ all
    bad-entry z = not-all no
      where
        no : Fine → ⊥
        no x =
            let a : bound_rises (eqb left count) K (take p.len buf) (next_in ib p by buf high) ≡ true =
            rw (nexts x.front, st.held.ref) (sym (less-low (eqb left count) K h'.ref sep' least) ∙ x.rising) in
            let b : separator K (next_in ib p by buf high) ≡ true = rw (nexts x.front) x.fine in
            false-true (sym (entry-bad ib p by (eqb left count) buf high z (parses-here by ib h' p buf high st.held st.inside x.room x.front x.fine)) ∙ both-join
            (bound_rises (eqb left count) K (take p.len buf) (next_in ib p by buf high)) (separator K (next_in ib p by buf high)) a b)

    module _ (s : Step) (entry : entry_of ib p by (eqb left count) buf high ≡ Some s) where
      pub fits : Good ib p by s
      fits = good ib p by s (entry-good ib p by (eqb left count) buf high s entry).0

      steps : s ≡ step_at w' ib h'.right h'.end
      steps = step_is by ib h' p buf high st.held s fits

      pub num-is : s.number ≡ part'.piece.num
      num-is = ap (λ (x : Step). x.number) steps

      pub passes-top : K ≤ 255 → (s.front + s.len ≤ 510) × (s.at ≤ length ib) × (pick s.closes 2 0 ≤ s.at)
      passes-top most = passes ib p by s fits within most

      room : by.edge + (w' + 2 + L' + pick part'.closes 2 0) ≤ h'.right
      room =
          let z : by.edge + (w' + 2 + L' + pick part'.closes 2 0) ≤ p.right = rw steps at fits.room in
          omega (arith, z, st.held.right)

      front : F' ≤ length former'
      front = is_front by ib h' p buf high st.held (rw steps at fits.front)

      few : F' + L' ≤ K
      few = rw steps at fits.fits

      chars : length part'.piece.chars ≡ L'
      chars = length-mid ib (chars_at w' ib h'.right) L' (omega (arith, room, st.inside))

      sep-long : length sep' ≡ F' + L'
      sep-long = sep-size by ib h' p buf high st.held front chars

      fine : separator K sep' ≡ true
      fine = ap (λ (x : List ℕ). separator K x) (sym (nexts front)) ∙ (entry-good ib p by (eqb left count) buf high s entry).2

      sep-fits : length sep' ≤ K
      sep-fits = separator-short K sep' fine

      rising : less low (bound K sep') ≡ true
      rising = less-low (eqb left count) K h'.ref sep' least ∙ rw (← nexts front, ← st.held.ref) (entry-good ib p by (eqb left count) buf high s entry).1

      size : by.edge + part_size w' part' ≤ h'.right
      size = omega (arith, room, chars)

      lies : K ≤ 255 → lies_here w' ib h' ≡ true
      lies most =
          both-join _ _ (le-leb (part_size w' part') h'.right (omega (arith, size)))
          (both-join _ _ (le-leb F' (length former') front) (le-leb (length sep') 255 (omega (arith, sep-long, few))))

      same-on : s.number < by.n → get_or seen s.number 0 ≡ 0
          → all ≡ fine_at by ib (set seen s.number 1) s.closes (bound K sep') (here_next w' ib h') (left - 1)
      same-on k z =
          let x : Fine = record { room = size; front = front; fine = fine; rising = rising; small = omega (arith, k, num-is); new = rw (← num-is) z } in
          let c : s.closes ≡ part'.closes = ap (λ (y : Step). y.closes) steps in
          st.same ∙ fine-on by ib seen low h' closed left more x ∙ rw (← num-is, ← c)

      closing : (t : Bool) → closes_at w' p ≡ t → part'.closes ≡ t
      closing t e = sym (ap (λ (x : Step). x.closes) steps) ∙ closes-is ib p by s (entry-good ib p by (eqb left count) buf high s entry).0 t e

      looks : (z : ℕ) → look_of ib p by key z ≡ reach_of key F' part'.piece.chars
      looks z = ap (λ (x : Option Step). reach_past ib key z x) (entry-good ib p by (eqb left count) buf high s entry).0 ∙ rw steps

      -- the reach past it, if a walk over its section's entries stopped before it; `was` is that past the highest of the section before
      pub aims : (was : ℕ) → Above key h'.high was → (closes_at w' p ≡ false → (front_at w' ib p.right < reach) × (0 ≡ look_of ib p by key reach))
          → (r : ℕ) → r ≡ aim_of ib p by key was → Aims key sep' was r
      unfolding aim_of
      aims was above found r is = go (closes_at w' p) refl is
        where
          go : (t : Bool) → closes_at w' p ≡ t → r ≡ pick (both (ltb 0 was) t) (pick (ltb (front_at w' ib p.right) was) (look_of ib p by key was) was) 0 → Aims key sep' was r
          go true e q =
              let c : part'.closes ≡ true = closing true e in
              let f : F' ≤ length h'.high = rw c at front in
              let f-is : front_at w' ib p.right ≡ F' = ap (λ (x : ℕ). front_at w' ib x) st.held.right in
              rw c (aims-top key h'.high part'.piece.chars F' was r f above (front_at w' ib p.right) (look_of ib p by key was) f-is (looks was) q)
          go false e q =
              let c : part'.closes ≡ false = closing false e in
              let f : F' ≤ length h'.ref = rw c at front in
              let n : r ≡ 0 = q ∙ rw (both_false (ltb 0 was)) in
              let x = found e in
              let u : F' < reach = rw st.held.right at x.0 in
              rw c (aims-inner key h'.ref part'.piece.chars F' reach was r u f (st.search.same (omega (arith, u))) (x.1 ∙ looks reach) n)

      -- the key past it, with the reach that a look at it gives
      module _ (inner : closes_at w' p ≡ false) where
        unclosed : part'.closes ≡ false
        unclosed = closing false inner

        front-inner : F' ≤ length h'.ref
        front-inner = rw unclosed at front

        pub reached : (r : ℕ) → NextReach ib p by key reach r → Search ib by key (here_next w' ib h') (left - 1) r
        reached r x =
            ⊎_elim (λ (y : (front_at w' ib p.right < reach) × (r ≡ look_of ib p by key reach) × (0 < r)). looked y)
            (λ (y : (reach ≤ front_at w' ib p.right) × (r ≡ reach)). skipped y) x
          where
            looked : (front_at w' ib p.right < reach) × (r ≡ look_of ib p by key reach) × (0 < r) → Search ib by key (here_next w' ib h') (left - 1) r
            looked y =
                let f : F' < reach = rw st.held.right at y.0 in
                search-look ib by key h' left reach st.search more unclosed f front-inner r (y.1 ∙ looks reach) y.2

            skipped : (reach ≤ front_at w' ib p.right) × (r ≡ reach) → Search ib by key (here_next w' ib h') (left - 1) r
            skipped y =
                let f : reach ≤ F' = rw st.held.right at y.0 in
                rw y.1 (search-skip ib by key h' left reach st.search more unclosed f front-inner)

      module _ (buf' high' : List ℕ) (renewed : Renewed ib s buf high buf' high') (long : length buf' ≡ length buf) (long' : length high' ≡ length high) (p' : PassPlace)
          (past : p' ≡ place_past ib s p) (most : K ≤ 255) where
        pub held-past : Held (here_next w' ib h') p' buf' high'
        held-past = rw past (held_on w' ib h' p buf high st.held st.inside (lies most) s steps buf' high' renewed)

        pub onward : (r : ℕ) → Search ib by key (here_next w' ib h') (left - 1) r → (0 < r → 0 < reach) → s.number < by.n → get_or seen s.number 0 ≡ 0
            → Stand ib by key old (set seen s.number 1) buf' high' p' s.closes (left - 1) r
        onward r search still k z =
            let u : eqb (left - 1) count ≡ false = ne_eqb (left - 1) count (omega (arith, st.few)) in
            record {
              h = here_next w' ib h';
              held = held-past;
              whole = long ∙ st.whole;
              whole' = long' ∙ st.whole';
              short = sep-fits;
              low = pick-short part'.closes sep' h'.high K sep-fits st.low;
              fine = separator-own K sep' fine;
              inside = omega (arith, st.inside);
              off = omega (arith, size);
              few = omega (arith, st.few);
              same = same-on k z ∙ rw u;
              search = search;
              keyed = λ (y : 0 < r). st.keyed (still y);
            }

        -- one turn of the walk over all entries; by `was` it tells whether a key is sought
        pub turned : (was : ℕ) → (0 < was → 0 < reach) → (r : ℕ) → Aims key sep' was r
            → s.number < by.n → get_or seen s.number 0 ≡ 0 → (left ≡ 1 → closes_at w' p ≡ true) → Stand ib by key old (set seen s.number 1) buf' high' p' true (left - 1) r
        turned was sought r aim k z last = go (eqb left 1) refl
          where
            still : 0 < r → 0 < reach
            still y = sought (aim.still y)

            on : Stand ib by key old (set seen s.number 1) buf' high' p' s.closes (left - 1) r
            on = onward r (search-on ib by key h' left reach st.search more r still aim.on) still k z

            go : (t : Bool) → eqb left 1 ≡ t → Stand ib by key old (set seen s.number 1) buf' high' p' true (left - 1) r
            go true e =
                let c : s.closes ≡ true = closes-is ib p by s (entry-good ib p by (eqb left count) buf high s entry).0 true (last (eqb-true left 1 e)) in
                rw c at on
            go false e = reclosed ib by key old (set seen s.number 1) buf' high' p' s.closes true (left - 1) r (omega (arith, eqb-false left 1 e, more)) on

        -- while the key is sought past it, it is the highest of the section before the next entry
        pub topped : (was r : ℕ) → Aims key sep' was r → (0 < r → closes_at w' p ≡ true) → Above key (take p'.high high') r
        topped was r aim top =
            record {
              same = λ (x : 0 < r). ap (λ (y : List ℕ). take (r - 1) y) (is x) ∙ (aim.on x).same;
              ahead = λ (x : 0 < r) (y : r ≤ length (take p'.high high')). rw (is x) (aim.on x).ahead;
            }
          where
            is : 0 < r → take p'.high high' ≡ sep'
            is x = let c : part'.closes ≡ true = closing true (top x) in held-past.top ∙ rw c

  -- ---- the end

  module _ (done : left ≡ 0) where
    last : all ≡ both (eqb p.right by.edge) (both (eqb p.len 0) (both (eqb (number 2 ib by.edge) 0) closed))
    last = st.same ∙ fine-done by ib seen low h' closed left done ∙ same_end by ib h' p buf high st.held (eqb (number 2 ib by.edge) 0) closed

    pub at-end : closed ≡ true → both (eqb p.right by.edge) (both (eqb p.len 0) (eqb (number 2 ib by.edge) 0)) ≡ all
    at-end c = sym (last ∙ rw (c, both_yes (eqb (number 2 ib by.edge) 0)))

    pub not-closed : closed ≡ false → false ≡ all
    not-closed c = sym (last ∙ none-closed (eqb p.right by.edge) (eqb p.len 0) (eqb (number 2 ib by.edge) 0) closed c)

    -- no key is sought past the last separator, which is empty
    pub unsought : 0 < count → all ≡ true → reach ≡ 0
    unsought some fine =
        let a = both-split (eqb p.right by.edge) _ (sym last ∙ fine) in
        let b = both-split (eqb p.len 0) _ a.1 in
        not-sought-at-end ib by key h' reach (rw done at st.search) some (omega (arith, eqb-true p.len 0 b.0, st.held.long))

  -- ---- an entry that is the last and closes no section

  pub last-open : left ≡ 1 → closes_at w' p ≡ false → false ≡ all
  last-open one which = sym (st.same ∙ off _ (λ y. false-true (sym (none y) ∙ y)))
    where
      unclosed' : part'.closes ≡ false
      unclosed' = rw (st.held.right, st.held.end) at which

      none : fine_at by ib seen closed low h' left ≡ true → fine_at by ib seen closed low h' left ≡ false
      none y =
          fine-on by ib seen low h' closed left (omega arith) (fine-apart by ib seen low h' closed left (omega arith) y)
          ∙ fine-done by ib (set seen part'.piece.num 1) (bound K sep') (here_next w' ib h') part'.closes (left - 1) (omega arith)
          ∙ none-closed (eqb (here_next w' ib h').right by.edge) (empty sep') (eqb (number 2 ib by.edge) 0) part'.closes unclosed'

-- ---- the walk over a section's entries

past-inner : (ib : List ℕ) (s : Step) (p : PassPlace) → s.closes ≡ false → (place_past ib s p).high ≡ p.high
past-inner ib s p c = rw c

-- How far it has come from its own start: whatever walk stood there stands here now, with the same highest of the section before; past an entry that closed no
-- section, unless it still is at its start. A key that was sought still is.
pub record Along (ib : List ℕ) (by : Limits) (key seen₀ buf₀ : List ℕ) (from : Leg) (seen buf : List ℕ) (p : PassPlace) (left reach : ℕ) : Type 0 where
  pub few : left ≤ from.left
  pub still : 0 < from.reach → 0 < reach
  pub goes : (old high : List ℕ) → Stand ib by key old seen₀ buf₀ high from.p true from.left from.reach
      → Stand ib by key old seen buf high p (eqb left from.left) left reach
  pub above : (old high : List ℕ) → Stand ib by key old seen₀ buf₀ high from.p true from.left from.reach → p.high ≡ from.p.high

pub set_out : (ib : List ℕ) (by : Limits) (key seen buf : List ℕ) (from : Leg) → Along ib by key seen buf from seen buf from.p from.left from.reach
set_out ib by key seen buf from =
    record {
      few = omega arith;
      still = λ (x : 0 < from.reach). x;
      goes = λ (old high : List ℕ) st. rw (eq-eqb from.left from.left refl) st;
      above = λ (old high : List ℕ) st. refl;
    }

module _ (ib : List ℕ) (by : Limits) (key seen₀ buf₀ : List ℕ) (from : Leg) (seen buf : List ℕ) (p : PassPlace) (left reach : ℕ)
    (g : Along ib by key seen₀ buf₀ from seen buf p left reach) (some : 0 < left) (wk : Walkable ib by key) where
  -- each way out
  abbrev Ends : List ℕ → List ℕ → Option Stop → Type 0
  Ends seen' buf' r = (old high : List ℕ) → Stand ib by key old seen₀ buf₀ high from.p true from.left from.reach → Stopped ib by key old from seen' buf' high r

  abbrev more : ℕ
  more = from.left

  pub ends-left : (seen' buf' : List ℕ) (l : ℕ) → l ≡ length_at by.width ib p.right → p.right - (by.width + 2) < by.edge + l → Ends seen' buf' None
  ends-left seen' buf' l is z = λ old high st. no_room ib by key old seen buf high p (eqb left more) left reach (g.goes old high st) some wk.least l is z

  pub ends_last : (seen' buf' : List ℕ) → left ≡ 1 → closes_at by.width p ≡ false → Ends seen' buf' None
  ends_last seen' buf' one which = λ old high st. last-open ib by key old seen buf high p (eqb left more) left reach (g.goes old high st) one which

  pauses : (left ≡ 1 → closes_at by.width p ≡ true)
      → (closes_at by.width p ≡ false → (front_at by.width ib p.right < reach) × (0 ≡ look_of ib p by key reach)) → Ends seen buf (Some (record { p = p; left = left }))
  pauses last here = λ old high st.
      record {
        reach = reach;
        still = g.still;
        stand = reclosed ib by key old seen buf high p (eqb left more) true left reach some (g.goes old high st);
        some = some;
        few = g.few;
        last = last;
        above = g.above old high st;
        here = here;
      }

  pub ends-top : p.right - (by.width + 2) ≡ p.end → Ends seen buf (Some (record { p = p; left = left }))
  ends-top z =
      let c : closes_at by.width p ≡ true = eq-eqb (p.right - (by.width + 2)) p.end z in
      pauses (λ (x : left ≡ 1). c) (λ (x : closes_at by.width p ≡ false). absurd (false-true (sym x ∙ c)))

  -- f is the entry's F, l what a look at it gave
  pub ends_found : (left ≡ 1 → ⊥) → (f l : ℕ) → f ≡ front_at by.width ib p.right → f < reach → l ≡ look_of ib p by key reach → l ≡ 0 → Ends seen buf (Some (record { p = p; left = left }))
  ends_found z f l f-is under l-is none =
      pauses (λ (x : left ≡ 1). absurd (z x)) (λ (x : closes_at by.width p ≡ false). (omega (arith, under, f-is), sym none ∙ l-is))

  abbrev Answers : Option Step → Type 0
  Answers x = (high : List ℕ) → by.key + 8 ≤ length high → x ≡ entry_of ib p by (eqb left by.count) buf high

  pub ends-bad : (seen' buf' : List ℕ) (x : Option Step) → Answers x → x ≡ None → Ends seen' buf' None
  ends-bad seen' buf' x is bad = λ old high st.
      let t = g.goes old high st in
      bad-entry ib by key old seen buf high p (eqb left more) left reach t some wk.least
      (sym (is high (tall ib by key old seen buf high p (eqb left more) left reach t wk.most)) ∙ bad)

  -- its number, as it is read
  module _ (n : ℕ) (n-is : n ≡ number by.width ib (p.right - by.width)) where
    num-there : (old high : List ℕ) → (t : Stand ib by key old seen buf high p (eqb left more) left reach) → n ≡ (part_here by.width ib t.h).piece.num
    num-there old high t = n-is ∙ ap (λ (k : ℕ). number by.width ib (k - by.width)) t.held.right

    pub ends-big : (seen' buf' : List ℕ) → by.n ≤ n → Ends seen' buf' None
    ends-big seen' buf' z = λ old high st.
        let t = g.goes old high st in
        too-big ib by key old seen buf high p (eqb left more) left reach t some wk.least n (num-there old high t) z

    pub ends-again : (seen' buf' : List ℕ) → (get_or seen n 0 ≡ 0 → ⊥) → Ends seen' buf' None
    ends-again seen' buf' z = λ old high st.
        let t = g.goes old high st in
        again ib by key old seen buf high p (eqb left more) left reach t some wk.least n (num-there old high t) z

  module _ (x : Option Step) (s : Step) (is : Answers x) (good' : x ≡ Some s) where
    entry : (old high : List ℕ) → Stand ib by key old seen buf high p (eqb left more) left reach → entry_of ib p by (eqb left by.count) buf high ≡ Some s
    entry old high t = sym (is high (tall ib by key old seen buf high p (eqb left more) left reach t wk.most)) ∙ good'

    -- for the call past it
    pub passes_on : (old high : List ℕ) → Stand ib by key old seen buf high p (eqb left more) left reach
        → (s.front + s.len ≤ 510) × (s.at ≤ length ib) × (pick s.closes 2 0 ≤ s.at)
    passes_on old high t =
        passes ib p by s (good ib p by s (entry-good ib p by (eqb left by.count) buf high s (entry old high t)).0)
        (within ib by key old seen buf high p (eqb left more) left reach t) wk.most

    -- and one turn
    module _ (buf' : List ℕ) (renewed : (high : List ℕ) → by.key + 8 ≤ length high → Taken ib buf high buf' high x) (long : length buf' ≡ length buf) (p' : PassPlace)
        (past : p' ≡ place_past ib s p) (inner : closes_at by.width p ≡ false) (r : ℕ) (new : NextReach ib p by key reach r) where
      stays_open : (old high : List ℕ) → Stand ib by key old seen buf high p (eqb left more) left reach → s.closes ≡ false
      stays_open old high t = closes-is ib p by s (entry-good ib p by (eqb left by.count) buf high s (entry old high t)).0 false inner

      pub goes_on : (n : ℕ) → n ≡ number by.width ib (p.right - by.width) → n < by.n → get_or seen n 0 ≡ 0
          → Along ib by key seen₀ buf₀ from (set seen n 1) buf' p' (left - 1) r
      goes_on n n-is k z =
          record {
            few = omega (arith, g.few);
            still = λ (y : 0 < from.reach). reached-sought ib p by key reach r new (g.still y);
            goes = λ (old high : List ℕ) st.
                let t = g.goes old high st in
                let tl = tall ib by key old seen buf high p (eqb left more) left reach t wk.most in
                let e = entry old high t in
                let m : s.number ≡ n =
                ap (λ (y : Step). y.number) (good ib p by s (entry-good ib p by (eqb left by.count) buf high s e).0).is ∙ sym n-is in
                let u : eqb (left - 1) more ≡ false = ne_eqb (left - 1) more (omega (arith, g.few, some)) in
                let y = onward ib by key old seen buf high p (eqb left more) left reach t some wk.least s e buf' high (taken_of ib buf high buf' high x s good' (renewed high tl)) long refl p'
                past wk.most r (reached ib by key old seen buf high p (eqb left more) left reach t some wk.least s e inner r new) (sought-reached ib p by key reach r new)
                (rw m k) (rw m z) in
                rw u (rw (m, stays_open old high t) at y);
            above = λ (old high : List ℕ) st.
                ap (λ (x : PassPlace). x.high) past ∙ past-inner ib s p (stays_open old high (g.goes old high st)) ∙ g.above old high st;
          }

-- at its end no entry is left, and none closed a section
pub ends_open : (ib : List ℕ) (by : Limits) (key seen₀ buf₀ : List ℕ) (from : Leg) (seen buf : List ℕ) (p : PassPlace) (left reach : ℕ)
    → Along ib by key seen₀ buf₀ from seen buf p left reach → 0 < from.left → left ≡ 0 → (old high : List ℕ)
    → Stand ib by key old seen₀ buf₀ high from.p true from.left from.reach → false ≡ fine_from by ib old by.count
ends_open ib by key seen₀ buf₀ from seen buf p left reach g some done old high st =
    not-closed ib by key old seen buf high p (eqb left from.left) left reach (g.goes old high st) done (ne_eqb left from.left (omega arith))

-- for the look at the entry before which it stopped
pub aimable : (ib : List ℕ) (by : Limits) (key old : List ℕ) (from : Leg) (seen buf high : List ℕ) (p : PassPlace) (left : ℕ) → Paused ib by key old from seen buf high p left → Walkable ib by key
    → (1 ≤ by.width) × (by.width ≤ 4) × (p.right ≤ length ib) × (by.width + 2 ≤ p.right) × (by.edge < 65536) × (0 < from.reach → length key ≡ by.key)
aimable ib by key old from seen buf high p left t w = (
  w.some,
  w.few,
  omega (arith, within ib by key old seen buf high p true left t.reach t.stand),
  roomy ib by key old seen buf high p true left t.reach t.stand w,
  w.edge,
  λ (x : 0 < from.reach). t.stand.keyed (t.still x),
)
