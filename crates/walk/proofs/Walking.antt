-- A walk that has begun in a whole area gives its records: those of `walk_of`.
use Rattle.std.specs.Prelude.{Option, Some, None, Ok, Err}
use Prim.Native.Nat.{ℕ, ◌+◌, ◌-◌, ◌*◌, ◌≤◌, ◌<◌}
use mathlib.Core.Path.{◌≡◌, refl, ◌∙◌, sym, ap}
use mathlib.Core.Bool.{Bool, true, false}
use mathlib.Core.List.{List, [], ◌∷◌}
use lib.ListN.{length, take, drop, length-drop}
use lib.Seq.{take_all, length-take-le}
use lib.Dec.{eqb, ltb}
use native.Mathlib.Omega.{arith}
use borrow.Author.Tests.{eqb-true, eqb-false, ltb-true, ltb-false, lt-ltb, le-ltb, lt-leb, le-leb}
use Rattle.fields.specs.Bytes.{Octets}
use Rattle.fields.proofs.Choices.{agree, false-true, both_false}
use Rattle.measures.specs.Judgement.{Fits, judged_of, passed}
use Rattle.measures.specs.declared.Measures.{Measures}
use Rattle.measures.specs.declared.Judged.{Judged}
use Rattle.measures.proofs.Fine.{passed_apart, judged-same, fits-large}
use Rattle.interval.specs.Search.{lower}
use Rattle.interval.proofs.Search.{lower-most}
use Rattle.index.specs.Rules.{closed}
use Rattle.index.proofs.Naming.{free-and-used}
use Rattle.area.specs.Content.{Filled, Content, index_in, records_of, meaning_of}
use Rattle.area.specs.Reading.{Reading, damaged, whole, read_area}
use Rattle.area.proofs.Filled.{length-entries}
use Rattle.area.proofs.Sounding.{sound-apart, sound-rules}
use Rattle.area.proofs.Ascending.{records-ascend}
use Rattle.area_find.specs.AidSought.{Whole}
use Rattle.index_walk.specs.AidPasses.{edge_first}
use Rattle.requests.specs.Walks.{Item, Walk, refused_with, giving, items_of, backwards, walk_of, head_fine, if_some, walk_from_of, walk_end_of}
use Rattle.requests.specs.Opening.{shut, holding, opening_of}
use Rattle.requests.specs.declared.Refusal.{Refusal}
use Rattle.requests.specs.declared.Refusal.TheVariants.{WrongLength, Absent}
use Rattle.requests.proofs.Items.{items-long, back_long}
use Rattle.requests.proofs.Walks.{pad, reached, walk-drops, walk-takes, walk-all, walk-back, reached-most}
use Rattle.opening.specs.AidOpened.{Opened, opened, opened_read, opened_judged, opened_of}
use Rattle.opening.specs.declared.Whole as opening
use Rattle.opening.proofs.Opening.{opened-shut, opened-whole}
use Rattle.walk.specs.declared.Place.{Place}
use Rattle.walk.specs.AidSteps.{edge_past_of, ahead_of, behind_of, end_in, steps_from}
use Rattle.walk.specs.AidGives.{Begun, Gives, Begins}
use Rattle.walk.specs.AidStands.{before, Stood, StoodIn, begins_from, BeginsAt, ended_by, begun_by, begun_from}
use Rattle.walk.proofs.Holdings.{before-zero, before-all}
use Rattle.walk.proofs.Standing.{ahead-stood, behind-stood}
use Rattle.walk.proofs.Giving.{steps_up, steps-down, gives_up, gives-down, stood-same}

-- ---- what a caller of `open` needs besides: the measures are those that were asked with

pub opened-judged : (k : Measures) (area : List ℕ) (m : Measures) (n records free : ℕ) → opened_of k area ≡ opened m n records free
    → (judged_of k (length area) ≡ passed m n) × (m ≡ k)
opened-judged k area m n records free = by-judged (judged_of k (length area)) refl
  where
    by_read : (p : Measures) (q : ℕ) (x : Reading) → opened_read p q x ≡ opened m n records free → passed p q ≡ passed m n
    by_read p q (damaged place) e = absurd (let z : ◌≡◌ {A = ℕ} 0 1 = cc in omega arith)
    by_read p q (whole c) e =
        let w : ◌≡◌ {A = opening.Whole} (record { measures = p; count = q; records = length (records_of c.filled); free = length c.free }) (record { measures = m; count = n; records = records; free = free }) = cc in
        let y : p ≡ m = ap (λ (v : opening.Whole). v.measures) w in
        let z : q ≡ n = ap (λ (v : opening.Whole). v.count) w in
        rw (y, z) refl

    by-judged : (j : Option Judged) → judged_of k (length area) ≡ j → opened_judged j area ≡ opened m n records free
        → (judged_of k (length area) ≡ passed m n) × (m ≡ k)
    by-judged None g e = absurd (let z : ◌≡◌ {A = ℕ} 0 1 = cc in omega arith)
    by-judged (Some j) g e =
        let f : judged_of k (length area) ≡ passed m n = g ∙ by_read j.measures j.count (read_area j.measures j.count area) e in
        (f, sym (judged-same k m (length area) n f))

-- ---- from what the steps give to how the walk begins

module _ (area : List ℕ) (size : ℕ) (forward : Bool) (p : Place) where
  -- a walk that begins at a record
  pub begun-some : (is : List Item) → Gives area size forward is p → 0 < p.length → Begins area size forward (if_some is) (Ok p)
  unfolding steps_from
  begun-some [] g l = absurd (omega (arith, (g.ends 0 (omega arith)).0))
  begun-some (i ∷ is) g l = (p, refl, g)

  -- and one that has none
  pub begun-none : (is : List Item) → Gives area size forward is p → p.length ≡ 0 → Begins area size forward (if_some is) (Err Absent)
  unfolding steps_from
  begun-none [] g z = refl
  begun-none (i ∷ is) g z = absurd (omega (arith, z, (g.there 0 (omega arith)).2))

  gives-sized : (s : ℕ) (is : List Item) → size ≡ s → Gives area size forward is p → Gives area s forward is p
  gives-sized s is e g = rw (← e) g

  -- what the steps from a place give is so long and no longer
  pub gives-long : (is js : List Item) → Gives area size forward is p → Gives area size forward js p → length is ≡ length js
  gives-long is js g h = go (ltb (length is) (length js)) (ltb (length js) (length is)) refl refl
    where
      go : (s t : Bool) → ltb (length is) (length js) ≡ s → ltb (length js) (length is) ≡ t → length is ≡ length js
      go true t e f = absurd (omega (arith, (g.ends (length is) (omega arith)).0, (h.there (length is) (ltb-true (length is) (length js) e)).2))
      go false true e f = absurd (omega (arith, (h.ends (length js) (omega arith)).0, (g.there (length js) (ltb-true (length js) (length is) f)).2))
      go false false e f = omega (arith, ltb-false (length is) (length js) e, ltb-false (length js) (length is) f)

  pub gives_as : {is js : List Item} → is ≡ js → Gives area size forward is p → Gives area size forward js p
  gives_as e g = rw (← e) g

-- ---- in a whole area

module _ (m : Measures) (n : ℕ) (area : List ℕ) (fits : Fits m n (length area)) (c : Content) (w : read_area m n area ≡ whole c) where
  abbrev fs : List Filled
  fs = c.filled

  some-entry : 0 < length fs
  some-entry = go fs refl
    where
      none : closed [] [] ≡ true → ⊥
      none e = unfold closed in false-true e

      go : (xs : List Filled) → fs ≡ xs → 0 < length xs
      go [] e = absurd (none (rw e at (sound-rules m n area c (sound-apart m n area c w)).closing))
      go (x ∷ xs) e = omega arith

  -- From the bytes given the steps give the walk.
  pub gives-from : (forward : Bool) (given : List ℕ) (p : Place) → length given ≤ m.key → Octets area
      → Stood m n area c forward (begins_from m forward given (records_of fs)) p → Gives area m.size forward (walk_of m forward given c) p
  gives-from true given p short o t =
      gives_as area m.size true p (sym (walk-drops m n area c w fits.key-inside given short)) (gives_up m n area fits c w (lower m (pad m.key 0 given) (records_of fs)) p t)
  gives-from false given p short o t =
      gives_as area m.size false p (sym (walk-takes m n area c w fits.key-inside given short o))
      (gives-down m n area fits c w (reached m (pad m.key 255 given) (records_of fs)) p (reached-most m (pad m.key 255 given) (records_of fs) (records-ascend m n area c w)) t)

  -- From an end a walk stands before all records, in either direction,
  end-up : Stood m n area c true 0 (ahead_of (n - 0) area m.size n 0 (edge_first (index_in m area)))
  unfolding edge_past_of
  end-up = rw (before-zero fs) at (ahead-stood m n area fits c w (n - 0) 0 some-entry (omega arith) (omega arith))

  end-down : (free : ℕ) → free ≡ length c.free → Stood m n area c false (length (records_of fs)) (behind_of area m.size n (n - free))
  end-down free e =
      let k : n - free ≡ length fs = omega (arith, e, free-and-used n (meaning_of c) (sound-rules m n area c (sound-apart m n area c w)).naming, length-entries fs) in
      let l : before fs (length fs) ≡ length (records_of fs) = before-all fs (length fs) (omega arith) in
      rw k (rw l at (behind-stood m n area fits c w (length fs) (omega arith)))

  -- and the steps give them all.
  pub gives-all-up : Gives area m.size true (walk_of m true [] c) (ahead_of (n - 0) area m.size n 0 (edge_first (index_in m area)))
  gives-all-up =
      gives_as area m.size true (ahead_of (n - 0) area m.size n 0 (edge_first (index_in m area))) (sym (walk-all m c)) (gives_up m n area fits c w 0 (ahead_of (n - 0) area m.size n 0 (edge_first (index_in m area))) end-up)

  pub gives-all-down : (free : ℕ) → free ≡ length c.free → Gives area m.size false (walk_of m false [] c) (behind_of area m.size n (n - free))
  gives-all-down free e =
      let a : take (length (records_of fs)) (items_of m fs) ≡ items_of m fs = take_all (length (records_of fs)) (items_of m fs) (omega (arith, items-long m fs)) in
      gives_as area m.size false (behind_of area m.size n (n - free)) (ap backwards (a ∙ sym (walk-all m c)) ∙ sym (walk-back m c))
      (gives-down m n area fits c w (length (records_of fs)) (behind_of area m.size n (n - free)) (omega arith) (end-down free e))

  -- how many records the walk from an end has passed where another stands
  abbrev gone : Bool → ℕ → ℕ
  gone true j = j
  gone false j = length (records_of fs) - j

  pub past-stood : (forward : Bool) (free j : ℕ) → free ≡ length c.free → j ≤ length (records_of fs)
      → Stood m n area c forward j (steps_from (gone forward j) area m.size forward (end_in area m.size n free forward))
  past-stood true free j e few = let z : 0 + j ≡ j = omega arith in rw z at (steps_up m n area fits c w j 0 (end_in area m.size n free true) end-up)
  past-stood false free j e few =
      let k : length (records_of fs) - (length (records_of fs) - j) ≡ j = omega (arith, few) in
      rw k at (steps-down m n area fits c w (length (records_of fs) - j) (length (records_of fs)) (end_in area m.size n free false) (end-down free e))

  -- as many as the other does not give
  gone_is : (forward : Bool) (j : ℕ) (is : List Item) (p : Place) → j ≤ length (records_of fs) → Stood m n area c forward j p → Gives area m.size forward is p
      → length (records_of fs) - length is ≡ gone forward j
  gone_is true j is p few t g =
      let l : length is ≡ length (records_of fs) - j =
      gives-long area m.size true p is (drop j (items_of m fs)) g (gives_up m n area fits c w j p t) ∙ length-drop j (items_of m fs) ∙ ap (λ (x : ℕ). x - j) (items-long m fs) in
      omega (arith, l, few)
  gone_is false j is p few t g =
      ap (λ (x : ℕ). length (records_of fs) - x)
      (gives-long area m.size false p is (backwards (take j (items_of m fs))) g (gives-down m n area fits c w j p few t)
      ∙ back_long (take j (items_of m fs))
      ∙ length-take-le j (items_of m fs) (omega (arith, few, items-long m fs)))

  -- So a walk that stands anywhere stands where the one from its end does once that has passed them.
  pub stands-past : (forward : Bool) (free j : ℕ) (is : List Item) (p : Place) → free ≡ length c.free → j ≤ length (records_of fs)
      → Stood m n area c forward j p → Gives area m.size forward is p
      → p ≡ steps_from (length (records_of fs) - length is) area m.size forward (end_in area m.size n free forward)
  stands-past forward free j is p e few t g =
      rw (gone_is forward j is p few t g)
      (stood-same m n area fits c w forward j p (steps_from (gone forward j) area m.size forward (end_in area m.size n free forward)) t (past-stood forward free j e few))

  -- At most all records come before the bytes given, or up to them.
  pub begins-few : (forward : Bool) (given : List ℕ) → begins_from m forward given (records_of fs) ≤ length (records_of fs)
  begins-few true given = lower-most m (pad m.key 0 given) (records_of fs)
  begins-few false given = reached-most m (pad m.key 255 given) (records_of fs) (records-ascend m n area c w)

-- ---- the requests

at_at : (p q : Place) → ◌≡◌ {A = Begun} (Ok p) (Ok q) → p ≡ q
at_at p q e = cc

refused-at : (a : Refusal) (p : Place) → ◌≡◌ {A = Begun} (Err a) (Ok p) → ⊥
refused-at a p e = let z : ◌≡◌ {A = ℕ} 0 1 = cc in omega arith

module _ (k : Measures) (area : List ℕ) (forward : Bool) where
  -- an area that is not opened
  module _ (a : Refusal) (e : opened_of k area ≡ Err a) where
    shut-is : opening_of k area ≡ shut a
    shut-is = opened-shut k area a e

    pub end_refused : Begins area k.size forward (walk_end_of k area forward) (Err a) × (Err a ≡ ended_by area forward (opened_of k area))
    unfolding walk_end_of
    end_refused = (rw shut-is, rw e)

    pub from-refused : (given : List ℕ) → Begins area k.size forward (walk_from_of k area forward given) (Err a) × BeginsAt k area forward given (Err a)
    unfolding walk_from_of
    from-refused given = (
      rw shut-is,
      λ (p : Place) (q : Err a ≡ Ok p) (n : ℕ) (j : judged_of k (length area) ≡ passed k n) (c : Content) (w : read_area k n area ≡ whole c). absurd (refused-at a p q),
    )

  -- one that is
  module _ (m : Measures) (n records free : ℕ) (e : opened_of k area ≡ opened m n records free) where
    there :
        (c : Content)
        × (opening_of k area ≡ holding m c)
        × (read_area m n area ≡ whole c)
        × Fits m n (length area)
        × (records ≡ length (records_of c.filled))
        × (free ≡ length c.free)
    there = opened-whole k area m n records free e

    size_is : m.size ≡ k.size
    size_is = ap (λ (x : Measures). x.size) (opened-judged k area m n records free e).1

    -- what the steps ask of it
    pub opened-fits : Fits m n (length area)
    opened-fits = there.3

    pub opened-reads : Whole m n area
    opened-reads = record { content = there.0; reads = there.2 }

    pub opened-asks : (512 ≤ m.size) × ((n + 1) * m.size ≤ length area) × (free ≤ n)
    opened-asks =
        let c : Content = there.0 in (
          fits-large there.3,
          omega (arith, there.3.bytes),
          omega (arith, there.5, free-and-used n (meaning_of c) (sound-rules m n area c (sound-apart m n area c there.2)).naming),
        )

    -- From an end.
    end-gives : (p : Place) → p ≡ end_in area m.size n free forward → Gives area m.size forward (walk_of m forward [] there.0) p
    end-gives p q = rw q (go forward)
      where
        go : (b : Bool) → Gives area m.size b (walk_of m b [] there.0) (end_in area m.size n free b)
        go true = gives-all-up m n area there.3 there.0 there.2
        go false = gives-all-down m n area there.3 there.0 there.2 free there.5

    pub end-begins : (p : Place) → p ≡ end_in area m.size n free forward
        → Begins area k.size forward (walk_end_of k area forward) (Ok p) × (Ok p ≡ ended_by area forward (opened_of k area))
    unfolding walk_end_of
    end-begins p q =
        let g : Gives area k.size forward (walk_of m forward [] there.0) p = gives-sized area m.size forward p k.size (walk_of m forward [] there.0) size_is (end-gives p q) in
        (rw there.1 (p, refl, g), rw e (ap Ok q))

    -- From the bytes of a key: none of them or too many,
    module _ (given : List ℕ) where
      wrong-bytes : head_fine m given ≡ false → Begins area k.size forward (walk_from_of k area forward given) (Err WrongLength)
      unfolding walk_from_of
      wrong-bytes f = rw (there.1, f)

      nowhere-at : (a : Refusal) → BeginsAt k area forward given (Err a)
      nowhere-at a p q n' j c w = absurd (refused-at a p q)

      pub from_nothing : length given ≡ 0
          → Begins area k.size forward (walk_from_of k area forward given) (Err WrongLength) × BeginsAt k area forward given (Err WrongLength)
      from_nothing z = (wrong-bytes (rw (le-ltb 0 (length given) (omega arith))), nowhere-at WrongLength)

      pub from-too-many : m.key < length given
          → Begins area k.size forward (walk_from_of k area forward given) (Err WrongLength) × BeginsAt k area forward given (Err WrongLength)
      from-too-many l = (wrong-bytes (rw (lt-leb (length given) m.key l) (both_false (ltb 0 (length given)))), nowhere-at WrongLength)

      -- or so many as a key has at most: where the walk stands, if it stands anywhere.
      module _ (o : Octets area) (some : length given ≡ 0 → ⊥) (short : length given ≤ m.key) (p : Place)
          (t : StoodIn m n area forward (λ (c : Content). begins_from m forward given (records_of c.filled)) p) where
        fine : head_fine m given ≡ true
        fine = rw (lt-ltb 0 (length given) (omega (arith, some))) (le-leb (length given) m.key short)

        given_is : walk_from_of k area forward given ≡ if_some (walk_of m forward given there.0)
        unfolding walk_from_of
        given_is = rw (there.1, fine)

        gives : Gives area k.size forward (walk_of m forward given there.0) p
        gives =
            gives-sized area m.size forward p k.size (walk_of m forward given there.0) size_is
            (gives-from m n area there.3 there.0 there.2 forward given p short o (t there.0 there.2))

        pub from-absent : p.length ≡ 0
            → Begins area k.size forward (walk_from_of k area forward given) (Err Absent) × BeginsAt k area forward given (Err Absent)
        from-absent z = (rw given_is (begun-none area k.size forward p (walk_of m forward given there.0) gives z), nowhere-at Absent)

        pub from-present : (p.length ≡ 0 → ⊥) → Begins area k.size forward (walk_from_of k area forward given) (Ok p) × BeginsAt k area forward given (Ok p)
        from-present d = (rw given_is (begun-some area k.size forward p (walk_of m forward given there.0) gives (omega (arith, d))), stands)
          where
            stands : BeginsAt k area forward given (Ok p)
            stands q r n' j c w =
                let x : p ≡ q = at_at p q r in
                let v = passed_apart m k n n' (sym (opened-judged k area m n records free e).0 ∙ j) in
                let y : m ≡ k = v.0 in
                let z : n ≡ n' = v.1 in
                let s : StoodIn k n' area forward (λ (c' : Content). begins_from k forward given (records_of c'.filled)) q = rw (y, z, x) at t in
                s c w

  -- Where a walk from the bytes of a key begins is fixed.
  module _ (given : List ℕ) (r s : Begun) (b : Begins area k.size forward (walk_from_of k area forward given) r) (t : BeginsAt k area forward given r)
      (d : Begins area k.size forward (walk_from_of k area forward given) s) (u : BeginsAt k area forward given s) where
    same_place : (p q : Place) → r ≡ Ok p → s ≡ Ok q → p ≡ q
    unfolding walk_from_of
    same_place p q x y = go (opened_of k area) refl
      where
        in_whole : (m : Measures) (n records free : ℕ) → opened_of k area ≡ opened m n records free → p ≡ q
        in_whole m n records free e =
            let i = opened-judged k area m n records free e in
            let j : judged_of k (length area) ≡ passed k n = rw i.1 at i.0 in
            let w = opened-whole k area k n records free (rw i.1 at e) in
            stood-same k n area w.3 w.0 w.2 forward (begins_from k forward given (records_of w.0.filled)) p q (t p x n j w.0 w.2) (u q y n j w.0 w.2)

        go : (o : Opened) → opened_of k area ≡ o → p ≡ q
        go (Err a) e =
            let z : r ≡ Err a = rw (opened-shut k area a e) at b in
            absurd (refused-at a p (sym z ∙ x))
        go (Ok o) e = in_whole o.measures o.count o.records o.free e

    pub from-same : r ≡ s
    from-same = go (walk_from_of k area forward given) b d
      where
        go : (x : Walk) → Begins area k.size forward x r → Begins area k.size forward x s → r ≡ s
        go (refused_with a) b' d' = agree b' d'
        go (giving is) b' d' = b'.1 ∙ ap Ok (same_place b'.0 d'.0 b'.1 d'.1) ∙ sym d'.1

  -- So it can be computed, and what a walk is told to begin with is that.
  module _ (given : List ℕ) (r : Begun) (h : Begins area k.size forward (walk_from_of k area forward given) r × BeginsAt k area forward given r) where
    begun-at : (is : List Item) (p : Place) → r ≡ Ok p → Gives area k.size forward is p → r ≡ begun_by area forward (opened_of k area) (giving is)
    unfolding walk_from_of
    begun-at is p x g = go (opened_of k area) refl
      where
        in_whole : (m : Measures) (n records free : ℕ) → opened_of k area ≡ opened m n records free
            → r ≡ begun_by area forward (opened m n records free) (giving is)
        in_whole m n records free e =
            let i = opened-judged k area m n records free e in
            let j : judged_of k (length area) ≡ passed k n = rw i.1 at i.0 in
            let w = opened-whole k area k n records free (rw i.1 at e) in
            rw (i.1, w.4)
            (x
            ∙ ap Ok
            (stands-past k n area w.3 w.0 w.2 forward free (begins_from k forward given (records_of w.0.filled)) is p w.5
            (begins-few k n area w.3 w.0 w.2 forward given) (h.1 p x n j w.0 w.2) g))

        go : (o : Opened) → opened_of k area ≡ o → r ≡ begun_by area forward o (giving is)
        go (Err a) e =
            let z : r ≡ Err a = rw (opened-shut k area a e) at h.0 in
            absurd (refused-at a p (sym z ∙ x))
        go (Ok o) e = in_whole o.measures o.count o.records o.free e

    pub from_told : Begins area k.size forward (walk_from_of k area forward given) r × (BeginsAt k area forward given r × (r ≡ begun_from k area forward given))
    from_told = (h.0, (h.1, go (walk_from_of k area forward given) h.0))
      where
        go : (x : Walk) → Begins area k.size forward x r → r ≡ begun_by area forward (opened_of k area) x
        go (refused_with a) b = b
        go (giving is) b = begun-at is b.0 b.1 b.2

  -- ---- what is computed begins the walk that is meant, whatever the bytes are

  pub ended-begins : Begins area k.size forward (walk_end_of k area forward) (ended_by area forward (opened_of k area))
  ended-begins = go (opened_of k area) refl
    where
      go : (o : Opened) → opened_of k area ≡ o → Begins area k.size forward (walk_end_of k area forward) (ended_by area forward (opened_of k area))
      go (Err a) e = let h = end_refused a e in rw h.1 at h.0
      go (Ok o) e =
          let h = end-begins o.measures o.count o.records o.free e (end_in area o.measures.size o.count o.free forward) refl in
          rw h.1 at h.0

  module _ (given : List ℕ) (o : Octets area) where
    abbrev Meant : Type 0
    Meant = Begins area k.size forward (walk_from_of k area forward given) (begun_from k area forward given)

    as-told : (r : Begun) → Begins area k.size forward (walk_from_of k area forward given) r × BeginsAt k area forward given r → Meant
    as-told r h = rw (from_told given r h).1.1 at h.0

    module _ (m : Measures) (n records free : ℕ) (e : opened_of k area ≡ opened m n records free) where
      -- a place for the bytes given, of any content that the area is read as, and of so many bytes as a key has at most
      from_place : (c : Content) (p : Place) → read_area m n area ≡ whole c → Stood m n area c forward (begins_from m forward given (records_of c.filled)) p
          → (length given ≡ 0 → ⊥) → length given ≤ m.key → Meant
      from_place c p w t some short = go (eqb p.length 0) refl
        where
          stood : StoodIn m n area forward (λ (d : Content). begins_from m forward given (records_of d.filled)) p
          stood d v =
              let y : whole c ≡ whole d = sym w ∙ v in
              let z : c ≡ d = cc in
              rw z at t

          go : (b : Bool) → eqb p.length 0 ≡ b → Meant
          go true f = as-told (Err Absent) (from-absent m n records free e given o some short p stood (eqb-true p.length 0 f))
          go false f = as-told (Ok p) (from-present m n records free e given o some short p stood (eqb-false p.length 0 f))

      opened-begins : Meant
      opened-begins = go (eqb (length given) 0) (ltb m.key (length given)) refl refl
        where
          go : (a b : Bool) → eqb (length given) 0 ≡ a → ltb m.key (length given) ≡ b → Meant
          go true b f g = as-told (Err WrongLength) (from_nothing m n records free e given (eqb-true (length given) 0 f))
          go false true f g = as-told (Err WrongLength) (from-too-many m n records free e given (ltb-true m.key (length given) g))
          go false false f g =
              let w = opened-whole k area m n records free e in
              let j : ℕ = begins_from m forward given (records_of w.0.filled) in
              from_place w.0 (steps_from (gone m n area w.3 w.0 w.2 forward j) area m.size forward (end_in area m.size n free forward)) w.2
              (past-stood m n area w.3 w.0 w.2 forward free j w.5 (begins-few m n area w.3 w.0 w.2 forward given))
              (eqb-false (length given) 0 f) (ltb-false m.key (length given) g)

    pub begun-begins : Meant
    begun-begins = go (opened_of k area) refl
      where
        go : (x : Opened) → opened_of k area ≡ x → Meant
        go (Err a) e = as-told (Err a) (from-refused a e given)
        go (Ok o) e = opened-begins o.measures o.count o.records o.free e
