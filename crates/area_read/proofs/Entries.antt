-- The walk over the entries: what is judged and counted at each.
use Prim.Native.Nat.{ℕ, suc, ◌+◌, ◌*◌, ◌≤◌, ◌<◌, min}
use mathlib.Core.Path.{◌≡◌, refl, ◌∙◌, sym, ap}
use mathlib.Core.Bool.{Bool, true, false}
use mathlib.Core.List.{List, [], ◌∷◌, map}
use lib.ListN.{length, take, drop, replicate, length-append, length-replicate, drop_of_length-le}
use lib.Dec.{eqb}
use native.Mathlib.Omega.{arith}
use native.Mathlib.Numerals.{add-one}
use borrow.Author.Tests.{ne_eqb}
use Rattle.fields.specs.Choice.{pick, both}
use Rattle.fields.proofs.Choices.{both-split, false-true}
use Rattle.measures.specs.Judgement.{Fits, width_for}
use Rattle.measures.specs.declared.Measures.{Measures}
use Rattle.measures.proofs.Width.{width-most}
use Rattle.interval.specs.Records.{keys_of, above, up_to}
use Rattle.interval.specs.Reading.{records_in, sound, Checkable}
use Rattle.interval.specs.Role.{sound_used}
use Rattle.interval.proofs.Readable.{fits-checkable, checked-readable, records-few}
use Rattle.interval_read.specs.Verdict.{last_start}
use Rattle.interval_read.specs.AidOpened.{opened, opened_of}
use Rattle.std.specs.Prelude.{Option, Some, None, is_some, unwrap_or}
use Rattle.interval_read.specs.declared.Opened.{Opened}
use Rattle.index.specs.Bounds.{bound}
use Rattle.index.specs.Meaning.{Entry}
use Rattle.index.specs.Rules.{bound_before}
use Rattle.sections.specs.Reading.{read_index, sound_index}
use Rattle.index_step.specs.declared.Step.{Step}
use Rattle.index_step.specs.declared.PassPlace.{PassPlace}
use Rattle.index_step.specs.AidStep.{step_at, place_start, place_past, EntryEnds, reach, Renewed}
use Rattle.index_step.specs.AidEntries.{Here, here_first, part_here, sep_here, entry_here, here_next, Held}
use Rattle.index_step.proofs.Passing.{held-lies, held-step, step_past, step-renews, held_on}
use Rattle.index_step.proofs.Stepping.{Standing, Stepped, standing-start, standing-step, held_start}
use Rattle.area.specs.Content.{data_in, fill, records_of}
use Rattle.area.specs.Soundness.{unsound_used, lowest}
use Rattle.area.proofs.Places.{length-data}
use Rattle.area_read.specs.AidEntries.{Closed, Counted}
use Rattle.area_read.proofs.Lows.{lowest-met}

-- ---- one interval

module _ (m : Measures) (ci low high : List ℕ) (lent : Checkable m ci) where
  judged : (t : Bool) (count : ℕ) → count ≤ 32768 → (r : Option ℕ) → r ≡ pick t (Some count) None
      → (is_some r ≡ t) × ((is_some r ≡ true → unwrap_or r 0 ≡ count) × (unwrap_or r 0 ≤ 32768))
  judged true count f r e = rw e (refl, ((λ _. refl), f))
  judged false count f r e = rw e (refl, ((λ (z : false ≡ true). absurd (false-true z)), omega arith))

  by-bound : (b : Bool) (o : Option Opened) → both (sound m ci) (above low (keys_of m (records_in ci))) ≡ b
      → o ≡ pick b (Some (opened (length (records_in ci)) (last_start (map length (records_in ci))))) None → (r : Option ℕ) → Closed m ci high o r
      → (is_some r ≡ sound_used m low high ci) × ((is_some r ≡ true → unwrap_or r 0 ≡ length (records_in ci)) × (unwrap_or r 0 ≤ 32768))
  unfolding sound_used
  by-bound true o h e r k =
      let s = both-split (sound m ci) (above low (keys_of m (records_in ci))) h in
      let c : Closed m ci high (Some (opened (length (records_in ci)) (last_start (map length (records_in ci))))) r = rw e at k in
      let f = records-few m ci (checked-readable lent s.0) in
      rw (s.0, s.1) (judged (up_to high (keys_of m (records_in ci))) (length (records_in ci)) (omega (arith, f)) r c)
  by-bound false o h e r k =
      let c : Closed m ci high None r = rw e at k in
      rw (c, go (sound m ci) (above low (keys_of m (records_in ci))) h) (refl, ((λ (z : false ≡ true). absurd (false-true z)), omega arith))
    where
      go : (x y : Bool) → both x y ≡ false → both x (both y (up_to high (keys_of m (records_in ci)))) ≡ false
      go true true z = absurd (false-true (sym z))
      go true false z = refl
      go false y z = refl

  -- what opening and closing say together
  pub seen-is : (o : Option Opened) → o ≡ opened_of m low ci → (r : Option ℕ) → Closed m ci high o r
      → (is_some r ≡ sound_used m low high ci) × ((is_some r ≡ true → unwrap_or r 0 ≡ length (records_in ci)) × (unwrap_or r 0 ≤ 32768))
  unfolding opened_of
  seen-is o e r k = by-bound (both (sound m ci) (above low (keys_of m (records_in ci)))) o refl e r k

-- ---- the walk

used-cons : (m : Measures) (area low : List ℕ) (e : Entry) (es : List Entry)
    → unsound_used m area low (e ∷ es)
    ≡ pick (sound_used m low (bound m.key e.sep) (data_in m area e.num)) (unsound_used m area (bound m.key e.sep) es) (e.num ∷ unsound_used m area (bound m.key e.sep) es)
unfolding unsound_used
used-cons m area low e es = refl

records-cons : (m : Measures) (area : List ℕ) (e : Entry) (es : List Entry)
    → length (records_of (fill m area (e ∷ es))) ≡ length (records_in (data_in m area e.num)) + length (records_of (fill m area es))
unfolding records_of
records-cons m area e es = length-append (records_in (data_in m area e.num)) (records_of (fill m area es))

lowest-pick : (b : Bool) (w k : ℕ) (ks : List ℕ) → lowest w (pick b ks (k ∷ ks)) ≡ lowest (pick b w (min k w)) ks
lowest-pick true w k ks = refl
lowest-pick false w k ks = lowest-met w k ks

pick-none : (b : Bool) (k : ℕ) (ks : List ℕ) → pick b ks (k ∷ ks) ≡ [] → (b ≡ true) × (ks ≡ [])
pick-none true k ks e = (refl, e)
pick-none false k ks e = absurd (let z : ◌≡◌ {A = ℕ} 0 1 = cc in omega arith)

-- How far it has come: it stands before entry i, as place and buffers say. The lowest of `worst` and the unsound numbers of all entries
-- is the lowest of `low` and those of the entries from i on. Where all intervals in use are sound, `records` and the records of the entries from i on
-- make up all of them. At most 32768 records were counted for each entry passed.
pub record Going (m : Measures) (n : ℕ) (area ib : List ℕ) (worst : ℕ) (buf high : List ℕ) (p : PassPlace) (i low records : ℕ) : Type 0 where
  pub here : Here
  pub standing : Standing (width_for n) m.key n ib i here
  pub held : Held here p buf high
  pub whole : length buf ≡ 263
  pub whole' : length high ≡ 263
  pub lowers : lowest worst (unsound_used m area [] (read_index (width_for n) n ib).entries)
      ≡ lowest low (unsound_used m area (bound_before m.key [] (take i (read_index (width_for n) n ib).entries)) (drop i (read_index (width_for n) n ib).entries))
  pub clean : unsound_used m area [] (read_index (width_for n) n ib).entries ≡ []
      → unsound_used m area (bound_before m.key [] (take i (read_index (width_for n) n ib).entries)) (drop i (read_index (width_for n) n ib).entries) ≡ []
  pub counts : unsound_used m area [] (read_index (width_for n) n ib).entries ≡ []
      → length (records_of (fill m area (read_index (width_for n) n ib).entries)) ≡ records + length (records_of (fill m area (drop i (read_index (width_for n) n ib).entries)))
  pub few : records ≤ 32768 * i

module _ (m : Measures) (n : ℕ) (area ib : List ℕ) (worst : ℕ) where
  abbrev w : ℕ
  w = width_for n

  abbrev es : List Entry
  es = (read_index (width_for n) n ib).entries

  pub setting-out : (p : PassPlace) → 7 ≤ length ib → m.key ≤ 255 → sound_index (width_for n) m.key n [] [] ib ≡ true → p ≡ place_start ib
      → Going m n area ib worst (replicate 263 0) (replicate 263 0) p 0 worst 0
  unfolding bound_before
  setting-out p large k h is =
      let z : length {A = ℕ} (replicate 263 0) ≡ 263 = length-replicate {A = ℕ} 263 0 in
      record {
        here = here_first ib;
        standing = standing-start w m.key n ib large k h;
        held = rw is (held_start ib (replicate 263 0) (replicate 263 0) (omega (arith, z)) (omega (arith, z)));
        whole = z;
        whole' = z;
        lowers = refl;
        clean = λ z. z;
        counts = λ z. omega arith;
        few = omega arith;
      }

  -- all entries seen
  pub arrived : (buf high : List ℕ) (p : PassPlace) (i low records : ℕ) → Going m n area ib worst buf high p i low records → length es ≤ i
      → (low ≡ lowest worst (unsound_used m area [] es)) × Counted m area [] es records
  unfolding unsound_used lowest records_of
  arrived buf high p i low records g h =
      (sym (g.lowers ∙ rw (drop_of_length-le es)), λ (z : unsound_used m area [] es ≡ []). sym (g.counts z ∙ rw (drop_of_length-le es) (omega arith)))

  -- one entry more
  module _ (buf high : List ℕ) (p : PassPlace) (i low records : ℕ) (g : Going m n area ib worst buf high p i low records) (more : i < length es) where
    abbrev h : Here
    h = g.here

    step : Stepped w m.key n ib i h
    step = standing-step w m.key n ib i h g.standing more

    abbrev num : ℕ
    num = (part_here (width_for n) ib h).piece.num

    abbrev sep : List ℕ
    sep = sep_here (width_for n) ib h

    -- for the call that takes it apart
    pub entry-lies : EntryEnds (width_for n) ib p.right
    entry-lies = held-lies w ib h p buf high g.held g.standing.inside step.lies (width-most n)

    -- the separator before, as it is lent
    pub before-inside : p.len ≤ length buf
    before-inside = omega (arith, g.held.short, g.whole)

    pub before-long : length (take p.len buf) ≡ p.len
    before-long = ap length g.held.ref ∙ g.held.long

    pub before-short : length (take p.len buf) ≤ m.key
    before-short = omega (arith, ap length g.held.ref, g.standing.short)

    low_held : pick (eqb i 0) [] (bound m.key (take p.len buf)) ≡ bound_before m.key [] (take i es)
    low_held = rw g.held.ref (sym g.standing.low)

    module _ (s : Step) (e : s ≡ step_at (width_for n) ib p.right p.end) where
      is : s ≡ step_at (width_for n) ib h.right h.end
      is = held-step w ib h p buf high g.held g.standing.inside step.lies s e

      num-is : s.number ≡ num
      num-is = ap (λ (x : Step). x.number) is

      -- for the other calls
      pub within : s.number < n
      within = rw num-is step.within

      pub renew-fits : (s.front + s.len + 8 ≤ length high) × (s.front + s.len + 8 ≤ length buf) × (s.at + reach s.len ≤ length ib)
      renew-fits = step-renews w ib h p buf high g.held g.standing.inside step.lies s is

      pub past_fits : (s.front + s.len ≤ 510) × (s.at ≤ length ib) × (pick s.closes 2 0 ≤ s.at)
      past_fits = step_past w ib h p buf high g.held g.standing.inside step.lies s is

      module _ (buf' high' : List ℕ) (q : PassPlace) (new : Renewed ib s buf high buf' high') (past : q ≡ place_past ib s p) (wh : length buf' ≡ 263) where
        on : Held (here_next w ib h) q buf' high'
        on = rw past (held_on w ib h p buf high g.held g.standing.inside step.lies s is buf' high' new)

        -- its own separator, as it is lent
        pub own-inside : q.len ≤ length buf'
        own-inside = omega (arith, on.short, wh)

        pub own-long : length (take q.len buf') ≡ q.len
        own-long = ap length on.ref ∙ on.long

        pub own-short : length (take q.len buf') ≤ m.key
        own-short = omega (arith, ap length on.ref, step.fits)

        -- its interval was judged by both bounds
        module _ (f : Fits m n (length area)) (o : Option Opened) (r : Option ℕ)
            (opens : o ≡ opened_of m (pick (eqb i 0) [] (bound m.key (take p.len buf))) (data_in m area s.number))
            (closes : Closed m (data_in m area s.number) (bound m.key (take q.len buf')) o r) where
          seen : (is_some r ≡ sound_used m (bound_before m.key [] (take i es)) (bound m.key sep) (data_in m area num))
              × ((is_some r ≡ true → unwrap_or r 0 ≡ length (records_in (data_in m area num))) × (unwrap_or r 0 ≤ 32768))
          seen =
              let z = length-data m n area f num step.within in
              seen-is m (data_in m area num) (bound_before m.key [] (take i es)) (bound m.key sep)
              (fits-checkable f (data_in m area num) z) o (rw (low_held, num-is) at opens) r (rw (on.ref, num-is) at closes)

          pub seen_few : unwrap_or r 0 ≤ 32768
          seen_few = seen.1.1

          split : unsound_used m area (bound_before m.key [] (take i es)) (drop i es)
              ≡ pick (is_some r) (unsound_used m area (bound m.key sep) (drop (suc i) es)) (num ∷ unsound_used m area (bound m.key sep) (drop (suc i) es))
          split = rw (step.here, seen.0) (used-cons m area (bound_before m.key [] (take i es)) (entry_here w ib h) (drop (suc i) es))

          bounds : bound_before m.key [] (take (suc i) es) ≡ bound m.key sep
          bounds = step.next.low ∙ rw (ne_eqb (suc i) 0 (omega arith))

          none : unsound_used m area [] es ≡ [] → (is_some r ≡ true) × (unsound_used m area (bound m.key sep) (drop (suc i) es) ≡ [])
          none z = pick-none (is_some r) num (unsound_used m area (bound m.key sep) (drop (suc i) es)) (sym split ∙ g.clean z)

          one_more : 32768 * suc i ≡ 32768 * i + 32768
          one_more = omega arith

          pub onward : length high' ≡ 263 → Going m n area ib worst buf' high' q (i + 1) (pick (is_some r) low (min s.number low)) (records + unwrap_or r 0)
          onward wh' =
              rw (num-is, add-one i)
              (record {
                here = here_next w ib h;
                standing = step.next;
                held = on;
                whole = wh;
                whole' = wh';
                lowers = g.lowers ∙ rw split (lowest-pick (is_some r) low num (unsound_used m area (bound m.key sep) (drop (suc i) es)) ∙ rw bounds);
                clean = λ (z : unsound_used m area [] es ≡ []). rw bounds (none z).1;
                counts = λ (z : unsound_used m area [] es ≡ []). g.counts z ∙ rw step.here (omega (arith, records-cons m area (entry_here w ib h) (drop (suc i) es), seen.1.0 (none z).0));
                few = omega (arith, g.few, one_more, seen_few);
              })
