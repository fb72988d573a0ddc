-- Laws of the next entry: each way out of the step that judges it, and what its answer says.
use Prim.Native.Nat.{ℕ, ◌+◌, ◌-◌, ◌≤◌, ◌<◌}
use mathlib.Core.Path.{◌≡◌, refl, ◌∙◌, sym, ap}
use mathlib.Core.Bool.{Bool, true, false}
use mathlib.Core.List.{List, ◌++◌}
use mathlib.Core.Logic.{⊎_elim}
use lib.ListN.{length, get_or, take, length-append}
use lib.Seq.{length-take-le}
use lib.Dec.{eqb, leb}
use native.Mathlib.Omega.{arith}
use borrow.Author.Tests.{le-leb, eq-eqb, ne_eqb, eqb-true, eqb-false}
use Rattle.std.specs.Prelude.{Option, Some, None}
use Rattle.fields.specs.Choice.{pick, both, no}
use Rattle.fields.specs.Bytes.{part}
use Rattle.fields.proofs.Choices.{false-true, both-split, both_false, no_true}
use Rattle.fields.proofs.Splices.{length-mid}
use Rattle.index.specs.Bounds.{separator}
use Rattle.index.specs.Reading.{length_at}
use Rattle.index_step.specs.declared.PassPlace.{PassPlace}
use Rattle.index_step.specs.declared.Step.{Step}
use Rattle.index_step.specs.AidStep.{step_at, joined_of, reach, extended_by, copied_from, Renewed}
use Rattle.index_step.proofs.Reaching.{reach-most, extended-chars, extended-length}
use Rattle.index_read.specs.AidParsing.{closes_at, parses, parsed_of}
use Rattle.index_read.specs.AidWalk.{bound_rises, Ascends, TopAscends, Before, next_in, entry_of, Taken}
use Rattle.index_read.specs.declared.Limits.{Limits}
use Rattle.index_read.proofs.Entry.{Good, good, bad-of, no_front, no-fit, parsed-is, parsed-on, reaches}
use Rattle.index_read.proofs.Marking.{le-or-lt}

-- no test makes a bad answer good
pick-bad : (t : Bool) → pick {A = Option Step} t None None ≡ None
pick-bad true = refl
pick-bad false = refl

-- the separator of an entry that was taken apart
abbrev pub sep_in : List ℕ → Step → List ℕ → List ℕ → List ℕ
sep_in ib s buf high = joined_of s.front (pick s.closes high buf) ib s.at s.len

-- whether the entry is the highest of its section, as the place tells
pub closes-is : (ib : List ℕ) (p : PassPlace) (by : Limits) (s : Step) → parsed_of ib p by ≡ Some s → (t : Bool) → closes_at by.width p ≡ t → s.closes ≡ t
closes-is ib p by s parsed t which = ap (λ (x : Step). x.closes) (good ib p by s parsed).is ∙ which

-- What is known once its bound was judged: whether it rises, and what the buffers hold.
pub record Turned (ib : List ℕ) (p : PassPlace) (by : Limits) (first : Bool) (buf high : List ℕ) (s : Step) (rises : Bool) (buf' high' : List ℕ) : Type 0 where
  pub rising : rises ≡ bound_rises first by.key (take p.len buf) (sep_in ib s buf high)
  pub renewed : Renewed ib s buf high buf' high'
  pub long : length buf' ≡ length buf
  pub long' : length high' ≡ length high

module _ (ib : List ℕ) (p : PassPlace) (by : Limits) (first : Bool) (buf high : List ℕ) where
  pub entry-unparsed : parsed_of ib p by ≡ None → None ≡ entry_of ib p by first buf high
  unfolding entry_of
  entry-unparsed h = sym (rw h (pick-bad (both (bound_rises first by.key (take p.len buf) (next_in ib p by buf high)) (separator by.key (next_in ib p by buf high)))))

  module _ (s : Step) (parsed : parsed_of ib p by ≡ Some s) (b : Before ib p by buf) (tall : by.key + 8 ≤ length high) where
    g : Good ib p by s
    g = good ib p by s parsed

    abbrev sep : List ℕ
    sep = sep_in ib s buf high

    next-is : next_in ib p by buf high ≡ sep
    next-is = rw g.is

    -- for the calls
    pub chars-reach : s.at + reach s.len ≤ length ib
    chars-reach = reaches ib p by s g b.inside

    pub sep-short : s.front + s.len ≤ by.key
    sep-short = g.fits

    pub front-inner : s.closes ≡ false → s.front ≤ p.len
    front-inner c = rw c at g.front

    -- the two ways to judge the bound
    module _ (rises : Bool) (buf' high' : List ℕ) where
      abbrev Told : Type 0
      Told = Turned ib p by first buf high s rises buf' high'

      pub turned-top : s.closes ≡ true → TopAscends first p.len buf high ib s rises → buf' ≡ copied_from (extended_by ib s high) (s.front + s.len) buf
          → high' ≡ extended_by ib s high → Told
      turned-top c r is is' =
          let m = reach-most s.len in
          let k : length high' ≡ length high = extended-length ib high high' s.front s.len s.at (omega (arith, g.fits, tall, m)) chars-reach is' in
          let n = reach-most (s.front + s.len) in
          let is'' : buf' ≡ copied_from high' (s.front + s.len) buf = rw (← is') at is in
          record {
            rising = rw c (r by.key b.short g.fits);
            renewed = rw c (is, is');
            long = extended-length high' buf buf' 0 (s.front + s.len) 0 (omega (arith, g.fits, b.whole, n)) (omega (arith, g.fits, tall, k, n)) is'';
            long' = k;
          }

      pub turned-inner : s.closes ≡ false → Ascends first s.front p.len buf ib s.at s.len rises → buf' ≡ extended_by ib s buf → high' ≡ high → Told
      turned-inner c r is is' =
          let m = reach-most s.len in
          record {
            rising = rw c (r by.key b.short g.fits);
            renewed = rw c (is, is');
            long = extended-length ib buf buf' s.front s.len s.at (omega (arith, g.fits, b.whole, m)) chars-reach is;
            long' = ap length is';
          }

    sep-length : length sep ≡ s.front + s.len
    sep-length = go s.closes
      where
        go : (t : Bool) → length (joined_of s.front (pick t high buf) ib s.at s.len) ≡ s.front + s.len
        go t =
            let k : s.front ≤ length (pick t high buf) = enough t in
            omega (
              arith,
              length-append (take s.front (pick t high buf)) (part ib s.at s.len),
              length-take-le s.front (pick t high buf) k,
              length-mid ib s.at s.len (omega (arith, g.at-is, b.inside)),
            )
          where
            enough : (t : Bool) → s.front ≤ length (pick t high buf)
            enough true = omega (arith, g.fits, tall)
            enough false = omega (arith, g.fits, b.whole)

    -- it doesn't rise
    entry-low : bound_rises first by.key (take p.len buf) sep ≡ false → None ≡ entry_of ib p by first buf high
    unfolding entry_of
    entry-low z = sym (rw (next-is, z))

    pub low-top : s.closes ≡ true → TopAscends first p.len buf high ib s false → None ≡ entry_of ib p by first buf high
    low-top c r = entry-low (rw c (sym (r by.key b.short g.fits)))

    pub low-inner : s.closes ≡ false → Ascends first s.front p.len buf ib s.at s.len false → None ≡ entry_of ib p by first buf high
    low-inner c r = entry-low (rw c (sym (r by.key b.short g.fits)))

    -- its last byte is X'FF'
    sep-high : get_or sep (s.front + s.len - 1) 0 ≡ 255 → None ≡ entry_of ib p by first buf high
    unfolding entry_of separator
    sep-high h =
        let z : get_or sep (length sep - 1) 0 ≡ 255 = ap (λ (n : ℕ). get_or sep (n - 1) 0) sep-length ∙ h in
        sym (rw (next-is, eq-eqb (get_or sep (length sep - 1) 0) 255 z, both_false (leb (length sep) by.key), both_false (bound_rises first by.key (take p.len buf) sep)))

    -- it keeps the rules
    sep-fine : bound_rises first by.key (take p.len buf) sep ≡ true → (get_or sep (s.front + s.len - 1) 0 ≡ 255 → ⊥) → Some s ≡ entry_of ib p by first buf high
    unfolding entry_of separator
    sep-fine y n =
        let z : get_or sep (length sep - 1) 0 ≡ 255 → ⊥ = λ e. n (ap (λ (i : ℕ). get_or sep (i - 1) 0) (sym sep-length) ∙ e) in
        let k : length sep ≤ by.key = omega (arith, sep-length, g.fits) in
        sym (rw (next-is, ne_eqb (get_or sep (length sep - 1) 0) 255 z, le-leb (length sep) by.key k, y, parsed))

    module _ (rises : Bool) (buf' high' : List ℕ) (told : Turned ib p by first buf high s rises buf' high') where
      -- the first buffer begins with the separator
      begins : take (s.front + s.len) buf' ≡ sep
      begins = go s.closes told.renewed.0
        where
          m : reach s.len ≤ s.len + 8
          m = reach-most s.len

          n : reach (s.front + s.len) ≤ s.front + s.len + 8
          n = reach-most (s.front + s.len)

          top : take (s.front + s.len) (extended_by ib s high) ≡ take s.front high ++ part ib s.at s.len
          top = extended-chars ib high (extended_by ib s high) s.front s.len s.at (omega (arith, g.fits, tall, m)) chars-reach refl

          long : length (extended_by ib s high) ≡ length high
          long = extended-length ib high (extended_by ib s high) s.front s.len s.at (omega (arith, g.fits, tall, m)) chars-reach refl

          go : (t : Bool) → buf' ≡ pick t (copied_from (extended_by ib s high) (s.front + s.len) buf) (extended_by ib s buf)
              → take (s.front + s.len) buf' ≡ joined_of s.front (pick t high buf) ib s.at s.len
          go true is =
              let z : 0 + (s.front + s.len) ≡ s.front + s.len = omega arith in
              let e = extended-chars (extended_by ib s high) buf buf' 0 (s.front + s.len) 0 (omega (arith, g.fits, b.whole, n)) (omega (arith, g.fits, tall, long, n)) is in
              (rw z at e) ∙ top
          go false is = extended-chars ib buf buf' s.front s.len s.at (omega (arith, g.fits, b.whole, m)) chars-reach is

      -- so its last byte may be read there
      last-same : get_or (take (s.front + s.len) buf') (s.front + s.len - 1) 0 ≡ get_or sep (s.front + s.len - 1) 0
      last-same = ap (λ (x : List ℕ). get_or x (s.front + s.len - 1) 0) begins

      pub entry-high : get_or (take (s.front + s.len) buf') (s.front + s.len - 1) 0 ≡ 255 → None ≡ entry_of ib p by first buf high
      entry-high h = sep-high (sym last-same ∙ h)

      pub entry-on : rises ≡ true → (get_or (take (s.front + s.len) buf') (s.front + s.len - 1) 0 ≡ 255 → ⊥) → Some s ≡ entry_of ib p by first buf high
      entry-on h n = sep-fine (sym told.rising ∙ h) (λ e. n (last-same ∙ e))

  -- what a good answer says, and a bad one
  pub entry-good : (s : Step) → entry_of ib p by first buf high ≡ Some s
      → (parsed_of ib p by ≡ Some s) × (bound_rises first by.key (take p.len buf) (next_in ib p by buf high) ≡ true) × (separator by.key (next_in ib p by buf high) ≡ true)
  unfolding entry_of
  entry-good s = go (both (bound_rises first by.key (take p.len buf) (next_in ib p by buf high)) (separator by.key (next_in ib p by buf high))) refl
    where
      go : (t : Bool) → both (bound_rises first by.key (take p.len buf) (next_in ib p by buf high)) (separator by.key (next_in ib p by buf high)) ≡ t
          → pick t (parsed_of ib p by) None ≡ Some s
          → (parsed_of ib p by ≡ Some s) × (bound_rises first by.key (take p.len buf) (next_in ib p by buf high) ≡ true) × (separator by.key (next_in ib p by buf high) ≡ true)
      go true q h =
          let a = both-split (bound_rises first by.key (take p.len buf) (next_in ib p by buf high)) (separator by.key (next_in ib p by buf high)) q in
          (h, a.0, a.1)
      go false q h = absurd (bad-of h)

  pub entry-bad : entry_of ib p by first buf high ≡ None → parses ib p by ≡ true
      → both (bound_rises first by.key (take p.len buf) (next_in ib p by buf high)) (separator by.key (next_in ib p by buf high)) ≡ false
  unfolding entry_of
  entry-bad h q = go (both (bound_rises first by.key (take p.len buf) (next_in ib p by buf high)) (separator by.key (next_in ib p by buf high))) (rw (parsed-is ib p by q) at h)
    where
      go : (t : Bool) → pick t (Some (step_at by.width ib p.right p.end)) None ≡ None → t ≡ false
      go true h = absurd (bad-of (sym h))
      go false h = refl

-- what the buffers hold after a good one
pub taken_of : (ib buf high buf' high' : List ℕ) (x : Option Step) (s : Step) → x ≡ Some s → Taken ib buf high buf' high' x → Renewed ib s buf high buf' high'
taken_of ib buf high buf' high' x s e t = rw e at t

-- the last byte, as the test for it tells
last-high : (x : ℕ) → no (eqb x 255) ≡ false → x ≡ 255
last-high x h = go (eqb x 255) refl h
  where
    go : (t : Bool) → eqb x 255 ≡ t → no t ≡ false → x ≡ 255
    go true e z = eqb-true x 255 e
    go false e z = absurd (false-true (sym z))

-- ---- an entry that closes no section and lies right of the edge, as it was read

module _ (ib : List ℕ) (p : PassPlace) (by : Limits) (first : Bool) (buf : List ℕ) (b : Before ib p by buf) (which : closes_at by.width p ≡ false)
    (lies : by.edge + (by.width + 2 + length_at by.width ib p.right) ≤ p.right) (s : Step) (is : s ≡ step_at by.width ib p.right p.end) where
  unclosed : s.closes ≡ false
  unclosed = ap (λ (x : Step). x.closes) is ∙ which

  -- for the calls
  pub inner-reach : s.at + reach s.len ≤ length ib
  inner-reach =
      let z : s.at + (by.width + 2 + s.len) ≡ p.right = rw is (omega (arith, lies)) in
      omega (arith, z, b.inside, reach-most s.len)

  abbrev Answers : Option Step → Type 0
  Answers x = (high : List ℕ) → by.key + 8 ≤ length high → x ≡ entry_of ib p by first buf high

  pub inner-long : by.key < s.front + s.len → Answers None
  inner-long h = λ (high : List ℕ) tall. entry-unparsed ib p by first buf high (sym (no-fit ib p by false which s is h))

  module _ (fits : s.front + s.len ≤ by.key) (rises : Bool) (over : p.len < s.front → rises ≡ false)
      (ascends : s.front ≤ p.len → Ascends first s.front p.len buf ib s.at s.len rises) where
    inner-parsed : s.front ≤ p.len → parsed_of ib p by ≡ Some s
    inner-parsed f = sym (parsed-on ib p by false which s is (length_at by.width ib p.right) 0 p.len refl refl (omega (arith, lies)) refl f fits)

    pub inner-low : rises ≡ false → Answers None
    inner-low z = λ (high : List ℕ) tall.
        ⊎_elim
        (λ (f : s.front ≤ p.len). low-inner ib p by first buf high s (inner-parsed f) b tall unclosed (λ K k1 k2. sym z ∙ ascends f K k1 k2))
        (λ (f : p.len < s.front). entry-unparsed ib p by first buf high (sym (no_front ib p by false which s is p.len refl f))) (le-or-lt s.front p.len)

    -- where it rises F is no more than there is
    module _ (up : rises ≡ true) (low : Bool) (low-is : low ≡ no (eqb (get_or (joined_of s.front buf ib s.at s.len) (s.front + s.len - 1) 0) 255)) where
      inner-front : s.front ≤ p.len
      inner-front = ⊎_elim (λ (f : s.front ≤ p.len). f) (λ (f : p.len < s.front). absurd (false-true (sym (over f) ∙ up))) (le-or-lt s.front p.len)

      inner_up : (high : List ℕ) → bound_rises first by.key (take p.len buf) (sep_in ib s buf high) ≡ true
      inner_up high = rw unclosed (sym (ascends inner-front by.key b.short fits) ∙ up)

      pub inner-high : low ≡ false → Answers None
      inner-high z = λ (high : List ℕ) tall. sep-high ib p by first buf high s (inner-parsed inner-front) b tall (rw unclosed (last-high _ (sym low-is ∙ z)))

      pub inner-on : low ≡ true → Answers (Some s)
      inner-on z = λ (high : List ℕ) tall.
          sep-fine ib p by first buf high s (inner-parsed inner-front) b tall (inner_up high) (rw unclosed (eqb-false _ 255 (no_true _ (sym low-is ∙ z))))

  pub inner-renewed : (buf' high : List ℕ) → buf' ≡ extended_by ib s buf → Renewed ib s buf high buf' high
  inner-renewed buf' high e = rw unclosed (e, refl)
