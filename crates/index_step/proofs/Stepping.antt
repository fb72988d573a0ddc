-- A pass over the entries of a sound index record: it meets exactly the entries that are read, in their order, and each lies where the step looks.
-- For a loop: begin with `standing-start` and `held_start`; at each turn `standing-step` gives the entry and where the pass stands next, and `held_on` of
-- Passing what place and buffers hold then.
use Prim.Native.Nat.{ℕ, zero, suc, ◌+◌, ◌-◌, ◌≤◌, ◌<◌}
use mathlib.Core.Path.{◌≡◌, refl, ◌∙◌, sym, ap}
use mathlib.Core.Bool.{true}
use mathlib.Core.List.{List, [], ◌∷◌, ◌++◌}
use lib.ListN.{length, take, drop}
use lib.Dec.{eqb}
use native.Mathlib.Omega.{arith}
use borrow.Author.Tests.{ne_eqb}
use Rattle.fields.specs.Choice.{pick}
use Rattle.fields.specs.Order.{less}
use Rattle.fields.proofs.Choices.{both-split}
use Rattle.index.specs.Bounds.{bound, separator}
use Rattle.index.specs.Meaning.{Entry, numbers, below}
use Rattle.index.specs.Rules.{bound_before, rises}
use Rattle.index.specs.Reading.{free_count}
use Rattle.index.proofs.Keeping.{Keeps, rules-apart, rises-apart, separator-short}
use Rattle.index.proofs.Counting.{below_apart}
use Rattle.index.proofs.Inserting.{before-snoc}
use Rattle.sections.specs.Reading.{parts_in, read_index, sound_index}
use Rattle.sections.proofs.Sounding.{Sound, sound-apart, sound-below}
use Rattle.sections.proofs.Apart.{entries-are}
use Rattle.index_step.specs.AidStep.{place_start}
use Rattle.index_step.specs.AidEntries.{Here, here_first, part_here, sep_here, entry_here, here_next, entries_here, lies_here, readable, Held}
use Rattle.index_step.proofs.Passing.{entries-spelt, entries-long, rises-readable}

-- ---- where a pass stands

-- After i entries of a sound record.
pub record Standing (w K n : ℕ) (ib : List ℕ) (i : ℕ) (h : Here) : Type 0 where
  pub few : i ≤ length (read_index w n ib).entries
  pub short : length h.ref ≤ K
  pub rest : drop i (read_index w n ib).entries ≡ entries_here w ib h (length (read_index w n ib).entries - i)
  pub low : bound_before K [] (take i (read_index w n ib).entries) ≡ pick (eqb i 0) [] (bound K h.ref)
  pub inside : h.right + 7 ≤ length ib
  pub reads : readable w ib h (length (read_index w n ib).entries - i) ≡ true
  pub rising : rises K (bound_before K [] (take i (read_index w n ib).entries)) (drop i (read_index w n ib).entries) ≡ true
  pub named : below n (numbers (drop i (read_index w n ib).entries)) ≡ true

-- The entries that are read are those of a pass from the first on, as many as there are intervals that aren't free.
pub entries-passed : (w n : ℕ) (ib : List ℕ) → (read_index w n ib).entries ≡ entries_here w ib (here_first ib) (n - free_count w ib)
unfolding parts_in
entries-passed w n ib = entries-are w n ib ∙ sym (entries-spelt w ib (here_first ib) (n - free_count w ib))

pub entries-count : (w n : ℕ) (ib : List ℕ) → length (read_index w n ib).entries ≡ n - free_count w ib
entries-count w n ib = ap length (entries-passed w n ib) ∙ entries-long w ib (here_first ib) (n - free_count w ib)

-- All entries of a sound record can be read.
pub entries-readable : (w K n : ℕ) (ib : List ℕ) → K ≤ 255 → sound_index w K n [] [] ib ≡ true → readable w ib (here_first ib) (n - free_count w ib) ≡ true
unfolding parts_in
entries-readable w K n ib few h =
    let s : Sound w K n [] [] ib = sound-apart w K n [] [] ib h in
    let k : Keeps (length ib) K n [] [] (read_index w n ib) = rules-apart (length ib) K n [] [] (read_index w n ib) s.rules in
    rises-readable w K ib [] (here_first ib) (n - free_count w ib) few (omega (arith, s.placed.apart)) s.fronts (rw (entries-passed w n ib) at k.rising)

pub standing-start : (w K n : ℕ) (ib : List ℕ) → 7 ≤ length ib → K ≤ 255 → sound_index w K n [] [] ib ≡ true → Standing w K n ib 0 (here_first ib)
unfolding bound_before
standing-start w K n ib large few h =
    let s : Sound w K n [] [] ib = sound-apart w K n [] [] ib h in
    let k : Keeps (length ib) K n [] [] (read_index w n ib) = rules-apart (length ib) K n [] [] (read_index w n ib) s.rules in
    let z : length (read_index w n ib).entries - 0 ≡ n - free_count w ib = omega (arith, entries-count w n ib) in
    record {
      few = omega arith;
      short = omega arith;
      rest = rw z (entries-passed w n ib);
      low = refl;
      inside = omega arith;
      reads = rw z (entries-readable w K n ib few h);
      rising = k.rising;
      named = (sound-below w K n [] [] ib h).1;
    }

-- the place and the buffers then, whatever these hold
pub held_start : (ib buf high : List ℕ) → 263 ≤ length buf → 263 ≤ length high → Held (here_first ib) (place_start ib) buf high
held_start ib buf high whole whole' =
    record {
      right = refl;
      end = refl;
      ref = refl;
      top = refl;
      long = refl;
      tall = refl;
      short = omega arith;
      low = omega arith;
      whole = whole;
      whole' = whole';
    }

-- ---- one step

-- one element more on the left
split-more : (es : List Entry) (i : ℕ) (x : Entry) (ys : List Entry) → drop i es ≡ x ∷ ys → (drop (suc i) es ≡ ys) × (take (suc i) es ≡ take i es ++ (x ∷ []))
split-more [] zero x ys h = absurd (let z : ◌≡◌ {A = ℕ} 0 1 = cc in omega arith)
split-more [] (suc i) x ys h = absurd (let z : ◌≡◌ {A = ℕ} 0 1 = cc in omega arith)
split-more (e ∷ es) zero x ys h =
    let a : e ≡ x = cc in
    let b : es ≡ ys = cc in
    (b, rw a)
split-more (e ∷ es) (suc i) x ys h =
    let q = split-more es i x ys h in
    (q.0, rw q.1)

-- What the next entry is, and where the pass stands after it.
pub record Stepped (w K n : ℕ) (ib : List ℕ) (i : ℕ) (h : Here) : Type 0 where
  pub lies : lies_here w ib h ≡ true
  pub fits : length (sep_here w ib h) ≤ K
  pub here : drop i (read_index w n ib).entries ≡ entry_here w ib h ∷ drop (suc i) (read_index w n ib).entries
  pub within : (part_here w ib h).piece.num < n
  pub next : Standing w K n ib (suc i) (here_next w ib h)

module _ (w K n : ℕ) (ib : List ℕ) (i : ℕ) (h : Here) (s : Standing w K n ib i h) (more : i < length (read_index w n ib).entries) where
  abbrev es : List Entry
  es = (read_index w n ib).entries

  abbrev sep : List ℕ
  sep = sep_here w ib h

  abbrev num : ℕ
  num = (part_here w ib h).piece.num

  left_there : length es - i ≡ suc (length es - suc i)
  left_there = omega arith

  reads_two : (lies_here w ib h ≡ true) × (readable w ib (here_next w ib h) (length es - suc i) ≡ true)
  unfolding readable
  reads_two = both-split _ _ (rw left_there at s.reads)

  split : drop i es ≡ entry_here w ib h ∷ entries_here w ib (here_next w ib h) (length es - suc i)
  unfolding entries_here
  split = s.rest ∙ rw left_there

  on : (drop (suc i) es ≡ entries_here w ib (here_next w ib h) (length es - suc i)) × (take (suc i) es ≡ take i es ++ (entry_here w ib h ∷ []))
  on = split-more es i (entry_here w ib h) (entries_here w ib (here_next w ib h) (length es - suc i)) split

  here-is : drop i es ≡ entry_here w ib h ∷ drop (suc i) es
  here-is = split ∙ rw (← on.0)

  numbers-there : (num < n) × (below n (numbers (drop (suc i) es)) ≡ true)
  numbers-there = below_apart n num (numbers (drop (suc i) es)) (ap (λ (x : List Entry). below n (numbers x)) (sym here-is) ∙ s.named)

  bound-there : bound_before K [] (take (suc i) es) ≡ bound K sep
  bound-there = rw on.1 (before-snoc K [] (take i es) (entry_here w ib h))

  apart : (separator K sep ≡ true) × (less (bound_before K [] (take i es)) (bound K sep) ≡ true) × (rises K (bound K sep) (drop (suc i) es) ≡ true)
  apart = rises-apart K (bound_before K [] (take i es)) (entry_here w ib h) (drop (suc i) es) (rw here-is at s.rising)

  pub standing-step : Stepped w K n ib i h
  standing-step =
      let fits : length sep ≤ K = separator-short K sep apart.0 in
      record {
        lies = reads_two.0;
        fits = fits;
        here = here-is;
        within = numbers-there.0;
        next =
            record {
              few = omega arith;
              short = fits;
              rest = on.0;
              low = bound-there ∙ rw (ne_eqb (suc i) 0 (omega arith));
              inside = omega (arith, s.inside);
              reads = reads_two.1;
              rising = rw bound-there apart.2;
              named = numbers-there.1;
            };
      }
