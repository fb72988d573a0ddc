-- The entries of a whole area one by one: each has a number of its own area, and its records are those of an interval that can be read. How many records lie before each.
use Prim.Native.Nat.{ℕ, zero, suc, ◌+◌, ◌≤◌, ◌<◌}
use mathlib.Core.Path.{◌≡◌, refl, ◌∙◌, sym, ap}
use mathlib.Core.List.{List, [], ◌∷◌, ◌++◌, append-nil}
use lib.ListN.{length, get_or, take, drop, length-append, take-append-drop}
use lib.Seq.{take-suc, take_all}
use native.Mathlib.Omega.{arith}
use Rattle.measures.specs.Judgement.{Fits}
use Rattle.measures.specs.declared.Measures.{Measures}
use Rattle.interval.specs.Reading.{records_in, Readable}
use Rattle.index.specs.Meaning.{Entry, numbers}
use Rattle.index.proofs.Counting.{below_at}
use Rattle.index.proofs.Naming.{both_below, free-and-used, length-numbers}
use Rattle.area.specs.Content.{Filled, Content, data_in, records_of, fill, entries_of, meaning_of}
use Rattle.area.specs.Reading.{read_area, whole}
use Rattle.area.proofs.Filled.{records_of-append, length-entries}
use Rattle.area.proofs.Sounding.{sound-apart, sound-filled, sound-rules}
use Rattle.area_find.proofs.Readables.{readable}
use Rattle.walk.specs.AidStands.{nowhere, before}
use Rattle.walk.proofs.Passing.{number_at}

fill-at : (m : Measures) (area : List ℕ) (es : List Entry) (i : ℕ) → i < length (fill m area es)
    → (get_or (fill m area es) i nowhere).records ≡ records_in (data_in m area (get_or (fill m area es) i nowhere).num)
fill-at m area [] i h = absurd (omega arith)
fill-at m area (e ∷ es) zero h = refl
fill-at m area (e ∷ es) (suc i) h = fill-at m area es i (omega arith)

pub before-zero : (fs : List Filled) → before fs 0 ≡ 0
unfolding records_of
before-zero fs = refl

pub before-suc : (fs : List Filled) (i : ℕ) → i < length fs → before fs (suc i) ≡ before fs i + length (get_or fs i nowhere).records
unfolding records_of
before-suc fs i h =
    let f : Filled = get_or fs i nowhere in
    ap (λ (xs : List Filled). length (records_of xs)) (take-suc fs i nowhere h)
    ∙ ap length (records_of-append (take i fs) (f ∷ []))
    ∙ length-append (records_of (take i fs)) (f.records ++ [])
    ∙ ap (λ (rs : List (List ℕ)). before fs i + length rs) (append-nil f.records)

pub before-all : (fs : List Filled) (i : ℕ) → length fs ≤ i → before fs i ≡ length (records_of fs)
before-all fs i h = ap (λ (xs : List Filled). length (records_of xs)) (take_all i fs h)

pub before-most : (fs : List Filled) (i : ℕ) → before fs i ≤ length (records_of fs)
before-most fs i =
    let e : length (records_of fs) ≡ length (records_of (take i fs)) + length (records_of (drop i fs)) =
    ap (λ (xs : List Filled). length (records_of xs)) (sym (take-append-drop i fs)) ∙ ap length (records_of-append (take i fs) (drop i fs)) ∙ length-append (records_of (take i fs)) (records_of (drop i fs)) in
    omega (arith, e)

module _ (m : Measures) (n : ℕ) (area : List ℕ) (fits : Fits m n (length area)) (c : Content) (w : read_area m n area ≡ whole c) where
  abbrev fs : List Filled
  fs = c.filled

  -- what is known of entry i
  pub record Held (i : ℕ) : Type 0 where
    pub within : (get_or fs i nowhere).num < n
    pub records : (get_or fs i nowhere).records ≡ records_in (data_in m area (get_or fs i nowhere).num)
    pub reads : Readable m (data_in m area (get_or fs i nowhere).num)

  pub held_at : (i : ℕ) → i < length fs → Held i
  held_at i h =
      let s = sound-apart m n area c w in
      let b = (both_below n (meaning_of c) (sound-rules m n area c s).naming).1 in
      let within : (get_or fs i nowhere).num < n =
      rw (number_at fs i) at (below_at n (numbers (entries_of fs)) i b (omega (arith, length-numbers (entries_of fs), length-entries fs))) in
      let e : fs ≡ fill m area (entries_of fs) = sound-filled m n area c s in
      record {
        within = within;
        records = rw (← e) at (fill-at m area (entries_of fs) i (rw e at h));
        reads = readable m n area fits (record { content = c; reads = w }) (get_or fs i nowhere).num within;
      }

  -- no more entries than intervals
  pub held-few : length fs ≤ n
  held-few = omega (arith, free-and-used n (meaning_of c) (sound-rules m n area c (sound-apart m n area c w)).naming, length-entries fs)
