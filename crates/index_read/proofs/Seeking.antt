-- Laws of the two requests that judge an index record: what the walk through it tells the check, and the check that seeks a key.
use Prim.Native.Nat.{ℕ, zero, suc, ◌≤◌, ◌<◌}
use mathlib.Core.Path.{◌≡◌, ◌∙◌, sym, ap}
use mathlib.Core.Bool.{true, false}
use mathlib.Core.List.{List, [], ◌∷◌}
use lib.ListN.{length, get_or, take}
use native.Mathlib.Omega.{arith}
use Rattle.std.specs.Prelude.{Some, None}
use Rattle.fields.specs.Bytes.{splice}
use Rattle.measures.specs.Judgement.{width_for}
use Rattle.index.specs.Bounds.{bound}
use Rattle.index.specs.Meaning.{Entry, entry, numbers, below, separator_before}
use Rattle.index.specs.Rules.{rises}
use Rattle.index.specs.Search.{leads_to, entry_for}
use Rattle.index.proofs.Keeping.{rules-apart, rises-apart, separator-short}
use Rattle.index.proofs.Counting.{below_apart}
use Rattle.sections.specs.Reading.{read_index, sound_index}
use Rattle.sections.proofs.Sounding.{sound-apart, sound-below}
use Rattle.index_step.specs.AidEntries.{here_first, entries_here}
use Rattle.index_step.proofs.Stepping.{entries-passed, entries-count}
use Rattle.index_read.specs.Check.{index_by, index_of, sound_with, entries_in, low_for, lead_of, sought_of, Seeks}
use Rattle.index_read.specs.AidSeek.{FoundBy}
use Rattle.index_read.specs.AidJudged.{JudgedAs}
use Rattle.index_read.specs.declared.Lead.{Lead}
use Rattle.index_read.specs.declared.Verdict.{Verdict}

-- ---- the check

pub checks-sound : (K n : ℕ) (ib wanted before own : List ℕ) (v : Verdict) → JudgedAs K n ib wanted before own (Some v) → Some (record { free = v.free; entries = v.entries }) ≡ index_of K n ib
unfolding index_by
checks-sound K n ib wanted before own v j = sym (rw (j.0, ← j.1, ← j.2))

pub checks-unsound : (K n : ℕ) (ib : List ℕ) → sound_index (width_for n) K n [] [] ib ≡ false → None ≡ index_of K n ib
unfolding index_by
checks-unsound K n ib h = sym (rw h)

-- ---- what lies in a list of entries

number-below : (n : ℕ) (es : List Entry) (i : ℕ) → below n (numbers es) ≡ true → i < length es → (get_or es i (entry [] 0)).num < n
number-below n [] i b h = absurd (omega arith)
number-below n (e ∷ es) zero b h = (below_apart n e.num (numbers es) b).0
number-below n (e ∷ es) (suc i) b h = number-below n es i (below_apart n e.num (numbers es) b).1 (omega arith)

own-short : (K : ℕ) (low : List ℕ) (es : List Entry) (i : ℕ) → rises K low es ≡ true → i < length es → length (get_or es i (entry [] 0)).sep ≤ K
own-short K low [] i r h = absurd (omega arith)
own-short K low (e ∷ es) zero r h = separator-short K e.sep (rises-apart K low e es r).0
own-short K low (e ∷ es) (suc i) r h = own-short K (bound K e.sep) es i (rises-apart K low e es r).2 (omega arith)

before-short : (K : ℕ) (low ref : List ℕ) (es : List Entry) (i : ℕ) → rises K low es ≡ true → length ref ≤ K → length (separator_before ref (take i es)) ≤ K
unfolding separator_before
before-short K low ref [] zero r s = s
before-short K low ref [] (suc i) r s = s
before-short K low ref (e ∷ es) zero r s = s
before-short K low ref (e ∷ es) (suc i) r s =
    let a = rises-apart K low e es r in
    before-short K (bound K e.sep) e.sep es i a.2 (separator-short K e.sep a.0)

-- ---- the check that seeks a key

same_spot : (s t : Lead) → s.ordinal ≡ t.ordinal → s.number ≡ t.number → s.before ≡ t.before → s.own ≡ t.own → s ≡ t
same_spot s t o m b w =
    ap (λ (x : ℕ). record { ordinal = x; number = s.number; before = s.before; own = s.own }) o
    ∙ ap (λ (x : ℕ). record { ordinal = t.ordinal; number = x; before = s.before; own = s.own }) m
    ∙ ap (λ (x : ℕ). record { ordinal = t.ordinal; number = t.number; before = x; own = s.own }) b
    ∙ ap (λ (x : ℕ). record { ordinal = t.ordinal; number = t.number; before = t.before; own = x }) w

module _ (n : ℕ) (ib key low high : List ℕ) (v : Verdict) (j : JudgedAs (length key) n ib key low high (Some v)) (some : 1 ≤ length key) where
  abbrev spot : Lead
  spot = v.spot

  abbrev w : ℕ
  w = width_for n

  abbrev es : List Entry
  es = entries_in n ib

  -- the entries that the walk met are those that are read
  met : entries_here w ib (here_first ib) (length es) ≡ es
  met = ap (λ (x : ℕ). entries_here w ib (here_first ib) x) (entries-count w n ib) ∙ sym (entries-passed w n ib)

  found : FoundBy w (length es) ib key spot low high
  found = j.3 some

  ordinal-is : spot.ordinal ≡ leads_to key es
  ordinal-is = found.ordinal ∙ rw met

  low-is : take spot.before low ≡ low_for n ib key
  low-is = found.low ∙ rw (met, ordinal-is)

  high_is : take spot.own high ≡ (entry_for key (entries_in n ib)).sep
  high_is = found.high ∙ rw (met, ordinal-is)

  spot_is : spot ≡ lead_of n ib key
  spot_is =
      same_spot spot (lead_of n ib key) ordinal-is (found.number ∙ rw (met, ordinal-is)) (found.low-long ∙ rw (met, ordinal-is)) (found.high-long ∙ rw (met, ordinal-is))

  pub seeks-within : (spot.number < n) × (spot.before ≤ length key) × (spot.own ≤ length key)
  seeks-within =
      let r = (rules-apart (length ib) (length key) n [] [] (read_index w n ib) (sound-apart w (length key) n [] [] ib j.0).rules).rising in
      let i : leads_to key es < length es = rw ordinal-is at found.inside in
      rw spot_is (
        number-below n es (leads_to key es) (sound-below w (length key) n [] [] ib j.0).1 i,
        before-short (length key) [] [] es (leads_to key es) r (omega arith),
        own-short (length key) [] es (leads_to key es) r i,
      )

  pub seeks-found : (before own before' own' : List ℕ) → before' ≡ splice before 0 (take spot.before low) → own' ≡ splice own 0 (take spot.own high)
      → Seeks n ib key before own (Some spot) before' own'
  unfolding sought_of
  seeks-found before own before' own' b o =
      record {
        answers = sym (rw j.0 (ap (λ (x : Lead). Some x) (sym spot_is)));
        low = rw j.0 (b ∙ ap (λ (x : List ℕ). splice before 0 x) low-is);
        high = rw j.0 (o ∙ ap (λ (x : List ℕ). splice own 0 x) high_is);
      }

pub seeks-unsound : (n : ℕ) (ib key before own : List ℕ) → sound_with n ib key ≡ false → Seeks n ib key before own None before own
unfolding sought_of
seeks-unsound n ib key before own h = record { answers = sym (rw h); low = sym (rw h); high = sym (rw h) }
