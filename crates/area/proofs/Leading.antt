-- A key has one place in a whole area: the entry that it leads to. All records of the entries before are below it, all of those after above it.
use Prim.Native.Nat.{ℕ, ◌≤◌}
use mathlib.Core.Path.{◌≡◌, refl, ◌∙◌, ap}
use mathlib.Core.Bool.{true, false}
use mathlib.Core.List.{List, [], ◌∷◌, ◌++◌, map-append}
use lib.ListN.{length}
use Rattle.fields.specs.Choice.{no}
use Rattle.fields.specs.Bytes.{Octets}
use Rattle.fields.specs.Order.{less}
use Rattle.fields.specs.Lists.{every}
use Rattle.fields.proofs.Choices.{both-split, both-join, no_true}
use Rattle.fields.proofs.Orders.{le-less, less-trans}
use Rattle.measures.specs.declared.Measures.{Measures}
use Rattle.interval.specs.Records.{key_of, keys_of, above, up_to}
use Rattle.interval.specs.Reading.{records_in}
use Rattle.interval.specs.Search.{all_below}
use Rattle.interval.specs.Role.{sound_used}
use Rattle.interval.proofs.Ascending.{ascend-above}
use Rattle.index.specs.Bounds.{bound}
use Rattle.index.specs.Meaning.{Entry}
use Rattle.index.specs.Rules.{rises, bound_before}
use Rattle.index.specs.Search.{leads_to}
use Rattle.index.proofs.Keeping.{rises-apart}
use Rattle.index.proofs.Leading.{lead-base}
use Rattle.area.specs.Content.{Filled, Content, data_in, records_of, fill, entries_of}
use Rattle.area.specs.Reading.{whole, read_area}
use Rattle.area.proofs.Filled.{fill-append, entries-fill, length-fill}
use Rattle.area.proofs.Sounding.{AllUsed, used-append, sound-apart, sound-rules, sound-filled}
use Rattle.area.proofs.Intervals.{used-apart}
use Rattle.area.proofs.Ascending.{entries-ascend}

-- Where the key's one entry stands, and what lies around it.
pub record KeyIn (m : Measures) (area key : List ℕ) (fs : List Filled) : Type 0 where
  pub pre : List Filled
  pub entry : Filled
  pub post : List Filled
  pub split : fs ≡ pre ++ (entry ∷ post)
  pub place : length pre ≡ leads_to key (entries_of fs)
  pub holds : entry.records ≡ records_in (data_in m area entry.num)
  pub stands : sound_used m (bound_before m.key [] (entries_of pre)) (bound m.key entry.sep) (data_in m area entry.num) ≡ true
  pub after : less (bound_before m.key [] (entries_of pre)) key ≡ true
  pub within : less (bound m.key entry.sep) key ≡ false
  pub lower : all_below key (keys_of m (records_of pre)) ≡ true
  pub higher : above key (keys_of m (records_of post)) ≡ true

-- the rules of bounds for two lists of entries
pub rises-append : (K : ℕ) (low : List ℕ) (xs ys : List Entry) → rises K low (xs ++ ys) ≡ true
    → (rises K low xs ≡ true) × (rises K (bound_before K low xs) ys ≡ true)
unfolding rises bound_before
rises-append K low [] ys r = (refl, r)
rises-append K low (x ∷ xs) ys r =
    let a = rises-apart K low x (xs ++ ys) r in
    let i = rises-append K (bound K x.sep) xs ys a.2 in
    (rw (a.0, a.1) i.0, i.1)

-- keys up to a bound that is below the key, then keys below it
below-join : (key high : List ℕ) (ks ls : List (List ℕ)) → less high key ≡ true → up_to high ks ≡ true → all_below key ls ≡ true → all_below key (ks ++ ls) ≡ true
unfolding every
below-join key high [] ls h u b = b
below-join key high (k ∷ ks) ls h u b =
    let s = both-split (no (less high k)) (up_to high ks) u in
    both-join (less k key) (all_below key (ks ++ ls)) (le-less k high key (no_true (less high k) s.0) h) (below-join key high ks ls h s.1 b)

-- what is above the last bound of some entries is above all their records
all-lower : (m : Measures) (area key low : List ℕ) (es : List Entry) → rises m.key low es ≡ true → AllUsed m area low es
    → less (bound_before m.key low es) key ≡ true → (less low key ≡ true) × (all_below key (keys_of m (records_of (fill m area es))) ≡ true)
unfolding bound_before records_of every
all-lower m area key low [] r a h = (h, refl)
all-lower m area key low (e ∷ es) r a h =
    let high : List ℕ = bound m.key e.sep in
    let ci : List ℕ = data_in m area e.num in
    let p = rises-apart m.key low e es r in
    let i = all-lower m area key high es p.2 a.1 h in (
      less-trans low high key p.1 i.0,
      rw (map-append (key_of m) (records_in ci) (records_of (fill m area es)))
          (below-join key high (keys_of m (records_in ci)) (keys_of m (records_of (fill m area es))) i.0 (used-apart m low high ci a.0).2 i.1),
    )

-- In a whole area every key of the right length leads to one entry: it is above the bound before and at most the entry's own, every record of the
-- entries before has a lower key and every record of the entries after a higher one.
pub key-in-one-entry : (m : Measures) (n : ℕ) (area : List ℕ) (c : Content) → read_area m n area ≡ whole c
    → (key : List ℕ) → 1 ≤ m.key → length key ≡ m.key → Octets key → KeyIn m area key c.filled
key-in-one-entry m n area c w key some long o =
    let s = sound-apart m n area c w in
    let es : List Entry = entries_of c.filled in
    let k = sound-rules m n area c s in
    let b = lead-base m.key key long o es some k.rising k.closing in
    let r = rises-append m.key [] b.pre (b.entry ∷ b.post) (rw b.split at k.rising) in
    let u = used-append m area [] b.pre (b.entry ∷ b.post) (rw b.split at s.used) in
    let f : c.filled ≡ fill m area b.pre ++ fill m area (b.entry ∷ b.post) =
    sound-filled m n area c s ∙ ap (fill m area) b.split ∙ fill-append m area b.pre (b.entry ∷ b.post) in
    record {
      pre = fill m area b.pre;
      entry = record { sep = b.entry.sep; num = b.entry.num; records = records_in (data_in m area b.entry.num) };
      post = fill m area b.post;
      split = f;
      place = length-fill m area b.pre ∙ b.place;
      holds = refl;
      stands = rw (entries-fill m area b.pre) u.1.0;
      after = rw (entries-fill m area b.pre) b.beyond;
      within = b.within;
      lower = (all-lower m area key [] b.pre r.0 u.0 b.beyond).1;
      higher = ascend-above (bound m.key b.entry.sep) key (keys_of m (records_of (fill m area b.post)))
          (entries-ascend m area (bound m.key b.entry.sep) b.post (rises-apart m.key (bound_before m.key [] b.pre) b.entry b.post r.1).2 u.1.1) b.within;
    }
