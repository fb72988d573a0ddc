-- The edit that a change by key makes: it is one that its interval can bear, and it makes the change of the plain list of all records.
use Prim.Native.Nat.{ℕ, ◌+◌, ◌≤◌, ◌<◌}
use mathlib.Core.Path.{◌≡◌, refl, ◌∙◌, sym, ap}
use mathlib.Core.Bool.{true, false}
use mathlib.Core.List.{List, [], ◌∷◌, ◌++◌, map-append, append_assoc, append-nil}
use lib.ListN.{length, take, drop, length-append}
use lib.Seq.{take_at, get_or_at, drop-append-add}
use lib.Dec.{leb}
use native.Mathlib.Omega.{arith}
use native.Mathlib.Nat.{add-zero}
use borrow.Author.Tests.{leb-true}
use Rattle.fields.specs.Choice.{no}
use Rattle.fields.specs.Bytes.{Octets}
use Rattle.fields.specs.Order.{less}
use Rattle.fields.specs.Lists.{swap, every}
use Rattle.fields.proofs.Choices.{both-split}
use Rattle.fields.proofs.Octets.{octets-nil, octets-part}
use Rattle.fields.proofs.Lists.{concat-none, concat-one}
use Rattle.measures.specs.declared.Measures.{Measures}
use Rattle.interval.specs.Records.{key_of, keys_of, within, lengths_fine, ascending, above, up_to}
use Rattle.interval.specs.Reading.{records_in}
use Rattle.interval.specs.Search.{lower, all_below}
use Rattle.interval.specs.Role.{sound_used}
use Rattle.interval.proofs.Ascending.{above-append, up-append, ascend-apart}
use Rattle.interval.proofs.Lengths.{none-fine, key-long}
use Rattle.interval.proofs.Backward.{form-and-keys}
use Rattle.interval.proofs.Search.{lower-most}
use Rattle.index.specs.Bounds.{bound}
use Rattle.index.specs.Rules.{bound_before}
use Rattle.index.specs.Search.{leads_to}
use Rattle.area.specs.Content.{Filled, Content, data_in, records_of, entries_of}
use Rattle.area.specs.Reading.{whole, read_area}
use Rattle.area.proofs.Filled.{records_of-append, entries-take}
use Rattle.area.proofs.Intervals.{used-apart}
use Rattle.area.proofs.Leading.{key-in-one-entry}
use Rattle.change.specs.Parts.{Edit, entry_at, edited}
use Rattle.change.specs.Fitting.{Proper}
use Rattle.requests.specs.Records.{with_key}
use Rattle.requests.specs.Model.{add, replace, remove}
use Rattle.requests.specs.Changing.{edit_for}
use Rattle.requests.specs.Accepted.{remade}
use Rattle.requests.proofs.Keys.{with_append, with-below, with-above}
use Rattle.requests.proofs.Around.{below-append, add-here, replace-here, remove-here, ascend-put, ascend-join, Missing, Standing, missing, standing}

-- ---- the entry that a key leads to

-- The entry at place i, the records around it, and its interval between its bounds.
pub record Led (m : Measures) (area key : List ℕ) (fs : List Filled) (i : ℕ) : Type 0 where
  pub inside : i < length fs
  pub split : fs ≡ take i fs ++ (entry_at fs i ∷ drop (i + 1) fs)
  pub holds : (entry_at fs i).records ≡ records_in (data_in m area (entry_at fs i).num)
  pub stands : sound_used m (bound_before m.key [] (take i (entries_of fs))) (bound m.key (entry_at fs i).sep) (data_in m area (entry_at fs i).num) ≡ true
  pub after : less (bound_before m.key [] (take i (entries_of fs))) key ≡ true
  pub within : less (bound m.key (entry_at fs i).sep) key ≡ false
  pub lower : all_below key (keys_of m (records_of (take i fs))) ≡ true
  pub higher : above key (keys_of m (records_of (drop (i + 1) fs))) ≡ true

-- a list that is cut at a place
parts-at : (fs pre : List Filled) (f : Filled) (post : List Filled) (i : ℕ) → fs ≡ pre ++ (f ∷ post) → length pre ≡ i
    → (i < length fs) × (take i fs ≡ pre) × (entry_at fs i ≡ f) × (drop (i + 1) fs ≡ post)
parts-at fs pre f post i s h = (
  omega (arith, ap length s, length-append pre (f ∷ post)),
  rw s (take_at pre (f ∷ post) i h),
  rw s (get_or_at pre f post (record { sep = []; num = 0; records = [] }) i h),
  rw (s, ← h) (drop-append-add pre (f ∷ post) 1),
)

-- In a whole area a key leads to an entry there is. All records of the entries before it have lower keys, those of the entries after it higher ones, its
-- own are what its interval holds, and that interval is sound between the bound before and its own.
pub led-entry : (m : Measures) (n : ℕ) (area : List ℕ) (c : Content) → read_area m n area ≡ whole c
    → (key : List ℕ) → 1 ≤ m.key → length key ≡ m.key → Octets key → Led m area key c.filled (leads_to key (entries_of c.filled))
led-entry m n area c w key some long o =
    let k = key-in-one-entry m n area c w key some long o in
    let fs : List Filled = c.filled in
    let p = parts-at fs k.pre k.entry k.post (leads_to key (entries_of fs)) k.split k.place in
    let b : take (leads_to key (entries_of fs)) (entries_of fs) ≡ entries_of k.pre = sym (entries-take (leads_to key (entries_of fs)) fs) ∙ ap entries_of p.1 in
    record {
      inside = p.0;
      split = rw (p.1, p.2, p.3) k.split;
      holds = rw p.2 k.holds;
      stands = rw (p.2, b) k.stands;
      after = rw b k.after;
      within = rw p.2 k.within;
      lower = rw p.1 k.lower;
      higher = rw p.3 k.higher;
    }

module _ (m : Measures) (area key : List ℕ) (fs : List Filled) (i : ℕ) (l : Led m area key fs i) where
  -- All records are those before the entry's, its own, and those after.
  pub led-records : records_of fs ≡ records_of (take i fs) ++ ((entry_at fs i).records ++ records_of (drop (i + 1) fs))
  unfolding records_of
  led-records = ap records_of l.split ∙ records_of-append (take i fs) (entry_at fs i ∷ drop (i + 1) fs)

  -- Its own have ascending keys,
  pub led-ascends : ascending (keys_of m (entry_at fs i).records) ≡ true
  led-ascends =
      let ci : List ℕ = data_in m area (entry_at fs i).num in
      rw l.holds (form-and-keys m ci (used-apart m (bound_before m.key [] (take i (entries_of fs))) (bound m.key (entry_at fs i).sep) ci l.stands).0).1

  -- each above the bound before
  pub led-above : above (bound_before m.key [] (take i (entries_of fs))) (keys_of m (entry_at fs i).records) ≡ true
  led-above =
      rw l.holds (used-apart m (bound_before m.key [] (take i (entries_of fs))) (bound m.key (entry_at fs i).sep) (data_in m area (entry_at fs i).num) l.stands).1

  -- and at most the entry's own.
  pub led-up : up_to (bound m.key (entry_at fs i).sep) (keys_of m (entry_at fs i).records) ≡ true
  led-up =
      rw l.holds (used-apart m (bound_before m.key [] (take i (entries_of fs))) (bound m.key (entry_at fs i).sep) (data_in m area (entry_at fs i).num) l.stands).2

  -- What is found by the key in all records is what is found in the entry's.
  pub led-with : with_key m key (records_of fs) ≡ with_key m key (entry_at fs i).records
  led-with =
      let P : List (List ℕ) = records_of (take i fs) in
      let Q : List (List ℕ) = records_of (drop (i + 1) fs) in
      let rs : List (List ℕ) = (entry_at fs i).records in
      ap (with_key m key) led-records
      ∙ with_append m key P (rs ++ Q)
      ∙ rw (with-below m key P l.lower, with_append m key rs Q, with-above m key Q l.higher) (append-nil (with_key m key rs))

-- ---- changes of the records between others

module _ (m : Measures) (key : List ℕ) (P A Z Q : List (List ℕ)) (lp : all_below key (keys_of m P) ≡ true) (la : all_below key (keys_of m A) ≡ true)
    (hz : above key (keys_of m Z) ≡ true) (hq : above key (keys_of m Q) ≡ true) where
  lo : all_below key (keys_of m (P ++ A)) ≡ true
  lo = rw (map-append (key_of m) P A, below-append key (keys_of m P) (keys_of m A), lp, la)

  hi : above key (keys_of m (Z ++ Q)) ≡ true
  hi = rw (map-append (key_of m) Z Q, above-append key (keys_of m Z) (keys_of m Q), hz, hq)

  around : (Y : List (List ℕ)) → P ++ ((A ++ (Y ++ Z)) ++ Q) ≡ (P ++ A) ++ (Y ++ (Z ++ Q))
  around Y = simp append_assoc

  add-in : (r : List ℕ) → key_of m r ≡ key → add m r (P ++ ((A ++ Z) ++ Q)) ≡ P ++ ((A ++ (r ∷ Z)) ++ Q)
  add-in r e = ap (add m r) (around []) ∙ add-here m key (P ++ A) (Z ++ Q) lo hi r e ∙ sym (around (r ∷ []))

  replace-in : (x r : List ℕ) → key_of m x ≡ key → key_of m r ≡ key → replace m r (P ++ ((A ++ (x ∷ Z)) ++ Q)) ≡ P ++ ((A ++ (r ∷ Z)) ++ Q)
  replace-in x r e f = ap (replace m r) (around (x ∷ [])) ∙ replace-here m key (P ++ A) (Z ++ Q) lo hi x r e f ∙ sym (around (r ∷ []))

  remove-in : (x : List ℕ) → key_of m x ≡ key → remove m key (P ++ ((A ++ (x ∷ Z)) ++ Q)) ≡ P ++ ((A ++ Z) ++ Q)
  remove-in x e = ap (remove m key) (around (x ∷ [])) ∙ remove-here m key (P ++ A) (Z ++ Q) lo hi x e ∙ sym (around [])

-- keys between bounds, with one key more and with one less
module _ (m : Measures) (A Z : List (List ℕ)) (low high : List ℕ) where
  above-put : (r : List ℕ) → less low (key_of m r) ≡ true → above low (keys_of m (A ++ Z)) ≡ true → above low (keys_of m (A ++ (r ∷ Z))) ≡ true
  unfolding every
  above-put r h a =
      let s = both-split (above low (keys_of m A)) (above low (keys_of m Z)) (sym (ap (above low) (map-append (key_of m) A Z) ∙ above-append low (keys_of m A) (keys_of m Z)) ∙ a) in
      rw (map-append (key_of m) A (r ∷ Z), above-append low (keys_of m A) (keys_of m (r ∷ Z)), s.0, h, s.1)

  above-out : (x : List ℕ) → above low (keys_of m (A ++ (x ∷ Z))) ≡ true → above low (keys_of m (A ++ Z)) ≡ true
  unfolding every
  above-out x a =
      let s = both-split (above low (keys_of m A)) (above low (keys_of m (x ∷ Z))) (sym (ap (above low) (map-append (key_of m) A (x ∷ Z)) ∙ above-append low (keys_of m A) (keys_of m (x ∷ Z))) ∙ a) in
      let t = both-split (less low (key_of m x)) (above low (keys_of m Z)) s.1 in
      rw (map-append (key_of m) A Z, above-append low (keys_of m A) (keys_of m Z), s.0, t.1)

  up-put : (r : List ℕ) → less high (key_of m r) ≡ false → up_to high (keys_of m (A ++ Z)) ≡ true → up_to high (keys_of m (A ++ (r ∷ Z))) ≡ true
  unfolding every
  up-put r h a =
      let s = both-split (up_to high (keys_of m A)) (up_to high (keys_of m Z)) (sym (ap (up_to high) (map-append (key_of m) A Z) ∙ up-append high (keys_of m A) (keys_of m Z)) ∙ a) in
      rw (map-append (key_of m) A (r ∷ Z), up-append high (keys_of m A) (keys_of m (r ∷ Z)), s.0, h, s.1)

  up-out : (x : List ℕ) → up_to high (keys_of m (A ++ (x ∷ Z))) ≡ true → up_to high (keys_of m (A ++ Z)) ≡ true
  unfolding every
  up-out x a =
      let s = both-split (up_to high (keys_of m A)) (up_to high (keys_of m (x ∷ Z))) (sym (ap (up_to high) (map-append (key_of m) A (x ∷ Z)) ∙ up-append high (keys_of m A) (keys_of m (x ∷ Z))) ∙ a) in
      let t = both-split (no (less high (key_of m x))) (up_to high (keys_of m Z)) s.1 in
      rw (map-append (key_of m) A Z, up-append high (keys_of m A) (keys_of m Z), s.0, t.1)

  ascend-both : ascending (keys_of m (A ++ Z)) ≡ true → (ascending (keys_of m A) ≡ true) × (ascending (keys_of m Z) ≡ true)
  ascend-both u = ascend-apart (keys_of m A) (keys_of m Z) (sym (ap ascending (map-append (key_of m) A Z)) ∙ u)

  ascend-rest : (x : List ℕ) → ascending (keys_of m (A ++ (x ∷ Z))) ≡ true → (ascending (keys_of m A) ≡ true) × (ascending (keys_of m Z) ≡ true)
  ascend-rest x u =
      let s = ascend-apart (keys_of m A) (keys_of m (x ∷ Z)) (sym (ap ascending (map-append (key_of m) A (x ∷ Z))) ∙ u) in
      (s.0, (ascend-apart (key_of m x ∷ []) (keys_of m Z) s.1).1)

-- ---- the edits

one-fine : (m : Measures) (r : List ℕ) → within m.least m.most (length r) ≡ true → lengths_fine m (r ∷ []) ≡ true
unfolding every
one-fine m r h = rw h

-- The edits of the entry that a key leads to, at the key's place.
module _ (m : Measures) (area key : List ℕ) (fs : List Filled) (i : ℕ) (l : Led m area key fs i) where
  abbrev edit : ℕ → List (List ℕ) → Edit
  edit gone fresh = record { entry = i; ordinal = lower m key (entry_at fs i).records; gone = gone; fresh = fresh }

  abbrev rs : List (List ℕ)
  rs = (entry_at fs i).records

  abbrev j : ℕ
  j = lower m key (entry_at fs i).records

  edited-insert : (r : List ℕ) → edited fs (edit 0 (r ∷ [])) ≡ take j rs ++ (r ∷ drop j rs)
  unfolding swap
  edited-insert r = rw (add-zero j)

  edited-update : (r : List ℕ) → edited fs (edit 1 (r ∷ [])) ≡ take j rs ++ (r ∷ drop (j + 1) rs)
  unfolding swap
  edited-update r = refl

  edited-erase : edited fs (edit 1 []) ≡ take j rs ++ drop (j + 1) rs
  unfolding swap
  edited-erase = refl

  module _ (r : List ℕ) (e : key_of m r ≡ key) (fine : within m.least m.most (length r) ≡ true) (o : Octets r) where
    after-key : less (bound_before m.key [] (take i (entries_of fs))) (key_of m r) ≡ true
    after-key = rw e l.after

    within-key : less (bound m.key (entry_at fs i).sep) (key_of m r) ≡ false
    within-key = rw e l.within

    module _ (g : Missing m key rs) where
      insert-bears : Proper m fs (edit 0 (r ∷ []))
      insert-bears =
          let low : List ℕ = bound_before m.key [] (take i (entries_of fs)) in
          let high : List ℕ = bound m.key (entry_at fs i).sep in
          let u = ascend-both m (take j rs) (drop j rs) low high (rw (← g.split) (led-ascends m area key fs i l)) in
          record {
            entry = l.inside;
            inside = omega (arith, lower-most m key rs);
            one = omega arith;
            ascend = rw (edited-insert r) (ascend-put m key (take j rs) (drop j rs) g.below g.higher u.0 u.1 r e);
            after = rw (entries-take i fs, edited-insert r) (above-put m (take j rs) (drop j rs) low high r after-key (rw (← g.split) (led-above m area key fs i l)));
            within = rw (edited-insert r) (up-put m (take j rs) (drop j rs) low high r within-key (rw (← g.split) (led-up m area key fs i l)));
            lengths = one-fine m r fine;
            octets = rw (concat-one r) o;
          }

      insert-makes : remade fs (edit 0 (r ∷ [])) ≡ add m r (records_of fs)
      insert-makes =
          let P : List (List ℕ) = records_of (take i fs) in
          let Q : List (List ℕ) = records_of (drop (i + 1) fs) in
          ap (λ (xs : List (List ℕ)). P ++ (xs ++ Q)) (edited-insert r)
          ∙ sym (add-in m key P (take j rs) (drop j rs) Q l.lower g.below g.higher l.higher r e)
          ∙ ap (λ (xs : List (List ℕ)). add m r (P ++ (xs ++ Q))) (sym g.split)
          ∙ ap (add m r) (sym (led-records m area key fs i l))

    module _ (x : List ℕ) (g : Standing m key rs x) where
      update-bears : Proper m fs (edit 1 (r ∷ []))
      update-bears =
          let low : List ℕ = bound_before m.key [] (take i (entries_of fs)) in
          let high : List ℕ = bound m.key (entry_at fs i).sep in
          let A : List (List ℕ) = take j rs in
          let Z : List (List ℕ) = drop (j + 1) rs in
          let u = ascend-rest m A Z low high x (rw (← g.split) (led-ascends m area key fs i l)) in
          record {
            entry = l.inside;
            inside = omega (arith, g.inside);
            one = omega arith;
            ascend = rw (edited-update r) (ascend-put m key A Z g.below g.higher u.0 u.1 r e);
            after =
                rw (entries-take i fs, edited-update r)
                (above-put m A Z low high r after-key (above-out m A Z low high x (rw (← g.split) (led-above m area key fs i l))));
            within =
                rw (edited-update r)
                (up-put m A Z low high r within-key (up-out m A Z low high x (rw (← g.split) (led-up m area key fs i l))));
            lengths = one-fine m r fine;
            octets = rw (concat-one r) o;
          }

      update-makes : remade fs (edit 1 (r ∷ [])) ≡ replace m r (records_of fs)
      update-makes =
          let P : List (List ℕ) = records_of (take i fs) in
          let Q : List (List ℕ) = records_of (drop (i + 1) fs) in
          let A : List (List ℕ) = take j rs in
          let Z : List (List ℕ) = drop (j + 1) rs in
          ap (λ (xs : List (List ℕ)). P ++ (xs ++ Q)) (edited-update r)
          ∙ sym (replace-in m key P A Z Q l.lower g.below g.higher l.higher x r g.keyed e)
          ∙ ap (λ (xs : List (List ℕ)). replace m r (P ++ (xs ++ Q))) (sym g.split)
          ∙ ap (replace m r) (sym (led-records m area key fs i l))

  module _ (x : List ℕ) (g : Standing m key rs x) where
    erase-bears : Proper m fs (edit 1 [])
    erase-bears =
        let low : List ℕ = bound_before m.key [] (take i (entries_of fs)) in
        let high : List ℕ = bound m.key (entry_at fs i).sep in
        let A : List (List ℕ) = take j rs in
        let Z : List (List ℕ) = drop (j + 1) rs in
        let u = ascend-rest m A Z low high x (rw (← g.split) (led-ascends m area key fs i l)) in
        record {
          entry = l.inside;
          inside = omega (arith, g.inside);
          one = omega arith;
          ascend = rw edited-erase (ascend-join m key A Z g.below g.higher u.0 u.1);
          after = rw (entries-take i fs, edited-erase) (above-out m A Z low high x (rw (← g.split) (led-above m area key fs i l)));
          within = rw edited-erase (up-out m A Z low high x (rw (← g.split) (led-up m area key fs i l)));
          lengths = none-fine m;
          octets = rw concat-none octets-nil;
        }

    erase-makes : remade fs (edit 1 []) ≡ remove m key (records_of fs)
    erase-makes =
        let P : List (List ℕ) = records_of (take i fs) in
        let Q : List (List ℕ) = records_of (drop (i + 1) fs) in
        let A : List (List ℕ) = take j rs in
        let Z : List (List ℕ) = drop (j + 1) rs in
        ap (λ (xs : List (List ℕ)). P ++ (xs ++ Q)) edited-erase
        ∙ sym (remove-in m key P A Z Q l.lower g.below g.higher l.higher x g.keyed)
        ∙ ap (λ (xs : List (List ℕ)). remove m key (P ++ (xs ++ Q))) (sym g.split)
        ∙ ap (remove m key) (sym (led-records m area key fs i l))

-- ---- on a whole area

-- the entry that a key leads to
abbrev pub led_to : Content → List ℕ → Filled
led_to c key = entry_at c.filled (leads_to key (entries_of c.filled))

-- and a record of bytes has a key of bytes.
pub key-octets : (m : Measures) (r : List ℕ) → Octets r → Octets (key_of m r)
key-octets m r o = octets-part r m.offset m.key o

-- A record of a length that the measures allow has at least the least.
pub within-least : (m : Measures) (r : List ℕ) → within m.least m.most (length r) ≡ true → m.least ≤ length r
within-least m r h = leb-true m.least (length r) (both-split (leb m.least (length r)) (leb (length r) m.most) h).0

module _ (m : Measures) (n : ℕ) (area : List ℕ) (c : Content) (w : read_area m n area ≡ whole c) (some : 1 ≤ m.key) where
  -- A key's place among the records of its entry.
  module _ (key : List ℕ) (long : length key ≡ m.key) (o : Octets key) where
    -- What is found by a key in all records is what is found in the entry that the key leads to.
    pub entry-with : with_key m key (records_of c.filled) ≡ with_key m key (led_to c key).records
    entry-with = led-with m area key c.filled (leads_to key (entries_of c.filled)) (led-entry m n area c w key some long o)

    -- Where no record has the key, none of the entry has it, and its place there lies between lower keys and higher ones.
    pub entry-missing : with_key m key (records_of c.filled) ≡ [] → Missing m key (led_to c key).records
    entry-missing e = missing m key (led_to c key).records (led-ascends m area key c.filled (leads_to key (entries_of c.filled)) (led-entry m n area c w key some long o)) (sym entry-with ∙ e)

    -- The record that is found by a key is the only one with it, and stands in the entry that the key leads to, at the key's place: it is the one that
    -- goes in an update or an erase.
    pub entry-standing : (x : List ℕ) (xs : List (List ℕ)) → with_key m key (records_of c.filled) ≡ x ∷ xs → (xs ≡ []) × Standing m key (led_to c key).records x
    entry-standing x xs e =
        standing m key (led_to c key).records (led-ascends m area key c.filled (leads_to key (entries_of c.filled)) (led-entry m n area c w key some long o)) x xs (sym entry-with ∙ e)

    module _ (x : List ℕ) (xs : List (List ℕ)) (e : with_key m key (records_of c.filled) ≡ x ∷ xs) where
      -- An erase of a key that some record has is an edit that its interval can bear,
      pub erase-proper : Proper m c.filled (edit_for m c key 1 [])
      erase-proper = erase-bears m area key c.filled (leads_to key (entries_of c.filled)) (led-entry m n area c w key some long o) x (entry-standing x xs e).1

      -- and removes that record from the plain list.
      pub erase-removes : remade c.filled (edit_for m c key 1 []) ≡ remove m key (records_of c.filled)
      erase-removes = erase-makes m area key c.filled (leads_to key (entries_of c.filled)) (led-entry m n area c w key some long o) x (entry-standing x xs e).1

  -- A record of a fine length, made of bytes.
  module _ (inside : m.offset + m.key ≤ m.least) (r : List ℕ) (fine : within m.least m.most (length r) ≡ true) (o : Octets r) where
    record-key : length (key_of m r) ≡ m.key
    record-key = key-long m r (omega (arith, within-least m r fine))

    led-record : Led m area (key_of m r) c.filled (leads_to (key_of m r) (entries_of c.filled))
    led-record = led-entry m n area c w (key_of m r) some record-key (key-octets m r o)

    module _ (absent : with_key m (key_of m r) (records_of c.filled) ≡ []) where
      -- An insert of a record whose key no record has is an edit that its interval can bear,
      pub insert-proper : Proper m c.filled (edit_for m c (key_of m r) 0 (r ∷ []))
      insert-proper =
          insert-bears m area (key_of m r) c.filled (leads_to (key_of m r) (entries_of c.filled)) led-record r refl fine o
          (entry-missing (key_of m r) record-key (key-octets m r o) absent)

      -- and adds the record to the plain list.
      pub insert-adds : remade c.filled (edit_for m c (key_of m r) 0 (r ∷ [])) ≡ add m r (records_of c.filled)
      insert-adds =
          insert-makes m area (key_of m r) c.filled (leads_to (key_of m r) (entries_of c.filled)) led-record r refl fine o
          (entry-missing (key_of m r) record-key (key-octets m r o) absent)

    module _ (x : List ℕ) (xs : List (List ℕ)) (e : with_key m (key_of m r) (records_of c.filled) ≡ x ∷ xs) where
      -- An update by a record whose key some record has is an edit that its interval can bear,
      pub update-proper : Proper m c.filled (edit_for m c (key_of m r) 1 (r ∷ []))
      update-proper =
          update-bears m area (key_of m r) c.filled (leads_to (key_of m r) (entries_of c.filled)) led-record r refl fine o x
          (entry-standing (key_of m r) record-key (key-octets m r o) x xs e).1

      -- and puts it in that record's place in the plain list.
      pub update-replaces : remade c.filled (edit_for m c (key_of m r) 1 (r ∷ [])) ≡ replace m r (records_of c.filled)
      update-replaces =
          update-makes m area (key_of m r) c.filled (leads_to (key_of m r) (entries_of c.filled)) led-record r refl fine o x
          (entry-standing (key_of m r) record-key (key-octets m r o) x xs e).1
