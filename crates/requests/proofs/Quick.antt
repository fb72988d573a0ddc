-- Get by key judges only what it reads: on a sound area it answers as a get that reads all of it would, and what lies elsewhere does not matter.
use Rattle.std.specs.Prelude.{Err, None}
use Prim.Native.Nat.{ℕ, ◌≤◌}
use mathlib.Core.Path.{◌≡◌, refl, ◌∙◌, sym, ap}
use mathlib.Core.Bool.{Bool, true, false}
use mathlib.Core.List.{List, [], ◌∷◌, ◌++◌, append-nil}
use mathlib.Core.Logic.{◌⊎◌, inl, inr}
use lib.ListN.{length, get_or, take}
use lib.Seq.{take_at, get_or_at}
use lib.Dec.{eqb}
use borrow.Author.Tests.{eqb-true}
use Rattle.fields.specs.Choice.{pick}
use Rattle.fields.specs.Bytes.{Octets}
use Rattle.fields.specs.Lists.{concat}
use Rattle.fields.specs.Order.{order_of, less}
use Rattle.fields.specs.Table.{same_list}
use Rattle.fields.proofs.Choices.{false-true, same-means}
use Rattle.fields.proofs.Lists.{concat-append}
use Rattle.fields.proofs.Octets.{octets-nil, octets-append, octets-part}
use Rattle.measures.specs.Judgement.{fine, judged_of, count_of, width_for, passed}
use Rattle.measures.specs.declared.Measures.{Measures}
use Rattle.interval.specs.Records.{key_of, keys_of, ascending}
use Rattle.interval.specs.Reading.{records_in, form_sound}
use Rattle.interval.specs.Role.{sound_used}
use Rattle.interval.proofs.Backward.{form-and-keys}
use Rattle.interval.proofs.Form.{read-octets}
use Rattle.index.specs.Bounds.{bound}
use Rattle.index.specs.Meaning.{Entry, entry, Meaning}
use Rattle.index.specs.Rules.{bound_before, closed}
use Rattle.index.specs.Search.{leads_to, entry_for}
use Rattle.sections.specs.Reading.{read_index}
use Rattle.area.specs.Content.{Content, Filled, index_in, data_in, records_of, fill, entries_of}
use Rattle.area.specs.Reading.{read_area, whole}
use Rattle.area.specs.Leads.{index_sound, entries_for, number_for, interval_for, sound_for}
use Rattle.area.proofs.Filled.{records_of-append, entries_of-append, length-entries}
use Rattle.area.proofs.Intervals.{used-apart}
use Rattle.area.proofs.Parts.{octets-data}
use Rattle.area.proofs.Sounding.{AllUsed, Sound, used-append, sound-apart, sound-reads, sound-rules, sound-filled}
use Rattle.area.proofs.Leading.{KeyIn, key-in-one-entry}
use Rattle.change.proofs.Between.{octets-apart}
use Rattle.requests.specs.Records.{with_key}
use Rattle.requests.specs.Reading.{refused, hand_out, get_there, get_in, get_judged, get_of, get_whole}
use Rattle.requests.specs.declared.Refusal.TheVariants.{WrongLength, Absent}
use Rattle.requests.proofs.Keys.{with_append, with-below, with-above}

-- ---- where a key leads

-- the entry that a key leads to, between those before and those after it
record Leads (key : List ℕ) (es : List Entry) : Type 0 where
  pre : List Entry
  there : Entry
  post : List Entry
  split : es ≡ pre ++ (there ∷ post)
  place : length pre ≡ leads_to key es

-- Entries of which the last has the empty separator lead every list of numbers somewhere, be it a key or not.
leads : (key : List ℕ) (es : List Entry) → closed [] es ≡ true → Leads key es
unfolding closed leads_to order_of
leads key [] c = absurd (false-true c)
leads key (e ∷ []) c = record { pre = []; there = e; post = []; split = refl; place = rw (same-means e.sep [] c) refl }
leads key (e ∷ f ∷ es) c = go (less e.sep (take (length e.sep) key)) refl (leads key (f ∷ es) c)
  where
    go : (t : Bool) → less e.sep (take (length e.sep) key) ≡ t → Leads key (f ∷ es) → Leads key (e ∷ f ∷ es)
    go true h l = record { pre = e ∷ l.pre; there = l.there; post = l.post; split = ap (λ (xs : List Entry). e ∷ xs) l.split; place = rw (h, l.place) }
    go false h l = record { pre = []; there = e; post = f ∷ es; split = refl; place = rw h }

-- Its entry, and the entries before it.
module _ (wanted : List ℕ) (es pre : List Entry) (e : Entry) (post : List Entry) (split : es ≡ pre ++ (e ∷ post)) (place : length pre ≡ leads_to wanted es) where
  pub entry-there : entry_for wanted es ≡ e
  entry-there =
      ap (λ (xs : List Entry). get_or xs (leads_to wanted es) (entry [] 0)) split ∙ get_or_at pre e post (entry [] 0) (leads_to wanted es) place

  pub before-there : take (leads_to wanted es) es ≡ pre
  before-there = ap (λ (xs : List Entry). take (leads_to wanted es) xs) split ∙ take_at pre (e ∷ post) (leads_to wanted es) place

-- What that interval's soundness in its role says: its form, and keys that ascend.
pub there-apart : (m : Measures) (es : List Entry) (wanted ci : List ℕ) → sound_for m es wanted ci ≡ true
    → (form_sound m ci ≡ true) × (ascending (keys_of m (records_in ci)) ≡ true)
unfolding sound_for
there-apart m es wanted ci h =
    form-and-keys m ci (used-apart m (bound_before m.key [] (take (leads_to wanted es) es)) (bound m.key (entry_for wanted es).sep) ci h).0

-- ---- records of bytes

-- Records that are read from sound intervals of bytes are bytes.
used-octets : (m : Measures) (area low : List ℕ) (es : List Entry) → Octets area → AllUsed m area low es → Octets (concat (records_of (fill m area es)))
unfolding records_of concat
used-octets m area low [] o a = octets-nil
used-octets m area low (e ∷ es) o a =
    let high : List ℕ = bound m.key e.sep in
    let ci : List ℕ = data_in m area e.num in
    rw (concat-append (records_in ci) (records_of (fill m area es)))
    (octets-append (concat (records_in ci)) (concat (records_of (fill m area es)))
    (read-octets m ci (form-and-keys m ci (used-apart m low high ci a.0).0).0 (octets-data m area e.num o)) (used-octets m area high es o a.1))

-- So only a key of bytes is found among them.
octets-or-none : (m : Measures) (wanted : List ℕ) (rs : List (List ℕ)) → Octets (concat rs) → Octets wanted ⊎ (with_key m wanted rs ≡ [])
unfolding with_key concat
octets-or-none m wanted [] o = inr refl
octets-or-none m wanted (r ∷ rs) o =
    let a = octets-apart r (concat rs) o in
    go (same_list (key_of m r) wanted) refl (octets-part r m.offset m.key a.0) (octets-or-none m wanted rs a.1)
  where
    go : (t : Bool) → same_list (key_of m r) wanted ≡ t → Octets (key_of m r) → Octets wanted ⊎ (with_key m wanted rs ≡ [])
        → Octets wanted ⊎ (pick t (r ∷ with_key m wanted rs) (with_key m wanted rs) ≡ [])
    go true e k later = inl (rw (same-means (key_of m r) wanted e) at k)
    go false e k later = later

-- ---- on a sound area

module _ (m : Measures) (n : ℕ) (area : List ℕ) (c : Content) (reads : read_area m n area ≡ whole c) (wanted : List ℕ) where
  s : Sound m n area c
  s = sound-apart m n area c reads

  entries-are : entries_for m n area ≡ entries_of c.filled
  entries-are = ap (λ (x : Meaning). x.entries) (sound-reads m n area c s)

  l : Leads wanted (entries_of c.filled)
  l = leads wanted (entries_of c.filled) (sound-rules m n area c s).closing

  entry-is : entry_for wanted (entries_of c.filled) ≡ l.there
  entry-is = entry-there wanted (entries_of c.filled) l.pre l.there l.post l.split l.place

  number-there : number_for m n area wanted ≡ l.there.num
  number-there = ap (λ (xs : List Entry). (entry_for wanted xs).num) entries-are ∙ ap (λ (x : Entry). x.num) entry-is

  stands-there : sound_used m (bound_before m.key [] l.pre) (bound m.key l.there.sep) (data_in m area l.there.num) ≡ true
  stands-there = (used-append m area [] l.pre (l.there ∷ l.post) (rw l.split at s.used)).1.0

  -- The interval that a key leads to is sound in its role.
  pub there-sound : sound_for m (entries_for m n area) wanted (interval_for m n area wanted) ≡ true
  unfolding sound_for
  there-sound =
      rw (number-there, entries-are, before-there wanted (entries_of c.filled) l.pre l.there l.post l.split l.place, entry-is) stands-there

  module _ (some : 1 ≤ m.key) (o : Octets area) (long : length wanted ≡ m.key) where
    -- where the key is of bytes, all records before the interval have lower keys, all behind it higher ones
    by_place : Octets wanted → with_key m wanted (records_of c.filled) ≡ with_key m wanted (records_in (interval_for m n area wanted))
    unfolding records_of
    by_place b =
        ap (λ (fs : List Filled). with_key m wanted (records_of fs)) k.split
        ∙ ap (with_key m wanted) (records_of-append k.pre (k.entry ∷ k.post))
        ∙ with_append m wanted (records_of k.pre) (k.entry.records ++ records_of k.post)
        ∙ rw (with-below m wanted (records_of k.pre) k.lower, with_append m wanted k.entry.records (records_of k.post), with-above m wanted (records_of k.post) k.higher)
        (append-nil (with_key m wanted k.entry.records) ∙ ap (with_key m wanted) k.holds ∙ ap (λ (j : ℕ). with_key m wanted (records_in (data_in m area j))) (sym number_is))
      where
        k : KeyIn m area wanted c.filled
        k = key-in-one-entry m n area c reads wanted some long b

        split : entries_of c.filled ≡ entries_of k.pre ++ (entry k.entry.sep k.entry.num ∷ entries_of k.post)
        split = ap entries_of k.split ∙ entries_of-append k.pre (k.entry ∷ k.post)

        number_is : number_for m n area wanted ≡ k.entry.num
        number_is =
            ap (λ (xs : List Entry). (entry_for wanted xs).num) entries-are
            ∙ ap (λ (x : Entry). x.num)
            (entry-there wanted (entries_of c.filled) (entries_of k.pre) (entry k.entry.sep k.entry.num) (entries_of k.post) split (length-entries k.pre ∙ k.place))

    -- The records with a key in the interval that it leads to are those of the whole list.
    pub there-is-all : with_key m wanted (records_of c.filled) ≡ with_key m wanted (records_in (interval_for m n area wanted))
    there-is-all = go (octets-or-none m wanted (records_of c.filled) all) (octets-or-none m wanted (records_in (interval_for m n area wanted)) here)
      where
        all : Octets (concat (records_of c.filled))
        all = rw (sound-filled m n area c s) (used-octets m area [] (entries_of c.filled) o s.used)

        here : Octets (concat (records_in (interval_for m n area wanted)))
        here =
            read-octets m (interval_for m n area wanted) (there-apart m (entries_for m n area) wanted (interval_for m n area wanted) there-sound).0
            (octets-data m area (number_for m n area wanted) o)

        go : Octets wanted ⊎ (with_key m wanted (records_of c.filled) ≡ []) → Octets wanted ⊎ (with_key m wanted (records_in (interval_for m n area wanted)) ≡ [])
            → with_key m wanted (records_of c.filled) ≡ with_key m wanted (records_in (interval_for m n area wanted))
        go (inl b) y = by_place b
        go (inr e) (inl b) = by_place b
        go (inr e) (inr f) = e ∙ sym f

    there-same : (out : List ℕ) → get_there m (entries_for m n area) wanted (interval_for m n area wanted) out ≡ hand_out (Err Absent) (with_key m wanted (records_of c.filled)) out
    unfolding get_there
    there-same out = rw (there-sound, there-is-all)

  -- A sound area is answered as by a get that reads all of it.
  pub get-same : 1 ≤ m.key → Octets area → (out : List ℕ) → get_in m n area wanted out ≡ get_whole m c wanted out
  unfolding get_in
  get-same some o out = rw s.index (go (eqb (length wanted) m.key) refl)
    where
      go : (t : Bool) → eqb (length wanted) m.key ≡ t
          → pick t (get_there m (entries_for m n area) wanted (interval_for m n area wanted) out) (refused (Err WrongLength) out)
          ≡ pick t (hand_out (Err Absent) (with_key m wanted (records_of c.filled)) out) (refused (Err WrongLength) out)
      go true h = there-same some o (eqb-true (length wanted) m.key h) out
      go false h = refl

-- ---- elsewhere

-- Two areas with the same index record, and the same bytes in the interval that the key leads to, are answered alike, whatever else they hold.
pub get-elsewhere : (m : Measures) (n : ℕ) (area area' wanted out : List ℕ) → index_in m area' ≡ index_in m area
    → data_in m area' (number_for m n area wanted) ≡ data_in m area (number_for m n area wanted) → get_in m n area' wanted out ≡ get_in m n area wanted out
unfolding get_in
get-elsewhere m n area area' wanted out i d =
    let f : entries_for m n area' ≡ entries_for m n area = ap (λ (ib : List ℕ). (read_index (width_for n) n ib).entries) i in
    let e : interval_for m n area' wanted ≡ interval_for m n area wanted = ap (λ (es : List Entry). data_in m area' (entry_for wanted es).num) f ∙ d in
    rw (e, f, i)

-- Where the index record is unsound or the key's length is wrong, the same index record is enough.
pub get-by-index : (m : Measures) (n : ℕ) (area area' wanted out : List ℕ) → index_in m area' ≡ index_in m area → index_sound m n area ≡ false
    → get_in m n area' wanted out ≡ get_in m n area wanted out
unfolding get_in
get-by-index m n area area' wanted out i h = rw (i, h)

pub get-by-length : (m : Measures) (n : ℕ) (area area' wanted out : List ℕ) → index_in m area' ≡ index_in m area → eqb (length wanted) m.key ≡ false
    → get_in m n area' wanted out ≡ get_in m n area wanted out
unfolding get_in
get-by-length m n area area' wanted out i h = rw (i, h)

-- The same of the whole request: two equally long areas with the same index record, and the same bytes in the interval that the key leads to, are answered
-- alike, whatever else they hold. That interval's bytes count only where the index record is sound and the key of the right length; else the same index
-- record is enough.
module _ (m : Measures) (area area' wanted out : List ℕ) (long : length area' ≡ length area) where
  abbrev n : ℕ
  n = count_of m.size (length area)

  judged-alike : get_in m n area' wanted out ≡ get_in m n area wanted out → get_of m area' wanted out ≡ get_of m area wanted out
  unfolding get_of judged_of
  judged-alike e = rw long (go (fine m (length area)))
    where
      go : (t : Bool) → get_judged (pick t (passed m n) None) area' wanted out ≡ get_judged (pick t (passed m n) None) area wanted out
      go true = e
      go false = refl

  pub get-of-elsewhere : index_in m area' ≡ index_in m area
      → (index_sound m n area ≡ true → length wanted ≡ m.key → data_in m area' (number_for m n area wanted) ≡ data_in m area (number_for m n area wanted))
      → get_of m area' wanted out ≡ get_of m area wanted out
  get-of-elsewhere i d = judged-alike (go (index_sound m n area) (eqb (length wanted) m.key) refl refl)
    where
      go : (t u : Bool) → index_sound m n area ≡ t → eqb (length wanted) m.key ≡ u → get_in m n area' wanted out ≡ get_in m n area wanted out
      go false u h k = get-by-index m n area area' wanted out i h
      go true false h k = get-by-length m n area area' wanted out i k
      go true true h k = get-elsewhere m n area area' wanted out i (d h (eqb-true (length wanted) m.key k))
