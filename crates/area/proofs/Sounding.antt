-- What a whole area says, fact by fact, and what makes an area whole.
use Prim.Native.Nat.{ℕ, ◌≤◌, ◌<◌}
use mathlib.Core.Path.{◌≡◌, refl, ◌∙◌, sym, ap}
use mathlib.Core.Bool.{Bool, true, false}
use mathlib.Core.List.{List, [], ◌∷◌, ◌++◌, Memᴰ, cons-ne-nil}
use lib.ListN.{length}
use native.Mathlib.Omega.{arith}
use borrow.Author.Tests.{ltb-false, le-ltb}
use Rattle.fields.specs.Choice.{pick}
use Rattle.measures.specs.Judgement.{width_for}
use Rattle.measures.specs.declared.Measures.{Measures}
use Rattle.interval.specs.Role.{sound_free, sound_used}
use Rattle.index.specs.Bounds.{bound}
use Rattle.index.specs.Meaning.{Entry, Meaning, numbers}
use Rattle.index.specs.Rules.{bound_before}
use Rattle.index.proofs.Keeping.{Keeps, rules-apart}
use Rattle.sections.specs.Reading.{read_index, sound_index}
use Rattle.sections.proofs.Sounding.{sound-apart as record_apart}
use Rattle.area.specs.Content.{Content, index_in, data_in, fill, content_of, entries_of, meaning_of}
use Rattle.area.specs.Soundness.{unsound_free, unsound_used, unsound_data, lowest}
use Rattle.area.specs.Reading.{damaged, whole, read_area}
use Rattle.area.proofs.Lowest.{lowest-least, lowest-none}
use Rattle.area.proofs.Filled.{entries-fill, meaning-content}
use Rattle.area.proofs.Unsound.{listed_below}

-- every free interval is sound in that role
abbrev pub AllFree : Measures → List ℕ → List ℕ → Type 0
AllFree m area [] = Unit {0}
AllFree m area (k ∷ ks) = (sound_free m (data_in m area k) ≡ true) × AllFree m area ks

-- every interval in use is sound between the bound before its entry and the entry's own
abbrev pub AllUsed : Measures → List ℕ → List ℕ → List Entry → Type 0
AllUsed m area low [] = Unit {0}
AllUsed m area low (e ∷ es) =
    (sound_used m low (bound m.key e.sep) (data_in m area e.num) ≡ true) × AllUsed m area (bound m.key e.sep) es

-- ---- none is listed as unsound exactly where all are sound

-- Where all free intervals are sound none is listed,
pub free-none : (m : Measures) (area ks : List ℕ) → AllFree m area ks → unsound_free m area ks ≡ []
unfolding unsound_free
free-none m area [] a = refl
free-none m area (k ∷ ks) a = rw a.0 (free-none m area ks a.1)

-- and where none is listed all are sound.
pub none_free : (m : Measures) (area ks : List ℕ) → unsound_free m area ks ≡ [] → AllFree m area ks
unfolding unsound_free
none_free m area [] e = tt
none_free m area (k ∷ ks) e = go (sound_free m (data_in m area k)) refl (λ (q : unsound_free m area ks ≡ []). none_free m area ks q) e
  where
    go : (t : Bool) → sound_free m (data_in m area k) ≡ t → (unsound_free m area ks ≡ [] → AllFree m area ks)
        → pick t (unsound_free m area ks) (k ∷ unsound_free m area ks) ≡ [] → AllFree m area (k ∷ ks)
    go true s i q = (s, i q)
    go false s i q = absurd (cons-ne-nil _ _ q)

-- Where all intervals in use are sound none is listed,
pub used-none : (m : Measures) (area low : List ℕ) (es : List Entry) → AllUsed m area low es → unsound_used m area low es ≡ []
unfolding unsound_used
used-none m area low [] a = refl
used-none m area low (e ∷ es) a = rw a.0 (used-none m area (bound m.key e.sep) es a.1)

-- and where none is listed all are sound.
pub none-used : (m : Measures) (area low : List ℕ) (es : List Entry) → unsound_used m area low es ≡ [] → AllUsed m area low es
unfolding unsound_used
none-used m area low [] e = tt
none-used m area low (e ∷ es) q =
    go (sound_used m low (bound m.key e.sep) (data_in m area e.num)) refl
    (λ (p : unsound_used m area (bound m.key e.sep) es ≡ []). none-used m area (bound m.key e.sep) es p) q
  where
    go : (t : Bool) → sound_used m low (bound m.key e.sep) (data_in m area e.num) ≡ t
        → (unsound_used m area (bound m.key e.sep) es ≡ [] → AllUsed m area (bound m.key e.sep) es)
        → pick t (unsound_used m area (bound m.key e.sep) es) (e.num ∷ unsound_used m area (bound m.key e.sep) es) ≡ []
        → AllUsed m area low (e ∷ es)
    go true s i p = (s, i p)
    go false s i p = absurd (cons-ne-nil _ _ p)

-- Those of two lists of entries, the second from the last bound of the first on.
pub used-append : (m : Measures) (area low : List ℕ) (xs ys : List Entry) → AllUsed m area low (xs ++ ys)
    → AllUsed m area low xs × AllUsed m area (bound_before m.key low xs) ys
unfolding bound_before
used-append m area low [] ys a = (tt, a)
used-append m area low (x ∷ xs) ys a =
    let r = used-append m area (bound m.key x.sep) xs ys a.1 in
    ((a.0, r.0), r.1)

-- And put together again.
pub used-join : (m : Measures) (area low : List ℕ) (xs ys : List Entry) → AllUsed m area low xs → AllUsed m area (bound_before m.key low xs) ys
    → AllUsed m area low (xs ++ ys)
unfolding bound_before
used-join m area low [] ys a b = b
used-join m area low (x ∷ xs) ys a b = (a.0, used-join m area (bound m.key x.sep) xs ys a.1 b)

-- In an area whose intervals with these numbers are the same they are as sound.
pub free_other : (m : Measures) (area area' ks : List ℕ) → ((k : ℕ) → Memᴰ k ks → data_in m area' k ≡ data_in m area k) → AllFree m area ks → AllFree m area' ks
free_other m area area' [] h a = tt
free_other m area area' (k ∷ ks) h a =
    (rw (h k (Memᴰ.head refl)) a.0, free_other m area area' ks (λ (j : ℕ) (i : Memᴰ j ks). h j (Memᴰ.tail i)) a.1)

-- The same of those in use.
pub used-other : (m : Measures) (area area' low : List ℕ) (es : List Entry)
    → ((k : ℕ) → Memᴰ k (numbers es) → data_in m area' k ≡ data_in m area k) → AllUsed m area low es → AllUsed m area' low es
used-other m area area' low [] h a = tt
used-other m area area' low (e ∷ es) h a =
    (rw (h e.num (Memᴰ.head refl)) a.0, used-other m area area' (bound m.key e.sep) es (λ (j : ℕ) (i : Memᴰ j (numbers es)). h j (Memᴰ.tail i)) a.1)

-- ---- the facts

-- The area is sound and holds c.
pub record Sound (m : Measures) (n : ℕ) (area : List ℕ) (c : Content) : Type 0 where
  pub index : sound_index (width_for n) m.key n [] [] (index_in m area) ≡ true
  pub content : c ≡ content_of m area (read_index (width_for n) n (index_in m area))
  pub free : AllFree m area c.free
  pub used : AllUsed m area [] (entries_of c.filled)

-- What a sound index record's meaning keeps.
pub index-rules : (m : Measures) (n : ℕ) (ib : List ℕ) → sound_index (width_for n) m.key n [] [] ib ≡ true → Keeps (length ib) m.key n [] [] (read_index (width_for n) n ib)
index-rules m n ib s = rules-apart (length ib) m.key n [] [] (read_index (width_for n) n ib) (record_apart (width_for n) m.key n [] [] ib s).rules

-- the three ways of a reading
ways-whole : (s t : Bool) (p : ℕ) (w c : Content) → pick s (pick t (damaged p) (whole w)) (damaged 0) ≡ whole c → (s ≡ true) × (t ≡ false) × (c ≡ w)
ways-whole true true p w c e = absurd (let z : ◌≡◌ {A = ℕ} 0 1 = cc in omega arith)
ways-whole true false p w c e = (refl, refl, cc)
ways-whole false t p w c e = absurd (let z : ◌≡◌ {A = ℕ} 0 1 = cc in omega arith)

none-listed : (n : ℕ) (ks : List ℕ) → ((k : ℕ) → Memᴰ k ks → k < n) → n ≤ lowest n ks → ks ≡ []
none-listed n [] b h = refl
none-listed n (k ∷ ks) b h = absurd (omega (arith, b k (Memᴰ.head refl), lowest-least n k (k ∷ ks) (Memᴰ.head refl)))

append-none : (xs ys : List ℕ) → xs ++ ys ≡ [] → (xs ≡ []) × (ys ≡ [])
append-none [] ys e = (refl, e)
append-none (x ∷ xs) ys e = absurd (cons-ne-nil _ _ e)

-- A whole area is sound, fact by fact: the index record; what it holds; each free interval; each interval in use between its bounds.
pub sound-apart : (m : Measures) (n : ℕ) (area : List ℕ) (c : Content) → read_area m n area ≡ whole c → Sound m n area c
unfolding read_area unsound_data
sound-apart m n area c e =
    let ix : Meaning = read_index (width_for n) n (index_in m area) in
    let w = ways-whole (sound_index (width_for n) m.key n [] [] (index_in m area)) _ _ _ c e in
    let z : unsound_free m area ix.free ++ unsound_used m area [] ix.entries ≡ [] =
    none-listed n (unsound_data m [] area ix) (λ (k : ℕ). listed_below m n [] area ix k (index-rules m n (index_in m area) w.0).naming) (ltb-false _ n w.1) in
    let s = append-none (unsound_free m area ix.free) (unsound_used m area [] ix.entries) z in
    record {
      index = w.0;
      content = w.2;
      free = rw w.2 (none_free m area ix.free s.0);
      used = rw (w.2, entries-fill) (none-used m area [] ix.entries s.1);
    }

-- And these facts make an area whole.
pub sound-together : (m : Measures) (n : ℕ) (area : List ℕ) (c : Content) → Sound m n area c → read_area m n area ≡ whole c
unfolding read_area unsound_data
sound-together m n area c s =
    let ix : Meaning = read_index (width_for n) n (index_in m area) in
    let f : AllFree m area ix.free = rw s.content at s.free in
    let u : AllUsed m area [] ix.entries = rw (s.content, entries-fill) at s.used in
    let z : lowest n (unsound_free m area ix.free ++ unsound_used m area [] ix.entries) ≡ n =
    rw (free-none m area ix.free f, used-none m area [] ix.entries u) (lowest-none n) in
    rw (s.index, z, le-ltb n n (omega arith)) (ap whole (sym s.content))

-- What follows at once.
module _ (m : Measures) (n : ℕ) (area : List ℕ) (c : Content) (s : Sound m n area c) where
  -- The index record is read as the meaning of what the area holds.
  pub sound-reads : read_index (width_for n) n (index_in m area) ≡ meaning_of c
  sound-reads = sym (ap meaning_of s.content ∙ meaning-content m area (read_index (width_for n) n (index_in m area)))

  -- That meaning keeps the rules.
  pub sound-rules : Keeps (length (index_in m area)) m.key n [] [] (meaning_of c)
  sound-rules = rw sound-reads at (index-rules m n (index_in m area) s.index)

  -- And each entry is filled with what its interval holds.
  pub sound-filled : c.filled ≡ fill m area (entries_of c.filled)
  sound-filled = ap (λ (x : Content). x.filled) s.content ∙ ap (λ (x : Meaning). fill m area x.entries) sound-reads

-- An area reads as one content at most.
pub same-content : (m : Measures) (n : ℕ) (area : List ℕ) (c d : Content) → read_area m n area ≡ whole c → read_area m n area ≡ whole d → c ≡ d
same-content m n area c d p q = let w : whole c ≡ whole d = sym p ∙ q in cc
