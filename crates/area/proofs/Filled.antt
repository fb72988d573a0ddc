-- Entries with their records: lists of them end to end, and an area of which other intervals changed.
use Prim.Native.Nat.{ℕ, zero, suc}
use mathlib.Core.Path.{◌≡◌, refl}
use mathlib.Core.List.{List, [], ◌∷◌, ◌++◌, append_assoc, Memᴰ}
use lib.ListN.{length, take, drop}
use Rattle.measures.specs.declared.Measures.{Measures}
use Rattle.index.specs.Meaning.{Entry, Meaning, numbers}
use Rattle.area.specs.Content.{Filled, data_in, records_of, fill, content_of, entries_of, meaning_of}

-- The records of two lists of entries are those of the first, then those of the second.
pub records_of-append : (xs ys : List Filled) → records_of (xs ++ ys) ≡ records_of xs ++ records_of ys
unfolding records_of
records_of-append [] ys = refl
records_of-append (x ∷ xs) ys = rw (records_of-append xs ys, append_assoc)

-- Two lists of entries are filled one after the other.
pub fill-append : (m : Measures) (area : List ℕ) (xs ys : List Entry) → fill m area (xs ++ ys) ≡ fill m area xs ++ fill m area ys
fill-append m area [] ys = refl
fill-append m area (x ∷ xs) ys = rw (fill-append m area xs ys)

-- And their entries are those of the first, then those of the second.
pub entries_of-append : (xs ys : List Filled) → entries_of (xs ++ ys) ≡ entries_of xs ++ entries_of ys
entries_of-append [] ys = refl
entries_of-append (x ∷ xs) ys = rw (entries_of-append xs ys)

-- The entries of the first filled ones are the first entries,
pub entries-take : (i : ℕ) (fs : List Filled) → entries_of (take i fs) ≡ take i (entries_of fs)
entries-take zero fs = refl
entries-take (suc i) [] = refl
entries-take (suc i) (f ∷ fs) = rw (entries-take i fs)

-- those of the others the others,
pub entries-drop : (i : ℕ) (fs : List Filled) → entries_of (drop i fs) ≡ drop i (entries_of fs)
entries-drop zero fs = refl
entries-drop (suc i) [] = refl
entries-drop (suc i) (f ∷ fs) = entries-drop i fs

-- and there are as many.
pub length-entries : (fs : List Filled) → length (entries_of fs) ≡ length fs
length-entries [] = refl
length-entries (f ∷ fs) = rw (length-entries fs)

-- Entries that are filled are those entries.
pub entries-fill : (m : Measures) (area : List ℕ) (es : List Entry) → entries_of (fill m area es) ≡ es
entries-fill m area [] = refl
entries-fill m area (e ∷ es) = rw (entries-fill m area es)

-- So what an area holds has the meaning that its entries were read from.
pub meaning-content : (m : Measures) (area : List ℕ) (ix : Meaning) → meaning_of (content_of m area ix) ≡ ix
meaning-content m area ix = rw (entries-fill m area ix.entries)

-- As many are filled as there are entries.
pub length-fill : (m : Measures) (area : List ℕ) (es : List Entry) → length (fill m area es) ≡ length es
length-fill m area [] = refl
length-fill m area (e ∷ es) = rw (length-fill m area es)

-- An area whose intervals with the entries' numbers are the same fills the entries with the same records.
pub fill-other : (m : Measures) (area area' : List ℕ) (es : List Entry)
    → ((k : ℕ) → Memᴰ k (numbers es) → data_in m area' k ≡ data_in m area k) → fill m area' es ≡ fill m area es
fill-other m area area' [] h = refl
fill-other m area area' (e ∷ es) h =
    rw (h e.num (Memᴰ.head refl), fill-other m area area' es (λ (k : ℕ) (i : Memᴰ k (numbers es)). h k (Memᴰ.tail i)))
