-- The index record's meaning after a division: it is that of the new content, it keeps all rules, and it is of bytes.
use Prim.Native.Nat.{ℕ, zero, suc, ◌+◌, ◌-◌, ◌≤◌, ◌<◌}
use mathlib.Core.Path.{◌≡◌, refl, ◌∙◌, ap}
use mathlib.Core.Bool.{true}
use mathlib.Core.List.{List, [], ◌∷◌, ◌++◌, append_assoc}
use lib.ListN.{length, get_or, take, drop}
use lib.Seq.{take-length, take-take, length-take-le, split_at}
use native.Mathlib.Numerals.{add-one}
use native.Mathlib.Omega.{arith}
use native.Mathlib.Nat.{sub-zero}
use Rattle.fields.specs.Bytes.{Octets}
use Rattle.fields.specs.Order.{common}
use Rattle.fields.specs.Lists.{swap}
use Rattle.fields.proofs.Octets.{octets-take}
use Rattle.measures.specs.declared.Measures.{Measures}
use Rattle.interval.specs.Records.{key_of}
use Rattle.index.specs.Bounds.{bound, cut_separator}
use Rattle.index.specs.Meaning.{Entry, numbers, entry}
use Rattle.index.specs.Rules.{keeps_rules, bound_before}
use Rattle.index.specs.Divided.{before_cut, after_cut, parts_of, divided_at}
use Rattle.index.specs.Cuts.{last_of, first_of, separators}
use Rattle.index.proofs.Closing.{SeparatorsOctets}
use Rattle.index.proofs.Inserting.{before-snoc}
use Rattle.index.proofs.DividedRules.{divided-keeps, rightmost}
use Rattle.sections.proofs.Octets.{MeansBytes}
use Rattle.area.specs.Content.{Filled, Content, entries_of, meaning_of}
use Rattle.area.proofs.Filled.{entries_of-append, entries-take, entries-drop}
use Rattle.change.specs.Parts.{entry_at, taken}
use Rattle.change.specs.Content.{filled_with, parted_at}
use Rattle.change.proofs.Between.{Seam}
use Rattle.change.proofs.Parting.{Ordered, ordered-cut, ordered-rest}

-- ---- entries without their records

abbrev pub entry_of : Filled → Entry
entry_of f = entry f.sep f.num

pub entries_of-at : (i : ℕ) (fs : List Filled) → get_or (entries_of fs) i (record { sep = []; num = 0 }) ≡ entry_of (entry_at fs i)
entries_of-at i [] = refl
entries_of-at zero (f ∷ fs) = refl
entries_of-at (suc i) (f ∷ fs) = entries_of-at i fs

-- ---- the entries of the parts

pub less_one : (k : ℕ) → suc k - 1 ≡ k
less_one k = omega arith

-- There is one cut fewer than there are parts.
pub length-cuts : (m : Measures) (p : List (List ℕ)) (ps : List (List (List ℕ))) → length (separators m (p ∷ ps)) ≡ length ps
unfolding separators
length-cuts m p [] = refl
length-cuts m p (q ∷ ps) = rw (length-cuts m q ps)

-- As many numbers are taken as are asked for.
pub length_taken : (k : ℕ) (free : List ℕ) → length (taken k free) ≡ k
unfolding taken
length_taken zero free = refl
length_taken (suc k) free = rw (length_taken k (take (length free - 1) free))

-- The entries of the parts are those that the cuts make of the old one,
pub entries-parts : (m : Measures) (free sep : List ℕ) (num : ℕ) (p : List (List ℕ)) (ps : List (List (List ℕ)))
    → entries_of (filled_with (separators m (p ∷ ps) ++ (sep ∷ [])) (num ∷ taken (length ps) free) (p ∷ ps)) ≡ parts_of (separators m (p ∷ ps)) free (entry sep num)
unfolding filled_with separators taken parts_of
entries-parts m free sep num p [] = refl
entries-parts m free sep num p (q ∷ ps) = rw (entries-parts m (take (length free - 1) free) sep (get_or free (length free - 1) 0) q ps)

-- and their numbers are the old one and those taken.
pub numbers-parts : (m : Measures) (free : List ℕ) (e : Entry) (p : List (List ℕ)) (ps : List (List (List ℕ)))
    → numbers (parts_of (separators m (p ∷ ps)) free e) ≡ e.num ∷ taken (length ps) free
unfolding separators taken parts_of
numbers-parts m free e p [] = refl
numbers-parts m free e p (q ∷ ps) = rw (numbers-parts m (take (length free - 1) free) (entry e.sep (get_or free (length free - 1) 0)) q ps)

-- So the content after a change has the meaning that the index record is given.
pub meaning-parted : (m : Measures) (c : Content) (i : ℕ) (p : List (List ℕ)) (ps : List (List (List ℕ)))
    → meaning_of (parted_at m c i (p ∷ ps)) ≡ divided_at (meaning_of c) i (separators m (p ∷ ps))
unfolding parted_at divided_at swap
meaning-parted m c i p ps = rw (length-cuts m p ps, less_one (length ps), entries_of-append, entries_of-append, entries-parts, entries-take, entries-drop, entries_of-at)

-- ---- the entry that is changed

-- The entries before it, it, and those after it.
pub entry-split : (fs : List Filled) (i : ℕ) → i < length fs → fs ≡ take i fs ++ (entry_at fs i ∷ drop (i + 1) fs)
entry-split fs i h = rw add-one (split_at fs i (record { sep = []; num = 0; records = [] }) h)

module _ (c : Content) (i : ℕ) (h : i < length c.filled) where
  -- the entries around the one that is changed
  pub entries-around : entries_of c.filled
      ≡ entries_of (take i c.filled) ++ (entry_of (entry_at c.filled i) ∷ entries_of (drop (i + 1) c.filled))
  entries-around = ap entries_of (entry-split c.filled i h) ∙ entries_of-append (take i c.filled) (entry_at c.filled i ∷ drop (i + 1) c.filled)

  -- Where the records stay in one part, the index record means what it meant.
  pub meaning-one : (m : Measures) (p : List (List ℕ)) → meaning_of (parted_at m c i (p ∷ [])) ≡ meaning_of c
  unfolding parted_at filled_with separators swap
  meaning-one m p = rw (sub-zero (length c.free), take-length c.free, entries_of-append, entries-around)

-- ---- the rules

-- and without several
pub free-fewer : (free : List ℕ) (k : ℕ) → suc k ≤ length free
    → take (length (take (length free - 1) free) - k) (take (length free - 1) free) ≡ take (length free - suc k) free
free-fewer free k h =
    let l : length (take (length free - 1) free) ≡ length free - 1 = length-take-le (length free - 1) free (omega arith) in
    let e : length free - 1 - k ≡ length free - suc k = omega arith in
    rw (l, e) (take-take (length free - suc k) (length free - 1) free (omega arith))

-- one cut, between the keys of a seam
seam-keeps : (S K n : ℕ) (low end kept : List ℕ) (spare : ℕ) (free : List ℕ) (a : ℕ) (pre : List Entry) (e : Entry) (post : List Entry) (left right : List ℕ)
    → Seam K (bound_before K low pre) (bound K e.sep) left right → keeps_rules S K n low end (before_cut kept spare free a pre e post) ≡ true
    → keeps_rules S K n low end (after_cut kept spare free a pre e post (cut_separator left right)) ≡ true
seam-keeps S K n low end kept spare free a pre e post left right s r =
    divided-keeps S K n low end kept spare free a pre e post left right s.long-left s.long-right s.octets-left s.octets-right s.rising
    s.after s.within r

module _ (m : Measures) (S n : ℕ) (low end kept : List ℕ) (spare : ℕ) (inside : m.offset + m.key ≤ m.least) where
  -- An entry that is cut into parts between its bounds, each later one with the rightmost free number, leaves all rules kept.
  pub parts-keep : (pre : List Entry) (e : Entry) (post : List Entry) (free : List ℕ) (p : List (List ℕ)) (ps : List (List (List ℕ)))
      → length ps ≤ length free → Ordered m (bound_before m.key low pre) (bound m.key e.sep) (p ∷ ps)
      → keeps_rules S m.key n low end (record { kept = kept; spare = spare; free = free; entries = pre ++ (e ∷ post) }) ≡ true
      → keeps_rules S m.key n low end
      (record { kept = kept; spare = spare; free = take (length free - length ps) free; entries = pre ++ (parts_of (separators m (p ∷ ps)) free e ++ post) })
      ≡ true
  unfolding separators parts_of
  parts-keep pre e post free p [] h o r = rw (sub-zero (length free), take-length free) r
  parts-keep pre e post free p (q ∷ ps) h o r =
      let f : List ℕ = take (length free - 1) free in
      let a : ℕ = get_or free (length free - 1) 0 in
      let s : List ℕ = cut_separator (key_of m (last_of p)) (key_of m (first_of q)) in
      let x : Entry = entry s e.num in
      let y : Entry = entry e.sep a in
      let c = ordered-cut m (bound_before m.key low pre) (bound m.key e.sep) inside p q ps o in
      let g : keeps_rules S m.key n low end (before_cut kept spare f a pre e post) ≡ true = rw (rightmost free (omega arith)) at r in
      let d : keeps_rules S m.key n low end (record { kept = kept; spare = spare; free = f; entries = pre ++ (x ∷ y ∷ post) }) ≡ true =
      seam-keeps S m.key n low end kept spare f a pre e post (key_of m (last_of p)) (key_of m (first_of q)) c.seam g in
      let t : pre ++ (x ∷ y ∷ post) ≡ (pre ++ (x ∷ [])) ++ (y ∷ post) = simp append_assoc in
      let b : bound_before m.key low (pre ++ (x ∷ [])) ≡ bound m.key s = before-snoc m.key low pre x in
      let l : length f ≡ length free - 1 = length-take-le (length free - 1) free (omega arith) in
      let i = parts-keep (pre ++ (x ∷ [])) y post f q ps (omega arith) (rw b (ordered-rest m (bound_before m.key low pre) (bound m.key e.sep) inside p q ps o)) (rw t at d) in
      rw (free-fewer free (length ps) h, append_assoc pre (x ∷ []) (parts_of (separators m (q ∷ ps)) f y ++ post)) at i

-- ---- the bytes

pub separators-append : (xs ys : List Entry) → SeparatorsOctets (xs ++ ys) → SeparatorsOctets xs × SeparatorsOctets ys
separators-append [] ys o = (tt, o)
separators-append (x ∷ xs) ys o =
    let r = separators-append xs ys o.1 in
    ((o.0, r.0), r.1)

pub separators-join : (xs ys : List Entry) → SeparatorsOctets xs → SeparatorsOctets ys → SeparatorsOctets (xs ++ ys)
separators-join [] ys o p = p
separators-join (x ∷ xs) ys o p = (o.0, separators-join xs ys o.1 p)

cut-octets : (left right : List ℕ) → Octets left → Octets (cut_separator left right)
unfolding cut_separator
cut-octets left right o = octets-take (suc (common left right)) left o

-- The separators of the cuts are first bytes of keys, so they are bytes.
pub parts-octets : (m : Measures) (low high : List ℕ) → m.offset + m.key ≤ m.least → (free : List ℕ) (e : Entry) (p : List (List ℕ)) (ps : List (List (List ℕ)))
    → Ordered m low high (p ∷ ps) → Octets e.sep → SeparatorsOctets (parts_of (separators m (p ∷ ps)) free e)
unfolding separators parts_of
parts-octets m low high inside free e p [] o s = (s, tt)
parts-octets m low high inside free e p (q ∷ ps) o s =
    let c = ordered-cut m low high inside p q ps o in
    let b : List ℕ = bound m.key (cut_separator (key_of m (last_of p)) (key_of m (first_of q))) in (
      cut-octets (key_of m (last_of p)) (key_of m (first_of q)) c.seam.octets-left,
      parts-octets m b high inside (take (length free - 1) free) (entry e.sep (get_or free (length free - 1) 0)) q ps (ordered-rest m low high inside p q ps o) s,
    )

-- The content after a change means bytes if the content before does.
pub parted-bytes : (m : Measures) (c : Content) (i : ℕ) → i < length c.filled → m.offset + m.key ≤ m.least → (low high : List ℕ)
    (p : List (List ℕ)) (ps : List (List (List ℕ))) → Ordered m low high (p ∷ ps) → MeansBytes (meaning_of c) → MeansBytes (meaning_of (parted_at m c i (p ∷ ps)))
unfolding divided_at swap
parted-bytes m c i h inside low high p ps o b =
    let pre : List Entry = entries_of (take i c.filled) in
    let old : Entry = entry_of (entry_at c.filled i) in
    let post : List Entry = entries_of (drop (i + 1) c.filled) in
    let new : List Entry = parts_of (separators m (p ∷ ps)) c.free old in
    let s = separators-append pre (old ∷ post) (rw (entries-around c i h) at b.sep-bytes) in
    let t = parts-octets m low high inside c.free old p ps o s.1.0 in
    rw (meaning-parted m c i p ps, ← entries-take, ← entries-drop, entries_of-at)
    (record { kept = b.kept; spare = b.spare; sep-bytes = separators-join pre (new ++ post) s.0 (separators-join new post t s.1.1) })
