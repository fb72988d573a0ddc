-- An area in which the parts of one entry were written, each as an interval of its own, is laid out as the content after the change.
use Prim.Native.Nat.{ℕ, zero, suc, ◌+◌, ◌-◌, ◌≤◌, ◌<◌}
use mathlib.Core.Path.{◌≡◌, refl}
use mathlib.Core.Bool.{true}
use mathlib.Core.List.{List, [], ◌∷◌, ◌++◌, Memᴰ}
use lib.ListN.{length, take, drop}
use native.Mathlib.Omega.{arith}
use Rattle.fields.specs.Lists.{swap}
use Rattle.measures.specs.Judgement.{width_for}
use Rattle.measures.specs.declared.Measures.{Measures}
use Rattle.interval.specs.Records.{key_of}
use Rattle.interval.specs.Layout.{form}
use Rattle.index.specs.Bounds.{bound, cut_separator}
use Rattle.index.specs.Meaning.{numbers, named_once}
use Rattle.index.specs.Rules.{keeps_rules, bound_before}
use Rattle.index.specs.Cuts.{last_of, first_of, separators}
use Rattle.index.proofs.Naming.{numbers-append}
use Rattle.index.proofs.Keeping.{rules-apart}
use Rattle.sections.specs.Layout.{LaidOut}
use Rattle.division.specs.Fewest.{Held}
use Rattle.division.proofs.Intervals.{held-form}
use Rattle.area.specs.Content.{Filled, Content, index_in, data_in, entries_of, meaning_of}
use Rattle.area.specs.Layout.{FreeIntervals, UsedInterval, UsedIntervals, AreaLaidOut}
use Rattle.area.proofs.Filled.{entries_of-append}
use Rattle.change.specs.Parts.{entry_at, taken}
use Rattle.change.specs.Content.{filled_with, parted_at}
use Rattle.change.specs.Places.{AllWritten}
use Rattle.change.proofs.Apart.{free-not-these, pre-not-these, post-not-these}
use Rattle.change.proofs.Between.{Between}
use Rattle.change.proofs.Parting.{Ordered, ordered-last, ordered-cut, ordered-rest}
use Rattle.change.proofs.Indexing.{entry-split, entries-parts, numbers-parts}

-- ---- intervals in use and free ones

-- Those of two lists of entries, the second from the last bound of the first on.
pub used-append : (m : Measures) (area low : List ℕ) (xs ys : List Filled) → UsedIntervals m area low (xs ++ ys)
    → UsedIntervals m area low xs × UsedIntervals m area (bound_before m.key low (entries_of xs)) ys
unfolding bound_before
used-append m area low [] ys u = (tt, u)
used-append m area low (x ∷ xs) ys u =
    let r = used-append m area (bound m.key x.sep) xs ys u.1 in
    ((u.0, r.0), r.1)

pub used-join : (m : Measures) (area low : List ℕ) (xs ys : List Filled) → UsedIntervals m area low xs
    → UsedIntervals m area (bound_before m.key low (entries_of xs)) ys → UsedIntervals m area low (xs ++ ys)
unfolding bound_before
used-join m area low [] ys u v = v
used-join m area low (x ∷ xs) ys u v = (u.0, used-join m area (bound m.key x.sep) xs ys u.1 v)

-- In an area whose intervals with these numbers are the same they are laid out the same.
pub used-other : (m : Measures) (area area' low : List ℕ) (fs : List Filled) → ((k : ℕ) → Memᴰ k (numbers (entries_of fs)) → data_in m area' k ≡ data_in m area k)
    → UsedIntervals m area low fs → UsedIntervals m area' low fs
used-other m area area' low [] h u = tt
used-other m area area' low (f ∷ fs) h u = (
  rw (h f.num (Memᴰ.head refl)) u.0,
  used-other m area area' (bound m.key f.sep) fs (λ (k : ℕ) (i : Memᴰ k (numbers (entries_of fs))). h k (Memᴰ.tail i)) u.1,
)

pub free_other : (m : Measures) (area area' ks : List ℕ) → ((k : ℕ) → Memᴰ k ks → data_in m area' k ≡ data_in m area k)
    → FreeIntervals m area ks → FreeIntervals m area' ks
free_other m area area' [] h a = tt
free_other m area area' (k ∷ ks) h a =
    (rw (h k (Memᴰ.head refl)) a.0, free_other m area area' ks (λ (j : ℕ) (i : Memᴰ j ks). h j (Memᴰ.tail i)) a.1)

-- the first of the free ones
free-front : (m : Measures) (area : List ℕ) (i : ℕ) (ks : List ℕ) → FreeIntervals m area ks → FreeIntervals m area (take i ks)
free-front m area zero ks a = tt
free-front m area (suc i) [] a = tt
free-front m area (suc i) (k ∷ ks) a = (a.0, free-front m area i ks a.1)

-- ---- the entry that is changed

module _ (m : Measures) (n : ℕ) (area : List ℕ) (c : Content) (laid : AreaLaidOut m n area c) (i : ℕ) (inside : i < length c.filled) where
  abbrev pre : List Filled
  pre = take i c.filled

  abbrev old : Filled
  old = entry_at c.filled i

  abbrev post : List Filled
  post = drop (i + 1) c.filled

  around : UsedIntervals m area [] pre × UsedIntervals m area (bound_before m.key [] (entries_of pre)) (old ∷ post)
  around = used-append m area [] pre (old ∷ post) (rw (entry-split c.filled i inside) at laid.used)

  pub used-before : UsedIntervals m area [] pre
  used-before = around.0

  -- Its interval is laid out between the bound before it and its own.
  pub used-here : UsedInterval m (bound_before m.key [] (entries_of pre)) (bound m.key old.sep) old.records (data_in m area old.num)
  used-here = around.1.0

  pub used-after : UsedIntervals m area (bound m.key old.sep) post
  used-after = around.1.1

-- ---- the parts

part-used : (m : Measures) (low high : List ℕ) (p : List (List ℕ)) (ci : List ℕ) → ci ≡ form m.size p → Held m.size p → Between m low high p
    → UsedInterval m low high p ci
part-used m low high p ci e h b =
    record { laid = rw e (held-form m.size p h); lengths = b.lengths; ascend = b.ascend; after = b.after; within = b.within }

-- Parts between two bounds, each written, are laid out under their separators, and what comes after them as before.
pub parts-used : (m : Measures) (area low sep : List ℕ) → m.offset + m.key ≤ m.least → (post : List Filled) (num : ℕ) (ks : List ℕ)
    (p : List (List ℕ)) (ps : List (List (List ℕ))) → Ordered m low (bound m.key sep) (p ∷ ps) → AllWritten m area (num ∷ ks) (p ∷ ps) → UsedIntervals m area (bound m.key sep) post
    → UsedIntervals m area low (filled_with (separators m (p ∷ ps) ++ (sep ∷ [])) (num ∷ ks) (p ∷ ps) ++ post)
unfolding separators filled_with
parts-used m area low sep inside post num [] p [] o w u =
    (part-used m low (bound m.key sep) p (data_in m area num) w.0 o.held.0 (ordered-last m low (bound m.key sep) p o), u)
parts-used m area low sep inside post num [] p (q ∷ ps) o w u = absurd w.1
parts-used m area low sep inside post num (k ∷ ks) p [] o w u = absurd w.1
parts-used m area low sep inside post num (k ∷ ks) p (q ∷ ps) o w u =
    let high : List ℕ = bound m.key sep in
    let b : List ℕ = bound m.key (cut_separator (key_of m (last_of p)) (key_of m (first_of q))) in (
      part-used m low b p (data_in m area num) w.0 o.held.0 (ordered-cut m low high inside p q ps o).before,
      parts-used m area b sep inside post k ks q ps (ordered-rest m low high inside p q ps o) w.1 u,
    )

-- ---- the whole area

module _ (m : Measures) (n : ℕ) (c : Content) (i : ℕ) (p : List (List ℕ)) (ps : List (List (List ℕ)))
    (rules : keeps_rules m.size m.key n [] [] (meaning_of (parted_at m c i (p ∷ ps))) ≡ true) where
  abbrev these : List ℕ
  these = (entry_at c.filled i).num ∷ taken (length ps) c.free

  -- The numbers of the parts are named once, beside those left free and those of the other entries.
  pub parts-named : named_once n
      (take (length c.free - length ps) c.free ++ (numbers (entries_of (take i c.filled)) ++ (these ++ numbers (entries_of (drop (i + 1) c.filled)))))
      ≡ true
  unfolding parted_at swap
  parts-named =
      let l : suc (length ps) - 1 ≡ length ps = omega arith in
      rw (l, entries_of-append, entries_of-append, entries-parts, numbers-append, numbers-append, numbers-parts)
      at (rules-apart m.size m.key n [] [] (meaning_of (parted_at m c i (p ∷ ps))) rules).naming

  -- So the area is laid out as the content after the change, if the index record has its meaning, the parts are written, and every other data interval is
  -- as it was.
  pub laid-parted : (area area' : List ℕ) → m.offset + m.key ≤ m.least → AreaLaidOut m n area c → i < length c.filled
      → Ordered m (bound_before m.key [] (entries_of (take i c.filled))) (bound m.key (entry_at c.filled i).sep) (p ∷ ps)
      → LaidOut (width_for n) m.size (meaning_of (parted_at m c i (p ∷ ps))) (index_in m area') → AllWritten m area' these (p ∷ ps)
      → ((k : ℕ) → (Memᴰ k these → ⊥) → data_in m area' k ≡ data_in m area k)
      → AreaLaidOut m n area' (parted_at m c i (p ∷ ps))
  unfolding parted_at swap
  laid-parted area area' inside laid h o index w others =
      let l : suc (length ps) - 1 ≡ length ps = omega arith in
      record {
        index = record { laid = index; rules = rules };
        free = rw l still-free;
        used =
            rw l
            (used-join m area' [] pre (filled_with (separators m (p ∷ ps) ++ (old.sep ∷ [])) these (p ∷ ps) ++ post) still_before
            (parts-used m area' (bound_before m.key [] (entries_of pre)) old.sep inside post old.num (taken (length ps) c.free) p ps o w still_after));
      }
    where
      pre : List Filled
      pre = take i c.filled

      old : Filled
      old = entry_at c.filled i

      post : List Filled
      post = drop (i + 1) c.filled

      left : List ℕ
      left = take (length c.free - length ps) c.free

      before : List ℕ
      before = numbers (entries_of pre)

      after : List ℕ
      after = numbers (entries_of post)

      still-free : FreeIntervals m area' left
      still-free =
          free_other m area area' left (λ (k : ℕ) (j : Memᴰ k left). others k (free-not-these n left before these after parts-named k j))
          (free-front m area (length c.free - length ps) c.free laid.free)

      still_before : UsedIntervals m area' [] pre
      still_before =
          used-other m area area' [] pre (λ (k : ℕ) (j : Memᴰ k before). others k (pre-not-these n left before these after parts-named k j))
          (used-before m n area c laid i h)

      still_after : UsedIntervals m area' (bound m.key old.sep) post
      still_after =
          used-other m area area' (bound m.key old.sep) post (λ (k : ℕ) (j : Memᴰ k after). others k (post-not-these n left before these after parts-named k j))
          (used-after m n area c laid i h)
