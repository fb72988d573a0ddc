-- Records whose keys lie between two bounds, and a cut in them: its separator's bound lies between what is left of it and what is right of it.
use Prim.Native.Nat.{ℕ, zero, suc, ◌+◌, ◌-◌, ◌≤◌, ◌<◌}
use mathlib.Core.Path.{◌≡◌, refl}
use mathlib.Core.Bool.{true, false}
use mathlib.Core.List.{List, [], ◌∷◌, ◌++◌, map, map-append}
use lib.ListN.{length, get_or}
use lib.Seq.{take-append_seam, drop-append_seam}
use native.Mathlib.Omega.{arith}
use Rattle.fields.specs.Choice.{no}
use Rattle.fields.specs.Bytes.{Octets}
use Rattle.fields.specs.Order.{less}
use Rattle.fields.specs.Lists.{concat, every}
use Rattle.fields.proofs.Choices.{both-split, both-join, no_true}
use Rattle.fields.proofs.Orders.{less-asym, at_most}
use Rattle.fields.proofs.Octets.{octets-nil, octets-take, octets-drop, octets-part}
use Rattle.fields.proofs.Lists.{concat-append}
use Rattle.measures.specs.declared.Measures.{Measures}
use Rattle.interval.specs.Records.{key_of, keys_of, within, ascend_from, ascending, above, up_to, lengths_fine}
use Rattle.interval.proofs.Lengths.{within-append, key-long, fine-at}
use Rattle.interval.proofs.Ascending.{above-append, up-append, ascend-above}
use Rattle.index.specs.Bounds.{bound, cut_separator}
use Rattle.index.specs.Cuts.{last_of, first_of}
use Rattle.index.proofs.Cutting.{cut_below, cut-above}

-- Records of bytes, with lengths that the measures allow; their keys strictly ascend, above the bound before and up to the bound after.
pub record Between (m : Measures) (low high : List ℕ) (rs : List (List ℕ)) : Type 0 where
  pub octets : Octets (concat rs)
  pub lengths : lengths_fine m rs ≡ true
  pub ascend : ascending (keys_of m rs) ≡ true
  pub after : above low (keys_of m rs) ≡ true
  pub within : up_to high (keys_of m rs) ≡ true

-- The keys on both sides of a cut, and the bounds around them.
pub record Seam (K : ℕ) (low high left right : List ℕ) : Type 0 where
  pub long-left : length left ≡ K
  pub long-right : length right ≡ K
  pub octets-left : Octets left
  pub octets-right : Octets right
  pub rising : less left right ≡ true
  pub after : less low left ≡ true
  pub within : less high right ≡ false

-- ---- lists of two parts

pub octets-apart : (xs ys : List ℕ) → Octets (xs ++ ys) → Octets xs × Octets ys
octets-apart xs ys o = (rw (take-append_seam xs ys) at (octets-take (length xs) (xs ++ ys) o), rw (drop-append_seam xs ys) at (octets-drop (length xs) (xs ++ ys) o))

pub concat-octets : (xs ys : List (List ℕ)) → Octets (concat (xs ++ ys)) → Octets (concat xs) × Octets (concat ys)
concat-octets xs ys o = octets-apart (concat xs) (concat ys) (rw (concat-append xs ys) at o)

-- ---- one record

pub octets-at : (rs : List (List ℕ)) (i : ℕ) → Octets (concat rs) → Octets (get_or rs i [])
unfolding concat
octets-at [] i o = octets-nil
octets-at (r ∷ rs) zero o = (octets-apart r (concat rs) o).0
octets-at (r ∷ rs) (suc i) o = octets-at rs i (octets-apart r (concat rs) o).1

above_at : (m : Measures) (low : List ℕ) (rs : List (List ℕ)) (i : ℕ) → above low (keys_of m rs) ≡ true → i < length rs → less low (key_of m (get_or rs i [])) ≡ true
unfolding every
above_at m low [] i a h = absurd (omega arith)
above_at m low (r ∷ rs) zero a h = (both-split (less low (key_of m r)) (above low (keys_of m rs)) a).0
above_at m low (r ∷ rs) (suc i) a h = above_at m low rs i (both-split (less low (key_of m r)) (above low (keys_of m rs)) a).1 (omega arith)

-- ---- a cut

-- Keys that ascend on both sides of a cut ascend over it.
over-cut : (m : Measures) (r : List ℕ) (p : List (List ℕ)) (q : List ℕ) (qs : List (List ℕ)) → ascend_from (key_of m r) (keys_of m (p ++ (q ∷ qs))) ≡ true
    → (ascend_from (key_of m r) (keys_of m p) ≡ true) × (less (key_of m (get_or (r ∷ p) (length p) [])) (key_of m q) ≡ true) × (ascend_from (key_of m q) (keys_of m qs) ≡ true)
unfolding ascend_from
over-cut m r [] q qs h =
    let s = both-split (less (key_of m r) (key_of m q)) (ascend_from (key_of m q) (keys_of m qs)) h in
    (refl, s.0, s.1)
over-cut m r (x ∷ p) q qs h =
    let s = both-split (less (key_of m r) (key_of m x)) (ascend_from (key_of m x) (keys_of m (p ++ (q ∷ qs)))) h in
    let i = over-cut m x p q qs s.1 in
    (both-join (less (key_of m r) (key_of m x)) (ascend_from (key_of m x) (keys_of m p)) s.0 i.0, i.1, i.2)

-- Ascending keys, the last of which is at most a bound, are all at most it.
last-highest : (m : Measures) (high r : List ℕ) (p : List (List ℕ)) → ascend_from (key_of m r) (keys_of m p) ≡ true
    → less high (key_of m (get_or (r ∷ p) (length p) [])) ≡ false → (less high (key_of m r) ≡ false) × (up_to high (keys_of m (r ∷ p)) ≡ true)
unfolding ascend_from every
last-highest m high r [] h l = (l, rw l)
last-highest m high r (x ∷ p) h l =
    let s = both-split (less (key_of m r) (key_of m x)) (ascend_from (key_of m x) (keys_of m p)) h in
    let i = last-highest m high x p s.1 l in
    let k : less high (key_of m r) ≡ false = at_most high (key_of m r) (key_of m x) s.0 i.0 in
    (k, rw k i.1)

-- Ascending keys, the first of which is above a bound, are all above it.
first-lowest : (m : Measures) (low q : List ℕ) (qs : List (List ℕ)) → ascend_from (key_of m q) (keys_of m qs) ≡ true → less low (key_of m q) ≡ true
    → above low (keys_of m (q ∷ qs)) ≡ true
unfolding every
first-lowest m low q qs h l =
    both-join (less low (key_of m q)) (above low (keys_of m qs)) l (ascend-above (key_of m q) low (keys_of m qs) h (less-asym low (key_of m q) l))

first-at-most : (m : Measures) (high q : List ℕ) (qs : List (List ℕ)) → up_to high (keys_of m (q ∷ qs)) ≡ true → less high (key_of m q) ≡ false
unfolding every
first-at-most m high q qs h = no_true (less high (key_of m q)) (both-split (no (less high (key_of m q))) (up_to high (keys_of m qs)) h).0

-- What a cut makes of records between two bounds: left of it they go up to the bound of its separator, right of it they lie above that.
pub record Cut (m : Measures) (low high left right : List ℕ) (p qs : List (List ℕ)) : Type 0 where
  pub seam : Seam m.key low high left right
  pub before : Between m low (bound m.key (cut_separator left right)) p
  pub behind : Between m (bound m.key (cut_separator left right)) high qs

cut-here : (m : Measures) (low high : List ℕ) → m.offset + m.key ≤ m.least → (r : List ℕ) (p : List (List ℕ)) (q : List ℕ) (qs : List (List ℕ))
    → Between m low high (r ∷ p ++ (q ∷ qs)) → Cut m low high (key_of m (last_of (r ∷ p))) (key_of m q) (r ∷ p) (q ∷ qs)
unfolding ascending
cut-here m low high inside r p q qs b =
    rw last (record {
      seam = seam;
      before = record { octets = o.0; lengths = f.0; ascend = a.0; after = l.0; within = (last-highest m s r p a.0 under).1 };
      behind = record { octets = o.1; lengths = f.1; ascend = a.2; after = first-lowest m s q qs a.2 over; within = h.1 };
    })
  where
    last : suc (length p) - 1 ≡ length p
    last = omega arith

    left : List ℕ
    left = key_of m (get_or (r ∷ p) (length p) [])

    right : List ℕ
    right = key_of m q

    s : List ℕ
    s = bound m.key (cut_separator left right)

    o : Octets (concat (r ∷ p)) × Octets (concat (q ∷ qs))
    o = concat-octets (r ∷ p) (q ∷ qs) b.octets

    f : (lengths_fine m (r ∷ p) ≡ true) × (lengths_fine m (q ∷ qs) ≡ true)
    f = within-append m.least m.most (map length (r ∷ p)) (map length (q ∷ qs)) (rw (map-append length (r ∷ p) (q ∷ qs)) at b.lengths)

    a : (ascend_from (key_of m r) (keys_of m p) ≡ true) × (less left right ≡ true) × (ascend_from (key_of m q) (keys_of m qs) ≡ true)
    a = over-cut m r p q qs b.ascend

    l : (above low (keys_of m (r ∷ p)) ≡ true) × (above low (keys_of m (q ∷ qs)) ≡ true)
    l = both-split (above low (keys_of m (r ∷ p))) (above low (keys_of m (q ∷ qs))) (rw (map-append (key_of m) (r ∷ p) (q ∷ qs), above-append low (keys_of m (r ∷ p)) (keys_of m (q ∷ qs))) at b.after)

    h : (up_to high (keys_of m (r ∷ p)) ≡ true) × (up_to high (keys_of m (q ∷ qs)) ≡ true)
    h = both-split (up_to high (keys_of m (r ∷ p))) (up_to high (keys_of m (q ∷ qs))) (rw (map-append (key_of m) (r ∷ p) (q ∷ qs), up-append high (keys_of m (r ∷ p)) (keys_of m (q ∷ qs))) at b.within)

    seam : Seam m.key low high left right
    seam =
        record {
          long-left = key-long m (get_or (r ∷ p) (length p) []) (omega (arith, fine-at m.least m.most (length p) (r ∷ p) f.0 (omega arith)));
          long-right = key-long m q (omega (arith, fine-at m.least m.most 0 (q ∷ qs) f.1 (omega arith)));
          octets-left = octets-part (get_or (r ∷ p) (length p) []) m.offset m.key (octets-at (r ∷ p) (length p) o.0);
          octets-right = octets-part q m.offset m.key (octets-at (q ∷ qs) 0 o.1);
          rising = a.1;
          after = above_at m low (r ∷ p) (length p) l.0 (omega arith);
          within = first-at-most m high q qs h.1;
        }

    -- the key left of the cut is at most the bound of its separator, the key right of it above that
    under : less s left ≡ false
    under = cut-above m.key left right seam.long-left seam.long-right seam.octets-left seam.rising

    over : less s right ≡ true
    over = cut_below m.key left right seam.long-left seam.long-right seam.rising

-- Records between two bounds are cut between two stretches, neither of which is empty.
pub cut-between : (m : Measures) (low high : List ℕ) → m.offset + m.key ≤ m.least → (p q rest : List (List ℕ)) → 0 < length p → 0 < length q
    → Between m low high (p ++ (q ++ rest)) → Cut m low high (key_of m (last_of p)) (key_of m (first_of q)) p (q ++ rest)
cut-between m low high inside [] q rest h k b = absurd (omega arith)
cut-between m low high inside (r ∷ p) [] rest h k b = absurd (omega arith)
cut-between m low high inside (r ∷ p) (x ∷ q) rest h k b = cut-here m low high inside r p x (q ++ rest) b
