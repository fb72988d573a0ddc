-- Laws of walks: document 02, L1. Bytes of a key are filled up to a whole one; the records at or beyond it are the last or the first of all, and where they begin is
-- where the key leads to. What a walk gives is in order, each record once, and which records come is decided by the bytes given alone.
use Prim.Native.Nat.{ℕ, zero, suc, ◌+◌, ◌-◌, ◌≤◌, ◌<◌}
use mathlib.Core.Path.{◌≡◌, refl, ◌∙◌, sym, ap}
use mathlib.Core.Bool.{Bool, true, false}
use mathlib.Core.List.{List, [], ◌∷◌, ◌++◌, map, Memᴰ}
use mathlib.Core.Logic.{⊎_elim, ◌↔◌}
use lib.ListN.{length, get_or, take, drop, replicate, length-drop, take-append-drop}
use lib.Seq.{length-take-le, take-nil, drop-nil}
use lib.Dec.{ltb}
use native.Mathlib.Omega.{arith}
use borrow.Author.Tests.{le-ltb}
use Rattle.fields.specs.Choice.{pick, no}
use Rattle.fields.specs.Bytes.{Octets}
use Rattle.fields.specs.Order.{order_of, is_less, less, flip}
use Rattle.fields.specs.Lists.{every}
use Rattle.std.specs.declared.cmp.Ordering.{Ordering}
use Rattle.std.specs.declared.cmp.Ordering.TheVariants.{Less, Equal, Greater}
use Rattle.fields.proofs.Choices.{both-split, both-join, false-true, no_true}
use Rattle.fields.proofs.Orders.{and_then, order-front, order_flip, less-asym, less-irrefl, less-order}
use Rattle.fields.proofs.Octets.{octets-take, octets-drop, octets-part}
use Rattle.measures.specs.declared.Measures.{Measures}
use Rattle.interval.specs.Records.{key_of, keys_of, ascend_from, ascending, above, lengths_fine}
use Rattle.interval.specs.Bounds.{bound}
use Rattle.interval.specs.Reading.{records_in, cut}
use Rattle.interval.specs.Search.{is_same, lower, holds, all_below}
use Rattle.interval.proofs.Ascending.{from-ascends, ascend-tail, from-lower, ascend-above}
use Rattle.interval.proofs.Bounds.{less_then, lead-is-bound}
use Rattle.interval.proofs.Lengths.{within_low, within-rest, key-long}
use Rattle.interval.proofs.Search.{above_lower, above_holds, first-less, rest-above, first-lower, first_holds, held, lower-most}
use Rattle.area.specs.Content.{Filled, Content, data_in, records_of, fill, entries_of}
use Rattle.area.specs.Reading.{whole, read_area}
use Rattle.area.proofs.Filled.{records_of-append}
use Rattle.area.proofs.Sounding.{sound-apart, sound-filled}
use Rattle.area.proofs.Parts.{octets-data}
use Rattle.area.proofs.Ascending.{records-ascend}
use Rattle.area.proofs.Leading.{KeyIn}
use Rattle.index.specs.Meaning.{Entry}
use Rattle.requests.specs.Opening.{holding, opening_of}
use Rattle.requests.specs.Walks.{Item, giving, items_of, kept, backwards, head_of, beyond, walk_of, walk_end_of}
use Rattle.requests.proofs.Items.{none, bytes_in, items-bytes, back_long, back_at}
use Rattle.requests.proofs.Lying.{whole-fine}

-- ---- the bytes given, filled up to a key

-- p, then x in place of the bytes that it lacks
abbrev pub pad : ℕ → ℕ → List ℕ → List ℕ
pad K x p = p ++ replicate (K - length p) x

-- nothing is below zeros
zeros-lowest : (t : List ℕ) → less t (replicate (length t) 0) ≡ false
unfolding order_of
zeros-lowest [] = refl
zeros-lowest (x ∷ xs) = rw (le-ltb x 0 (omega arith)) (go (ltb 0 x) (zeros-lowest xs))
  where
    go : (s : Bool) → less xs (replicate (length xs) 0) ≡ false → is_less (pick s Greater (order_of xs (replicate (length xs) 0))) ≡ false
    go true i = refl
    go false i = i

-- A key's first bytes are below p exactly if the key is below p filled up with the lowest bytes;
pub pad-low : (K : ℕ) (p key : List ℕ) → length p ≤ K → length key ≡ K → less (take (length p) key) p ≡ less key (pad K 0 p)
pad-low K p key h l =
    let n : ℕ = length p in
    let ld : length (drop n key) ≡ K - n = length-drop n key ∙ rw l in
    let e1 : less (drop n key) (replicate (K - n) 0) ≡ false = rw (← ld) (zeros-lowest (drop n key)) in
    let e2 : order_of (take n key ++ drop n key) (p ++ replicate (K - n) 0) ≡ and_then (order_of (take n key) p) (order_of (drop n key) (replicate (K - n) 0)) =
    order-front (take n key) p _ _ (length-take-le n key (omega arith)) in
    let e3 : take n key ++ drop n key ≡ key = take-append-drop n key in
    sym (ap (λ (x : List ℕ). less x (pad K 0 p)) (sym e3) ∙ ap is_less e2 ∙ less_then (order_of (take n key) p) _ e1)

-- they are above p exactly if the key is above p filled up with the highest.
pub pad-high : (K : ℕ) (p key : List ℕ) → length p ≤ K → length key ≡ K → Octets key → less p (take (length p) key) ≡ less (pad K 255 p) key
unfolding bound
pad-high K p key h l o = lead-is-bound K p key h l o

-- ---- records at or beyond a key, among records whose keys ascend

-- not below the key, not above it
abbrev pub from : Measures → List ℕ → Item → Bool
from m key i = no (less (key_of m i.bytes) key)

abbrev pub upto : Measures → List ℕ → Item → Bool
upto m key i = no (less key (key_of m i.bytes))

-- how many records have a key that is at most the given one
abbrev pub reached : Measures → List ℕ → List (List ℕ) → ℕ
reached m key rs = lower m key rs + pick (holds m key rs) 1 0

module _ (m : Measures) (key : List ℕ) where
  above_from : (is : List Item) → above key (keys_of m (bytes_in is)) ≡ true → kept (from m key) is ≡ is
  unfolding kept every
  above_from [] h = refl
  above_from (i ∷ is) h =
      let s = both-split (less key (key_of m i.bytes)) (above key (keys_of m (bytes_in is))) h in
      rw (less-asym key (key_of m i.bytes) s.0) (ap (λ (xs : List Item). i ∷ xs) (above_from is s.1))

  above-upto : (is : List Item) → above key (keys_of m (bytes_in is)) ≡ true → kept (upto m key) is ≡ []
  unfolding kept every
  above-upto [] h = refl
  above-upto (i ∷ is) h =
      let s = both-split (less key (key_of m i.bytes)) (above key (keys_of m (bytes_in is))) h in
      rw s.0 (above-upto is s.1)

  -- those not below the key are the last ones,
  pub from-drops : (is : List Item) → ascending (keys_of m (bytes_in is)) ≡ true → kept (from m key) is ≡ drop (lower m key (bytes_in is)) is
  unfolding kept
  from-drops [] up = sym (drop-nil (lower m key []))
  from-drops (i ∷ is) up = go (order_of (key_of m i.bytes) key) refl (from-drops is (ascend-tail (key_of m i.bytes) (keys_of m (bytes_in is)) up))
    where
      go : (o : Ordering) → order_of (key_of m i.bytes) key ≡ o → kept (from m key) is ≡ drop (lower m key (bytes_in is)) is
          → pick (no (less (key_of m i.bytes) key)) (i ∷ kept (from m key) is) (kept (from m key) is) ≡ drop (lower m key (bytes_in (i ∷ is))) (i ∷ is)
      go Less e s = rw ((first-less m key i.bytes (bytes_in is) e).0, e) s
      go Equal e s = rw (first-lower m key i.bytes (bytes_in is) up (ap is_less e), e) (ap (λ (xs : List Item). i ∷ xs) (above_from is (rest-above m key i.bytes (bytes_in is) up (ap is_less e))))
      go Greater e s = rw (first-lower m key i.bytes (bytes_in is) up (ap is_less e), e) (ap (λ (xs : List Item). i ∷ xs) (above_from is (rest-above m key i.bytes (bytes_in is) up (ap is_less e))))

  -- those not above it the first ones.
  pub upto-takes : (is : List Item) → ascending (keys_of m (bytes_in is)) ≡ true → kept (upto m key) is ≡ take (reached m key (bytes_in is)) is
  unfolding kept
  upto-takes [] up = sym (take-nil (reached m key []))
  upto-takes (i ∷ is) up = go (order_of (key_of m i.bytes) key) refl (upto-takes is (ascend-tail (key_of m i.bytes) (keys_of m (bytes_in is)) up))
    where
      after : order_of (key_of m i.bytes) key ≡ Less → reached m key (bytes_in (i ∷ is)) ≡ suc (reached m key (bytes_in is))
      after e = let f = first-less m key i.bytes (bytes_in is) e in rw (f.0, f.1) (omega arith)

      here : (o : Ordering) → order_of (key_of m i.bytes) key ≡ o → is_less o ≡ false → reached m key (bytes_in (i ∷ is)) ≡ pick (is_same o) 1 0
      here o e l =
          let q : less (key_of m i.bytes) key ≡ false = ap is_less e ∙ l in
          rw (first-lower m key i.bytes (bytes_in is) up q, first_holds m key i.bytes (bytes_in is) up q, e) (omega arith)

      rest : less (key_of m i.bytes) key ≡ false → kept (upto m key) is ≡ []
      rest q = above-upto is (rest-above m key i.bytes (bytes_in is) up q)

      go : (o : Ordering) → order_of (key_of m i.bytes) key ≡ o → kept (upto m key) is ≡ take (reached m key (bytes_in is)) is
          → pick (no (less key (key_of m i.bytes))) (i ∷ kept (upto m key) is) (kept (upto m key) is) ≡ take (reached m key (bytes_in (i ∷ is))) (i ∷ is)
      go Less e s =
          let b : less key (key_of m i.bytes) ≡ false = ap is_less (order_flip (key_of m i.bytes) key ∙ ap flip e) in
          rw (after e, b) (ap (λ (xs : List Item). i ∷ xs) s)
      go Equal e s =
          let b : less key (key_of m i.bytes) ≡ false = ap is_less (order_flip (key_of m i.bytes) key ∙ ap flip e) in
          rw (here Equal e refl, b) (ap (λ (xs : List Item). i ∷ xs) (rest (ap is_less e)))
      go Greater e s =
          let b : less key (key_of m i.bytes) ≡ true = ap is_less (order_flip (key_of m i.bytes) key ∙ ap flip e) in
          rw (here Greater e refl, b) (rest (ap is_less e))

-- ---- records of bytes

abbrev pub EachOctets : List (List ℕ) → Type 0
EachOctets [] = Unit {0}
EachOctets (r ∷ rs) = Octets r × EachOctets rs

each_append : (xs ys : List (List ℕ)) → EachOctets xs → EachOctets ys → EachOctets (xs ++ ys)
each_append [] ys a b = b
each_append (x ∷ xs) ys a b = (a.0, each_append xs ys a.1 b)

each-cut : (b ls : List ℕ) → Octets b → EachOctets (cut b ls)
unfolding cut
each-cut b [] o = tt
each-cut b (l ∷ ls) o = (octets-take l b o, each-cut (drop l b) ls (octets-drop l b o))

each-filled : (m : Measures) (area : List ℕ) (es : List Entry) → Octets area → EachOctets (records_of (fill m area es))
unfolding records_of records_in
each-filled m area [] o = tt
each-filled m area (e ∷ es) o =
    each_append (records_in (data_in m area e.num)) (records_of (fill m area es)) (each-cut (data_in m area e.num) _ (octets-data m area e.num o)) (each-filled m area es o)

pub whole-octets : (m : Measures) (n : ℕ) (area : List ℕ) (c : Content) → read_area m n area ≡ whole c → Octets area → EachOctets (records_of c.filled)
whole-octets m n area c w o = rw (sound-filled m n area c (sound-apart m n area c w)) (each-filled m area (entries_of c.filled) o)

-- ---- the test of the bytes given is that of the key filled up

module _ (m : Measures) (inside : m.offset + m.key ≤ m.least) (p : List ℕ) (short : length p ≤ m.key) where
  head-from : (is : List Item) → lengths_fine m (bytes_in is) ≡ true → kept (beyond m true p) is ≡ kept (from m (pad m.key 0 p)) is
  unfolding kept
  head-from [] f = refl
  head-from (i ∷ is) f =
      let l = within_low m.least m.most (length i.bytes) (map length (bytes_in is)) f in
      let k : length (key_of m i.bytes) ≡ m.key = key-long m i.bytes (omega arith) in
      rw (pad-low m.key p (key_of m i.bytes) short k, head-from is (within-rest m.least m.most (length i.bytes) (map length (bytes_in is)) f))

  head-upto : (is : List Item) → lengths_fine m (bytes_in is) ≡ true → EachOctets (bytes_in is) → kept (beyond m false p) is ≡ kept (upto m (pad m.key 255 p)) is
  unfolding kept
  head-upto [] f o = refl
  head-upto (i ∷ is) f o =
      let l = within_low m.least m.most (length i.bytes) (map length (bytes_in is)) f in
      let k : length (key_of m i.bytes) ≡ m.key = key-long m i.bytes (omega arith) in
      rw (pad-high m.key p (key_of m i.bytes) short k (octets-part i.bytes m.offset m.key o.0), head-upto is (within-rest m.least m.most (length i.bytes) (map length (bytes_in is)) f) o.1)

-- ---- in a whole area

module _ (m : Measures) (n : ℕ) (area : List ℕ) (c : Content) (w : read_area m n area ≡ whole c) where
  abbrev items : List Item
  items = items_of m c.filled

  abbrev records : List (List ℕ)
  records = records_of c.filled

  items-ascend : ascending (keys_of m (bytes_in items)) ≡ true
  items-ascend = rw (items-bytes m c.filled) (records-ascend m n area c w)

  items-fine : lengths_fine m (bytes_in items) ≡ true
  items-fine = rw (items-bytes m c.filled) (whole-fine m n area c w)

  module _ (inside : m.offset + m.key ≤ m.least) (p : List ℕ) (short : length p ≤ m.key) where
    -- Upwards a walk gives the last records, from the first that is not below the bytes filled up with the lowest;
    pub walk-drops : walk_of m true p c ≡ drop (lower m (pad m.key 0 p) records) items
    walk-drops =
        head-from m inside p short items items-fine
        ∙ from-drops m (pad m.key 0 p) items items-ascend
        ∙ ap (λ (rs : List (List ℕ)). drop (lower m (pad m.key 0 p) rs) items) (items-bytes m c.filled)

    -- downwards the first ones, from the last that is not above the bytes filled up with the highest.
    pub walk-takes : Octets area → walk_of m false p c ≡ backwards (take (reached m (pad m.key 255 p) records) items)
    walk-takes o =
        ap backwards
        (head-upto m inside p short items items-fine (rw (items-bytes m c.filled) (whole-octets m n area c w o))
        ∙ upto-takes m (pad m.key 255 p) items items-ascend
        ∙ ap (λ (rs : List (List ℕ)). take (reached m (pad m.key 255 p) rs) items) (items-bytes m c.filled))

-- ---- where a key leads to

module _ (m : Measures) (key : List ℕ) where
  lower-append : (xs ys : List (List ℕ)) → lower m key (xs ++ ys) ≡ lower m key xs + lower m key ys
  unfolding lower
  lower-append [] ys = omega arith
  lower-append (x ∷ xs) ys = omega (arith, lower-append xs ys)

  lower-all : (xs : List (List ℕ)) → all_below key (keys_of m xs) ≡ true → lower m key xs ≡ length xs
  unfolding lower every
  lower-all [] h = refl
  lower-all (x ∷ xs) h =
      let s = both-split (less (key_of m x) key) (all_below key (keys_of m xs)) h in
      rw s.0 (omega (arith, lower-all xs s.1))

  holds_later : (xs ys : List (List ℕ)) → all_below key (keys_of m xs) ≡ true → holds m key (xs ++ ys) ≡ holds m key ys
  unfolding holds every
  holds_later [] ys h = refl
  holds_later (x ∷ xs) ys h =
      let s = both-split (less (key_of m x) key) (all_below key (keys_of m xs)) h in
      rw (less-order (order_of (key_of m x) key) s.0) (holds_later xs ys s.1)

  holds-sooner : (xs ys : List (List ℕ)) → above key (keys_of m ys) ≡ true → holds m key (xs ++ ys) ≡ holds m key xs
  unfolding holds
  holds-sooner [] ys h = above_holds m key ys h
  holds-sooner (x ∷ xs) ys h = rw (holds-sooner xs ys h)

  module _ (area : List ℕ) (fs : List Filled) (k : KeyIn m area key fs) where
    split : records_of fs ≡ records_of k.pre ++ (k.entry.records ++ records_of k.post)
    unfolding records_of
    split = ap records_of k.split ∙ records_of-append k.pre (k.entry ∷ k.post)

    -- The records below a key are those of the entries before the one that it leads to, and those below it there;
    pub leads-lower : lower m key (records_of fs) ≡ length (records_of k.pre) + lower m key k.entry.records
    leads-lower =
        ap (lower m key) split
        ∙ lower-append (records_of k.pre) (k.entry.records ++ records_of k.post)
        ∙ omega (arith, lower-append k.entry.records (records_of k.post), lower-all (records_of k.pre) k.lower, above_lower m key (records_of k.post) k.higher)

    -- and the one that has it stands there too.
    pub leads-holds : holds m key (records_of fs) ≡ holds m key k.entry.records
    leads-holds =
        ap (holds m key) split
        ∙ holds_later (records_of k.pre) (k.entry.records ++ records_of k.post) k.lower
        ∙ holds-sooner k.entry.records (records_of k.post) k.higher

    pub leads-reached : reached m key (records_of fs) ≡ length (records_of k.pre) + reached m key k.entry.records
    leads-reached = rw (leads-lower, leads-holds) (omega arith)

-- ---- from an end

-- With no bytes given a walk gives all records;
all-beyond : (m : Measures) (forward : Bool) (is : List Item) → kept (beyond m forward []) is ≡ is
unfolding kept order_of
all-beyond m forward [] = refl
all-beyond m true (i ∷ is) = ap (λ (xs : List Item). i ∷ xs) (all-beyond m true is)
all-beyond m false (i ∷ is) = ap (λ (xs : List Item). i ∷ xs) (all-beyond m false is)

pub walk-all : (m : Measures) (c : Content) → walk_of m true [] c ≡ items_of m c.filled
walk-all m c = all-beyond m true (items_of m c.filled)

-- downwards it gives what it gives upwards, last to first.
pub walk-back : (m : Measures) (c : Content) → walk_of m false [] c ≡ backwards (walk_of m true [] c)
walk-back m c = ap backwards (all-beyond m false (items_of m c.filled) ∙ sym (walk-all m c))

-- ---- in order, each once

abbrev pub key_at : Measures → List Item → ℕ → List ℕ
key_at m is k = key_of m (get_or is k none).bytes

kept-ascend-from : (m : Measures) (t : Item → Bool) (low : List ℕ) (is : List Item) → ascend_from low (keys_of m (bytes_in is)) ≡ true
    → ascend_from low (keys_of m (bytes_in (kept t is))) ≡ true
unfolding kept ascend_from
kept-ascend-from m t low [] h = refl
kept-ascend-from m t low (i ∷ is) h =
    let s = both-split (less low (key_of m i.bytes)) (ascend_from (key_of m i.bytes) (keys_of m (bytes_in is))) h in
    let r : ascend_from (key_of m i.bytes) (keys_of m (bytes_in (kept t is))) ≡ true = kept-ascend-from m t (key_of m i.bytes) is s.1 in
    go (t i) s.0 r
  where
    go : (b : Bool) → less low (key_of m i.bytes) ≡ true → ascend_from (key_of m i.bytes) (keys_of m (bytes_in (kept t is))) ≡ true
        → ascend_from low (keys_of m (bytes_in (pick b (i ∷ kept t is) (kept t is)))) ≡ true
    go true l r = both-join (less low (key_of m i.bytes)) _ l r
    go false l r = from-lower low (key_of m i.bytes) (keys_of m (bytes_in (kept t is))) (less-asym low (key_of m i.bytes) l) r

kept-ascend : (m : Measures) (t : Item → Bool) (is : List Item) → ascending (keys_of m (bytes_in is)) ≡ true → ascending (keys_of m (bytes_in (kept t is))) ≡ true
unfolding kept ascending
kept-ascend m t [] h = refl
kept-ascend m t (i ∷ is) h = go (t i) (kept-ascend-from m t (key_of m i.bytes) is h)
  where
    go : (b : Bool) → ascend_from (key_of m i.bytes) (keys_of m (bytes_in (kept t is))) ≡ true → ascending (keys_of m (bytes_in (pick b (i ∷ kept t is) (kept t is)))) ≡ true
    go true r = r
    go false r = from-ascends (key_of m i.bytes) (keys_of m (bytes_in (kept t is))) r

-- of two records of ascending ones the later has the higher key
above_at : (m : Measures) (low : List ℕ) (is : List Item) (k : ℕ) → above low (keys_of m (bytes_in is)) ≡ true → k < length is → less low (key_at m is k) ≡ true
unfolding every
above_at m low [] k h l = absurd (omega arith)
above_at m low (i ∷ is) zero h l = (both-split (less low (key_of m i.bytes)) (above low (keys_of m (bytes_in is))) h).0
above_at m low (i ∷ is) (suc k) h l = above_at m low is k (both-split (less low (key_of m i.bytes)) (above low (keys_of m (bytes_in is))) h).1 (omega arith)

ascend-at : (m : Measures) (is : List Item) (j k : ℕ) → ascending (keys_of m (bytes_in is)) ≡ true → j < k → k < length is → less (key_at m is j) (key_at m is k) ≡ true
unfolding ascending
ascend-at m [] j k up h l = absurd (omega arith)
ascend-at m (i ∷ is) zero zero up h l = absurd (omega arith)
ascend-at m (i ∷ is) (suc j) zero up h l = absurd (omega arith)
ascend-at m (i ∷ is) zero (suc k) up h l = above_at m (key_of m i.bytes) is k (ascend-above (key_of m i.bytes) (key_of m i.bytes) (keys_of m (bytes_in is)) up (less-irrefl (key_of m i.bytes))) (omega arith)
ascend-at m (i ∷ is) (suc j) (suc k) up h l = ascend-at m is j k (ascend-tail (key_of m i.bytes) (keys_of m (bytes_in is)) up) (omega arith) (omega arith)

-- Of two records that a walk of a sound area gives, the later one lies beyond the earlier one in the direction; so each comes once.
pub walk-once : (m : Measures) (n : ℕ) (area : List ℕ) (c : Content) → read_area m n area ≡ whole c → (forward : Bool) (p : List ℕ) (j k : ℕ)
    → j < k → k < length (walk_of m forward p c)
    → pick forward (less (key_at m (walk_of m forward p c) j) (key_at m (walk_of m forward p c) k)) (less (key_at m (walk_of m forward p c) k) (key_at m (walk_of m forward p c) j)) ≡ true
walk-once m n area c w true p j k h l = ascend-at m (walk_of m true p c) j k (kept-ascend m (beyond m true p) (items_of m c.filled) (items-ascend m n area c w)) h l
walk-once m n area c w false p j k h l =
    let is : List Item = kept (beyond m false p) (items_of m c.filled) in
    let long : length (backwards is) ≡ length is = back_long is in
    let a : get_or (backwards is) j none ≡ get_or is (length is - 1 - j) none = back_at is j (omega arith) in
    let b : get_or (backwards is) k none ≡ get_or is (length is - 1 - k) none = back_at is k (omega arith) in
    rw (a, b) (ascend-at m is (length is - 1 - k) (length is - 1 - j) (kept-ascend m (beyond m false p) (items_of m c.filled) (items-ascend m n area c w)) (omega arith) (omega arith))

-- ---- which records come

module _ (i : Item) where
  kept-among : (t : Item → Bool) (is : List Item) → Memᴰ i (kept t is) → Memᴰ i is × (t i ≡ true)
  unfolding kept
  kept-among t [] h = absurd (mathlib.Core.List.Memᴰ.not-nil h)
  kept-among t (x ∷ is) h = go (t x) refl (λ (r : Memᴰ i (kept t is)). kept-among t is r) h
    where
      go : (b : Bool) → t x ≡ b → (Memᴰ i (kept t is) → Memᴰ i is × (t i ≡ true)) → Memᴰ i (pick b (x ∷ kept t is) (kept t is)) → Memᴰ i (x ∷ is) × (t i ≡ true)
      go true e again q =
          ⊎_elim (λ (z : i ≡ x). (mathlib.Core.List.Memᴰ.head z, ap t z ∙ e)) (λ (r : Memᴰ i (kept t is)). let s = again r in (mathlib.Core.List.Memᴰ.tail s.0, s.1)) (mathlib.Core.List.Memᴰ.cases_cons q)
      go false e again q = let s = again q in (mathlib.Core.List.Memᴰ.tail s.0, s.1)

  among-kept : (t : Item → Bool) (is : List Item) → Memᴰ i is → t i ≡ true → Memᴰ i (kept t is)
  unfolding kept
  among-kept t [] h e = absurd (mathlib.Core.List.Memᴰ.not-nil h)
  among-kept t (x ∷ is) h e = go (t x) refl (λ (r : Memᴰ i is). among-kept t is r e)
    where
      go : (b : Bool) → t x ≡ b → (Memᴰ i is → Memᴰ i (kept t is)) → Memᴰ i (pick b (x ∷ kept t is) (kept t is))
      go true q again = ⊎_elim (λ (z : i ≡ x). mathlib.Core.List.Memᴰ.head z) (λ (r : Memᴰ i is). mathlib.Core.List.Memᴰ.tail (again r)) (mathlib.Core.List.Memᴰ.cases_cons h)
      go false q again = ⊎_elim (λ (z : i ≡ x). absurd (false-true (sym q ∙ ap t (sym z) ∙ e))) again (mathlib.Core.List.Memᴰ.cases_cons h)

  back-among : (is : List Item) → Memᴰ i (backwards is) → Memᴰ i is
  unfolding backwards
  back-among [] h = h
  back-among (x ∷ is) h =
      ⊎_elim (λ (r : Memᴰ i (backwards is)). mathlib.Core.List.Memᴰ.tail (back-among is r)) (λ (r : Memᴰ i (x ∷ [])). mathlib.Core.List.Memᴰ.head (mathlib.Core.List.Memᴰ.eq_of_singleton r))
      (mathlib.Core.List.Memᴰ.append_cases (backwards is) h)

  among-back : (is : List Item) → Memᴰ i is → Memᴰ i (backwards is)
  unfolding backwards
  among-back [] h = h
  among-back (x ∷ is) h =
      ⊎_elim (λ (z : i ≡ x). mathlib.Core.List.Memᴰ.append_right (backwards is) (mathlib.Core.List.Memᴰ.head z)) (λ (r : Memᴰ i is). mathlib.Core.List.Memᴰ.append_left (x ∷ []) (among-back is r)) (mathlib.Core.List.Memᴰ.cases_cons h)

  -- A record comes exactly if it is one of the area's and lies at or beyond the bytes given.
  pub walk-among : (m : Measures) (forward : Bool) (p : List ℕ) (c : Content) → Memᴰ i (walk_of m forward p c) ↔ (Memᴰ i (items_of m c.filled) × (beyond m forward p i ≡ true))
  walk-among m true p c =
      let is : List Item = items_of m c.filled in
      (λ (h : Memᴰ i (kept (beyond m true p) is)). kept-among (beyond m true p) is h, λ (h : Memᴰ i is × (beyond m true p i ≡ true)). among-kept (beyond m true p) is h.0 h.1)
  walk-among m false p c =
      let is : List Item = items_of m c.filled in (
        λ (h : Memᴰ i (backwards (kept (beyond m false p) is))). kept-among (beyond m false p) is (back-among (kept (beyond m false p) is) h),
        λ (h : Memᴰ i is × (beyond m false p i ≡ true)). among-back (kept (beyond m false p) is) (among-kept (beyond m false p) is h.0 h.1),
      )

  no_false : (b : Bool) → b ≡ false → no b ≡ true
  no_false b e = rw e

  -- So it is decided by the first bytes of its key, as many as were given: upwards they are not below these, downwards not above. No other byte of it is asked for.
  pub walk-prefix-up : (m : Measures) (p : List ℕ) (c : Content) → Memᴰ i (walk_of m true p c) ↔ (Memᴰ i (items_of m c.filled) × (less (head_of m p i) p ≡ false))
  walk-prefix-up m p c = (
    λ (h : Memᴰ i (walk_of m true p c)). let s = (walk-among m true p c).0 h in (s.0, no_true (less (head_of m p i) p) s.1),
    λ (h : Memᴰ i (items_of m c.filled) × (less (head_of m p i) p ≡ false)). (walk-among m true p c).1 (h.0, no_false (less (head_of m p i) p) h.1),
  )

  pub walk-prefix-down : (m : Measures) (p : List ℕ) (c : Content) → Memᴰ i (walk_of m false p c) ↔ (Memᴰ i (items_of m c.filled) × (less p (head_of m p i) ≡ false))
  walk-prefix-down m p c = (
    λ (h : Memᴰ i (walk_of m false p c)). let s = (walk-among m false p c).0 h in (s.0, no_true (less p (head_of m p i)) s.1),
    λ (h : Memᴰ i (items_of m c.filled) × (less p (head_of m p i) ≡ false)). (walk-among m false p c).1 (h.0, no_false (less p (head_of m p i)) h.1),
  )

-- at most all of them are at or below a key
pub reached-most : (m : Measures) (key : List ℕ) (rs : List (List ℕ)) → ascending (keys_of m rs) ≡ true → reached m key rs ≤ length rs
reached-most m key rs up = go (holds m key rs) refl
  where
    go : (t : Bool) → holds m key rs ≡ t → lower m key rs + pick t 1 0 ≤ length rs
    go true h = omega (arith, (held m key rs up h).0)
    go false h = omega (arith, lower-most m key rs)

-- ---- all of it

-- Upwards from an end the records come in the order of the entries: all that the area holds.
pub walk-records : (m : Measures) (c : Content) → bytes_in (walk_of m true [] c) ≡ records_of c.filled
walk-records m c = ap bytes_in (walk-all m c) ∙ items-bytes m c.filled

-- From an end a sound area is never refused, whatever it holds.
pub walk-end-opens : (m : Measures) (area : List ℕ) (forward : Bool) (c : Content) → opening_of m area ≡ holding m c
    → walk_end_of m area forward ≡ giving (walk_of m forward [] c)
unfolding walk_end_of
walk-end-opens m area forward c e = rw e

-- No record that comes is empty, so that the empty one says the end.
among-at : (is : List Item) (k : ℕ) → k < length is → Memᴰ (get_or is k none) is
among-at [] k h = absurd (omega arith)
among-at (i ∷ is) zero h = mathlib.Core.List.Memᴰ.head refl
among-at (i ∷ is) (suc k) h = mathlib.Core.List.Memᴰ.tail (among-at is k (omega arith))

some_bytes : (m : Measures) (is : List Item) (i : Item) → lengths_fine m (bytes_in is) ≡ true → Memᴰ i is → m.least ≤ length i.bytes
some_bytes m [] i f h = absurd (mathlib.Core.List.Memᴰ.not-nil h)
some_bytes m (x ∷ is) i f h =
    ⊎_elim (λ (z : i ≡ x). rw z (within_low m.least m.most (length x.bytes) (map length (bytes_in is)) f))
    (λ (r : Memᴰ i is). some_bytes m is i (within-rest m.least m.most (length x.bytes) (map length (bytes_in is)) f) r) (mathlib.Core.List.Memᴰ.cases_cons h)

pub walk-some : (m : Measures) (n : ℕ) (area : List ℕ) (c : Content) → read_area m n area ≡ whole c → 1 ≤ m.least → (forward : Bool) (p : List ℕ) (k : ℕ)
    → k < length (walk_of m forward p c) → 0 < length (get_or (walk_of m forward p c) k none).bytes
walk-some m n area c w some forward p k h =
    let i : Item = get_or (walk_of m forward p c) k none in
    omega (arith, some_bytes m (items_of m c.filled) i (items-fine m n area c w) ((walk-among i m forward p c).0 (among-at (walk_of m forward p c) k h)).0)
