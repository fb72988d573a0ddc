-- Records with their places: those of two lists of entries, the one at an ordinal, and last to first.
use Prim.Native.Nat.{ℕ, zero, suc, ◌+◌, ◌-◌, ◌*◌, ◌<◌}
use mathlib.Core.Path.{◌≡◌, refl, ◌∙◌, sym, ap}
use mathlib.Core.Bool.{Bool, true, false}
use mathlib.Core.List.{List, [], ◌∷◌, ◌++◌, map, map-append, append_assoc}
use lib.ListN.{length, get_or, take, length-append, length-map, get_or-append}
use lib.Seq.{get_or-append-add, get_or-append_seam}
use lib.Dec.{ltb}
use native.Mathlib.Omega.{arith}
use borrow.Author.Tests.{ltb-true, ltb-false}
use Rattle.fields.specs.Lists.{concat}
use Rattle.measures.specs.declared.Measures.{Measures}
use Rattle.interval.specs.Search.{start_of}
use Rattle.area.specs.Content.{Filled, records_of}
use Rattle.requests.specs.Walks.{Item, items_from, items_of, backwards}

-- no record, nowhere
abbrev pub none : Item
none = record { start = 0; bytes = [] }

-- the records alone
abbrev pub bytes_in : List Item → List (List ℕ)
bytes_in is = map (λ (i : Item). i.bytes) is

from_bytes : (start : ℕ) (rs : List (List ℕ)) → bytes_in (items_from start rs) ≡ rs
unfolding items_from
from_bytes start [] = refl
from_bytes start (r ∷ rs) = ap (λ (xs : List (List ℕ)). r ∷ xs) (from_bytes (start + length r) rs)

-- The records of the items of some entries are those of the entries.
pub items-bytes : (m : Measures) (fs : List Filled) → bytes_in (items_of m fs) ≡ records_of fs
unfolding items_of records_of
items-bytes m [] = refl
items-bytes m (f ∷ fs) =
    map-append (λ (i : Item). i.bytes) (items_from ((f.num + 1) * m.size) f.records) (items_of m fs)
    ∙ rw (from_bytes ((f.num + 1) * m.size) f.records, items-bytes m fs)

pub items-long : (m : Measures) (fs : List Filled) → length (items_of m fs) ≡ length (records_of fs)
items-long m fs = sym (length-map (items_of m fs) (λ (i : Item). i.bytes)) ∙ ap length (items-bytes m fs)

pub from-long : (start : ℕ) (rs : List (List ℕ)) → length (items_from start rs) ≡ length rs
from-long start rs = sym (length-map (items_from start rs) (λ (i : Item). i.bytes)) ∙ ap length (from_bytes start rs)

-- those of two lists of entries, one after the other
pub items-append : (m : Measures) (xs ys : List Filled) → items_of m (xs ++ ys) ≡ items_of m xs ++ items_of m ys
unfolding items_of
items-append m [] ys = refl
items-append m (x ∷ xs) ys = rw (items-append m xs ys) (sym (append_assoc (items_from ((x.num + 1) * m.size) x.records) (items_of m xs) (items_of m ys)))

-- ---- the item of an ordinal

start-zero : (rs : List (List ℕ)) → start_of 0 rs ≡ 0
unfolding concat
start-zero rs = refl

start-suc : (i : ℕ) (r : List ℕ) (rs : List (List ℕ)) → start_of (suc i) (r ∷ rs) ≡ length r + start_of i rs
unfolding concat
start-suc i r rs = length-append r (concat (take i rs))

pub from_at : (start : ℕ) (rs : List (List ℕ)) (o : ℕ) → o < length rs → get_or (items_from start rs) o none ≡ record { start = start + start_of o rs; bytes = get_or rs o [] }
unfolding items_from
from_at start [] o h = absurd (omega arith)
from_at start (r ∷ rs) zero h =
    let z : start + start_of 0 (r ∷ rs) ≡ start = omega (arith, start-zero (r ∷ rs)) in
    ap (λ (s : ℕ). record { start = s; bytes = r }) (sym z)
from_at start (r ∷ rs) (suc o) h =
    let z : start + length r + start_of o rs ≡ start + start_of (suc o) (r ∷ rs) = omega (arith, start-suc o r rs) in
    from_at (start + length r) rs o (omega arith) ∙ ap (λ (s : ℕ). record { start = s; bytes = get_or rs o [] }) z

-- The record of ordinal o of an entry comes after those of the entries before, and begins where it lies in that entry's interval.
pub item-at : (m : Measures) (pre : List Filled) (f : Filled) (post : List Filled) (o : ℕ) → o < length f.records
    → get_or (items_of m (pre ++ (f ∷ post))) (length (records_of pre) + o) none ≡ record { start = (f.num + 1) * m.size + start_of o f.records; bytes = get_or f.records o [] }
unfolding items_of
item-at m pre f post o h =
    let base : ℕ = (f.num + 1) * m.size in
    let rest : List Item = items_from base f.records ++ items_of m post in
    ap (λ (is : List Item). get_or is (length (records_of pre) + o) none) (items-append m pre (f ∷ post))
    ∙ ap (λ (l : ℕ). get_or (items_of m pre ++ rest) (l + o) none) (sym (items-long m pre))
    ∙ get_or-append-add (items_of m pre) rest o none
    ∙ get_or-append (items_from base f.records) (items_of m post) none o (omega (arith, from-long base f.records))
    ∙ from_at base f.records o h

-- ---- last to first

pub back_long : (is : List Item) → length (backwards is) ≡ length is
unfolding backwards
back_long [] = refl
back_long (i ∷ is) = length-append (backwards is) (i ∷ []) ∙ omega (arith, back_long is)

pub back_at : (is : List Item) (k : ℕ) → k < length is → get_or (backwards is) k none ≡ get_or is (length is - 1 - k) none
unfolding backwards
back_at [] k h = absurd (omega arith)
back_at (i ∷ is) k h = go (ltb k (length is)) refl (λ (l : k < length is). back_at is k l)
  where
    go : (t : Bool) → ltb k (length is) ≡ t → (k < length is → get_or (backwards is) k none ≡ get_or is (length is - 1 - k) none)
        → get_or (backwards is ++ (i ∷ [])) k none ≡ get_or (i ∷ is) (suc (length is) - 1 - k) none
    go true e again =
        let l : k < length is = ltb-true k (length is) e in
        let z : suc (length is) - 1 - k ≡ suc (length is - 1 - k) = omega arith in
        get_or-append (backwards is) (i ∷ []) none k (omega (arith, back_long is)) ∙ again l ∙ rw z
    go false e again =
        let z : suc (length is) - 1 - k ≡ 0 = omega (arith, ltb-false k (length is) e) in
        let y : k ≡ length (backwards is) = omega (arith, back_long is, ltb-false k (length is) e) in
        rw (z, y) (get_or-append_seam (backwards is) i [] none)
