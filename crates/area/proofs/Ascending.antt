-- On a whole area the records of all entries, one entry after another, are in key order, and every interval is named once.
use Prim.Native.Nat.{ℕ}
use mathlib.Core.Path.{◌≡◌, refl}
use mathlib.Core.Bool.{true, false}
use mathlib.Core.List.{List, [], ◌∷◌, ◌++◌, map-append}
use Rattle.fields.specs.Choice.{no}
use Rattle.fields.specs.Order.{less}
use Rattle.fields.specs.Lists.{every}
use Rattle.fields.proofs.Choices.{both-split, both-join, no_true}
use Rattle.fields.proofs.Orders.{less-asym}
use Rattle.measures.specs.declared.Measures.{Measures}
use Rattle.interval.specs.Records.{key_of, keys_of, ascend_from, ascending, up_to}
use Rattle.interval.specs.Reading.{records_in}
use Rattle.interval.proofs.Ascending.{from-ascends, ascends-from, from-lower}
use Rattle.interval.proofs.Backward.{form-and-keys}
use Rattle.index.specs.Bounds.{bound}
use Rattle.index.specs.Meaning.{Entry, numbers, named_once}
use Rattle.index.specs.Rules.{rises}
use Rattle.index.proofs.Keeping.{rises-apart}
use Rattle.area.specs.Content.{Content, data_in, records_of, fill, entries_of}
use Rattle.area.specs.Reading.{whole, read_area}
use Rattle.area.proofs.Sounding.{AllUsed, sound-apart, sound-rules, sound-filled}
use Rattle.area.proofs.Intervals.{used-apart}

-- ---- keys of several intervals, one after another

-- keys up to a bound, then keys that ascend from it
join-from : (a high : List ℕ) (ks ls : List (List ℕ)) → less high a ≡ false → ascend_from a ks ≡ true → up_to high ks ≡ true
    → ascend_from high ls ≡ true → ascend_from a (ks ++ ls) ≡ true
unfolding ascend_from every
join-from a high [] ls h k u l = from-lower a high ls h l
join-from a high (x ∷ ks) ls h k u l =
    let s = both-split (less a x) (ascend_from x ks) k in
    let v = both-split (no (less high x)) (up_to high ks) u in
    both-join (less a x) (ascend_from x (ks ++ ls)) s.0 (join-from x high ks ls (no_true (less high x) v.0) s.1 v.1 l)

-- The records of rising entries, each sound between its bounds, ascend from the bound before the first.
pub entries-ascend : (m : Measures) (area low : List ℕ) (es : List Entry) → rises m.key low es ≡ true → AllUsed m area low es
    → ascend_from low (keys_of m (records_of (fill m area es))) ≡ true
unfolding records_of ascend_from
entries-ascend m area low [] r a = refl
entries-ascend m area low (e ∷ es) r a =
    let high : List ℕ = bound m.key e.sep in
    let ci : List ℕ = data_in m area e.num in
    let p = rises-apart m.key low e es r in
    let u = used-apart m low high ci a.0 in
    rw (map-append (key_of m) (records_in ci) (records_of (fill m area es)))
    (join-from low high (keys_of m (records_in ci)) (keys_of m (records_of (fill m area es))) (less-asym low high p.1)
    (ascends-from low (keys_of m (records_in ci)) (form-and-keys m ci u.0).1 u.1) u.2 (entries-ascend m area high es p.2 a.1))

-- ---- the two laws

-- The records of a whole area, taken entry by entry, are in strictly ascending key order.
pub records-ascend : (m : Measures) (n : ℕ) (area : List ℕ) (c : Content) → read_area m n area ≡ whole c → ascending (keys_of m (records_of c.filled)) ≡ true
records-ascend m n area c e =
    let s = sound-apart m n area c e in
    rw (sound-filled m n area c s)
    (from-ascends [] (keys_of m (records_of (fill m area (entries_of c.filled)))) (entries-ascend m area [] (entries_of c.filled) (sound-rules m n area c s).rising s.used))

-- In a whole area each number below n is named once, as free or by an entry, and no other number is named.
pub numbers-once : (m : Measures) (n : ℕ) (area : List ℕ) (c : Content) → read_area m n area ≡ whole c
    → named_once n (c.free ++ numbers (entries_of c.filled)) ≡ true
numbers-once m n area c e = (sound-rules m n area c (sound-apart m n area c e)).naming
