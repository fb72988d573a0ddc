-- A cut's new entry keeps the rules of separators and bounds, and that of the last entry.
use Prim.Native.Nat.{ℕ}
use mathlib.Core.Path.{◌≡◌, refl}
use mathlib.Core.Bool.{true, false}
use mathlib.Core.List.{List, [], ◌∷◌, ◌++◌}
use lib.ListN.{length}
use Rattle.fields.specs.Bytes.{Octets}
use Rattle.fields.specs.Order.{less}
use Rattle.fields.proofs.Orders.{less-le}
use Rattle.index.specs.Bounds.{bound, separator, cut_separator}
use Rattle.index.specs.Meaning.{Entry, entry}
use Rattle.index.specs.Rules.{rises, closed, bound_before}
use Rattle.index.proofs.Keeping.{rises-apart}
use Rattle.index.proofs.Cutting.{cut_below, cut-above, cut-fine, cut-separator}

-- ---- bounds

put_in : (K : ℕ) (low s : List ℕ) (n n' : ℕ) (e : Entry) (post : List Entry) → separator K s ≡ true → less low (bound K s) ≡ true
    → less (bound K s) (bound K e.sep) ≡ true → rises K low (e ∷ post) ≡ true → rises K low (entry s n ∷ entry e.sep n' ∷ post) ≡ true
unfolding rises
put_in K low s n n' e post h a b r =
    let q = rises-apart K low e post r in
    rw (h, a, b, q.0, q.2)

-- A separator whose bound lies between may be put before an entry; the numbers are free.
pub rises-insert : (K : ℕ) (low : List ℕ) (pre : List Entry) (s : List ℕ) (n n' : ℕ) (e : Entry) (post : List Entry) → separator K s ≡ true
    → less (bound_before K low pre) (bound K s) ≡ true → less (bound K s) (bound K e.sep) ≡ true
    → rises K low (pre ++ (e ∷ post)) ≡ true → rises K low (pre ++ (entry s n ∷ entry e.sep n' ∷ post)) ≡ true
unfolding rises bound_before
rises-insert K low [] s n n' e post h a b r = put_in K low s n n' e post h a b r
rises-insert K low (x ∷ xs) s n n' e post h a b r =
    let q = rises-apart K low x (xs ++ (e ∷ post)) r in
    rw (q.0, q.1) (rises-insert K (bound K x.sep) xs s n n' e post h a b q.2)

-- A cut between the keys left < right of an entry's interval, left above the bound before and right at most the entry's own, keeps the bounds ascending.
pub cut-insert : (K : ℕ) (low : List ℕ) (pre : List Entry) (left right : List ℕ) (n n' : ℕ) (e : Entry) (post : List Entry)
    → length left ≡ K → length right ≡ K → Octets left → Octets right → less left right ≡ true
    → less (bound_before K low pre) left ≡ true → less (bound K e.sep) right ≡ false
    → rises K low (pre ++ (e ∷ post)) ≡ true → rises K low (pre ++ (entry (cut_separator left right) n ∷ entry e.sep n' ∷ post)) ≡ true
cut-insert K low pre left right n n' e post la lb oa ob ab above within r =
    let s : List ℕ = cut_separator left right in
    let h : separator K s ≡ true = cut-separator K s (cut-fine K left right la lb ob ab) in
    let x : less (bound_before K low pre) (bound K s) ≡ true = less-le (bound_before K low pre) left (bound K s) above (cut-above K left right la lb oa ab) in
    let y : less (bound K s) (bound K e.sep) ≡ true = less-le (bound K s) right (bound K e.sep) (cut_below K left right la lb ab) within in
    rises-insert K low pre s n n' e post h x y r

pub before-snoc : (K : ℕ) (low : List ℕ) (pre : List Entry) (e : Entry) → bound_before K low (pre ++ (e ∷ [])) ≡ bound K e.sep
unfolding bound_before
before-snoc K low [] e = refl
before-snoc K low (x ∷ xs) e = before-snoc K (bound K x.sep) xs e

-- ---- the last entry

-- The last entry keeps its separator.
pub closed-insert : (end : List ℕ) (pre : List Entry) (s : List ℕ) (n n' : ℕ) (e : Entry) (post : List Entry) → closed end (pre ++ (e ∷ post)) ≡ true
    → closed end (pre ++ (entry s n ∷ entry e.sep n' ∷ post)) ≡ true
unfolding closed
closed-insert end [] s n n' e [] h = h
closed-insert end [] s n n' e (p ∷ ps) h = h
closed-insert end (x ∷ []) s n n' e post h = closed-insert end [] s n n' e post h
closed-insert end (x ∷ y ∷ xs) s n n' e post h = closed-insert end (y ∷ xs) s n n' e post h
