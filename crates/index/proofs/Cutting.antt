-- The separator of a cut: it is one, the left part's last key is at most its bound, and the right part's first key is above it.
use Prim.Native.Nat.{ℕ, zero, suc, ◌-◌, ◌<◌}
use mathlib.Core.Path.{◌≡◌, refl, ◌∙◌}
use mathlib.Core.Bool.{true, false}
use mathlib.Core.List.{List, [], ◌∷◌}
use mathlib.Core.Logic.{⊎_elim}
use lib.ListN.{length, get_or}
use native.Mathlib.Omega.{arith}
use borrow.Author.Tests.{le-leb, eq-eqb, ne_eqb}
use Rattle.fields.specs.Bytes.{Octets}
use Rattle.fields.specs.Order.{order_of, less, common}
use Rattle.fields.proofs.Choices.{false-true}
use Rattle.fields.proofs.Orders.{less-inv, less-lt, less-eq}
use Rattle.index.specs.Bounds.{bound, separator, cut_separator, Fine}
use Rattle.index.proofs.Bounds.{bound-cons, empty-highest}

cut-same : (x y : ℕ) (a b : List ℕ) → x ≡ y → cut_separator (x ∷ a) (y ∷ b) ≡ x ∷ cut_separator a b
unfolding cut_separator common
cut-same x y a b h = rw (eq-eqb x y h)

cut-other : (x y : ℕ) (a b : List ℕ) → x < y → cut_separator (x ∷ a) (y ∷ b) ≡ x ∷ []
unfolding cut_separator common
cut-other x y a b h = rw (ne_eqb x y (omega arith))

-- The bound of a cut's separator is below the right part's first key.
pub cut_below : (K : ℕ) (left right : List ℕ) → length left ≡ K → length right ≡ K → less left right ≡ true → less (bound K (cut_separator left right)) right ≡ true
unfolding order_of
cut_below K [] [] p q h = absurd (false-true h)
cut_below K (x ∷ a) [] p q h = absurd (false-true h)
cut_below K [] (y ∷ b) p q h = absurd (omega arith)
cut_below zero (x ∷ a) (y ∷ b) p q h = absurd (omega arith)
cut_below (suc K) (x ∷ a) (y ∷ b) p q h =
    ⊎_elim (λ (l : x < y). rw (cut-other x y a b l, bound-cons) (less-lt x y (bound K []) b l))
    (λ (l : (x ≡ y) × (less a b ≡ true)). rw (cut-same x y a b l.0, bound-cons) (less-eq x y (bound K (cut_separator a b)) b l.0 ∙ cut_below K a b (omega arith) (omega arith) l.1))
    (less-inv x y a b h)

-- The left part's last key is at most that bound.
pub cut-above : (K : ℕ) (left right : List ℕ) → length left ≡ K → length right ≡ K → Octets left → less left right ≡ true
    → less (bound K (cut_separator left right)) left ≡ false
unfolding order_of
cut-above K [] [] p q o h = absurd (false-true h)
cut-above K (x ∷ a) [] p q o h = absurd (false-true h)
cut-above K [] (y ∷ b) p q o h = absurd (omega arith)
cut-above zero (x ∷ a) (y ∷ b) p q o h = absurd (omega arith)
cut-above (suc K) (x ∷ a) (y ∷ b) p q o h =
    ⊎_elim (λ (l : x < y). rw (cut-other x y a b l, bound-cons) (less-eq x x (bound K []) a refl ∙ empty-highest K a (omega arith) (λ i. o (suc i))))
    (λ (l : (x ≡ y) × (less a b ≡ true)). rw (cut-same x y a b l.0, bound-cons)
    (less-eq x x (bound K (cut_separator a b)) a refl ∙ cut-above K a b (omega arith) (omega arith) (λ i. o (suc i)) l.1))
    (less-inv x y a b h)

fine_more : (K x : ℕ) (s : List ℕ) → Fine K s → Fine (suc K) (x ∷ s)
fine_more K x [] c = absurd (omega (arith, c.some))
fine_more K x (y ∷ s) c =
    let e : suc (suc (length s)) - 1 ≡ suc (length s) = omega arith in
    let f : suc (length s) - 1 ≡ length s = omega arith in
    record { some = omega arith; most = omega (arith, c.most); last = rw e (rw f at c.last) }

-- The separator of a cut is such a one.
pub cut-fine : (K : ℕ) (left right : List ℕ) → length left ≡ K → length right ≡ K → Octets right → less left right ≡ true → Fine K (cut_separator left right)
unfolding order_of
cut-fine K [] [] p q o h = absurd (false-true h)
cut-fine K (x ∷ a) [] p q o h = absurd (false-true h)
cut-fine K [] (y ∷ b) p q o h = absurd (omega arith)
cut-fine zero (x ∷ a) (y ∷ b) p q o h = absurd (omega arith)
cut-fine (suc K) (x ∷ a) (y ∷ b) p q o h =
    ⊎_elim (λ (l : x < y). rw (cut-other x y a b l) (record { some = omega arith; most = omega arith; last = omega (arith, o 0) }))
    (λ (l : (x ≡ y) × (less a b ≡ true)). rw (cut-same x y a b l.0) (fine_more K x (cut_separator a b) (cut-fine K a b (omega arith) (omega arith) (λ i. o (suc i)) l.1)))
    (less-inv x y a b h)

-- And so it is as a separator must be.
pub cut-separator : (K : ℕ) (s : List ℕ) → Fine K s → separator K s ≡ true
unfolding separator
cut-separator K s c = rw (le-leb (length s) K c.most, ne_eqb (get_or s (length s - 1) 0) 255 (omega (arith, c.last)))
