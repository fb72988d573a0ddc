-- Laws of tests.
use Prim.Native.Nat.{ℕ}
use mathlib.Core.Path.{◌≡◌, refl, ◌∙◌, sym}
use mathlib.Core.Bool.{Bool, true, false}
use mathlib.Core.List.{List, [], ◌∷◌}
use lib.Dec.{eqb}
use native.Mathlib.Omega.{arith}
use borrow.Author.Tests.{eqb-true, eq-eqb}
use Rattle.fields.specs.Choice.{pick, both, no}
use Rattle.fields.specs.Table.{same_list}

-- two results that equal one thing are equal: what every lemma `unique-..` comes down to
pub agree : {A : Type 0} {x y z : A} → x ≡ z → y ≡ z → x ≡ y
agree p q = p ∙ sym q

pub false-true : false ≡ true → ⊥
false-true e = let z : ◌≡◌ {A = ℕ} 0 1 = cc in omega arith

pub both-split : (a b : Bool) → both a b ≡ true → (a ≡ true) × (b ≡ true)
both-split true b e = (refl, e)
both-split false b e = (e, absurd (false-true e))

pub both-join : (a b : Bool) → a ≡ true → b ≡ true → both a b ≡ true
both-join a b p q = rw (p, q)

pub both_false : (a : Bool) → both a false ≡ false
both_false true = refl
both_false false = refl

pub both-none : (a b : Bool) → both a (both b false) ≡ false
both-none a b = rw (both_false b) (both_false a)

pub both_true : (a : Bool) → both a true ≡ a
both_true true = refl
both_true false = refl

pub both-assoc : (a b c : Bool) → both (both a b) c ≡ both a (both b c)
both-assoc true b c = refl
both-assoc false b c = refl

-- a test that is denied fails
pub no_true : (a : Bool) → no a ≡ true → a ≡ false
no_true true e = sym e
no_true false e = refl

-- and so does one that cannot hold
pub off : (a : Bool) → (a ≡ true → ⊥) → a ≡ false
off true h = absurd (h refl)
off false h = refl

-- the other arm of a pick, where the first is ruled out
pub pick-false : {A : Type 0} (b : Bool) (x y z : A) → pick b x y ≡ z → (x ≡ z → ⊥) → (b ≡ false) × (y ≡ z)
pick-false true x y z e n = absurd (n e)
pick-false false x y z e n = (refl, e)

pub pick_true : {A : Type 0} (b : Bool) (x y z : A) → pick b x y ≡ z → (y ≡ z → ⊥) → (b ≡ true) × (x ≡ z)
pick_true true x y z e n = (refl, e)
pick_true false x y z e n = absurd (n e)

-- ---- whether two lists are the same

pub same-same : (a : List ℕ) → same_list a a ≡ true
same-same [] = refl
same-same (x ∷ a) = rw (eq-eqb x x refl) (same-same a)

pub same-means : (a b : List ℕ) → same_list a b ≡ true → a ≡ b
same-means [] [] h = refl
same-means [] (y ∷ b) h = absurd (false-true h)
same-means (x ∷ a) [] h = absurd (false-true h)
same-means (x ∷ a) (y ∷ b) h =
    let s = both-split (eqb x y) (same_list a b) h in
    let p : x ≡ y = eqb-true x y s.0 in
    let q : a ≡ b = same-means a b s.1 in
    cc

-- lists that differ are told apart
pub differ : (a b : List ℕ) → (a ≡ b → ⊥) → same_list a b ≡ false
differ a b n = off (same_list a b) (λ (e : same_list a b ≡ true). n (same-means a b e))
