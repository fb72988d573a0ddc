-- What each answer of the division says: the three rules as statements hold of it, and of nothing else.
use Prim.Native.Nat.{ℕ, ◌≤◌}
use mathlib.Core.Path.{◌≡◌, refl, ◌∙◌, sym, ap}
use mathlib.Core.Bool.{Bool, true, false}
use mathlib.Core.List.{List}
use lib.ListN.{take, drop}
use lib.Dec.{eqb}
use borrow.Author.Tests.{eqb-true, eqb-false, le-leb, leb-true}
use Rattle.fields.specs.Choice.{pick}
use Rattle.fields.proofs.Choices.{false-true, both-split}
use Rattle.room.specs.Room.{need, fits}
use Rattle.division.specs.Division.{fitting, best_cut, by_cut, division_of, BestCut, NoCut, Prescribed}
use Rattle.division.specs.declared.Division.{Division}
use Rattle.division.specs.declared.Division.TheVariants.{Stays, Two, Three}
use Rattle.division.proofs.Best.{best-cut, no_cut, best-unique}

pub fits-of : (S : ℕ) (ls : List ℕ) → need ls ≤ S → fits S ls ≡ true
unfolding fits
fits-of S ls h = le-leb (need ls) S h

pub fits-is : (S : ℕ) (ls : List ℕ) → fits S ls ≡ true → need ls ≤ S
unfolding fits
fits-is S ls e = leb-true (need ls) S e

pub fitting-of : (S : ℕ) (ls : List ℕ) (c : ℕ) → fits S (take c ls) ≡ true → fits S (drop c ls) ≡ true → fitting S ls c ≡ true
unfolding fitting
fitting-of S ls c e f = rw (e, f)

pub fitting-is : (S : ℕ) (ls : List ℕ) (c : ℕ) → fitting S ls c ≡ true → (fits S (take c ls) ≡ true) × (fits S (drop c ls) ≡ true)
unfolding fitting
fitting-is S ls c e = both-split (fits S (take c ls)) (fits S (drop c ls)) e

module _ (S : ℕ) (ls : List ℕ) where
  -- the division is the prescribed one
  pub prescribed : Prescribed S ls (division_of S ls)
  unfolding division_of by_cut
  prescribed = go (fits S ls) refl (eqb (best_cut S ls) 0) refl
    where
      go : (t : Bool) → fits S ls ≡ t → (u : Bool) → eqb (best_cut S ls) 0 ≡ u → Prescribed S ls (pick t Stays (pick u Three (Two (best_cut S ls))))
      go true e u f = e
      go false e true f = (e, no_cut S ls (eqb-true (best_cut S ls) 0 f))
      go false e false f = (e, best-cut S ls (eqb-false (best_cut S ls) 0 f))

  cut-or-none : (c : ℕ) → BestCut S ls c → NoCut S ls → ⊥
  cut-or-none c b n = n c b.some b.below b.fit

  fits-or-not : fits S ls ≡ true → fits S ls ≡ false → ⊥
  fits-or-not e f = false-true (sym f ∙ e)

  -- and no other is
  pub prescribed-unique : (x y : Division) → Prescribed S ls x → Prescribed S ls y → x ≡ y
  prescribed-unique Stays Stays p q = refl
  prescribed-unique Stays (Two d) p q = absurd (fits-or-not p q.0)
  prescribed-unique Stays Three p q = absurd (fits-or-not p q.0)
  prescribed-unique (Two c) Stays p q = absurd (fits-or-not q p.0)
  prescribed-unique (Two c) (Two d) p q = ap Two (best-unique S ls c d p.1 q.1)
  prescribed-unique (Two c) Three p q = absurd (cut-or-none c p.1 q.1)
  prescribed-unique Three Stays p q = absurd (fits-or-not q p.0)
  prescribed-unique Three (Two d) p q = absurd (cut-or-none d q.1 p.1)
  prescribed-unique Three Three p q = refl

  -- for callers, who have an answer in hand
  pub is-stays : division_of S ls ≡ Stays → need ls ≤ S
  is-stays e = fits-is S ls (rw e at prescribed)

  pub is-two : (c : ℕ) → division_of S ls ≡ Two c → (fits S ls ≡ false) × BestCut S ls c
  is-two c e = rw e at prescribed

  pub is-three : division_of S ls ≡ Three → (fits S ls ≡ false) × NoCut S ls
  is-three e = rw e at prescribed

  -- both parts of two can be written
  pub two-fit : (c : ℕ) → division_of S ls ≡ Two c → (need (take c ls) ≤ S) × (need (drop c ls) ≤ S)
  two-fit c e =
      let f = fitting-is S ls c (is-two c e).1.fit in
      (fits-is S (take c ls) f.0, fits-is S (drop c ls) f.1)
