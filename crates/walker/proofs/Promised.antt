-- A walker that is begun at the place that a walk began with gives the walk's records: document 02, L1.
use Rattle.std.specs.Prelude.{Ok}
use Prim.Native.Nat.{ℕ, zero, suc}
use mathlib.Core.Path.{◌≡◌, ◌∙◌, sym, ap}
use mathlib.Core.Bool.{Bool}
use mathlib.Core.List.{List}
use lib.ListN.{length}
use contract.Lifetimes.{Lfts}
use denote.Ref.{Bor}
use Rattle.measures.specs.Judgement.{judged_of, passed}
use Rattle.measures.specs.declared.Measures.{Measures}
use Rattle.area.specs.Content.{Content}
use Rattle.area.specs.Reading.{read_area, whole}
use Rattle.requests.specs.Walks.{walk_of}
use Rattle.walk.specs.declared.Place.{Place}
use Rattle.walk.specs.AidGives.{Begun}
use Rattle.walk.specs.AidSteps.{next_of, Shown}
use Rattle.walk.proofs.Promised.{Began, Given, steps-give}
use Rattle.walker.specs.Walkers.{walker_at, walker_next}
use Rattle.walker.specs.declared.Walker.{Walker}
use Rattle.walker.proofs.Contracts.{BegunLearnt, SeenLearnt, NextLearnt}

-- Walkers one after another, as their caller learns it: the first is what `begun` made for a place, each later one what `next` gave of the one before; and for each
-- the part that `seen` gave.
pub record Walking (area : Bor (List ℕ)) (size : ℕ) (forward : Bool) (place : Place) (walkers : ℕ → Walker) (parts : ℕ → Bor (List ℕ)) : Type 0 where
  pub κs : ℕ → Lfts 1
  pub first_ends : _
  pub first : BegunLearnt (κs 0) (area, (size, (forward, (place, tt)))) (walkers 0) first_ends
  pub next-ends : (k : ℕ) → _
  pub next : (k : ℕ) → NextLearnt (κs k) (walkers k, tt) (walkers (suc k)) (next-ends k)
  pub part-ends : (k : ℕ) → _
  pub shows : (k : ℕ) → SeenLearnt (κs k) (walkers k, tt) (parts k) (part-ends k)

module _ (area : Bor (List ℕ)) (size : ℕ) (forward : Bool) (place : Place) (walkers : ℕ → Walker) (parts : ℕ → Bor (List ℕ))
    (w : Walking area size forward place walkers parts) where
  -- each borrows the same area, and goes in the same direction
  steady : (k : ℕ) → walkers k ≡ walker_at area size forward (walkers k).place
  steady zero = w.first ∙ ap (λ (x : Walker). walker_at area size forward x.place) (sym w.first)
  steady (suc k) =
      let p : Place = next_of area.now size forward (walkers k).place in
      let e : walkers (suc k) ≡ walker_at area size forward p = w.next k ∙ ap walker_next (steady k) in
      e ∙ ap (λ (x : Walker). walker_at area size forward x.place) (sym e)

  goes : (k : ℕ) → (walkers (suc k)).place ≡ next_of area.now size forward (walkers k).place
  goes k = ap (λ (x : Walker). x.place) (w.next k ∙ ap walker_next (steady k))

  sees : (k : ℕ) → Shown area (walkers k).place (parts k)
  sees k = rw (ap (λ (x : Walker). x.area) (steady k)) at (w.shows k)

-- THE WALKER. On a sound area it gives the records of the walk that began at its place, each as its part of the area, and then the empty part for ever. Said of what
-- callers of `walk_from`, `walk_end`, `begun`, `next` and `seen` learn.
pub walker-gives : (area : Bor (List ℕ)) (m : Measures) (forward : Bool) (given : List ℕ) (r : Begun) → Began area m forward given r
    → (place : Place) → r ≡ Ok place → (walkers : ℕ → Walker) (parts : ℕ → Bor (List ℕ)) → Walking area m.size forward place walkers parts
    → (n : ℕ) (c : Content) → judged_of m (length area.now) ≡ passed m n
    → read_area m n area.now ≡ whole c → Given area (walk_of m forward given c) parts
walker-gives area m forward given r b place at walkers parts w =
    steps-give area m forward given r b (λ (k : ℕ). (walkers k).place) parts (at ∙ ap (λ (x : Walker). Ok x.place) (sym w.first))
    (goes area m.size forward place walkers parts w) (sees area m.size forward place walkers parts w)
