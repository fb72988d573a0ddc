-- What callers learn from the contracts of the functions over a walker, read off these by the kit's own means. Nothing is written out a second time: a law below says
-- of each what its `ensures` is, and holds by computation only while the contract says just that.
use mathlib.Core.Path.{◌≡◌, refl}
use base.Logic.{emp}
use contract.Lifetimes.{Lfts}
use contract.Monad.{fact}
use denote.Triple.Clauses.{AtExit}
use borrow.Fn.Claims.{AllOf}
use borrow.Fn.World.{World, Pr, ArgsD, ResD}
use borrow.Fn.Read.{Read, no_know, r_last, all_models}
use Rattle.walk.specs.AidSteps.{next_of, Shown}
use Rattle.walker.specs.Walkers.{walker_at, walker_next}
use Rattle.walker.specs.declared.Walker.{Walker}
use Rattle.walker.specs.contracts.begun as begun
use Rattle.walker.specs.contracts.seen as seen
use Rattle.walker.specs.contracts.next as next

-- where a contract is read, nothing is assumed
abbrev nothing : (w : World) → Pr w
nothing w = emp w.𝓤

module _ (κs : Lfts 1) (a : ArgsD begun.signature κs) (r : ResD begun.signature κs) (e : AtExit begun.ended κs) where
  abbrev begun-ensures : (w : World) → Pr w
  begun-ensures w = (begun.clauses w.𝓛 w.𝓜.mem w.𝓡.run κs a).ensures tt r e

  abbrev begun-read : Read nothing no_know begun-ensures
  begun-read = all_models begun-ensures (λ w. r_last _) (λ w. refl) (λ w. refl) (λ w. refl)

  abbrev pub BegunLearnt : Type 0
  BegunLearnt = AllOf begun-read.tells

  pub begun-says : (w : World) → begun-ensures w ≡ fact w.𝓤 (r ≡ walker_at a.0 a.1.0 a.1.1.0 a.1.1.1.0)
  begun-says w = refl

module _ (κs : Lfts 1) (a : ArgsD seen.signature κs) (r : ResD seen.signature κs) (e : AtExit seen.ended κs) where
  abbrev seen-ensures : (w : World) → Pr w
  seen-ensures w = (seen.clauses w.𝓛 w.𝓜.mem w.𝓡.run κs a).ensures tt r e

  abbrev seen_read : Read nothing no_know seen-ensures
  seen_read = all_models seen-ensures (λ w. r_last _) (λ w. refl) (λ w. refl) (λ w. refl)

  abbrev pub SeenLearnt : Type 0
  SeenLearnt = AllOf seen_read.tells

  pub seen-says : (w : World) → seen-ensures w ≡ fact w.𝓤 (Shown a.0.area a.0.place r)
  seen-says w = refl

module _ (κs : Lfts 1) (a : ArgsD next.signature κs) (r : ResD next.signature κs) (e : AtExit next.ended κs) where
  abbrev next-ensures : (w : World) → Pr w
  next-ensures w = (next.clauses w.𝓛 w.𝓜.mem w.𝓡.run κs a).ensures tt r e

  abbrev next-read : Read nothing no_know next-ensures
  next-read = all_models next-ensures (λ w. r_last _) (λ w. refl) (λ w. refl) (λ w. refl)

  abbrev pub NextLearnt : Type 0
  NextLearnt = AllOf next-read.tells

  pub next-says : (w : World) → next-ensures w ≡ fact w.𝓤 (r ≡ walker_next a.0)
  next-says w = refl
