-- What the CIDF's two fields say of an interval.
use Prim.Native.Nat.{ℕ, ◌+◌, ◌-◌, ◌*◌, ◌/◌, ◌%◌}
use mathlib.Core.Path.{◌≡◌}
use mathlib.Core.Bool.{true, false}
use mathlib.Core.List.{List}
use lib.ListN.{length}
use lib.Dec.{eqb}
use borrow.Author.Tests.{eq-eqb, ne_eqb}
use Rattle.interval.specs.Reading.{displacement, unused_field}
use Rattle.std.specs.Prelude.{Some, None}
use Rattle.interval_read.specs.AidWalk.{tail, tail_of}

module _ (ci : List ℕ) (d f u : ℕ) (p : d ≡ displacement ci) (q : f ≡ unused_field ci) where
  pub tail-busy : eqb (f / 32768 % 2) 1 ≡ true → None ≡ tail_of ci
  unfolding tail_of
  tail-busy b = rw (← q, b)

  pub tail-off : eqb (f / 32768 % 2) 1 ≡ false → u ≡ f % 32768 → (d + u + 3 * ((length ci - 4 - (d + u)) / 3) + 4 ≡ length ci → ⊥) → None ≡ tail_of ci
  unfolding tail_of
  tail-off b e n = rw (← p, ← q, b, ← e, ne_eqb (d + u + 3 * ((length ci - 4 - (d + u)) / 3) + 4) (length ci) n)

  pub tail-is : eqb (f / 32768 % 2) 1 ≡ false → u ≡ f % 32768 → d + u + 3 * ((length ci - 4 - (d + u)) / 3) + 4 ≡ length ci
      → Some (tail d (d + u) ((length ci - 4 - (d + u)) / 3)) ≡ tail_of ci
  unfolding tail_of
  tail-is b e n = rw (← p, ← q, b, ← e, eq-eqb (d + u + 3 * ((length ci - 4 - (d + u)) / 3) + 4) (length ci) n)
