-- Laws of the free numbers, by their places.
use Prim.Native.Nat.{ℕ, ◌+◌, ◌*◌, ◌≤◌, ◌<◌}
use mathlib.Core.Path.{◌≡◌}
use mathlib.Core.Bool.{true}
use mathlib.Core.List.{List}
use lib.ListN.{length, get_or}
use native.Mathlib.Omega.{arith}
use Rattle.index.specs.Meaning.{below}
use Rattle.index.specs.Reading.{free_count, numbers_at}
use Rattle.index.proofs.Apart.{length-numbers_at}
use Rattle.index.proofs.Counting.{below_at}
use Rattle.sections.specs.Reading.{read_index, sound_index}
use Rattle.sections.proofs.Apart.{free-are}
use Rattle.sections.proofs.Sounding.{sound-apart, sound-below}

-- There are as many as the fields say.
pub free-many : (w n : ℕ) (ib : List ℕ) → length (read_index w n ib).free ≡ free_count w ib
unfolding read_index
free-many w n ib = length-numbers_at w ib 24 (free_count w ib)

-- The free numbers of a sound record lie within it.
pub free-lie : (w K n : ℕ) (low end ib : List ℕ) → sound_index w K n low end ib ≡ true → 24 + w * free_count w ib ≤ length ib
free-lie w K n low end ib h =
    let s = sound-apart w K n low end ib h in
    omega (arith, s.placed.unused, s.placed.apart)

-- And they are below n.
pub free-below : (w K n : ℕ) (low end ib : List ℕ) (i : ℕ) → sound_index w K n low end ib ≡ true → i < free_count w ib → get_or (numbers_at w ib 24 (free_count w ib)) i 0 < n
free-below w K n low end ib i h l =
    let c : below n (numbers_at w ib 24 (free_count w ib)) ≡ true = rw (free-are w n ib) at (sound-below w K n low end ib h).0 in
    below_at n (numbers_at w ib 24 (free_count w ib)) i c (omega (arith, length-numbers_at w ib 24 (free_count w ib)))
