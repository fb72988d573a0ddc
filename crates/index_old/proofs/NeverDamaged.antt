-- Whatever the old grammar lays out, with any legal F and any bytes in the unused space, the old reading calls sound and reads as what was laid out.
use Prim.Native.Nat.{ℕ, ◌+◌, ◌^◌, ◌≤◌, ◌<◌}
use mathlib.Core.Path.{◌≡◌, ◌∙◌, sym, ap}
use mathlib.Core.Bool.{true}
use mathlib.Core.List.{List, []}
use lib.ListN.{length, get_or}
use native.Mathlib.Omega.{arith}
use Rattle.index.specs.Meaning.{Entry, Meaning, numbers, below}
use Rattle.index.specs.Rules.{keeps_rules}
use Rattle.index.specs.Layout.{unused_place}
use Rattle.index.specs.Reading.{unused_at}
use Rattle.index.proofs.Naming.{free-and-used, both_below}
use Rattle.index.proofs.Keeping.{Keeps, rules-apart}
use Rattle.index_old.specs.Pieces.{spell}
use Rattle.index_old.specs.Layout.{record_length, LaidOut}
use Rattle.index_old.specs.Reading.{pieces_in, read_index, sound_index}
use Rattle.index_old.proofs.Laying.{length-spell}
use Rattle.index_old.proofs.Placing.{length-layout, frame-there, gap-there, unused-there, all_there, read-there, places-there}

module _ (w S K n : ℕ) (low end : List ℕ) (m : Meaning) (ib : List ℕ) (width : 1 ≤ w) (wide : n ≤ 256 ^ w) (size : S ≤ 32768)
    (laid : LaidOut w S m ib) (rules : keeps_rules S K n low end m ≡ true) where
  kept : Keeps S K n low end m
  kept = rules-apart S K n low end m rules

  free-below : below n m.free ≡ true
  free-below = (both_below n m kept.naming).0

  used-below : below n (numbers (spell [] laid.pieces)) ≡ true
  used-below = rw laid.spells (both_below n m kept.naming).1

  count-all : length m.free + length laid.pieces ≡ n
  count-all =
      omega (arith, free-and-used n m kept.naming, ap (λ (es : List Entry). length es) laid.spells, length-spell [] laid.pieces)

  whole : S ≡ record_length w m laid.unused laid.pieces + 7
  whole = sym laid.size ∙ ap length laid.bytes ∙ length-layout w m laid.unused laid.pieces laid.twelve

  small : record_length w m laid.unused laid.pieces < 65536
  small = omega (arith, whole)

  -- The pieces that were laid are read, past the unused space that was laid.
  pub pieces-read : pieces_in w n ib ≡ laid.pieces
  pieces-read =
      rw laid.bytes (all_there w m laid.unused laid.pieces laid.twelve small n width wide laid.spells count-all free-below used-below)

  pub unused-read : unused_at ib ≡ unused_place w m
  unused-read = rw laid.bytes (unused-there w m laid.unused laid.pieces laid.twelve small)

  pub gap-read : (i : ℕ) → i < length laid.unused → get_or ib (unused_place w m + i) 0 ≡ get_or laid.unused i 0
  gap-read i h = rw laid.bytes (gap-there w m laid.unused laid.pieces laid.twelve i h)

  pub whole-read : length ib ≡ record_length w m laid.unused laid.pieces + 7
  whole-read = laid.size ∙ whole

  -- What was laid out is read as what it means, whatever the choice of F and the bytes in the unused space.
  pub old-reads : read_index w n ib ≡ m
  old-reads =
      rw laid.bytes (read-there w m laid.unused laid.pieces laid.twelve small n width wide laid.spells count-all free-below used-below)

  -- What was laid out and keeps the rules is never called damaged.
  pub old-never-damaged : sound_index w K n low end ib ≡ true
  unfolding sound_index
  old-never-damaged =
      rw (
        old-reads,
        laid.size,
        rules,
        laid.bytes,
        frame-there w m laid.unused laid.pieces laid.twelve small,
        places-there w m laid.unused laid.pieces
            laid.twelve small n width wide laid.spells count-all free-below used-below,
        all_there w m laid.unused laid.pieces laid.twelve small n width wide laid.spells count-all free-below used-below,
        laid.fits,
      )
