-- What a record that the old form called sound says of its bytes, one by one.
use Prim.Native.Nat.{ℕ, ◌+◌, ◌-◌, ◌*◌, ◌≤◌}
use mathlib.Core.Path.{◌≡◌}
use mathlib.Core.Bool.{Bool, true}
use mathlib.Core.List.{List, []}
use lib.ListN.{length}
use lib.Dec.{eqb, leb}
use borrow.Author.Tests.{eqb-true, leb-true}
use Rattle.fields.specs.Choice.{both}
use Rattle.fields.proofs.Choices.{both-split}
use Rattle.index.specs.Rules.{keeps_rules}
use Rattle.index.specs.Reading.{unused_at, last_at, section_at, free_count, frame}
use Rattle.index_old.specs.Pieces.{fronts_fit, pieces_size, last_chars}
use Rattle.index_old.specs.Reading.{pieces_in, read_index, places, sound_index}

-- the displacements agree with what lies there
pub record Placed (w n : ℕ) (ib : List ℕ) : Type 0 where
  pub unused : 24 + w * free_count w ib ≡ unused_at ib
  pub few : free_count w ib ≤ n
  pub apart : unused_at ib + pieces_size w (pieces_in w n ib) ≤ length ib - 7
  pub last : last_at ib + pieces_size w (pieces_in w n ib) ≡ length ib - 7 + length (last_chars (pieces_in w n ib))
  pub section : section_at ib ≡ last_at ib

places-apart : (w n : ℕ) (ib : List ℕ) → places w n ib ≡ true → Placed w n ib
unfolding places
places-apart w n ib h =
    let a2 = both-split (eqb (24 + w * free_count w ib) (unused_at ib)) _ h in
    let a3 = both-split (leb (free_count w ib) n) _ a2.1 in
    let a4 = both-split (leb (unused_at ib + pieces_size w (pieces_in w n ib)) (length ib - 7)) _ a3.1 in
    let a5 = both-split (eqb (last_at ib + pieces_size w (pieces_in w n ib)) (length ib - 7 + length (last_chars (pieces_in w n ib)))) (eqb (section_at ib) (last_at ib)) a4.1 in
    record {
      unused = eqb-true _ _ a2.0;
      few = leb-true _ _ a3.0;
      apart = leb-true _ _ a4.0;
      last = eqb-true _ _ a5.0;
      section = eqb-true _ _ a5.1;
    }

-- all of it
pub record Sound (w K n : ℕ) (low end ib : List ℕ) : Type 0 where
  pub framed : frame w ib ≡ true
  pub placed : Placed w n ib
  pub fronts : fronts_fit [] (pieces_in w n ib) ≡ true
  pub rules : keeps_rules (length ib) K n low end (read_index w n ib) ≡ true

pub sound-apart : (w K n : ℕ) (low end ib : List ℕ) → sound_index w K n low end ib ≡ true → Sound w K n low end ib
unfolding sound_index
sound-apart w K n low end ib h =
    let rules : Bool = keeps_rules (length ib) K n low end (read_index w n ib) in
    let a1 = both-split (frame w ib) (both (places w n ib) (both (fronts_fit [] (pieces_in w n ib)) rules)) h in
    let a2 = both-split (places w n ib) (both (fronts_fit [] (pieces_in w n ib)) rules) a1.1 in
    let a3 = both-split (fronts_fit [] (pieces_in w n ib)) rules a2.1 in
    record { framed = a1.0; placed = places-apart w n ib a2.0; fronts = a3.0; rules = a3.1 }
