-- What a sound index record in sections says of its bytes, one by one.
use Prim.Native.Nat.{ℕ, ◌+◌, ◌-◌, ◌*◌, ◌≤◌}
use mathlib.Core.Path.{◌≡◌}
use mathlib.Core.Bool.{Bool, true}
use mathlib.Core.List.{List, []}
use lib.ListN.{length}
use lib.Dec.{eqb, leb}
use borrow.Author.Tests.{eqb-true, leb-true}
use Rattle.fields.specs.Choice.{both}
use Rattle.fields.proofs.Choices.{both-split}
use Rattle.index.specs.Meaning.{numbers, below}
use Rattle.index.specs.Rules.{keeps_rules}
use Rattle.index.specs.Reading.{unused_at, last_at, section_at, free_count, frame}
use Rattle.index.proofs.Keeping.{rules-apart}
use Rattle.index.proofs.Naming.{both_below}
use Rattle.index.proofs.Sounding.{Framed, frame_apart}
use Rattle.sections.specs.Parts.{Part, fronts_in, parts_size, ends_closed, spread_fine}
use Rattle.sections.specs.Layout.{ahead, last_long}
use Rattle.sections.specs.Reading.{parts_in, read_index, fields_true, places, sound_index}

-- the displacements and the sections' fields agree with what lies there
pub record Placed (w n : ℕ) (ib : List ℕ) : Type 0 where
  pub unused : 24 + w * free_count w ib ≡ unused_at ib
  pub few : free_count w ib ≤ n
  pub apart : unused_at ib + parts_size w (parts_in w n ib) ≤ length ib - 7
  pub closed : ends_closed (parts_in w n ib) ≡ true
  pub fields : fields_true w ib (length ib - 7) (parts_in w n ib) ≡ true
  pub last : last_at ib + parts_size w (parts_in w n ib) ≡ length ib - 7 + 2 + last_long (parts_in w n ib)
  pub section : section_at ib + ahead w (parts_in w n ib) ≡ length ib - 7

pub places-apart : (w n : ℕ) (ib : List ℕ) → places w n ib ≡ true → Placed w n ib
unfolding places
places-apart w n ib h =
    let ps : List Part = parts_in w n ib in
    let a1 = both-split (eqb (24 + w * free_count w ib) (unused_at ib)) _ h in
    let a2 = both-split (leb (free_count w ib) n) _ a1.1 in
    let a3 = both-split (leb (unused_at ib + parts_size w ps) (length ib - 7)) _ a2.1 in
    let a4 = both-split (ends_closed ps) _ a3.1 in
    let a5 = both-split (fields_true w ib (length ib - 7) ps) _ a4.1 in
    let a6 = both-split (eqb (last_at ib + parts_size w ps) (length ib - 7 + 2 + last_long ps)) (eqb (section_at ib + ahead w ps) (length ib - 7)) a5.1 in
    record {
      unused = eqb-true _ _ a1.0;
      few = leb-true _ _ a2.0;
      apart = leb-true _ _ a3.0;
      closed = a4.0;
      fields = a5.0;
      last = eqb-true _ _ a6.0;
      section = eqb-true _ _ a6.1;
    }

-- all of it
pub record Sound (w K n : ℕ) (low end ib : List ℕ) : Type 0 where
  pub framed : Framed w ib
  pub placed : Placed w n ib
  pub spread : spread_fine (parts_in w n ib) ≡ true
  pub fronts : fronts_in [] [] (parts_in w n ib) ≡ true
  pub rules : keeps_rules (length ib) K n low end (read_index w n ib) ≡ true

pub sound-apart : (w K n : ℕ) (low end ib : List ℕ) → sound_index w K n low end ib ≡ true → Sound w K n low end ib
unfolding sound_index
sound-apart w K n low end ib h =
    let rules : Bool = keeps_rules (length ib) K n low end (read_index w n ib) in
    let fronts : Bool = fronts_in [] [] (parts_in w n ib) in
    let spread : Bool = spread_fine (parts_in w n ib) in
    let a1 = both-split (frame w ib) (both (places w n ib) (both spread (both fronts rules))) h in
    let a2 = both-split (places w n ib) (both spread (both fronts rules)) a1.1 in
    let a3 = both-split spread (both fronts rules) a2.1 in
    let a4 = both-split fronts rules a3.1 in
    record { framed = frame_apart w ib a1.0; placed = places-apart w n ib a2.0; spread = a3.0; fronts = a4.0; rules = a4.1 }

-- The numbers that it names are below n.
pub sound-below : (w K n : ℕ) (low end ib : List ℕ) → sound_index w K n low end ib ≡ true
    → (below n (read_index w n ib).free ≡ true) × (below n (numbers (read_index w n ib).entries) ≡ true)
sound-below w K n low end ib h =
    both_below n (read_index w n ib) (rules-apart (length ib) K n low end (read_index w n ib) (sound-apart w K n low end ib h).rules).naming
