-- Whatever the grammar lays out, in any sections, with any legal F and any bytes in the unused space, is sound and is read as what was laid out.
use Prim.Native.Nat.{ℕ, ◌+◌, ◌^◌, ◌≤◌, ◌<◌}
use mathlib.Core.Path.{◌≡◌, ◌∙◌, sym, ap}
use mathlib.Core.Bool.{true, false}
use mathlib.Core.List.{List, []}
use lib.ListN.{length}
use native.Mathlib.Omega.{arith}
use Rattle.fields.proofs.Choices.{false-true}
use Rattle.index.specs.Meaning.{Entry, Meaning, numbers, below}
use Rattle.index.specs.Rules.{keeps_rules}
use Rattle.sections.specs.Parts.{spell_all}
use Rattle.sections.specs.Layout.{record_length, LaidOut}
use Rattle.sections.specs.Reading.{read_index, sound_index}
use Rattle.index.proofs.Naming.{free-and-used, both_below}
use Rattle.index.proofs.Keeping.{Keeps, rules-apart}
use Rattle.sections.proofs.Sizes.{length-spell_all, length-layout}
use Rattle.sections.proofs.Placing.{frame-there, all_there, read-there, places-there}

module _ (w S K n : ℕ) (low end : List ℕ) (m : Meaning) (ib : List ℕ) (width : 1 ≤ w) (wide : n ≤ 256 ^ w) (size : S ≤ 32768)
    (laid : LaidOut w S m ib) (rules : keeps_rules S K n low end m ≡ true) where
  kept : Keeps S K n low end m
  kept = rules-apart S K n low end m rules

  free-below : below n m.free ≡ true
  free-below = (both_below n m kept.naming).0

  used-below : below n (numbers (spell_all [] [] laid.parts)) ≡ true
  used-below = rw laid.spells (both_below n m kept.naming).1

  count-all : length m.free + length laid.parts ≡ n
  count-all =
      omega (arith, free-and-used n m kept.naming, ap (λ (es : List Entry). length es) laid.spells, length-spell_all [] [] laid.parts)

  whole : S ≡ record_length w m laid.unused laid.parts + 7
  whole = sym laid.size ∙ ap length laid.bytes ∙ length-layout w m laid.unused laid.parts laid.twelve

  small : record_length w m laid.unused laid.parts < 65536
  small = omega (arith, whole)

  -- What was laid out is read as what it means, whatever the choice of F and the bytes in the unused space.
  pub index_reads : read_index w n ib ≡ m
  index_reads =
      rw laid.bytes (read-there w m laid.unused laid.parts laid.twelve laid.closed small n width wide laid.spells count-all free-below used-below)

  -- What was laid out and keeps the rules is never called damaged.
  pub index-never-damaged : sound_index w K n low end ib ≡ true
  unfolding sound_index
  index-never-damaged =
      rw (
        index_reads,
        laid.size,
        rules,
        laid.bytes,
        frame-there w m laid.unused laid.parts laid.twelve laid.closed small,
        places-there w m laid.unused laid.parts
            laid.twelve laid.closed small n width wide laid.spells count-all free-below used-below,
        all_there w m laid.unused laid.parts laid.twelve laid.closed small n width wide laid.spells count-all free-below used-below,
        laid.spread,
        laid.fits,
      )

-- Bytes are laid out as one meaning only.
pub laid_one : (w S K n : ℕ) (low end : List ℕ) (m m' : Meaning) (ib : List ℕ) → 1 ≤ w → n ≤ 256 ^ w → S ≤ 32768 → LaidOut w S m ib → LaidOut w S m' ib
    → keeps_rules S K n low end m ≡ true → keeps_rules S K n low end m' ≡ true → m ≡ m'
laid_one w S K n low end m m' ib width wide size laid laid' rules rules' =
    sym (index_reads w S K n low end m ib width wide size laid rules) ∙ index_reads w S K n low end m' ib width wide size laid' rules'

-- Where bytes are called damaged, no meaning that keeps the rules is laid out as them.
pub damaged-not-laid : (w S K n : ℕ) (low end : List ℕ) (m : Meaning) (ib : List ℕ) → 1 ≤ w → n ≤ 256 ^ w → S ≤ 32768 → sound_index w K n low end ib ≡ false
    → LaidOut w S m ib → keeps_rules S K n low end m ≡ true → ⊥
damaged-not-laid w S K n low end m ib width wide size damaged laid rules =
    false-true (sym damaged ∙ index-never-damaged w S K n low end m ib width wide size laid rules)
