-- What the writer makes is sound, and is read as the meaning that it was given.
use Prim.Native.Nat.{ℕ, ◌-◌, ◌^◌, ◌≤◌}
use mathlib.Core.Path.{◌≡◌}
use mathlib.Core.Bool.{true}
use mathlib.Core.List.{List, [], ◌∷◌}
use lib.ListN.{length}
use native.Mathlib.Omega.{arith}
use Rattle.fields.proofs.Choices.{false-true}
use Rattle.index.specs.Meaning.{Entry, Meaning}
use Rattle.index.specs.Rules.{closed, keeps_rules}
use Rattle.index.proofs.Keeping.{Keeps, rules-apart}
use Rattle.sections.specs.Layout.{LaidOut}
use Rattle.sections.specs.Form.{index_size, index_bytes}
use Rattle.sections.specs.Reading.{read_index, sound_index}
use Rattle.sections.proofs.Forming.{form-laid-out, rises-short}
use Rattle.sections.proofs.NeverDamaged.{index_reads, index-never-damaged}

-- entries of which one closes the list are some
closed_some : (end : List ℕ) (es : List Entry) → closed end es ≡ true → 1 ≤ length es
unfolding closed
closed_some end [] h = absurd (false-true h)
closed_some end (e ∷ es) h = omega arith

-- The writer's form of a meaning that keeps the rules is laid out as the grammar says.
pub form-laid : (w S K n : ℕ) (low end : List ℕ) (m : Meaning) → K ≤ 255 → length m.kept ≡ 12 → index_size w m ≤ S - 7 → keeps_rules S K n low end m ≡ true
    → LaidOut w S m (index_bytes w S m)
form-laid w S K n low end m short twelve room rules =
    let k : Keeps S K n low end m = rules-apart S K n low end m rules in
    form-laid-out w S m room twelve (closed_some end m.entries k.closing) (rises-short K low m.entries short k.rising)

module _ (w S K n : ℕ) (low end : List ℕ) (m : Meaning) (width : 1 ≤ w) (wide : n ≤ 256 ^ w) (size : S ≤ 32768) (short : K ≤ 255)
    (twelve : length m.kept ≡ 12) (room : index_size w m ≤ S - 7) (rules : keeps_rules S K n low end m ≡ true) where
  laid : LaidOut w S m (index_bytes w S m)
  laid = form-laid w S K n low end m short twelve room rules

  pub index-reads-back : read_index w n (index_bytes w S m) ≡ m
  index-reads-back = index_reads w S K n low end m (index_bytes w S m) width wide size laid rules

  pub form-sound : sound_index w K n low end (index_bytes w S m) ≡ true
  form-sound = index-never-damaged w S K n low end m (index_bytes w S m) width wide size laid rules
