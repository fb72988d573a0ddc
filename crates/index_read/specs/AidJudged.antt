-- Aids: what the walk through a whole record tells its two callers, the check and the check that seeks a key.
use Rattle.std.specs.Prelude.{ℕ, ◌<◌, ◌≡◌, true, false, Option, Some, None, List, [], length}
use Rattle.measures.specs.Judgement.{width_for}
use Rattle.sections.specs.Reading.{read_index, sound_index}
use Rattle.index_read.specs.AidSeek.{FoundBy}
use Rattle.index_read.specs.declared.Verdict.{Verdict}

-- sound or not, as defined; with its free intervals and entries, and where the key leads, if one was sought
abbrev pub JudgedAs : ℕ → ℕ → List ℕ → List ℕ → List ℕ → List ℕ → Option Verdict → Type 0
JudgedAs K n ib wanted before own None = sound_index (width_for n) K n [] [] ib ≡ false
JudgedAs K n ib wanted before own (Some v) =
    (sound_index (width_for n) K n [] [] ib ≡ true)
    × (v.free ≡ length (read_index (width_for n) n ib).free)
    × (v.entries ≡ length (read_index (width_for n) n ib).entries)
    × (0 < length wanted → FoundBy (width_for n) (length (read_index (width_for n) n ib).entries) ib wanted v.spot before own)
