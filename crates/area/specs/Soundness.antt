-- When a data interval is sound in its role, and which ones are not: document 01, 'Index record', the two rules that count against the data interval.
use Rattle.std.specs.Prelude.{ℕ, min, List, [], ◌∷◌, ◌++◌}
use Rattle.fields.specs.Choice.{pick}
use Rattle.measures.specs.declared.Measures.{Measures}
use Rattle.interval.specs.Role.{sound_free, sound_used}
use Rattle.index.specs.Bounds.{bound}
use Rattle.index.specs.Meaning.{Entry, Meaning}
use Rattle.area.specs.Content.{data_in}

-- the numbers of the free intervals that are not sound in that role
unfoldable pub unsound_free : Measures → List ℕ → List ℕ → List ℕ
unsound_free m area [] = []
unsound_free m area (k ∷ ks) = pick (sound_free m (data_in m area k)) (unsound_free m area ks) (k ∷ unsound_free m area ks)

-- the numbers of the intervals in use that are not sound in that role
unfoldable pub unsound_used : Measures → List ℕ → List ℕ → List Entry → List ℕ
unsound_used m area low [] = []
unsound_used m area low (e ∷ es) =
    pick (sound_used m low (bound m.key e.sep) (data_in m area e.num))
    (unsound_used m area (bound m.key e.sep) es)
    (e.num ∷ unsound_used m area (bound m.key e.sep) es)

-- all of them; low is the bound before the first entry, none in a single area
unfoldable pub unsound_data : Measures → List ℕ → List ℕ → Meaning → List ℕ
unsound_data m low area ix = unsound_free m area ix.free ++ unsound_used m area low ix.entries

-- the lowest of some numbers, or n where there is none
unfoldable pub lowest : ℕ → List ℕ → ℕ
lowest n [] = n
lowest n (k ∷ ks) = min k (lowest n ks)
