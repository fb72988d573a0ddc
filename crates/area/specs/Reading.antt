-- The reading of a whole area: document 01, 'What each number tells the depot', number 2.
use Rattle.std.specs.Prelude.{ℕ, ◌+◌, List, [], ltb}
use Rattle.fields.specs.Choice.{pick}
use Rattle.measures.specs.Judgement.{width_for}
use Rattle.measures.specs.declared.Measures.{Measures}
use Rattle.sections.specs.Reading.{read_index, sound_index}
use Rattle.area.specs.Content.{Content, index_in, content_of}
use Rattle.area.specs.Soundness.{unsound_data, lowest}

-- damaged at a place, or whole with its content
pub data Reading : Type 0 where
  damaged : ℕ → Reading
  whole : Content → Reading

-- Place 0: the index record is unsound, and the data intervals are not looked at. Else the lowest number of an unsound data interval, plus 1.
-- Else the area is sound, and this is what it holds. n is the number of data intervals.
unfoldable pub read_area : Measures → ℕ → List ℕ → Reading
read_area m n area =
    let ix = read_index (width_for n) n (index_in m area) in
    let worst = lowest n (unsound_data m [] area ix) in
    pick (sound_index (width_for n) m.key n [] [] (index_in m area)) (pick (ltb worst n) (damaged (worst + 1)) (whole (content_of m area ix))) (damaged 0)
