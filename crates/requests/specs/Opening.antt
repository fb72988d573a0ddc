-- What every request but a get by key does first: it judges the measures and reads the whole area: document 01, 'What each number tells the depot', numbers 1
-- and 2. A get by key judges the measures and then only what it reads: document 02, L4 (specs/Reading.antt).
use Rattle.std.specs.Prelude.{ℕ, List, Option, Some, None, length}
use Rattle.measures.specs.Judgement.{judged_of}
use Rattle.measures.specs.declared.Measures.{Measures}
use Rattle.measures.specs.declared.Judged.{Judged}
use Rattle.area.specs.Content.{Content}
use Rattle.area.specs.Reading.{Reading, damaged, whole, read_area}
use Rattle.requests.specs.declared.Refusal.{Refusal}
use Rattle.requests.specs.declared.Refusal.TheVariants.{Outside, Damaged}

-- a refusal, or the measures and what the area holds
pub data Opening : Type 0 where
  shut : Refusal → Opening
  holding : Measures → Content → Opening

abbrev pub open_read : Measures → Reading → Opening
open_read m (damaged place) = shut (Damaged place)
open_read m (whole c) = holding m c

abbrev pub open_judged : Option Judged → List ℕ → Opening
open_judged None area = shut Outside
open_judged (Some j) area = open_read j.measures (read_area j.measures j.count area)

-- 1 before 2
abbrev pub opening_of : Measures → List ℕ → Opening
opening_of m area = open_judged (judged_of m (length area)) area
